-- Typed rows: a row type, its width, and the bytes of a row. A table of them is read off an area, and written at its front.
-- Assumes nothing.
use Rattle.std.specs.Prelude.{ℕ, ◌<◌, ◌≡◌, List, map, length}
use Rattle.octets.specs.Bytes.{Bytes}
use Rattle.table.specs.Rows.{held, rows, written}

pub record Codec (A : Type 0) : Type 0 where
  pub width : ℕ
  pub decode : List ℕ → A
  pub encode : A → List ℕ

-- what holds of a codec, where Proper says what the types of a row's fields say of it
pub record CodecLaws {A : Type 0} (c : Codec A) (Proper : A → Type 0) : Type 0 where
  pub wide : 0 < c.width
  pub size : (r : A) → Proper r → length (c.encode r) ≡ c.width
  pub decode_encode : (r : A) → Proper r → c.decode (c.encode r) ≡ r
  pub encode_decode : (b : List ℕ) → length b ≡ c.width → Bytes b → c.encode (c.decode b) ≡ b
  pub proper : (b : List ℕ) → length b ≡ c.width → Bytes b → Proper (c.decode b)

module _ {A : Type 0} (c : Codec A) where
  -- the table of an area, at a count that may be anything
  unfoldable pub table_of : ℕ → List ℕ → List A
  table_of count a = map c.decode (rows c.width (held (length a) c.width count) a)

  -- the area with a table written at its front, and what stood behind as it was
  unfoldable pub with_table : List ℕ → List A → List ℕ
  with_table a ts = written a (map c.encode ts)

-- the area a is now x, and its table, at the count m, is ts
pub record TableNow {A : Type 0} (c : Codec A) (a : List ℕ) (ts : List A) (m : ℕ) (x : List ℕ) : Type 0 where
  pub count : m ≡ length ts
  pub area : x ≡ with_table c a ts
  pub table : table_of c m x ≡ ts
  pub fits : m ≡ held (length x) c.width m
