-- Rows as shapes: a number of n bytes, a run of n bytes, one shape after another. What is laid out by a shape is read back, whatever the shape.
-- Assumes nothing.
use Rattle.std.proofs.Common.{◌≡◌, ℕ, ◌+◌, ◌*◌, ◌^◌, ◌<◌, ◌≤◌, List, ◌++◌, length, sym, refl, ap, ◌∙◌, subst, ap₂, add-zero, arith, length-append}
use Rattle.octets.specs.Bytes.{Bytes, part, num, be}
use Rattle.octets.proofs.Parts.{length_part, part_add, part_whole, part_part, part_left, part_hit}
use Rattle.octets.proofs.Numbers.{length_be, num_be, bytes_part, num_part_lt, be_num_part}
use Rattle.table.specs.Codec.{Codec, CodecLaws}
use Rattle.rows.specs.Proper.{Run}
use Rattle.octets.proofs.Numbers.{bytes_append, bytes_be}

pub data Shape : Type 0 where
  number : ℕ → Shape
  run : ℕ → Shape
  ◌then◌ : Shape → Shape → Shape

infixl 60 ◌then◌
-- how many bytes it takes, what it holds, and what the types say of that
abbrev pub width : Shape → ℕ
width (number n) = n
width (run n) = n
width (s then t) = width s + width t

abbrev pub Value : Shape → Type 0
Value (number n) = ℕ
Value (run n) = List ℕ
Value (s then t) = Value s × Value t

abbrev pub Fits : (s : Shape) → Value s → Type 0
Fits (number n) v = v < 2 ^ (8 * n)
Fits (run n) v = Run n v
Fits (s then t) v = Fits s v.0 × Fits t v.1

abbrev pub read : (s : Shape) → ℕ → List ℕ → Value s
read (number n) at b = num (part b at n)
read (run n) at b = part b at n
read (s then t) at b = (read s at b, read t (at + width s) b)

abbrev pub write : (s : Shape) → Value s → List ℕ
write (number n) v = be n v
write (run n) v = v
write (s then t) v = write s v.0 ++ write t v.1

pub length_write : (s : Shape) (v : Value s) → Fits s v → length (write s v) ≡ width s
length_write (number n) v p = length_be n v
length_write (run n) v p = p.size
length_write (s then t) v p =
    length-append (write s v.0) (write t v.1) ∙ ap₂ ◌+◌ (length_write s v.0 p.0) (length_write t v.1 p.1)

-- two runs side by side, each read where it stands
front : (x y b : List ℕ) (at n m : ℕ) → length x ≡ n → part b at (n + m) ≡ x ++ y → part b at n ≡ x
front x y b at n m l e =
    ap (λ (k : ℕ). part b k n) (sym (add-zero at)) ∙ sym (part_part b at (n + m) 0 n (omega arith)) ∙ ap (λ (z : List ℕ). part z 0 n) e
    ∙ part_left x y 0 n (omega arith) ∙ part_whole x n l

back : (x y b : List ℕ) (at n m : ℕ) → length x ≡ n → length y ≡ m → part b at (n + m) ≡ x ++ y → part b (at + n) m ≡ y
back x y b at n m l k e =
    sym (part_part b at (n + m) n m (omega arith)) ∙ ap (λ (z : List ℕ). part z n m) e ∙ part_hit x y n m l k

-- what was written there is read
pub read_written : (s : Shape) (v : Value s) (at : ℕ) (b : List ℕ) → Fits s v → part b at (width s) ≡ write s v → read s at b ≡ v
read_written (number n) v at b p e = ap num e ∙ num_be n v p
read_written (run n) v at b p e = e
read_written (s then t) v at b p e =
    let x : List ℕ = write s v.0 in
    let y : List ℕ = write t v.1 in
    let l : length x ≡ width s = length_write s v.0 p.0 in
    let k : length y ≡ width t = length_write t v.1 p.1 in
    λ i. (
      read_written s v.0 at b p.0 (front x y b at (width s) (width t) l e) i,
      read_written t v.1 (at + width s) b p.1 (back x y b at (width s) (width t) l k e) i,
    )

-- what is read of bytes fits, and written back it is what stood there
module _ (b : List ℕ) (bytes : Bytes b) where
  pub fits_read : (s : Shape) (at : ℕ) → at + width s ≤ length b → Fits s (read s at b)
  fits_read (number n) at h = num_part_lt b at n h bytes
  fits_read (run n) at h = record { size = length_part b at n h; bytes = bytes_part b at n bytes }
  fits_read (s then t) at h = (fits_read s at (omega arith), fits_read t (at + width s) (omega arith))

  pub write_read : (s : Shape) (at : ℕ) → at + width s ≤ length b → write s (read s at b) ≡ part b at (width s)
  write_read (number n) at h = be_num_part b at n h bytes
  write_read (run n) at h = refl
  write_read (s then t) at h =
      ap₂ ◌++◌ (write_read s at (omega arith)) (write_read t (at + width s) (omega arith)) ∙ sym (part_add b at (width s) (width t))

-- the bytes of what fits are bytes
pub bytes_write : (s : Shape) (v : Value s) → Fits s v → Bytes (write s v)
bytes_write (number n) v p = bytes_be n v
bytes_write (run n) v p = p.bytes
bytes_write (s then t) v p =
    bytes_append (write s v.0) (write t v.1) (bytes_write s v.0 p.0) (bytes_write t v.1 p.1)

-- the codec of a row type that is a shape with names
abbrev pub codec_of : {A : Type 0} (s : Shape) → (A → Value s) → (Value s → A) → Codec A
codec_of s values row = record { width = width s; decode = λ b. row (read s 0 b); encode = λ r. write s (values r) }

pub record Shaped {A : Type 0} (c : Codec A) (P : A → Type 0) (s : Shape) : Type 0 where
  pub values : A → Value s
  pub row : Value s → A
  pub fits : (r : A) → P r → Fits s (values r)
  pub proper : (v : Value s) → Fits s v → P (row v)
  pub same : ((r : A) → row (values r) ≡ r) × ((v : Value s) → values (row v) ≡ v)
  pub is : codec_of s values row ≡ c
  pub wide : 0 < width s

module _ {A : Type 0} {c : Codec A} {P : A → Type 0} {s : Shape} (S : Shaped c P s) where
  made : CodecLaws (codec_of s S.values S.row) P
  made = record {
    wide = S.wide;
    size = λ r p. length_write s (S.values r) (S.fits r p);
    decode_encode = λ r p.
        let x : List ℕ = write s (S.values r) in
        let here : part x 0 (width s) ≡ x = part_whole x (width s) (length_write s (S.values r) (S.fits r p)) in
        ap S.row (read_written s (S.values r) 0 x (S.fits r p) here) ∙ S.same.0 r;
    encode_decode = λ b l bytes.
        ap (write s) (S.same.1 (read s 0 b)) ∙ write_read b bytes s 0 (omega arith) ∙ part_whole b (width s) l;
    proper = λ b l bytes. S.proper (read s 0 b) (fits_read b bytes s 0 (omega arith));
  }

  pub laws : CodecLaws c P
  laws = subst (λ (d : Codec A). CodecLaws d P) S.is made

  pub bytes_encode : (r : A) → P r → Bytes (c.encode r)
  bytes_encode r p = subst (λ (d : Codec A). Bytes (d.encode r)) S.is (bytes_write s (S.values r) (S.fits r p))
