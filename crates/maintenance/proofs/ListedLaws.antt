-- Laws of actions listed one behind the other.
-- Assumes nothing.
use Rattle.std.proofs.Common.{◌≡◌, ℕ, ◌+◌, ◌*◌, ◌<◌, ◌≤◌, Bool, true, false, cond, List, [], ◌∷◌, ◌++◌, map, length, take, sym, ◌∙◌, append-nil, arith, length-append}
use Rattle.octets.specs.Bytes.{splice, part}
use Rattle.octets.proofs.Parts.{splice_nil}
use Rattle.table.specs.Lists.{filter}
use Rattle.table.specs.Rows.{held, join}
use Rattle.table.specs.Codec.{Codec, table_of, with_table}
use Rattle.table.proofs.RowLaws.{written_splice}
use Rattle.table.proofs.TableLaws.{length_table}
use Rattle.rows.specs.declared.Action.{Action}
use Rattle.rows.specs.Rows.{action_bytes, action_codec}
use Rattle.model.proofs.Laws.{one_listed, listed_behind}
use Rattle.maintenance.specs.Expiry.{Listed, Putting}
use Rattle.maintenance.proofs.SiftLaws.{sift_next, sift_end}

pub listed_none : (ac : List ℕ) (k : ℕ) → Listed ac k [] k ac
unfolding join
listed_none ac k = record { count = omega arith; area = sym (splice_nil ac (k * 13)) }

pub listed_then : {ac x y : List ℕ} {k m n : ℕ} (us vs : List Action) → Listed ac k us m x → Listed x m vs n y → n * 13 ≤ length ac → Listed ac k (us ++ vs) n y
listed_then {ac} {x} {y} {k} {m} us vs L M h = record {
  count = omega (arith, L.count, M.count, length-append us vs);
  area = listed_behind us vs ac x y (k * 13) (m * 13) L.area M.area (omega (arith, L.count)) (omega (arith, M.count, h));
}

-- one action more
pub listed_push : {ac x y : List ℕ} {k m : ℕ} (us : List Action) (t : Action) (n : ℕ) → Listed ac k us m x → y ≡ splice x (m * 13) (action_bytes t) → n ≡ m + 1
    → n * 13 ≤ length ac → Listed ac k (us ++ (t ∷ [])) n y
listed_push {x = x} {y} {m = m} us t n L e en h = listed_then us (t ∷ []) L (record { count = en; area = one_listed t x y (m * 13) e }) h

-- from the front of the area on
pub listed_front : {ac x : List ℕ} {m : ℕ} (us : List Action) → Listed ac 0 us m x → x ≡ with_table action_codec ac us
unfolding with_table
listed_front {ac} us L = L.area ∙ sym (written_splice ac (map action_bytes us))

-- ---- actions of the rows that a test keeps

module _ {A : Type 0} (c : Codec A) (count : ℕ) (a : List ℕ) (f : A → Action) (p : A → Bool) (ac : List ℕ) where
  pub putting_start : Putting f p (table_of c count a) ac 0 0 ac
  unfolding filter
  putting_start = record { within = omega arith; below = omega arith; listed = listed_none ac 0 }

  module _ (i k : ℕ) (x : List ℕ) (I : Putting f p (table_of c count a) ac i k x) where
    module _ {row : A} (h : i < held (length a) c.width count) (e : row ≡ c.decode (part a (i * c.width) c.width)) where
      putting : {y : List ℕ} {m : ℕ} (d : Bool) → p row ≡ d → m ≤ k + 1
          → Listed ac 0 (map f (filter p (take i (table_of c count a))) ++ cond d (f row ∷ []) []) m y
          → Putting f p (table_of c count a) ac (i + 1) m y
      putting {y} {m} d t le L = record {
        within = omega (arith, length_table c count a);
        below = omega (arith, I.below);
        listed = rw (sift_next c count a f p i h e t) L;
      }

      pub putting_put : (y : List ℕ) (m : ℕ) → p row ≡ true → m ≡ k + 1 → m * 13 ≤ length ac → y ≡ splice x (k * 13) (action_bytes (f row))
          → Putting f p (table_of c count a) ac (i + 1) m y
      putting_put y m t em s ey = putting true t (omega arith) (listed_push _ (f row) m I.listed ey em s)

      pub putting_pass : (y : List ℕ) (m : ℕ) → p row ≡ false → m ≡ k → y ≡ x → Putting f p (table_of c count a) ac (i + 1) m y
      putting_pass y m t em ey =
          putting false t (omega arith) (rw (em, ey, append-nil (map f (filter p (take i (table_of c count a))))) I.listed)

    pub putting_end : held (length a) c.width count ≤ i → Listed ac 0 (map f (filter p (table_of c count a))) k x
    putting_end h = rw (← sift_end c count a f p i h) I.listed
