-- A carried row whose copies fell to 0, written and read.
-- Assumes nothing.
use mathlib.Core.Path.{◌≡◌, refl, ap, ap₂, ◌∙◌}
use mathlib.Core.Bool.{Bool, true, false}
use mathlib.Core.List.{List, [], ◌∷◌, ◌++◌, append_assoc}
use Rattle.std.specs.Prelude.{Some, Ok}
use Prim.Native.Nat.{ℕ, ◌+◌, ◌≤◌, ◌<◌}
use native.Mathlib.Omega.{arith}
use lib.ListN.{length, take, drop}
use borrow.Author.Tests.{le-ltb}
use Rattle.octets.specs.Bytes.{splice, be}
use Rattle.courier.specs.declared.Header.{Header}
use Rattle.courier.specs.Courier.{header_bytes}
use Rattle.state.specs.declared.Carried.{Carried}
use Rattle.state.specs.Held.{carried, carried_head, held_row, row_answered, row_area, reads_back, held_decode}
use Rattle.state.proofs.RowLaws.{row_answered_lem}
use Rattle.state.proofs.HeldLaws.{reads_back_parts, ProperCarried, length_row, carried_refused}

regroup : (a b c d e f g h : List ℕ) → a ++ b ++ (c ++ d ++ e ++ f) ++ g ++ h ≡ a ++ b ++ c ++ d ++ e ++ f ++ g ++ h
regroup a b c d e f g h = simp append_assoc

-- its bytes, field by field, then its ciphertext as far as a cell holds it, then what the area had
pub written : (r : Carried) (ct area : List ℕ) → ProperCarried r → r.header.copies ≡ 0 → 2110 ≤ length area
    → (row_answered (held_row (carried r ct)) area ≡ Ok (46 + length (take 2064 ct)))
    × (row_area (held_row (carried r ct)) area
    ≡ (0 ∷ []) ++ be 8 r.depositor.0 ++ r.header.tag ++ r.header.c ++ be 4 r.header.expiry_min ++ (0 ∷ []) ++ take 2064 ct
    ++ drop (46 + length (take 2064 ct)) area)
unfolding row_area held_row carried_head header_bytes splice
written r ct area p e h =
    let head : Header = r.header in
    let end : 0 + length (held_row (carried r ct)) ≡ 46 + length (take 2064 ct) = omega (arith, length_row r p ct) in (
      row_answered_lem (held_row (carried r ct)) area h ∙ ap Ok (length_row r p ct),
      rw (le-ltb (length area) 2110 h)
          (ap₂ (λ (k n : ℕ). (0 ∷ []) ++ be 8 r.depositor.0 ++ (head.tag ++ head.c ++ be 4 head.expiry_min ++ (k ∷ [])) ++ take 2064 ct ++ drop n area) e end
          ∙ regroup (0 ∷ []) (be 8 r.depositor.0) head.tag head.c (be 4 head.expiry_min) (0 ∷ []) (take 2064 ct) (drop (46 + length (take 2064 ct)) area)),
    )

-- what is read back has an expiry above 0
pub only_above_0 : (r : Carried) (ct : List ℕ) → ProperCarried r → held_decode (held_row (carried r ct)) ≡ Some (carried r ct) → 0 < r.header.expiry_min
only_above_0 r ct p e = go (reads_back (length (take 2064 ct)) r.header.expiry_min) refl
  where
    go : (b : Bool) → reads_back (length (take 2064 ct)) r.header.expiry_min ≡ b → 0 < r.header.expiry_min
    go true t = (reads_back_parts (length (take 2064 ct)) r.header.expiry_min t).1
    go false t = let n = carried_refused r p ct t in cc
