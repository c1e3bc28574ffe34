-- Laws of the searches through the tombstones.
-- Assumes nothing.
use Rattle.std.proofs.Common.{◌≡◌, ℕ, ◌+◌, ◌-◌, ◌*◌, ◌^◌, ◌<◌, ◌≤◌, Bool, true, false, cond, eqb, eqb-true, ltb, List, length, drop, refl, sym, ap, ◌∙◌, ap₂, add-one, arith, drop_of_length-le, le-ltb, lt-ltb}
use Rattle.std.proofs.lemmas.Bool.Decides.{nat_tests}
use Rattle.octets.specs.Bytes.{part}
use Rattle.table.specs.Rows.{held}
use Rattle.table.specs.Codec.{table_of}
use Rattle.table.proofs.TableLaws.{length_table, table_next}
use Rattle.rows.specs.declared.Tombstone.{Tombstone}
use Rattle.rows.specs.Rows.{tombstone_of, tombstone_codec}
use Rattle.model.specs.Tombs.{least_from}

-- ---- the least expiry

-- the code begins at the greatest expiry and the definition above every: at the first row alone they differ, which is the first place anyway
abbrev pub bound : ℕ → ℕ → ℕ
bound i low = cond (eqb i 0) (2 ^ 32) low

-- the place is one of the rows before, if there is one; before the first row it is 0, and the least so far is the greatest expiry
pub record Leads (i best low : ℕ) : Type 0 where
  pub place : best ≤ i - 1
  pub start : i ≡ 0 → low ≡ 4294967295

pub leads_on : (i best low : ℕ) → best ≤ i → Leads (i + 1) best low
leads_on i best low h = record { place = omega arith; start = λ z. absurd (omega (arith, z)) }

module _ (count : ℕ) (a : List ℕ) where
  abbrev T : List Tombstone
  T = table_of tombstone_codec count a

  module _ (i best low : ℕ) where
    abbrev here : ℕ
    here = (tombstone_of (part a (i * 44) 44)).expiry_min

    step : (low : ℕ) → i < held (length a) 44 count → (b : Bool) → ltb here low ≡ b
        → least_from i best low (drop i T) ≡ cond b (least_from (i + 1) i here (drop (i + 1) T)) (least_from (i + 1) best low (drop (i + 1) T))
    unfolding least_from
    step low h b e =
        ap (least_from i best low) (table_next tombstone_codec count a i h)
        ∙ ap₂ (λ (d : Bool) (k : ℕ). cond d (least_from k i here (drop (i + 1) T)) (least_from k best low (drop (i + 1) T))) e (sym (add-one i))

    -- row i has the expiry e, and the rows from i on decide
    module _ (m e : ℕ) (so : least_from i best (bound i low) (drop i T) ≡ m) (l : Leads i best low) (h : i < held (length a) 44 count) (ee : e ≡ here) where
      abbrev rest : List Tombstone
      rest = drop (i + 1) T

      later : (n : ℕ) → bound (i + 1) n ≡ n
      later n = let f : eqb (i + 1) 0 ≡ false = grind (arith, nat_tests) in rw f

      lower : (x : ℕ) → e < x → least_from i best x (drop i T) ≡ least_from (i + 1) i e rest
      lower x p = step x h true (ap (λ (y : ℕ). ltb y x) (sym ee) ∙ lt-ltb e x p) ∙ ap (λ (y : ℕ). least_from (i + 1) i y rest) (sym ee)

      pub least_hit : e < low → least_from (i + 1) i (bound (i + 1) e) rest ≡ m
      least_hit p = ap (λ (y : ℕ). least_from (i + 1) i y rest) (later e) ∙ go (eqb i 0) refl
        where
          go : (b : Bool) → eqb i 0 ≡ b → least_from (i + 1) i e rest ≡ m
          go true z = sym (lower (2 ^ 32) (omega (arith, l.start (eqb-true i 0 z), p))) ∙ (rw z at so)
          go false z = sym (lower low p) ∙ (rw z at so)

      pub least_next : e < 2 ^ 32 → low ≤ e → least_from (i + 1) best (bound (i + 1) low) rest ≡ m
      least_next q p = ap (λ (y : ℕ). least_from (i + 1) best y rest) (later low) ∙ go (eqb i 0) refl
        where
          go : (b : Bool) → eqb i 0 ≡ b → least_from (i + 1) best low rest ≡ m
          go true z =
              let first : i ≡ 0 = eqb-true i 0 z in
              let x : best ≡ i = omega (arith, l.place, first) in
              let y : low ≡ e = omega (arith, l.start first, p, q) in
              ap₂ (λ (j k : ℕ). least_from (i + 1) j k rest) x y ∙ sym (lower (2 ^ 32) q) ∙ (rw z at so)
          go false z = sym (step low h false (ap (λ (x : ℕ). ltb x low) (sym ee) ∙ le-ltb e low p)) ∙ (rw z at so)

    pub least_end : held (length a) 44 count ≤ i → least_from i best low (drop i T) ≡ best
    unfolding least_from
    least_end h = ap (least_from i best low) (drop_of_length-le T {i = i} (omega (arith, length_table tombstone_codec count a)))
