-- The held rows, own rows first: what the calls go through is what the model goes through.
-- Assumes nothing.
use Rattle.std.proofs.Common.{◌≡◌, ℕ, ◌+◌, ◌-◌, ◌*◌, ◌<◌, ◌≤◌, Bool, true, false, cond, ◌&&◌, ltb, List, [], ◌∷◌, ◌++◌, map, length, get_or, sym, refl, ap, ◌∙◌, ap₂, arith, length-append, get_or-append-add, ltb-false, ltb-true}
use mathlib.Core.List.{map-append, flat_map}
use Rattle.std.proofs.lemmas.List.{get_or-map}
use Rattle.std.proofs.lemmas.Simd.{map-map}
use lib.ListN
use lib.ListN.{length-map, get_or-append}
use Rattle.octets.specs.Bytes.{part}
use Rattle.courier_core.specs.declared.ContactId.{ContactId}
use Rattle.table.specs.Lists.{filter}
use Rattle.table.specs.Rows.{Fits}
use Rattle.table.specs.Codec.{Codec, table_of}
use Rattle.table.proofs.ListLaws.{flat_map_append}
use Rattle.table.proofs.TableLaws.{length_table, length_whole, table_held, get_d_table}
use Rattle.rows.specs.declared.Own.{Own}
use Rattle.rows.specs.declared.Carried.{Carried}
use Rattle.rows.specs.Rows.{own_codec, own_of, carried_codec, carried_of}
use Rattle.model.specs.Exchange.{Envelope, own_envelope_of, carried_envelope_of, not_for, envelopes, no_own, no_carried}
use Rattle.offers.specs.declared.area.Rows.{Rows}
use Rattle.offers.specs.declared.Held.{Held}
use Rattle.offers.specs.declared.HeldRow.{HeldRow}
use Rattle.offers.specs.declared.HeldRow.TheVariants as kind
use Rattle.offers.specs.Areas.{rows_of, how_many}
use Rattle.offers.specs.Entries.{by_kind, held_by, held_by_at, held_envelopes, Entry, own_entry, carried_entry, entries, passes}

-- the rows that a count says of an area
pub rows_fit : {A : Type 0} (c : Codec A) (r : Rows c.width) (count : ℕ) (a : List ℕ) → 0 < c.width → Fits (length a) c.width count r.n → r.area.now ≡ a
    → rows_of c r ≡ table_of c count a
rows_fit c r count a z F s = ap (table_of c r.n) s ∙ table_held c count r.n a z F.is

module _ {X : Type 0} (f : Own → X) (g : Carried → X) (kept : Held) where
  abbrev n : ℕ
  n = kept.own.n

  abbrev own : List ℕ
  own = kept.own.area.now

  abbrev carried : List ℕ
  carried = kept.carried.area.now

  abbrev To : List Own
  To = table_of own_codec n own

  abbrev Tc : List Carried
  Tc = table_of carried_codec kept.carried.n carried

  length_own : length (map f To) ≡ n
  length_own = length-map To f ∙ length_whole own_codec n own (omega arith) kept.own.in_bounds

  length_carried : length Tc ≡ kept.carried.n
  length_carried = length_whole carried_codec kept.carried.n carried (omega arith) kept.carried.in_bounds

  pub length_held : length (held_by f g To Tc) ≡ how_many kept
  unfolding held_by
  length_held = omega (arith, length-append (map f To) (map g Tc), length-map Tc g, length_own, length_carried)

  pub held_is : (i : ℕ) → i < how_many kept → get_or (held_by f g To Tc) i (g no_carried) ≡ held_by_at f g own n carried i
  unfolding held_by held_by_at
  held_is i h = go (ltb i n) refl
    where
      go : (b : Bool) → ltb i n ≡ b → get_or (map f To ++ map g Tc) i (g no_carried)
          ≡ cond b (f (own_of (part own (i * 54) 54))) (g (carried_of (part carried ((i - n) * 57) 57)))
      go true e =
          let k : i < n = ltb-true i n e in
          let l : length To ≡ n = sym (length-map To f) ∙ length_own in
          get_or-append (map f To) (map g Tc) (g no_carried) i (omega (arith, length_own)) ∙ get_or-map f To i no_own (g no_carried) (omega arith)
          ∙ ap f (get_d_table own_codec n own i no_own (omega (arith, length_table own_codec n own)))
      go false e =
          let k : n ≤ i = ltb-false i n e in
          let z : i ≡ length (map f To) + (i - n) = omega (arith, length_own) in
          ap (λ (j : ℕ). get_or (map f To ++ map g Tc) j (g no_carried)) z ∙ get_or-append-add (map f To) (map g Tc) (i - n) (g no_carried)
          ∙ ListN.get_or-map g Tc (i - n) no_carried
          ∙ ap g (get_d_table carried_codec kept.carried.n carried (i - n) no_carried (omega (arith, length_table carried_codec kept.carried.n carried, length_carried)))

-- the row at i, as it is read
module _ {X : Type 0} (f : Own → X) (g : Carried → X) (own carried : List ℕ) (n i : ℕ) {k : HeldRow} where
  by_kind_held : k ≡ held_by_at kind.Own kind.Carried own n carried i → by_kind f g k ≡ held_by_at f g own n carried i
  unfolding held_by_at
  by_kind_held e = ap (by_kind f g) e ∙ go (ltb i n)
    where
      go : (b : Bool) → by_kind f g (cond b (kind.Own (own_of (part own (i * 54) 54))) (kind.Carried (carried_of (part carried ((i - n) * 57) 57))))
          ≡ cond b (f (own_of (part own (i * 54) 54))) (g (carried_of (part carried ((i - n) * 57) 57)))
      go true = refl
      go false = refl

  pub of_own : {o : Own} → k ≡ kind.Own o → k ≡ held_by_at kind.Own kind.Carried own n carried i → f o ≡ held_by_at f g own n carried i
  of_own h e = sym (ap (by_kind f g) h) ∙ by_kind_held e

  pub of_carried : {r : Carried} → k ≡ kind.Carried r → k ≡ held_by_at kind.Own kind.Carried own n carried i → g r ≡ held_by_at f g own n carried i
  of_carried h e = sym (ap (by_kind f g) h) ∙ by_kind_held e

-- ---- the model's envelopes are those of the rows that may go

abbrev pub sent : Entry → List Envelope
sent e = cond e.goes (e.envelope ∷ []) []

module _ (peer : ContactId) where
  own_sent : (own : List Own) → map own_envelope_of (filter (not_for peer) own) ≡ flat_map sent (map (own_entry peer) own)
  unfolding filter flat_map
  own_sent [] = refl
  own_sent (o ∷ own) = go (not_for peer o) (own_sent own)
    where
      go : (b : Bool) → map own_envelope_of (filter (not_for peer) own) ≡ flat_map sent (map (own_entry peer) own)
          → map own_envelope_of (cond b (o ∷ filter (not_for peer) own) (filter (not_for peer) own))
          ≡ cond b (own_envelope_of o ∷ []) [] ++ flat_map sent (map (own_entry peer) own)
      go true e = ap (λ (l : List Envelope). own_envelope_of o ∷ l) e
      go false e = e

  carried_sent : (carried : List Carried) → map carried_envelope_of carried ≡ flat_map sent (map carried_entry carried)
  unfolding flat_map
  carried_sent [] = refl
  carried_sent (r ∷ carried) = ap (λ (l : List Envelope). carried_envelope_of r ∷ l) (carried_sent carried)

  pub envelopes_sent : (own : List Own) (carried : List Carried) → envelopes own carried peer ≡ flat_map sent (entries peer own carried)
  unfolding envelopes held_by
  envelopes_sent own carried =
      ap₂ (λ (x y : List Envelope). x ++ y) (own_sent own) (carried_sent carried) ∙ sym (flat_map_append sent (map (own_entry peer) own) (map carried_entry carried))

  -- of which a test holds
  pub filter_envelopes : (p : Envelope → Bool) (own : List Own) (carried : List Carried)
      → filter p (envelopes own carried peer) ≡ map (λ (e : Entry). e.envelope) (filter (passes p) (entries peer own carried))
  unfolding filter flat_map
  filter_envelopes p own carried = ap (filter p) (envelopes_sent own carried) ∙ each (entries peer own carried)
    where
      each : (es : List Entry) → filter p (flat_map sent es) ≡ map (λ (e : Entry). e.envelope) (filter (passes p) es)
      each [] = refl
      each (e ∷ es) = go e.goes (p e.envelope) refl (each es)
        where
          go : (g b : Bool) → p e.envelope ≡ b → filter p (flat_map sent es) ≡ map (λ (x : Entry). x.envelope) (filter (passes p) es)
              → filter p (cond g (e.envelope ∷ []) [] ++ flat_map sent es) ≡ map (λ (x : Entry). x.envelope) (cond (g && p e.envelope) (e ∷ filter (passes p) es) (filter (passes p) es))
          go true true q h = rw q (ap (λ (l : List Envelope). e.envelope ∷ l) h)
          go true false q h = rw q h
          go false b q h = h

-- the envelopes of all rows
pub entry_envelopes : (peer : ContactId) (own : List Own) (carried : List Carried) → map (λ (e : Entry). e.envelope) (entries peer own carried) ≡ held_envelopes own carried
unfolding held_by
entry_envelopes peer own carried =
    map-append (λ (e : Entry). e.envelope) (map (own_entry peer) own) (map carried_entry carried)
    ∙ ap₂ (λ (x y : List Envelope). x ++ y) (map-map (λ (e : Entry). e.envelope) (own_entry peer) own) (map-map (λ (e : Entry). e.envelope) carried_entry carried)
