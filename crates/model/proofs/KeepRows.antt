-- Rows that a call makes are in range: small facts, contacts, cells, offers.
-- Assumes nothing.
pub use Rattle.std.proofs.lemmas.Bool.{or_parts as or_false}
use Rattle.std.proofs.Common.{◌≡◌, ℕ, zero, suc, ◌+◌, ◌/◌, ◌^◌, ◌<◌, ◌≤◌, min, Bool, true, false, cond, not, ◌&&◌, eqb, ltb, leb, List, [], ◌∷◌, ◌++◌, map, length, sym, refl, ap, ◌∙◌, arith, length-append, ltb-false, ltb-true, leb-false, Option, Some, None}
use mathlib.Core.Bool.{false≢true}
use native.Mathlib.Nat.{min-le_left, min-le_right}
use lib.ListN.{length-map}
use borrow.Author.Tests.{eqb-false}
use Rattle.std.proofs.lemmas.Bool.{not_from_false}
use Rattle.courier_core.specs.Core.{verification_byte}
use Rattle.courier_core.specs.declared.ContactId.{ContactId}
use Rattle.courier_core.specs.declared.Verification.{Verification}
use Rattle.courier_core.specs.declared.Verification.TheVariants as verification
use Rattle.table.specs.Lists.{All, more, any, filter, position, is_at, unwrap_or, replace_at}
use Rattle.table.proofs.ListLaws.{length_replace_at, all_push, all_replace_at, all_filter, length_filter, all_map, all_imp, all_append}
use Rattle.table.proofs.FindLaws.{position_any, position_first}
use Rattle.courier.specs.declared.Custody.{Custody}
use Rattle.courier.specs.declared.Custody.TheVariants as custody
use Rattle.courier.specs.Courier.{envelope_valid}
use Rattle.courier.proofs.Laws.{carried_fits, valid_parts}
use Rattle.rows.specs.declared.Contact.{Contact}
use Rattle.rows.specs.declared.Own.{Own}
use Rattle.rows.specs.declared.Offer.{Offer}
use Rattle.rows.specs.Proper.{ProperContact, ProperOwn, ProperOffer}
use Rattle.model.specs.Basics.{match_found}
use Rattle.model.specs.State.{State}
use Rattle.model.specs.Contacts.{no_contact, is_contact, known, contact_place, put_contact, now_min, lifetime_end, end_of}
use Rattle.model.specs.Cells.{cell_count, free_from, free_cell, new_cell}
use Rattle.model.specs.Exchange.{Envelope, own_envelope_of, carried_envelope_of, not_for, envelopes, is_offered, halved, offers, offer_of_tag, no_offer, insert_offer, insert_offers}
use Rattle.model.specs.Maintenance.{own_expired, renewed, renew_expired}
use Rattle.model.specs.Good.{Good, ProperHeader}
use Rattle.model.proofs.HashLaws.{commitment_run}
use Rattle.model.proofs.KeepLaws.{Few}

-- ---- small facts

pub and_false : (a b : Bool) → a ≡ true → (a && b) ≡ false → b ≡ false
and_false true b e h = h
and_false false b e h = absurd (false≢true e)

pub small : (v : Verification) → verification_byte v < 2 ^ 8
small verification.Unverified = omega arith
small verification.Verified = omega arith
small verification.Compromised = omega arith

-- the end of a lifetime is a minute
pub end_small : (s : State) → end_of s < 2 ^ 32
unfolding lifetime_end
end_small s = omega (arith, min-le_right (now_min s.now_s + s.courier.lifetime_min) 4294967295)

pub next_small : (n : ℕ) → n < 2 ^ 64 → eqb n 18446744073709551615 ≡ false → n + 1 < 2 ^ 64
next_small n h e = go (ltb (n + 1) (2 ^ 64)) refl
  where
    go : (b : Bool) → ltb (n + 1) (2 ^ 64) ≡ b → n + 1 < 2 ^ 64
    go true k = ltb-true (n + 1) (2 ^ 64) k
    go false k = absurd (eqb-false n 18446744073709551615 e (omega (arith, ltb-false (n + 1) (2 ^ 64) k)))

-- ---- own rows

-- one that is renewed if it has expired
pub renew_proper : (minute : ℕ) (o : Own) {copies end : ℕ} → copies < 2 ^ 8 → end < 2 ^ 32 → ProperOwn o → ProperOwn (renew_expired minute copies end o)
unfolding renew_expired renewed
renew_proper minute o {copies} {end} hc he p = go (own_expired minute o)
  where
    go : (b : Bool) → ProperOwn (cond b (renewed copies end o) o)
    go true = record { contact = p.contact; msgno = p.msgno; tag = p.tag; s = p.s; expiry_min = he; copies = hc; renewed = omega arith; len = p.len; cell = p.cell }
    go false = p

-- ---- contacts

pub put_contact_lem : (ps : List Contact) (id : ContactId) (v : Verification) → id.0 < 2 ^ 64 → Few ProperContact 256 ps
    → (not (known ps id) && leb 256 (length ps)) ≡ false → Few ProperContact 256 (put_contact ps id v)
unfolding put_contact contact_place known
put_contact_lem ps id v h g t = go (position (is_contact id) ps) refl
  where
    p : Contact
    p = record { id = id; verification = verification_byte v }

    proper : ProperContact p
    proper = record { id = h; verification = small v }

    go : (f : Option ℕ) → position (is_contact id) ps ≡ f → Few ProperContact 256 (match_found f (λ i. replace_at i p ps) (ps ++ (p ∷ [])))
    go (Some i) e = (
      all_replace_at i p ps g.0 proper,
      omega (arith, length_replace_at ps i p (position_first (is_contact id) ps no_contact i e).inside, g.1),
    )
    go None e =
        let new : any (is_contact id) ps ≡ false = sym (position_any (is_contact id) 0 ps) ∙ ap is_at e in (
          all_push ps p g.0 proper,
          omega (arith, length-append ps (p ∷ []), leb-false 256 (length ps) (and_false (not (any (is_contact id) ps)) (leb 256 (length ps)) (not_from_false (any (is_contact id) ps) new) t)),
        )

-- ---- envelope

-- a code is Accepted where on, valid, no duplicate, and not full
abbrev pub code : (on valid dup much : Bool) → Custody
code on valid dup much = cond (not on) custody.Off (cond (not valid) custody.Invalid (cond dup custody.Duplicate (cond much custody.Full custody.Accepted)))

pub passed_all : (on valid dup much : Bool) → code on valid dup much ≡ custody.Accepted → (valid ≡ true) × (dup ≡ false) × (much ≡ false)
passed_all true true false false e = (refl, refl, refl)
passed_all false valid dup much e = cc
passed_all true false dup much e = cc
passed_all true true true much e = cc
passed_all true true false true e = cc

pub accepted : (on valid dup much : Bool) → code on valid dup much ≡ custody.Accepted → (valid ≡ true) × (much ≡ false)
accepted on valid dup much e = let q = passed_all on valid dup much e in (q.0, q.2)

-- a valid envelope's ciphertext fits a cell
pub valid_length : (len copies expiry minute : ℕ) → envelope_valid len copies expiry minute ≡ true → len ≤ 2064
valid_length len copies expiry minute h = (carried_fits len (valid_parts len copies expiry minute h).0).1

-- a new cell is one of 256
free_small : (n i : ℕ) (named : List ℕ) → unwrap_or 0 (free_from n i named) ≤ i + n
unfolding free_from
free_small zero i named = omega arith
free_small (suc n) i named = go (any (λ (m : ℕ). eqb m i) named) (free_small n (suc i) named)
  where
    go : (b : Bool) → unwrap_or 0 (free_from n (suc i) named) ≤ suc i + n → unwrap_or 0 (cond b (free_from n (suc i) named) (Some i)) ≤ i + suc n
    go true h = omega arith
    go false h = omega arith

pub cell_small : (size : ℕ) (named : List ℕ) → new_cell size named < 2 ^ 16
unfolding new_cell free_cell cell_count
cell_small size named = omega (arith, free_small (min 256 (size / 2064)) 0 named, min-le_left 256 (size / 2064))

-- ---- offers

-- an envelope's header is in range
abbrev pub Sound : Envelope → Type 0
Sound e = ProperHeader e.head

module _ (s : State) (g : Good s) (peer : ContactId) where
  pub envelopes_proper : All Sound (envelopes s.own s.carried peer)
  unfolding envelopes own_envelope_of carried_envelope_of
  envelopes_proper =
      all_append (map own_envelope_of (filter (not_for peer) s.own)) (map carried_envelope_of s.carried)
      (all_map own_envelope_of (filter (not_for peer) s.own)
      (all_imp (λ o p. record { tag = p.tag; c = commitment_run o.s; expiry_min = p.expiry_min; copies = p.copies }) (filter (not_for peer) s.own) (all_filter (not_for peer) s.own g.own)))
      (all_map carried_envelope_of s.carried (all_imp (λ r p. record { tag = p.tag; c = p.c; expiry_min = p.expiry_min; copies = p.copies }) s.carried g.carried))

  pub envelopes_few : length (envelopes s.own s.carried peer) ≤ 512
  unfolding envelopes
  envelopes_few =
      omega (
        arith,
        length-append (map own_envelope_of (filter (not_for peer) s.own)) (map carried_envelope_of s.carried),
        length-map (filter (not_for peer) s.own) own_envelope_of,
        length-map s.carried carried_envelope_of,
        length_filter (not_for peer) s.own,
        g.own_few,
        g.carried_few,
      )

  abbrev offered : Envelope → Bool
  offered = is_offered s.tombstones s.session.exchange.listed

  pub offers_proper : All Sound (offers s peer)
  unfolding offers halved
  offers_proper =
      let es : List Envelope = envelopes s.own s.carried peer in
      all_map halved (filter offered es)
      (all_imp (λ e p. record { tag = p.tag; c = p.c; expiry_min = p.expiry_min; copies = omega (arith, p.copies) }) (filter offered es) (all_filter offered es envelopes_proper))

  pub offers_few : length (offers s peer) ≤ 512
  unfolding offers
  offers_few =
      let es : List Envelope = envelopes s.own s.carried peer in
      omega (arith, length-map (filter offered es) halved, length_filter offered es, envelopes_few)

pub insert_one : (e : Envelope) (os : List Offer) → ProperOffer (record { tag = e.head.tag; copies = e.head.copies }) → All ProperOffer os → All ProperOffer (insert_offer e os) × (length (insert_offer e os) ≤ length os + 1)
unfolding insert_offer
insert_one e os p q = go (position (offer_of_tag e.head.tag) os) refl
  where
    o : Offer
    o = record { tag = e.head.tag; copies = e.head.copies }

    go : (f : Option ℕ) → position (offer_of_tag e.head.tag) os ≡ f
        → All ProperOffer (match_found f (λ i. replace_at i o os) (os ++ (o ∷ []))) × (length (match_found f (λ i. replace_at i o os) (os ++ (o ∷ []))) ≤ length os + 1)
    go (Some i) k = (
      all_replace_at i o os q p,
      omega (arith, length_replace_at os i o (position_first (offer_of_tag e.head.tag) os no_offer i k).inside),
    )
    go None k = (all_push os o q p, omega (arith, length-append os (o ∷ [])))

pub inserted : (es : List Envelope) (os : List Offer) → All Sound es → All ProperOffer os
    → All ProperOffer (insert_offers es os) × (length (insert_offers es os) ≤ length os + length es)
unfolding insert_offers
inserted [] os p q = (q, omega arith)
inserted (e ∷ es) os (more h p) q =
    let one = insert_one e os (record { tag = h.tag; copies = h.copies }) q in
    let rest = inserted es (insert_offer e os) p one.0 in
    (rest.0, omega (arith, one.1, rest.1))
