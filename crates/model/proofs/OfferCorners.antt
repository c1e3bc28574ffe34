-- What a peer may see, what of it a terminator offers, and for which rows the tombstones are searched, computed: document 01's rules for offers, and request Three's count.
-- Assumes nothing.
use Rattle.std.proofs.Common.{◌≡◌, ℕ, List, [], ◌∷◌, map, replicate, refl}
use Rattle.rows.specs.declared.Own.{Own}
use Rattle.rows.specs.declared.Carried.{Carried}
use Rattle.rows.specs.declared.Tombstone.{Tombstone}
use Rattle.model.specs.State.{State, own_now, carried_now, tombstones_now, listed_now, ◌and◌, apply}
use Rattle.courier.specs.Tags.{commitment_of}
use Rattle.model.specs.Calls.{of_own, of_carried}
use Rattle.model.specs.Exchange
use Rattle.model.specs.Exchange.{Envelope, envelopes, searched_rows, searched_count, halved, offers, receive_inventory}
use Rattle.model.specs.Before
use Rattle.model.specs.Before.{answer_inventory_before_three}
use Rattle.model.proofs.Examples.{post, id, of_byte, rows_of}

-- an own row of contact n, a carried row, and a tombstone, of one byte's tag
own_of : (n b copies : ℕ) → Own
unfolding id of_byte
own_of n b copies = record { contact = id n; msgno = b; tag = of_byte b; s = []; expiry_min = 0; copies = copies; renewed = 0; len = 0; cell = 0 }

carried_of : (b copies : ℕ) → Carried
unfolding id of_byte
carried_of b copies = record { slot = b; depositor = id 5; tag = of_byte b; c = []; expiry_min = 0; copies = copies; len = 0; cell = 0 }

tomb_of : ℕ → Tombstone
unfolding of_byte
tomb_of b = record { slot = b; tag = of_byte b; s = []; expiry_min = 0 }

tags : List Envelope → List (List ℕ)
tags es = map (λ (e : Envelope). e.head.tag) es

-- contact 5 sees the own rows of others in their order, then the carried rows, those that it left too
seen_by_a_peer : tags (envelopes (own_of 6 1 1 ∷ own_of 5 2 1 ∷ own_of 7 3 1 ∷ []) (carried_of 4 1 ∷ carried_of 9 1 ∷ []) (id 5)) ≡ of_byte 1 ∷ of_byte 3 ∷ of_byte 4 ∷ of_byte 9 ∷ []
unfolding tags own_of carried_of rows_of envelopes Exchange.own_envelope_of Exchange.carried_envelope_of
seen_by_a_peer = refl

-- A row's envelope: its tag, commitment (an own row's is of its secret), expiry and copies, and where its ciphertext is. It is offered with half of the copies.
abbrev own_row : Own
own_row = record { contact = id 6; msgno = 1; tag = of_byte 2; s = of_byte 3; expiry_min = 90; copies = 7; renewed = 1; len = 40; cell = 11 }

abbrev carried_row : Carried
carried_row = record { slot = 8; depositor = id 5; tag = of_byte 4; c = of_byte 5; expiry_min = 91; copies = 6; len = 41; cell = 12 }

own_envelope : ℕ → Envelope
own_envelope n = record { head = record { tag = of_byte 2; c = commitment_of (of_byte 3); expiry_min = 90; copies = n }; cells = of_own; cell = 11; len = 40 }

carried_envelope : ℕ → Envelope
carried_envelope n = record { head = record { tag = of_byte 4; c = of_byte 5; expiry_min = 91; copies = n }; cells = of_carried; cell = 12; len = 41 }

as_held_and_offered :
    (envelopes (own_row ∷ []) (carried_row ∷ []) (id 5) ≡ own_envelope 7 ∷ carried_envelope 6 ∷ [])
    × (map halved (envelopes (own_row ∷ []) (carried_row ∷ []) (id 5)) ≡ own_envelope 3 ∷ carried_envelope 3 ∷ [])
unfolding own_envelope carried_envelope rows_of envelopes halved Exchange.own_envelope_of Exchange.carried_envelope_of
as_held_and_offered = (refl, refl)

-- Contact 5 has listed the prefix of the carried row 4. Besides there are an own row for it, an own row with one copy, a carried row whose tag is tombstoned,
-- and an own and a carried row of one tag.
held : State
unfolding rows_of own_of carried_of tomb_of
held =
    apply post.state
    (own_now (own_of 6 1 2 ∷ own_of 5 2 4 ∷ own_of 7 3 1 ∷ []) and carried_now (carried_of 1 5 ∷ carried_of 4 2 ∷ carried_of 9 3 ∷ [])
    and tombstones_now (tomb_of 9 ∷ []) and listed_now (replicate 8 4 ∷ []))

-- For three rows the tombstones are searched, two of one tag among them; the tombstoned one is not offered. The end of the inventory tells three, and did not before
-- request Three; a list before it, or one too long, tells nothing.
three_searched :
    (tags (searched_rows held (id 5)) ≡ of_byte 1 ∷ of_byte 1 ∷ of_byte 9 ∷ [])
    × (tags (offers held (id 5)) ≡ of_byte 1 ∷ of_byte 1 ∷ [])
    × ((receive_inventory held [] (id 5) []).told ≡ 3 ∷ [])
    × (searched_count (receive_inventory held [] (id 5) []) ≡ 3)
    × ((answer_inventory_before_three held [] (id 5)).told ≡ [])
    × ((receive_inventory held [] (id 5) (replicate 8 7 ∷ [])).told ≡ [])
    × ((receive_inventory held [] (id 5) (replicate 512 [])).told ≡ [])
unfolding tags held rows_of Exchange.list_more Before.answer_inventory_before_three
three_searched = (refl, refl, refl, refl, refl, refl, refl)
