-- Which of the held rows are offered, and what is written of them.
-- Assumes nothing.
use Rattle.std.specs.Prelude.{◌≡◌, ℕ, ◌+◌, ◌*◌, ◌/◌, ◌≤◌, Bool, cond, List, [], ◌∷◌, map, length, take}
use Rattle.octets.specs.Bytes.{Bytes, splice}
use Rattle.table.specs.Lists.{count_by}
use Rattle.table.specs.Codec.{table_of, TableNow}
use Rattle.courier.specs.declared.Header.{Header}
use Rattle.rows.specs.declared.Tombstone.{Tombstone}
use Rattle.rows.specs.declared.Offer.{Offer}
use Rattle.rows.specs.Proper.{ProperOffer}
use Rattle.rows.specs.Rows.{offer_codec, reply_bytes, reply_width}
use Rattle.model.specs.Calls.{of_own, reply_cell}
use Rattle.model.specs.Exchange.{Envelope, reply_for, in_question, is_offered, halved, insert_offer, insert_offers}
use Rattle.offers.specs.declared.Offered.{Offered}
use Rattle.offers.specs.Appended.{Appended}
use Rattle.offers.specs.Entries.{Entry, passes}

-- ---- the list

-- in the area lent for them the rows es have a flag each, set where the row is offered; searched counts those for which the tombstones ts are searched
pub record ListsOffers (ts : List Tombstone) (ls : List (List ℕ)) (es : List Entry) (lent : List Bool) (searched : ℕ) (flags : List Bool) : Type 0 where
  pub flagged : take (length es) flags ≡ map (passes (is_offered ts ls)) es
  pub counted : searched ≡ count_by (passes (in_question ls)) es
  pub size : length flags ≡ length lent

-- those whose flag is set
unfoldable pub flagged_of : {A : Type 0} → List Bool → List A → List A
flagged_of [] xs = []
flagged_of (f ∷ fs) [] = []
flagged_of (f ∷ fs) (x ∷ xs) = cond f (x ∷ flagged_of fs xs) (flagged_of fs xs)

-- half of the copies of each flagged envelope
abbrev pub halves_of : List Bool → List Envelope → List Envelope
halves_of fs es = map halved (flagged_of fs es)

-- ---- what is written

-- half of the copies is offered
abbrev pub half_of : Header → Header
half_of h = record { tag = h.tag; c = h.c; expiry_min = h.expiry_min; copies = h.copies / 2 }

-- an envelope as its reply has it
abbrev pub offered_of : Envelope → Offered
offered_of e = record { cell = reply_cell e.cells e.cell; head = (halved e).head }

-- an envelope of which only the tag and the copies matter
abbrev pub as_envelope : Offer → Envelope
as_envelope o = record {
  head = record { tag = o.tag; c = []; expiry_min = 0; copies = o.copies };
  cells = of_own;
  cell = 0;
  len = 0;
}

-- the area a had k offers; the offer o is among them now, the area is x and has m
pub record Inserted (a : List ℕ) (k : ℕ) (o : Offer) (m : ℕ) (x : List ℕ) : Type 0 where
  pub table : TableNow offer_codec a (insert_offer (as_envelope o) (table_of offer_codec k a)) m x
  pub proper : ProperOffer o
  pub bytes : Bytes a
  pub more : k ≤ m
  pub less : m ≤ k + 1
  pub size : length x ≡ length a

-- the envelope e is offered: its reply stands behind k others, and its offer among the c that were there
pub record Handed (e : Envelope) (replies : List ℕ) (k : ℕ) (offers : List ℕ) (c : ℕ) (replies' : List ℕ) (m : ℕ) (offers' : List ℕ) : Type 0 where
  pub reply : replies' ≡ splice replies (k * reply_width) (reply_bytes (reply_for e))
  pub wide : length (reply_bytes (reply_for e)) ≡ reply_width
  pub table : TableNow offer_codec offers (insert_offer e (table_of offer_codec c offers)) m offers'
  pub proper : ProperOffer (record { tag = e.head.tag; copies = e.head.copies })
  pub bytes : Bytes offers
  pub more : c ≤ m
  pub less : m ≤ c + 1
  pub size : length offers' ≡ length offers

-- the envelopes es are offered: their replies stand behind the n that were there, their offers in the area of offers
pub record WritesOffers (es : List Envelope) (replies : List ℕ) (n : ℕ) (offers : List ℕ) (k : ℕ) (replies' : List ℕ) (m : ℕ) (offers' : List ℕ) : Type 0 where
  pub rows : Appended reply_width replies n (map reply_bytes (map reply_for es)) k replies'
  pub room : k * reply_width ≤ length replies
  pub table : TableNow offer_codec offers (insert_offers es []) m offers'
