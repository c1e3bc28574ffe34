-- Laws on which the corners stand: what a list has, its first row with a tag, Duplicate, Full, offers, tombstones by slot.
-- Assumes nothing.
use Rattle.std.proofs.Common.{◌≡◌, ℕ, suc, ◌+◌, ◌/◌, ◌^◌, ◌<◌, ◌≤◌, Bool, true, false, cond, ◌||◌, ltb, leb, ◌⊎◌, ◌↔◌, List, [], ◌∷◌, ◌++◌, map, length, get_or, take, drop, sym, refl, ap, ◌∙◌, subst, ap₂, inl, inr, ⊎_elim, append-nil, arith, take-append-drop, ltb-false, ltb-true, le-ltb, lt-ltb, leb-false, Option, Some, None}
use mathlib.Core.Bool.{and-false, false≢true}
pub use Rattle.std.proofs.lemmas.Bool.{or_right}
use Rattle.std.proofs.lemmas.Bool.{or_left, or_cases, false_from_ne_true}
use mathlib.Core.List.{map-append, flat_map, Perm, perm_middle}
use lib.Seq.{take-append_seam, drop-append-add, get_or-append_seam}
use Rattle.octets.specs.Bytes.{be, same_bytes}
use Rattle.octets.proofs.Compare.{same_refl, same_eq}
use Rattle.courier_core.specs.declared.ContactId.{ContactId}
use Rattle.table.specs.Lists.{All, more, any, filter, position, position_from, is_at, insert_at, remove_at, replace_at, unwrap_or}
use Rattle.table.proofs.ListLaws.{filter_append, all_filter, all_map, split_at}
use Rattle.table.proofs.FindLaws.{position_any, position_first, any_none}
use Rattle.courier.specs.Courier.{header_bytes, carried_length, envelope_header}
use Rattle.courier.proofs.Laws.{carried_fits}
use Rattle.rows.specs.declared.Own.{Own}
use Rattle.rows.specs.declared.Carried.{Carried}
use Rattle.rows.specs.declared.Tombstone.{Tombstone}
use Rattle.rows.specs.declared.Offer.{Offer}
use Rattle.rows.specs.declared.Reply.{Reply}
use Rattle.rows.specs.declared.Reachable.{Reachable}
use Rattle.rows.specs.Limits.{max_carried_bytes}
use Rattle.model.specs.Basics.{match_found, find, trunc8}
use Rattle.model.specs.State.{State, now, upd}
use Rattle.model.specs.Contacts.{is_verified}
use Rattle.model.specs.Custody.{own_of_tag, carried_of_tag, tombstone_of_tag, quota, carried_total, deposited, duplicate, full}
use Rattle.model.specs.Exchange.{Envelope, envelopes, reply_for, in_question, is_offered, halved, offers, offer_of_tag, no_offer, insert_offer, insert_offers, fetch_for, tomb_for, answer_inventory}
use Rattle.model.specs.Tombs.{no_tombstone, least_expiry, insert_by_slot}
use Rattle.model.proofs.Laws.{carried_total_lem, expiry_at, Least, least_expiry_lem}
use Rattle.model.proofs.KeepRows.{or_false}

-- ---- what a list has

-- an element of which f is b
pub data Has {A B : Type 0} (f : A → B) (b : B) : List A → Type 0 where
  here : {x : A} {xs : List A} → f x ≡ b → Has f b (x ∷ xs)
  there : {x : A} {xs : List A} → Has f b xs → Has f b (x ∷ xs)

pub has_right : {A B : Type 0} {f : A → B} {b : B} (xs : List A) {ys : List A} → Has f b ys → Has f b (xs ++ ys)
has_right [] h = h
has_right (x ∷ xs) h = there (has_right xs h)

has_map : {A B C : Type 0} (g : A → B) {f : B → C} {c : C} (xs : List A) → Has (λ (x : A). f (g x)) c xs → Has f c (map g xs)
has_map {A = A} {B = B} {C = C} g {f = f} {c = c} [] x' = elim x' [ ]
has_map g (x ∷ xs) (here e) = here e
has_map g (x ∷ xs) (there h) = there (has_map g xs h)

-- what holds of f of each element holds of b
pub has_all : {A B : Type 0} {f : A → B} {b : B} {xs : List A} (P : B → Type 0) → Has f b xs → All (λ (x : A). P (f x)) xs → P b
has_all P (here e) (more p rest) = subst P e p
has_all P (there h) (more p rest) = has_all P h rest

-- by a run of bytes
module _ {A : Type 0} (f : A → List ℕ) (bytes : List ℕ) where
  abbrev pub same : A → Bool
  same x = same_bytes (f x) bytes

  pub has_any : (xs : List A) → Has f bytes xs → any same xs ≡ true
  unfolding any
  has_any [] x' = elim x' [ ]
  has_any (x ∷ xs) (here e) = or_left (same x) (any same xs) (ap (λ (b : List ℕ). same_bytes b bytes) e ∙ same_refl bytes)
  has_any (x ∷ xs) (there h) = or_right (same x) (any same xs) (has_any xs h)

  pub any_has : (xs : List A) → any same xs ≡ true → Has f bytes xs
  unfolding any
  any_has [] e = absurd (false≢true e)
  any_has (x ∷ xs) e = ⊎_elim (λ t. here (same_eq (f x) bytes t)) (λ u. there (any_has xs u)) (or_cases (same x) (any same xs) e)

  pub has_none : (xs : List A) → (Has f bytes xs → ⊥) → any same xs ≡ false
  has_none xs k = false_from_ne_true (any same xs) (λ e. k (any_has xs e))

abbrev pub OwnHas : List Own → List ℕ → Type 0
OwnHas rows tag = Has (λ (o : Own). o.tag) tag rows

abbrev pub CarriedHas : List Carried → List ℕ → Type 0
CarriedHas rows tag = Has (λ (r : Carried). r.tag) tag rows

abbrev pub TombstonesHave : List Tombstone → List ℕ → Type 0
TombstonesHave rows tag = Has (λ (t : Tombstone). t.tag) tag rows

abbrev pub OffersHave : List Offer → List ℕ → Type 0
OffersHave rows tag = Has (λ (o : Offer). o.tag) tag rows

-- ---- the first row with a tag

-- Rows, and among them the first with the tag, between those before and after it.
pub record FirstOf {A : Type 0} (f : A → List ℕ) (tag : List ℕ) (rows before : List A) (row : A) (after : List A) : Type 0 where
  pub all : rows ≡ before ++ (row ∷ after)
  pub tagged : f row ≡ tag
  pub none : Has f tag before → ⊥

place_from : {A : Type 0} (p : A → Bool) (x y : List A) (a : A) (j : ℕ) → p a ≡ true → any p x ≡ false → position_from j p (x ++ (a ∷ y)) ≡ Some (j + length x)
unfolding position_from any
place_from p [] y a j t n = rw t (ap Some (omega arith))
place_from p (b ∷ x) y a j t n =
    let h = or_false (p b) (any p x) n in
    rw h.0 (place_from p x y a (suc j) t h.1 ∙ ap Some (omega arith))

module _ {A : Type 0} {f : A → List ℕ} {tag : List ℕ} {rows x y : List A} {a : A} (h : FirstOf f tag rows x a y) where
  -- where it stands, and what stands there
  pub first_place : position (same f tag) rows ≡ Some (length x)
  first_place =
      ap (position (same f tag)) h.all
      ∙ place_from (same f tag) x y a 0 (ap (λ (b : List ℕ). same_bytes b tag) h.tagged ∙ same_refl tag) (has_none f tag x h.none)
      ∙ ap Some (omega arith)

  pub first_row : (d : A) → get_or rows (length x) d ≡ a
  first_row d = ap (λ (l : List A). get_or l (length x) d) h.all ∙ get_or-append_seam x a y d

  -- it goes, or another is put in its place
  pub first_removed : remove_at (length x) rows ≡ x ++ y
  unfolding remove_at
  first_removed = ap (remove_at (length x)) h.all ∙ ap₂ (λ (u v : List A). u ++ v) (take-append_seam x (a ∷ y)) (drop-append-add x (a ∷ y) 1)

  pub first_replaced : (b : A) → replace_at (length x) b rows ≡ x ++ (b ∷ y)
  unfolding replace_at
  first_replaced b =
      ap (replace_at (length x) b) h.all ∙ ap₂ (λ (u v : List A). u ++ (b ∷ v)) (take-append_seam x (a ∷ y)) (drop-append-add x (a ∷ y) 1)

-- the place that is found has the first row with the tag
pub place_first : {A : Type 0} (f : A → List ℕ) (tag : List ℕ) (rows : List A) (d : A) (i : ℕ) → position (same f tag) rows ≡ Some i
    → FirstOf f tag rows (take i rows) (get_or rows i d) (drop (i + 1) rows)
place_first f tag rows d i e =
    let p = position_first (same f tag) rows d i e in
    record {
      all = sym (split_at rows i d p.inside);
      tagged = same_eq (f (get_or rows i d)) tag p.holds;
      none = λ h. false≢true (sym p.before ∙ has_any f tag (take i rows) h);
    }

-- no row has the tag
pub no_place : {A : Type 0} (f : A → List ℕ) (tag : List ℕ) (rows : List A) → (Has f tag rows → ⊥) → position (same f tag) rows ≡ None
no_place f tag rows k = go (position (same f tag) rows) refl
  where
    go : (z : Option ℕ) → position (same f tag) rows ≡ z → z ≡ None
    go (Some i) e = absurd (false≢true (sym (has_none f tag rows k) ∙ sym (position_any (same f tag) 0 rows) ∙ ap is_at e))
    go None e = refl

-- ---- Duplicate

module _ (s : State) (tag : List ℕ) where
  abbrev own : Bool
  own = any (own_of_tag tag) s.own

  abbrev carried : Bool
  carried = any (carried_of_tag tag) s.carried

  abbrev ended : Bool
  ended = any (tombstone_of_tag tag) s.tombstones

  pub duplicate_has : duplicate s tag ≡ true ↔ (OwnHas s.own tag ⊎ (CarriedHas s.carried tag ⊎ TombstonesHave s.tombstones tag))
  unfolding duplicate
  duplicate_has = (
    λ e. ⊎_elim
        (λ a. ⊎_elim (λ b. inl (any_has (λ (o : Own). o.tag) tag s.own b)) (λ b. inr (inl (any_has (λ (r : Carried). r.tag) tag s.carried b))) (or_cases own carried a))
        (λ b. inr (inr (any_has (λ (t : Tombstone). t.tag) tag s.tombstones b))) (or_cases (own || carried) ended e),
    λ h. ⊎_elim
        (λ a. or_left (own || carried) ended (or_left own carried (has_any (λ (o : Own). o.tag) tag s.own a)))
        (λ b. ⊎_elim (λ a. or_left (own || carried) ended (or_right own carried (has_any (λ (r : Carried). r.tag) tag s.carried a)))
        (λ a. or_right (own || carried) ended (has_any (λ (t : Tombstone). t.tag) tag s.tombstones a)) b) h,
  )

-- ---- Full

-- fewer than 256 rows and one more are below 1,048,576 bytes
few : (size len : ℕ) (rs : List Carried) → leb 256 (length rs) ≡ false → len ≤ 2064
    → ltb max_carried_bytes (carried_total size rs + (envelope_header + len)) ≡ false
few size len rs h l = le-ltb max_carried_bytes (carried_total size rs + (37 + len)) (omega (arith, carried_total_lem size rs, leb-false 256 (length rs) h))

pub never_decides : (s : State) (peer : ContactId) (len : ℕ) → carried_length len ≡ true
    → full s peer len ≡ (leb 256 (length s.carried) || leb (quota (is_verified s.contacts peer)) (deposited s.carried peer))
unfolding full
never_decides s peer len h = go (leb 256 (length s.carried)) refl
  where
    bytes : Bool
    bytes = ltb max_carried_bytes (carried_total (length s.carried_cells) s.carried + (envelope_header + len))

    share : Bool
    share = leb (quota (is_verified s.contacts peer)) (deposited s.carried peer)

    go : (b : Bool) → leb 256 (length s.carried) ≡ b → (b || bytes || share) ≡ (b || share)
    go true e = refl
    go false e = ap (λ (b : Bool). b || share) (few (length s.carried_cells) len s.carried e (carried_fits len h).1)

-- ---- offers

-- what is found behind elements that are not looked for, and with one such element left out
module _ {A : Type 0} (p : A → Bool) where
  find_behind : (x y : List A) → any p x ≡ false → find p (x ++ y) ≡ find p y
  unfolding find any
  find_behind [] y e = refl
  find_behind (a ∷ x) y e = let h = or_false (p a) (any p x) e in rw h.0 (find_behind x y h.1)

  find_without : (x y : List A) (a : A) → p a ≡ false → find p (x ++ (a ∷ y)) ≡ find p (x ++ y)
  unfolding find
  find_without [] y a e = rw e
  find_without (b ∷ x) y a e = ap (λ (o : Option A). cond (p b) (Some b) o) (find_without x y a e)

abbrev pub offer_for : Envelope → Offer
offer_for e = record { tag = e.head.tag; copies = e.head.copies }

-- the offer of an envelope is found by its tag
offer_found : (e : Envelope) (os : List Offer) → find (offer_of_tag e.head.tag) (insert_offer e os) ≡ Some (offer_for e)
unfolding insert_offer find replace_at
offer_found e os = go (position p os) refl
  where
    p : Offer → Bool
    p = offer_of_tag e.head.tag

    o : Offer
    o = offer_for e

    first : (y : List Offer) → find p (o ∷ y) ≡ Some o
    first y = rw (same_refl e.head.tag)

    go : (f : Option ℕ) → position p os ≡ f → find p (match_found f (λ i. replace_at i o os) (os ++ (o ∷ []))) ≡ Some o
    go (Some i) k = find_behind p (take i os) (o ∷ drop (i + 1) os) (position_first p os no_offer i k).before ∙ first (drop (i + 1) os)
    go None k = find_behind p os (o ∷ []) (sym (position_any p 0 os) ∙ ap is_at k) ∙ first []

-- and another tag's stays what it was
offer_kept : (tag : List ℕ) (e : Envelope) (os : List Offer) → same_bytes e.head.tag tag ≡ false
    → find (offer_of_tag tag) (insert_offer e os) ≡ find (offer_of_tag tag) os
unfolding insert_offer replace_at
offer_kept tag e os h = go (position p os) refl
  where
    p : Offer → Bool
    p = offer_of_tag e.head.tag

    q : Offer → Bool
    q = offer_of_tag tag

    o : Offer
    o = offer_for e

    go : (f : Option ℕ) → position p os ≡ f → find q (match_found f (λ i. replace_at i o os) (os ++ (o ∷ []))) ≡ find q os
    go (Some i) k =
        let r = position_first p os no_offer i k in
        find_without q (take i os) (drop (i + 1) os) o h
        ∙ sym (find_without q (take i os) (drop (i + 1) os) (get_or os i no_offer) (ap (λ (t : List ℕ). same_bytes t tag) (same_eq (get_or os i no_offer).tag e.head.tag r.holds) ∙ h))
        ∙ ap (find q) (split_at os i no_offer r.inside)
    go None k = find_without q os [] o h ∙ ap (find q) (append-nil os)

offers_kept : (tag : List ℕ) (es : List Envelope) (os : List Offer) → All (λ (e : Envelope). same_bytes e.head.tag tag ≡ false) es
    → find (offer_of_tag tag) (insert_offers es os) ≡ find (offer_of_tag tag) os
unfolding insert_offers
offers_kept tag [] os h = refl
offers_kept tag (e ∷ es) os (more h rest) = offers_kept tag es (insert_offer e os) rest ∙ offer_kept tag e os h

pub insert_append : (x y : List Envelope) (os : List Offer) → insert_offers (x ++ y) os ≡ insert_offers y (insert_offers x os)
unfolding insert_offers
insert_append [] y os = refl
insert_append (e ∷ x) y os = insert_append x y (insert_offer e os)

-- copies above 1, no tombstone of the tag, its prefix not listed
pub is_offered_lem : (ts : List Tombstone) (listed : List (List ℕ)) (e : Envelope) → 1 < e.head.copies → (TombstonesHave ts e.head.tag → ⊥)
    → (Has (λ (b : List ℕ). b) (trunc8 e.head.tag) listed → ⊥) → is_offered ts listed e ≡ true
unfolding is_offered in_question
is_offered_lem ts listed e c t l =
    rw (lt-ltb 1 e.head.copies c, has_none (λ (r : Tombstone). r.tag) e.head.tag ts t, has_none (λ (b : List ℕ). b) (trunc8 e.head.tag) listed l)

-- its prefix listed: not in question; a tombstone of the tag: not offered
pub listed_out : (listed : List (List ℕ)) (e : Envelope) → Has (λ (b : List ℕ). b) (trunc8 e.head.tag) listed → in_question listed e ≡ false
unfolding in_question
listed_out listed e h = rw (has_any (λ (b : List ℕ). b) (trunc8 e.head.tag) listed h) (and-false (ltb 1 e.head.copies))

pub tombstoned_out : (ts : List Tombstone) (listed : List (List ℕ)) (e : Envelope) → TombstonesHave ts e.head.tag → is_offered ts listed e ≡ false
unfolding is_offered
tombstoned_out ts listed e h = rw (has_any (λ (r : Tombstone). r.tag) e.head.tag ts h) (and-false (in_question listed e))

-- The answer to the terminator offers n copies of an envelope, after which the envelopes y stand: a reply, whose last byte they are, and
-- the exchange's row of the tag, which the last envelope of that tag gives.
pub record OffersCopies (s : State) (window : List Reachable) (peer : ContactId) (e : Envelope) (y : List Envelope) (n : ℕ) : Type 0 where
  pub reply : Has (λ (r : Reply). r)
      (record { kind = 1; cell = (reply_for e).cell; body = e.head.tag ++ e.head.c ++ be 4 e.head.expiry_min ++ (n ∷ []) })
      (answer_inventory s window peer).replies
  pub row : (Has (λ (z : Envelope). z.head.tag) e.head.tag y → ⊥)
      → find (offer_of_tag e.head.tag) (upd [] (answer_inventory s window peer).change.session.offered) ≡ Some (record { tag = e.head.tag; copies = n })

-- the offers that envelopes give
unfoldable pub offers_of : State → List Envelope → List Envelope
offers_of s es = map halved (filter (is_offered s.tombstones s.session.exchange.listed) es)

-- the answer to the terminator offers these envelopes and no other: the replies behind fetches and tombs, and the exchange's rows
pub record OffersOnly (s : State) (window : List Reachable) (peer : ContactId) (es : List Envelope) : Type 0 where
  pub replies : (answer_inventory s window peer).replies
      ≡ flat_map (fetch_for s.bad_tags s.tombstones window peer) s.session.exchange.listed ++ flat_map (tomb_for s.tombstones) s.session.exchange.listed
      ++ map reply_for es
  pub rows : (answer_inventory s window peer).change.session.offered ≡ now (insert_offers es [])

-- among the envelopes that a peer may see, one with those before and after it
module _ (s : State) (peer : ContactId) (x y : List Envelope) (e : Envelope) (all : envelopes s.own s.carried peer ≡ x ++ (e ∷ y)) where
  abbrev p : Envelope → Bool
  p = is_offered s.tombstones s.session.exchange.listed

  parts : (z : List Envelope) → offers_of s (x ++ z) ≡ offers_of s x ++ offers_of s z
  unfolding offers_of
  parts z = ap (map halved) (filter_append p x z) ∙ map-append halved (filter p x) (filter p z)

  by_test : (b : Bool) → p e ≡ b → offers s peer ≡ offers_of s x ++ cond b (halved e ∷ offers_of s y) (offers_of s y)
  unfolding offers offers_of filter
  by_test true h = ap (offers_of s) all ∙ parts (e ∷ y) ∙ rw h
  by_test false h = ap (offers_of s) all ∙ parts (e ∷ y) ∙ rw h

  -- it is not offered: the offers are those of the others
  pub offers_without : (window : List Reachable) → p e ≡ false → OffersOnly s window peer (offers_of s (x ++ y))
  unfolding answer_inventory
  offers_without window h = let q = by_test false h ∙ sym (parts y) in record { replies = rw q; rows = rw q }

  -- it is offered: half of its copies
  module _ (window : List Reachable) (h : p e ≡ true) where
    abbrev tagged : Envelope → Bool
    tagged z = same_bytes z.head.tag e.head.tag

    others : (Has (λ (z : Envelope). z.head.tag) e.head.tag y → ⊥) → All (λ (z : Envelope). tagged z ≡ false) (offers_of s y)
    unfolding offers_of halved
    others last = all_map halved (filter p y) (all_filter p y (any_none tagged y (has_none (λ (z : Envelope). z.head.tag) e.head.tag y last)))

    pub offers_half : OffersCopies s window peer e y (e.head.copies / 2)
    unfolding answer_inventory halved header_bytes insert_offers
    offers_half =
        let listed : List (List ℕ) = s.session.exchange.listed in
        let found : Has reply_for _ (offers_of s x ++ (halved e ∷ offers_of s y)) = has_right (offers_of s x) (here refl) in
        let q : Offer → Bool = offer_of_tag e.head.tag in
        let os : List Offer = insert_offers (offers_of s x) [] in
        record {
          reply = has_right (flat_map (fetch_for s.bad_tags s.tombstones window peer) listed ++ flat_map (tomb_for s.tombstones) listed)
              (has_map reply_for (offers s peer) (rw (by_test true h) found));
          row = λ last. ap (λ (l : List Envelope). find q (insert_offers l [])) (by_test true h)
              ∙ ap (find q) (insert_append (offers_of s x) (halved e ∷ offers_of s y) [])
              ∙ offers_kept e.head.tag (offers_of s y) (insert_offer (halved e) os) (others last) ∙ offer_found (halved e) os;
        }

-- ---- tombstones

abbrev pub slot_at : List Tombstone → ℕ → ℕ
slot_at ts j = (get_or ts j no_tombstone).slot

abbrev pub SlotsRise : List Tombstone → Type 0
SlotsRise ts = (i j : ℕ) → i < j → j < length ts → slot_at ts i < slot_at ts j

-- the tombstone at index i has the least expiry, and among those of that expiry the lowest slot
pub record LeastLowest (ts : List Tombstone) (i : ℕ) : Type 0 where
  pub inside : i < length ts
  pub least : (j : ℕ) → j < length ts → expiry_at ts i ≤ expiry_at ts j
  pub lowest : (j : ℕ) → j < length ts → expiry_at ts j ≡ expiry_at ts i → slot_at ts i ≤ slot_at ts j

first_lowest : (ts : List Tombstone) (i : ℕ) → SlotsRise ts → Least ts (length ts) i → LeastLowest ts i
first_lowest ts i rise l = record { inside = l.inside; least = l.least; lowest = λ j b q. go j b q (ltb j i) refl (ltb i j) refl }
  where
    go : (j : ℕ) → j < length ts → expiry_at ts j ≡ expiry_at ts i → (a : Bool) → ltb j i ≡ a → (c : Bool) → ltb i j ≡ c → slot_at ts i ≤ slot_at ts j
    go j b q true t c u = absurd (omega (arith, l.first j (ltb-true j i t)))
    go j b q false t true u = omega (arith, rise i j (ltb-true i j u) b)
    go j b q false t false u = let z : i ≡ j = omega (arith, ltb-false j i t, ltb-false i j u) in omega (arith, ap (slot_at ts) z)

pub least_lowest : (ts : List Tombstone) → 0 < length ts → All (λ (t : Tombstone). t.expiry_min < 2 ^ 32) ts → SlotsRise ts → LeastLowest ts (least_expiry ts)
least_lowest [] h e rise = absurd (omega arith)
least_lowest (t ∷ ts) h (more e rest) rise = first_lowest (t ∷ ts) (least_expiry (t ∷ ts)) rise (least_expiry_lem t ts e)

-- one more than there were
pub one_more : (t : Tombstone) (ts : List Tombstone) → Perm (insert_by_slot t ts) (t ∷ ts)
unfolding insert_by_slot insert_at
one_more t ts =
    let i : ℕ = unwrap_or (length ts) (position (λ (x : Tombstone). ltb t.slot x.slot) ts) in
    subst (λ (l : List Tombstone). Perm (take i ts ++ (t ∷ drop i ts)) (t ∷ l)) (take-append-drop i ts) (perm_middle (take i ts) (drop i ts))
