-- Laws of offers: what a list of them says of a tag after each change that an exchange knows.
-- Assumes nothing.
use Rattle.std.proofs.Common.{◌≡◌, ℕ, ◌+◌, Bool, true, false, cond, ◌&&◌, ◌||◌, eqb, List, [], ◌∷◌, ◌++◌, map, get_or, take, drop, sym, refl, ap, ◌∙◌, ap₂, Option, Some, None}
use mathlib.Core.Bool.{false≢true}
use mathlib.Core.List.{flat_map}
use Rattle.octets.specs.Bytes.{same_bytes}
use Rattle.octets.proofs.Compare.{same_eq}
use Rattle.courier_core.specs.declared.ContactId.{ContactId}
use Rattle.table.specs.Lists.{All, none, more, any, position, position_from, is_at, remove_at, replace_at}
use Rattle.table.proofs.ListLaws.{all_each, all_imp, all_append, any_append, split_at}
use Rattle.table.proofs.FindLaws.{position_any, position_first, any_none}
use Rattle.courier.specs.Courier.{header_of}
use Rattle.courier.proofs.HeaderLaws.{Proper, header_of_bytes}
use Rattle.rows.specs.declared.Tombstone.{Tombstone}
use Rattle.rows.specs.declared.Offer.{Offer}
use Rattle.rows.specs.declared.Reply.{Reply}
use Rattle.rows.specs.declared.BadTag.{BadTag}
use Rattle.rows.specs.declared.Reachable.{Reachable}
use Rattle.model.specs.Basics.{match_found, match_some, find}
use Rattle.model.specs.State.{State}
use Rattle.model.specs.Calls.{fetch_reply, tomb_reply}
use Rattle.model.specs.Window.{no_reachable, lookup}
use Rattle.model.specs.Exchange.{Envelope, reply_for, offers, offer_of_tag, no_offer, insert_offer, insert_offers, not_fetched, fetch_for, has_prefix, tomb_for}
use Rattle.model.specs.Good.{Good}
use Rattle.model.proofs.KeepRows.{offers_proper}
use Rattle.model.proofs.CornerLaws.{offer_for}
use Rattle.history.specs.Order.{Sorted}
use Rattle.history.specs.Life.{offered_copies}
use Rattle.history.specs.Offers.{last_sent}
use Rattle.history.proofs.SortedLaws.{became_replaced, became_cut, became_sorted, sorted_push, sorted_after}
use Rattle.history.proofs.ContactLaws.{position_shift, found_next, replaced_next}
use Rattle.history.proofs.RowLaws.{differs}
use Rattle.history.proofs.LimitLaws.{unlike}

-- an exchange has one offer a tag
abbrev pub OffersDiffer : List Offer → Type 0
OffersDiffer os = Sorted (λ (a b : Offer). a.tag ≡ b.tag → ⊥) os

module _ (tag : List ℕ) where
  -- ---- one offer at a time

  offered_next : (o : Offer) (os : List Offer) → offered_copies (o ∷ os) tag ≡ cond (offer_of_tag tag o) o.copies (offered_copies os tag)
  unfolding position_from
  offered_next o os =
      ap (λ (f : Option ℕ). match_found (cond (offer_of_tag tag o) (Some 0) f) (λ i. (get_or (o ∷ os) i no_offer).copies) 0) (position_shift (offer_of_tag tag) 0 os)
      ∙ found_next (offer_of_tag tag o) (position (offer_of_tag tag) os) (λ (i : ℕ). (get_or (o ∷ os) i no_offer).copies) 0

  pub offered_none : (os : List Offer) → any (offer_of_tag tag) os ≡ false → offered_copies os tag ≡ 0
  offered_none os e = go (position (offer_of_tag tag) os) refl
    where
      go : (f : Option ℕ) → position (offer_of_tag tag) os ≡ f → match_found f (λ i. (get_or os i no_offer).copies) 0 ≡ 0
      go (Some i) q = absurd (false≢true (sym e ∙ sym (position_any (offer_of_tag tag) 0 os) ∙ ap is_at q))
      go None q = refl

  offered_append : (xs ys : List Offer) → offered_copies (xs ++ ys) tag ≡ cond (any (offer_of_tag tag) xs) (offered_copies xs tag) (offered_copies ys tag)
  unfolding any
  offered_append [] ys = refl
  offered_append (x ∷ xs) ys =
      offered_next x (xs ++ ys) ∙ ap (λ (n : ℕ). cond (offer_of_tag tag x) x.copies n) (offered_append xs ys)
      ∙ go (offer_of_tag tag x) (any (offer_of_tag tag) xs)
      ∙ ap (λ (n : ℕ). cond (offer_of_tag tag x || any (offer_of_tag tag) xs) n (offered_copies ys tag)) (sym (offered_next x xs))
    where
      go : (a b : Bool) → cond a x.copies (cond b (offered_copies xs tag) (offered_copies ys tag)) ≡ cond (a || b) (cond a x.copies (offered_copies xs tag)) (offered_copies ys tag)
      go true b = refl
      go false b = refl

  -- ---- a code clears its tag

  module _ (t : List ℕ) (os : List Offer) (i : ℕ) (p : position (offer_of_tag t) os ≡ Some i) (d : OffersDiffer os) where
    parts : take i os ++ (get_or os i no_offer ∷ drop (i + 1) os) ≡ os
    parts = split_at os i no_offer (position_first (offer_of_tag t) os no_offer i p).inside

    the_tag : (get_or os i no_offer).tag ≡ t
    the_tag = same_eq (get_or os i no_offer).tag t (position_first (offer_of_tag t) os no_offer i p).holds

    none_of : (xs : List Offer) → All (λ (o : Offer). offer_of_tag t o ≡ false) xs → any (offer_of_tag t) xs ≡ false
    unfolding any
    none_of [] a = refl
    none_of (x ∷ xs) (more e a) = rw e (none_of xs a)

    pub offered_cleared : offered_copies (remove_at i os) tag ≡ cond (same_bytes t tag) 0 (offered_copies os tag)
    unfolding remove_at
    offered_cleared = go (same_bytes t tag) refl
      where
        left : any (offer_of_tag t) (take i os) ≡ false
        left = (position_first (offer_of_tag t) os no_offer i p).before

        right : any (offer_of_tag t) (drop (i + 1) os) ≡ false
        right = none_of (drop (i + 1) os)
            (all_imp (λ o q. differs o.tag t (λ z. q (the_tag ∙ sym z))) (drop (i + 1) os) (sorted_after os i no_offer (position_first (offer_of_tag t) os no_offer i p).inside d))

        go : (b : Bool) → same_bytes t tag ≡ b → offered_copies (take i os ++ drop (i + 1) os) tag ≡ cond b 0 (offered_copies os tag)
        go true e =
            let z : t ≡ tag = same_eq t tag e in
            offered_none (take i os ++ drop (i + 1) os)
            (ap (λ (x : List ℕ). any (offer_of_tag x) (take i os ++ drop (i + 1) os)) (sym z) ∙ any_append (offer_of_tag t) (take i os) (drop (i + 1) os) ∙ (rw (left, right)))
        go false e =
            let x : Offer = get_or os i no_offer in
            let f : offer_of_tag tag x ≡ false = ap (λ (u : List ℕ). same_bytes u tag) the_tag ∙ e in
            offered_append (take i os) (drop (i + 1) os)
            ∙ ap (λ (n : ℕ). cond (any (offer_of_tag tag) (take i os)) (offered_copies (take i os) tag) n)
            (sym (offered_next x (drop (i + 1) os) ∙ ap (λ (b : Bool). cond b x.copies (offered_copies (drop (i + 1) os) tag)) f))
            ∙ sym (offered_append (take i os) (x ∷ drop (i + 1) os)) ∙ ap (λ (l : List Offer). offered_copies l tag) parts

  -- ---- an envelope is offered

  insert_next : (e : Envelope) (o : Offer) (os : List Offer)
      → insert_offer e (o ∷ os) ≡ cond (offer_of_tag e.head.tag o) (offer_for e ∷ os) (o ∷ insert_offer e os)
  unfolding insert_offer position_from
  insert_next e o os =
      ap (λ (f : Option ℕ). match_found (cond (offer_of_tag e.head.tag o) (Some 0) f) (λ i. replace_at i (offer_for e) (o ∷ os)) ((o ∷ os) ++ (offer_for e ∷ [])))
      (position_shift (offer_of_tag e.head.tag) 0 os)
      ∙ replaced_next (offer_for e) o os (offer_of_tag e.head.tag o) (position (offer_of_tag e.head.tag) os)

  insert_first : (e : Envelope) → insert_offer e [] ≡ offer_for e ∷ []
  unfolding insert_offer position_from
  insert_first e = refl

  offered_insert : (e : Envelope) (os : List Offer) → offered_copies (insert_offer e os) tag ≡ cond (same_bytes e.head.tag tag) e.head.copies (offered_copies os tag)
  offered_insert e [] = rw (insert_first e) (offered_next (offer_for e) [])
  offered_insert e (o ∷ os) = rw (insert_next e o os) (go (same_bytes o.tag e.head.tag) refl (offered_insert e os))
    where
      go : (b : Bool) → same_bytes o.tag e.head.tag ≡ b
          → offered_copies (insert_offer e os) tag ≡ cond (same_bytes e.head.tag tag) e.head.copies (offered_copies os tag)
          → offered_copies (cond b (offer_for e ∷ os) (o ∷ insert_offer e os)) tag ≡ cond (same_bytes e.head.tag tag) e.head.copies (offered_copies (o ∷ os) tag)
      go true q f =
          let z : o.tag ≡ e.head.tag = same_eq o.tag e.head.tag q in
          offered_next (offer_for e) os ∙ by (same_bytes e.head.tag tag) (ap (λ (u : List ℕ). same_bytes u tag) z)
          ∙ ap (λ (n : ℕ). cond (same_bytes e.head.tag tag) e.head.copies n) (sym (offered_next o os))
        where
          by : (b : Bool) → same_bytes o.tag tag ≡ b → cond b e.head.copies (offered_copies os tag) ≡ cond b e.head.copies (cond (same_bytes o.tag tag) o.copies (offered_copies os tag))
          by true h = refl
          by false h = rw h
      go false q f =
          offered_next o (insert_offer e os) ∙ ap (λ (n : ℕ). cond (offer_of_tag tag o) o.copies n) f
          ∙ by (same_bytes o.tag tag) (same_bytes e.head.tag tag) refl refl
          ∙ ap (λ (n : ℕ). cond (same_bytes e.head.tag tag) e.head.copies n) (sym (offered_next o os))
        where
          by : (a b : Bool) → same_bytes o.tag tag ≡ a → same_bytes e.head.tag tag ≡ b
              → cond a o.copies (cond b e.head.copies (offered_copies os tag)) ≡ cond b e.head.copies (cond a o.copies (offered_copies os tag))
          by true true x y = absurd (unlike o.tag e.head.tag q (same_eq o.tag tag x ∙ sym (same_eq e.head.tag tag y)))
          by true false x y = refl
          by false true x y = refl
          by false false x y = refl

  -- what the replies say is what is offered
  offered_sent : (es : List Envelope) (os : List Offer) → All (λ (e : Envelope). Proper e.head) es
      → offered_copies (insert_offers es os) tag ≡ last_sent tag (offered_copies os tag) (map reply_for es)
  unfolding insert_offers
  offered_sent [] os a = refl
  offered_sent (e ∷ es) os (more h a) =
      offered_sent es (insert_offer e os) a
      ∙ ap (λ (n : ℕ). last_sent tag n (map reply_for es))
      (offered_insert e os
      ∙ ap₂ (λ (u : List ℕ) (n : ℕ). cond (same_bytes u tag) n (offered_copies os tag)) (sym (ap (λ (x : _). x.tag) (header_of_bytes e.head h))) (sym (ap (λ (x : _). x.copies) (header_of_bytes e.head h))))

  -- fetches and tombs offer nothing
  not_sent : (n : ℕ) (rs qs : List Reply) → All (λ (r : Reply). eqb r.kind 1 ≡ false) rs → last_sent tag n (rs ++ qs) ≡ last_sent tag n qs
  not_sent n [] qs a = refl
  not_sent n (r ∷ rs) qs (more h a) =
      ap (λ (b : Bool). last_sent tag (cond (b && same_bytes (header_of r.body).tag tag) (header_of r.body).copies n) (rs ++ qs)) h ∙ not_sent n rs qs a

all_flat : {A B : Type 0} {P : B → Type 0} (f : A → List B) (xs : List A) → ((x : A) → All P (f x)) → All P (flat_map f xs)
unfolding flat_map
all_flat f [] h = none
all_flat f (x ∷ xs) h = all_append (f x) (flat_map f xs) (h x) (all_flat f xs h)

fetch_kind : (bad : List BadTag) (ts : List Tombstone) (window : List Reachable) (peer : ContactId) (prefix : List ℕ)
    → All (λ (r : Reply). eqb r.kind 1 ≡ false) (fetch_for bad ts window peer prefix)
unfolding fetch_for
fetch_kind bad ts window peer prefix = go (lookup window prefix)
  where
    by : (b : Bool) (t : List ℕ) → All (λ (r : Reply). eqb r.kind 1 ≡ false) (cond b [] (fetch_reply t ∷ []))
    by true t = none
    by false t = more refl none

    go : (f : Option ℕ) → All (λ (r : Reply). eqb r.kind 1 ≡ false)
        (match_found f (λ i. cond (not_fetched bad ts peer (get_or window i no_reachable).tag) [] (fetch_reply (get_or window i no_reachable).tag ∷ [])) [])
    go (Some i) = by (not_fetched bad ts peer (get_or window i no_reachable).tag) (get_or window i no_reachable).tag
    go None = none

tomb_kind : (ts : List Tombstone) (prefix : List ℕ) → All (λ (r : Reply). eqb r.kind 1 ≡ false) (tomb_for ts prefix)
unfolding tomb_for
tomb_kind ts prefix = go (find (has_prefix prefix) ts)
  where
    go : (x : Option Tombstone) → All (λ (r : Reply). eqb r.kind 1 ≡ false) (match_some x (λ t. tomb_reply t.tag t.s ∷ []) [])
    go None = none
    go (Some t) = more refl none

-- ---- the headers that are sent are whole

module _ (s : State) (g : Good s) (peer : ContactId) where
  offers_whole : All (λ (e : Envelope). Proper e.head) (offers s peer)
  offers_whole = all_imp (λ e p. record { tag = p.tag.size; c = p.c.size; expiry = p.expiry_min; copies = p.copies }) (offers s peer) (offers_proper s g peer)

  -- the replies of the empty inventory say what it offers
  pub terminator_sent : (tag : List ℕ) (window : List Reachable) (listed : List (List ℕ)) → offered_copies (insert_offers (offers s peer) []) tag
      ≡ last_sent tag 0 (flat_map (fetch_for s.bad_tags s.tombstones window peer) listed ++ flat_map (tomb_for s.tombstones) listed ++ map reply_for (offers s peer))
  unfolding position_from
  terminator_sent tag window listed =
      let fetches : List Reply = flat_map (fetch_for s.bad_tags s.tombstones window peer) listed in
      let tombs : List Reply = flat_map (tomb_for s.tombstones) listed in
      offered_sent tag (offers s peer) [] offers_whole
      ∙ sym (not_sent tag 0 (fetches ++ tombs) (map reply_for (offers s peer))
      (all_append fetches tombs (all_flat (fetch_for s.bad_tags s.tombstones window peer) listed (λ prefix. fetch_kind s.bad_tags s.tombstones window peer prefix))
      (all_flat (tomb_for s.tombstones) listed (λ prefix. tomb_kind s.tombstones prefix))))

-- ---- one offer a tag

insert_differ : (e : Envelope) (os : List Offer) → OffersDiffer os → OffersDiffer (insert_offer e os)
unfolding insert_offer
insert_differ e os d = go (position (offer_of_tag e.head.tag) os) refl
  where
    go : (f : Option ℕ) → position (offer_of_tag e.head.tag) os ≡ f → OffersDiffer (match_found f (λ i. replace_at i (offer_for e) os) (os ++ (offer_for e ∷ [])))
    go (Some i) p =
        let first = position_first (offer_of_tag e.head.tag) os no_offer i p in
        became_sorted {G = λ (x : Offer). Unit {0}} {S = λ (x y : Offer). y.tag ≡ x.tag} (λ x y z w a b h q. h (sym a ∙ q ∙ b))
        (became_replaced os i no_offer (offer_for e) first.inside (sym (same_eq (get_or os i no_offer).tag e.head.tag first.holds)) (all_each (λ x. refl) (take i os)) (all_each (λ x. refl) (drop (i + 1) os))) d
    go None p =
        sorted_push os (offer_for e) d
        (all_imp (λ o q z. unlike o.tag e.head.tag q z) os (any_none (offer_of_tag e.head.tag) os (sym (position_any (offer_of_tag e.head.tag) 0 os) ∙ ap is_at p)))

pub inserts_differ : (es : List Envelope) (os : List Offer) → OffersDiffer os → OffersDiffer (insert_offers es os)
unfolding insert_offers
inserts_differ [] os d = d
inserts_differ (e ∷ es) os d = inserts_differ es (insert_offer e os) (insert_differ e os d)

pub removed_differ : (i : ℕ) (os : List Offer) → OffersDiffer os → OffersDiffer (remove_at i os)
removed_differ i os d = became_sorted (λ x y z w a b h q. h (sym (ap (λ (o : Offer). o.tag) a) ∙ q ∙ ap (λ (o : Offer). o.tag) b)) (became_cut i os) d
