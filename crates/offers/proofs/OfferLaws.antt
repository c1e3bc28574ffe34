-- What is offered: a row's tests, its reply, its offer.
-- Assumes nothing.
use Rattle.std.proofs.Common.{◌≡◌, ℕ, ◌+◌, ◌*◌, ◌<◌, ◌≤◌, Bool, true, false, cond, not, ◌&&◌, ltb, List, [], ◌∷◌, ◌++◌, length, take, sym, refl, ap, ◌∙◌, subst, ap₂, arith, length-append, Option, Some, None}
use Rattle.octets.specs.Bytes.{splice, same_bytes}
use Rattle.table.specs.Lists.{any, position, replace_at}
use Rattle.table.specs.Rows.{held, rows, has_key, RowsNow}
use Rattle.table.specs.Codec.{table_of, TableNow}
use Rattle.table.proofs.RowLaws.{held_all, length_rows}
use Rattle.table.proofs.FindLaws.{position_first, key_run}
use Rattle.table.proofs.TableLaws.{table_find, table_replace, table_push}
use Rattle.rows.specs.declared.Offer.{Offer}
use Rattle.rows.specs.Proper.{ProperOffer}
use Rattle.rows.specs.Rows.{offer_codec, offer_of, offer_bytes, reply_bytes}
use Rattle.rows.proofs.Laws.{offer_laws}
use Rattle.courier.specs.declared.Header.{Header}
use Rattle.courier.proofs.HeaderLaws.{length_header}
use Rattle.rows.specs.declared.Tombstone.{Tombstone}
use Rattle.model.specs.Custody.{tombstone_of_tag}
use Rattle.model.specs.Calls.{reply_cell, envelope_row}
use Rattle.model.specs.Exchange.{Envelope, halved, in_question, is_offered, reply_for, offer_of_tag, insert_offer}
use Rattle.offers.specs.declared.Row.{Row}
use Rattle.offers.specs.declared.Offered.{Offered}
use Rattle.offers.specs.Entries.{Entry, row_of, passes}
use Rattle.offers.specs.Offers.{half_of, offered_of, as_envelope, Inserted, Handed}
use Rattle.answers.proofs.Laws.{length_reply}

-- ---- the tests of a row

-- the tombstones are searched for the row; it is offered
abbrev pub Tested : List Tombstone → List (List ℕ) → Entry → (searched offered : Bool) → Type 0
Tested ts ls e a o = (passes (in_question ls) e ≡ a) × (passes (is_offered ts ls) e ≡ o)

-- what is asked of a row, in this order: may it go, has it copies to spare, is its prefix listed, is its tag tombstoned
module _ (ts : List Tombstone) (ls : List (List ℕ)) (e : Entry) where
  abbrev first_row : Row
  first_row = record { tag = e.envelope.head.tag; copies = e.envelope.head.copies }

  abbrev Listed : List ℕ → Bool
  Listed tag = any (λ (p : List ℕ). same_bytes p (take 8 tag)) ls

  abbrev Tombstoned : List ℕ → Bool
  Tombstoned tag = any (tombstone_of_tag tag) ts

  pub stays : None ≡ row_of e → Tested ts ls e false false
  unfolding is_offered in_question row_of
  stays q = go e.goes q (ltb 1 e.envelope.head.copies && not (Listed e.envelope.head.tag)) (not (Tombstoned e.envelope.head.tag))
    where
      go : (g : Bool) → None ≡ cond g (Some first_row) None → (k t : Bool) → ((g && k) ≡ false) × ((g && (k && t)) ≡ false)
      go true q k t = cc
      go false q k t = (refl, refl)

  module _ {row : Row} (is : Some row ≡ row_of e) where
    goes : Tested ts ls e (ltb 1 row.copies && not (Listed row.tag)) ((ltb 1 row.copies && not (Listed row.tag)) && not (Tombstoned row.tag))
    unfolding is_offered in_question row_of
    goes = go e.goes is
      where
        go : (g : Bool) → Some row ≡ cond g (Some first_row) None
            → ((g && (ltb 1 e.envelope.head.copies && not (Listed e.envelope.head.tag))) ≡ (ltb 1 row.copies && not (Listed row.tag)))
            × ((g && ((ltb 1 e.envelope.head.copies && not (Listed e.envelope.head.tag)) && not (Tombstoned e.envelope.head.tag)))
            ≡ ((ltb 1 row.copies && not (Listed row.tag)) && not (Tombstoned row.tag)))
        go true q = (cc, cc)
        go false q = cc

    pub last_copy : ltb 1 row.copies ≡ false → Tested ts ls e false false
    last_copy h = rw h at goes

    pub was_listed : Listed row.tag ≡ true → Tested ts ls e false false
    was_listed h = go (ltb 1 row.copies) (rw h at goes)
      where
        go : (b : Bool) → Tested ts ls e (b && not true) ((b && not true) && not (Tombstoned row.tag)) → Tested ts ls e false false
        go true q = q
        go false q = q

    pub was_tombstoned : ltb 1 row.copies ≡ true → Listed row.tag ≡ false → Tombstoned row.tag ≡ true → Tested ts ls e true false
    was_tombstoned s l t = rw (s, l, t) at goes

    pub is_offered_lem : ltb 1 row.copies ≡ true → Listed row.tag ≡ false → Tombstoned row.tag ≡ false → Tested ts ls e true true
    is_offered_lem s l t = rw (s, l, t) at goes

-- ---- an envelope as it is offered

pub offer_made : (e : Envelope) {cell : ℕ} {h k : Header} → cell ≡ reply_cell e.cells e.cell → h ≡ e.head → k ≡ half_of h → record { cell = cell; head = k } ≡ offered_of e
unfolding halved
offer_made e c h k = ap₂ (λ (x : ℕ) (y : Header). record { cell = x; head = y }) c (k ∙ ap half_of h)

-- ---- its offer

module _ (a x : List ℕ) (k : ℕ) (o : Offer) (p : ProperOffer o) (room : k * 17 + 17 ≤ length a) (f : Option ℕ) (e : f ≡ position (has_key 0 o.tag) (rows 17 k a)) where
  abbrev Os : List Offer
  Os = table_of offer_codec k a

  held_k : k ≡ held (length a) 17 k
  held_k = sym (held_all (length a) 17 k (omega arith) (omega arith))

  found : f ≡ position (offer_of_tag o.tag) Os
  unfolding offer_of
  found = table_find offer_codec k k a held_k (has_key 0 o.tag) (offer_of_tag o.tag) (λ b. key_run 0 16 o.tag b p.tag.size) f e

  -- the offer of this tag is there
  pub offer_inside : {i : ℕ} → Some i ≡ f → i < k
  offer_inside {i} h = omega (arith, (position_first (has_key 0 o.tag) (rows 17 k a) [] i (sym (h ∙ e))).inside, length_rows 17 k a)

  pub offer_replaced : {i : ℕ} {b : List ℕ} → Some i ≡ f → b ≡ offer_bytes o → RowsNow 17 a (replace_at i b (rows 17 k a)) k x → length x ≡ length a → Inserted a k o k x
  unfolding insert_offer
  offer_replaced {i} {b} h q N s = record {
    table = rw (sym (h ∙ found)) (table_replace offer_laws k k a x k held_k b i o p q N);
    proper = p;
    bytes = N.bytes;
    more = omega arith;
    less = omega arith;
    size = s;
  }

  pub offer_pushed : {b : List ℕ} {m : ℕ} → None ≡ f → b ≡ offer_bytes o → RowsNow 17 a (rows 17 k a ++ (b ∷ [])) m x → length x ≡ length a → Inserted a k o m x
  unfolding insert_offer
  offer_pushed {b} {m} h q N s =
      let c : m ≡ k + 1 = N.count ∙ omega (arith, length-append (rows 17 k a) (b ∷ []), length_rows 17 k a) in
      record {
        table = rw (sym (h ∙ found)) (table_push offer_laws k k a x m held_k b o p q N);
        proper = p;
        bytes = N.bytes;
        more = omega arith;
        less = omega arith;
        size = s;
      }

-- ---- its reply and its offer

module _ (env : Envelope) (it : Offered) (is : it ≡ offered_of env) where
  pub handed : (lent x offers y : List ℕ) (k c m : ℕ) → length it.head.tag ≡ 16 → length it.head.c ≡ 16
      → x ≡ splice lent (k * 40) (reply_bytes (envelope_row it.cell it.head))
      → Inserted offers c (record { tag = it.head.tag; copies = it.head.copies }) m y → Handed (halved env) lent k offers c x m y
  unfolding halved insert_offer
  handed lent x offers y k c m lt lc ex I = record {
    reply = ex ∙ ap (λ (z : Offered). splice lent (k * 40) (reply_bytes (envelope_row z.cell z.head))) is;
    wide = length_reply (reply_for (halved env))
        (length_header (halved env).head (ap (λ (z : Offered). length z.head.tag) (sym is) ∙ lt) (ap (λ (z : Offered). length z.head.c) (sym is) ∙ lc));
    table = subst (λ (z : Offered). TableNow offer_codec offers (insert_offer (as_envelope (record { tag = z.head.tag; copies = z.head.copies })) (table_of offer_codec c offers)) m y) is I.table;
    proper = subst (λ (z : Offered). ProperOffer (record { tag = z.head.tag; copies = z.head.copies })) is I.proper;
    bytes = I.bytes;
    more = I.more;
    less = I.less;
    size = I.size;
  }
