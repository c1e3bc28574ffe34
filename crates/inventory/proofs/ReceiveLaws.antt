-- The call inventory received: each way out is the model's step.
-- Assumes nothing.
use Rattle.std.proofs.Common.{◌≡◌, ℕ, ◌+◌, ◌*◌, ◌/◌, ◌%◌, ◌≤◌, min, Bool, true, false, ◌||◌, ltb, List, ◌++◌, map, length, take, sym, refl, ap, ◌∙◌, subst, ap₂, zero-add, arith, length-append, take_all, eq-eqb, ne_eqb, Result, Ok, Err}
use mathlib.Core.List.{map-append, flat_map}
use lib.ListN.{length-map}
use Rattle.std.proofs.lemmas.List.{map-id}
use Rattle.octets.specs.Bytes.{splice}
use Rattle.courier_core.specs.declared.ContactId.{ContactId}
use Rattle.courier_core.specs.declared.Refusal.{Refusal}
use Rattle.table.specs.Rows.{held, rows, join, written}
use Rattle.table.specs.Codec.{table_of, with_table}
use Rattle.table.proofs.RowLaws.{held_all, length_rows, join_append, join_rows, splice_written, written_splice}
use Rattle.table.proofs.TableLaws.{length_table, table_held}
use Rattle.rows.specs.declared.Device.{Device}
use Rattle.rows.specs.declared.Exchange.{Exchange}
use Rattle.rows.specs.declared.Own.{Own}
use Rattle.rows.specs.declared.Carried.{Carried}
use Rattle.rows.specs.declared.Tombstone.{Tombstone}
use Rattle.rows.specs.declared.Reply.{Reply}
use Rattle.rows.specs.Rows.{own_codec, carried_codec, tombstone_codec, bad_tag_codec, reply_bytes}
use Rattle.model.specs.State.{State, nothing}
use Rattle.model.specs.Calls.{Call, inventory_received, Result as Outcome, malformed}
use Rattle.model.specs.Window.{window_rows, prefix_rows, prefix_codec}
use Rattle.model.specs.Exchange.{Envelope, reply_for, tomb_for, searched_rows, offers, answer_inventory, list_more, too_many, receive_inventory, receive_inventory_tests}
use Rattle.model.specs.Step.{tests, perform, step}
use Rattle.model.specs.Areas.{Areas, Written, view, view_session, store, store_device, store_session, answer_areas}
use Rattle.model.proofs.CallLaws.{result_by, tested_call, answering_call, quiet_call, refused_call}
use Rattle.model.specs.Lent.{replies_lent}
use Rattle.offers.specs.Appended.{Appended}
use Rattle.offers.specs.Entries.{held_envelopes, entries}
use Rattle.offers.specs.Offers.{ListsOffers, halves_of, WritesOffers}
use Rattle.offers.proofs.AppendLaws.{append_then}
use Rattle.offers.proofs.SentLaws.{offers_sent, searched_counted}
use Rattle.inventory.specs.declared.Lookup.{Lookup}
use Rattle.inventory.specs.declared.Said.{Said}
use Rattle.inventory.specs.declared.Said.TheVariants as said
use Rattle.inventory.specs.Inventory.{tombs, fetches, Answers, offers_of, searched_of, replies_for, completed_with, lengthened_to, Terminated, Lengthened, received_says, received_in, Reads}
use Rattle.inventory.proofs.TestLaws.{Tests}

-- ---- the terminator

module _ (e : Exchange) (fs ms : List Reply) (es : List Envelope) (n : ℕ) (replies x y z offers w : List ℕ) (f t : ℕ) where
  -- three lists of replies, one behind the other
  terminated : (e' : Exchange) (r : Said) (k c : ℕ) → Appended 40 replies 0 (map reply_bytes fs) f x → Appended 40 x f (map reply_bytes ms) t y
      → WritesOffers es y t offers k z c w → t * 40 ≤ length replies → e' ≡ completed_with e c → r ≡ said.Done k n
      → Terminated e (fs ++ ms ++ map reply_for es) es n replies offers e' r z w
  unfolding with_table
  terminated e' r k c F T A h ex sa =
      let s : map reply_bytes fs ++ map reply_bytes ms ++ map reply_bytes (map reply_for es) ≡ map reply_bytes (fs ++ ms ++ map reply_for es) =
      ap (λ (l : List (List ℕ)). l ++ map reply_bytes (map reply_for es)) (sym (map-append reply_bytes fs ms)) ∙ sym (map-append reply_bytes (fs ++ ms) (map reply_for es)) in
      let both : Appended 40 replies 0 (map reply_bytes fs ++ map reply_bytes ms) t y = append_then 40 F T h in
      let all : Appended 40 replies 0 (map reply_bytes (fs ++ ms ++ map reply_for es)) k z =
      rw (sym s) (append_then 40 both A.rows (omega (arith, A.room, both.size))) in
      record {
        exchange = ex ∙ ap (completed_with e) A.table.count;
        said = sa ∙ ap (λ (m : ℕ). said.Done m n) (all.count ∙ zero-add _ ∙ length-map (fs ++ ms ++ map reply_for es) reply_bytes);
        rows = all.area ∙ sym (written_splice replies (map reply_bytes (fs ++ ms ++ map reply_for es)));
        table = A.table.area;
      }

-- what the call writes, by what the lookup has and by the rows held
module _ (e : Exchange) (v : Lookup) (own : List Own) (carried : List Carried) (ls : List (List ℕ)) (replies offers : List ℕ) where
  pub answered : {e' : Exchange} {r : Said} {x y z w : List ℕ} {f t k c a : ℕ} {flags fs : List Bool} → Appended 40 replies 0 (map reply_bytes (flat_map (fetches v) ls)) f x
      → Appended 40 x f (map reply_bytes (flat_map (tomb_for (tombs v)) ls)) t y → ListsOffers (tombs v) ls (entries v.peer own carried) flags a fs
      → WritesOffers (halves_of fs (held_envelopes own carried)) y t offers k z c w → t * 40 ≤ length replies → e' ≡ completed_with e c → r ≡ said.Done k a
      → Answers e v own carried ls replies offers e' r z w
  answered {e'} {r} {x} {y} {z} {w} {f} {t} {k} {c} {a} {flags} {fs} F T L W h ex sa =
      terminated e (flat_map (fetches v) ls) (flat_map (tomb_for (tombs v)) ls) (offers_of v.peer (tombs v) ls own carried) (length (searched_of v.peer ls own carried)) replies x y z offers w f t e' r k c F T
      (subst (λ (es : List Envelope). WritesOffers es y t offers k z c w) (offers_sent v.peer own carried (tombs v) ls a fs L) W) h ex
      (sa ∙ ap (λ (m : ℕ). said.Done k m) (searched_counted v.peer own carried (tombs v) ls a fs L))

-- ---- more prefixes

prefixes_are : (a : List ℕ) (count n : ℕ) → held (length a) 8 count ≡ n → table_of prefix_codec count a ≡ rows 8 n a
unfolding table_of
prefixes_are a count n e = map-id (rows 8 (held (length a) 8 count) a) ∙ ap (λ (k : ℕ). rows 8 k a) e

pub more_listed : (v : List ℕ) → prefix_rows v ≡ rows 8 (length v / 8) v
unfolding prefix_rows
more_listed v = prefixes_are v (length v / 8) (length v / 8) (held_all (length v) 8 (length v / 8) (omega arith) (omega arith))

module _ (e : Exchange) (prefixes : List ℕ) (l : ℕ) (v : List ℕ) (whole : length v % 8 ≡ 0) (room : l * 8 + length v ≤ length prefixes) where
  abbrev Ls : List (List ℕ)
  Ls = table_of prefix_codec l prefixes ++ prefix_rows v

  joined : Ls ≡ rows 8 l prefixes ++ rows 8 (length v / 8) v
  joined = ap₂ (λ (x y : List (List ℕ)). x ++ y) (prefixes_are prefixes l l (held_all (length prefixes) 8 l (omega arith) (omega arith))) (more_listed v)

  pub lengthens : (e' : Exchange) (k : ℕ) (x : List ℕ) → k ≡ l + length v / 8 → e' ≡ lengthened_to e k
      → x ≡ splice prefixes (l * 8) v → Lengthened e Ls prefixes e' x
  unfolding with_table
  lengthens e' k x ek ex h =
      let n : k ≡ length Ls =
      omega (arith, ap length joined, length-append (rows 8 l prefixes) (rows 8 (length v / 8) v), length_rows 8 l prefixes, length_rows 8 (length v / 8) v) in
      let j : join (rows 8 l prefixes ++ rows 8 (length v / 8) v) ≡ take (l * 8) prefixes ++ v =
      join_append (rows 8 l prefixes) (rows 8 (length v / 8) v)
      ∙ ap₂ (λ (y z : List ℕ). y ++ z) (join_rows 8 l prefixes) (join_rows 8 (length v / 8) v ∙ take_all (length v / 8 * 8) v (omega arith)) in
      record {
        exchange = ex ∙ ap (lengthened_to e) n;
        table = h ∙ splice_written prefixes v (l * 8) (rows 8 l prefixes ++ rows 8 (length v / 8) v) (omega arith) j
            ∙ ap (written prefixes) (sym joined ∙ sym (map-id Ls));
      }

-- ---- the call

module _ (d : Device) (peer : ContactId) (own carried tombs bad window v : List ℕ) (e : Exchange) (prefixes area lent : List ℕ) (contacts : List ℕ) (a : Areas) where
  abbrev B : Exchange → List ℕ → List ℕ → Areas
  B x p o = received_in d contacts own carried tombs bad x p o a

  abbrev S : State
  S = view (B e prefixes area)

  abbrev Says : Outcome → Result Said Refusal → Exchange → List ℕ → List ℕ → List ℕ → Type 0
  Says o r e' p os back = Written received_says o r (B e prefixes area) (B e' p os) (replies_lent lent) (replies_lent back)

  abbrev O : Outcome
  O = receive_inventory S (window_rows window) peer (prefix_rows v)

  module _ (l : ℕ) (el : l ≡ held (length prefixes) 8 (min 512 e.listed)) where
    size : length S.session.exchange.listed ≡ l
    unfolding view view_session
    size = length_table prefix_codec (min 512 e.listed) prefixes ∙ sym el

    more : length (prefix_rows v) ≡ length v / 8
    more = ap length (more_listed v) ∙ length_rows 8 (length v / 8) v

    many_are : too_many S.session.exchange (length (prefix_rows v)) ≡ (e.complete || ltb 512 (l + length v / 8))
    unfolding too_many view view_session
    many_are = ap₂ (λ (x y : ℕ). e.complete || ltb 512 (x + y)) size more

    pub says_malformed : (e.complete || ltb 512 (l + length v / 8)) ≡ true → Says O (Ok said.Malformed) e prefixes area lent
    unfolding receive_inventory store store_device store_session
    says_malformed h = quiet_call malformed nothing (rw (many_are ∙ h)) refl refl

    module _ (h : (e.complete || ltb 512 (l + length v / 8)) ≡ false) where
      abbrev Before : List (List ℕ)
      Before = table_of prefix_codec l prefixes

      before_is : Before ≡ S.session.exchange.listed
      unfolding view view_session
      before_is = table_held prefix_codec (min 512 e.listed) _ prefixes (omega arith) el

      answers : length v / 8 ≡ 0 → O ≡ answer_inventory S (window_rows window) peer
      unfolding receive_inventory
      answers z = rw (many_are ∙ h, eq-eqb (length (prefix_rows v)) 0 (more ∙ z))

      lists : (length v / 8 ≡ 0 → ⊥) → O ≡ list_more S.session.exchange (prefix_rows v)
      unfolding receive_inventory
      lists z = rw (many_are ∙ h, ne_eqb (length (prefix_rows v)) 0 (λ q. z (sym more ∙ q)))

      abbrev Tombs : List Tombstone
      Tombs = table_of tombstone_codec d.tombstones tombs

      abbrev Os : List Own
      Os = table_of own_codec d.own own

      abbrev Cs : List Carried
      Cs = table_of carried_codec d.carried carried

      -- the terminator is answered, by these prefixes and rows
      abbrev Ended : Exchange → Said → List ℕ → List ℕ → List (List ℕ) → List Own → List Carried → Type 0
      Ended e' r w back ls os cs =
          Terminated e (replies_for (table_of bad_tag_codec d.bad_tags bad) (window_rows window) peer Tombs ls (offers_of peer Tombs ls os cs)) (offers_of peer Tombs ls os cs)
          (length (searched_of peer ls os cs)) lent area e' r back w

      pub says_answered : (e' : Exchange) (r : Said) (w back : List ℕ) {os : List Own} {cs : List Carried} → length v / 8 ≡ 0
          → os ≡ Os → cs ≡ Cs → Ended e' r w back Before os cs → Says O (Ok r) e' prefixes w back
      unfolding answer_inventory offers searched_rows view view_session store store_device store_session answer_areas with_table written join splice
      says_answered e' r w back z eo ec T =
          let G : Ended e' r w back S.session.exchange.listed Os Cs = rw (sym eo, sym ec, sym before_is) T in
          answering_call (answer_inventory S (window_rows window) peer) (answers z) (ap Ok G.said)
          (ap₂ (λ (x : Exchange) (o : List ℕ). B x prefixes o) G.exchange G.table) (ap replies_lent G.rows)

      pub says_listed : (e' : Exchange) (p : List ℕ) → (length v / 8 ≡ 0 → ⊥) → Lengthened e (Before ++ prefix_rows v) prefixes e' p
          → Says O (Ok (said.Done 0 0)) e' p area lent
      unfolding list_more view view_session store store_device store_session answer_areas with_table written join splice
      says_listed e' p z L =
          let G : Lengthened e (S.session.exchange.listed ++ prefix_rows v) prefixes e' p =
          subst (λ (ls : List (List ℕ)). Lengthened e (ls ++ prefix_rows v) prefixes e' p) before_is L in
          answering_call (list_more S.session.exchange (prefix_rows v)) (lists z) refl
          (ap₂ (λ (x : Exchange) (q : List ℕ). B x q area) G.exchange G.table) refl

  -- the whole call
  abbrev C : Call
  C = inventory_received (length lent) window peer v

  reads : Reads S d contacts e.peer (length prefixes) (length area)
  unfolding view view_session
  reads = record { contacts = refl; peer = refl; prefix_area = refl; offer_area = refl }

  module _ {t : Result Unit Refusal} (T : Tests d contacts e.peer (length prefixes) (length area) (length lent) window peer v t) where
    abbrev Ts : List (Bool × Refusal)
    Ts = receive_inventory_tests S (length lent) window peer v

    tested : {r : Result Unit Refusal} → t ≡ r → step S C ≡ result_by (λ u. O) r
    unfolding step tests perform
    tested q = tested_call (λ u. O) Ts (Ok tt) refl ∙ ap (result_by (λ u. O)) (sym (T S reads) ∙ q)

    pub says_refused : {why : Refusal} → t ≡ Err why → Says (step S C) (Err why) e prefixes area lent
    says_refused {why} q = refused_call why (tested q) refl refl

    pub says_performed : {r : Result Said Refusal} {e' : Exchange} {p os back : List ℕ} → t ≡ Ok tt → Says O r e' p os back → Says (step S C) r e' p os back
    says_performed q W = rw (tested q) W
