-- Request Three: an answered terminator tells how many rows would be offered if no tag were tombstoned, and nothing else of any answer is another than before.
-- Assumes nothing.
use Rattle.std.proofs.Common.{◌≡◌, ℕ, suc, ◌≤◌, Bool, true, false, cond, not, ◌&&◌, eqb, ltb, ◌⊎◌, List, [], ◌∷◌, ◌++◌, map, length, get_or, sym, refl, ap, ◌∙◌, subst, inl, inr, ⊎_elim, arith, Option, Some, None}
use mathlib.Core.Bool.{and-true}
use mathlib.Core.List.{flat_map}
use lib.ListN.{length-map}
use Rattle.octets.specs.Bytes.{same_bytes}
use Rattle.courier_core.specs.declared.ContactId.{ContactId}
use Rattle.table.specs.Lists.{any, filter, count_by}
use Rattle.table.proofs.ListLaws.{count_append, length_filter}
use Rattle.rows.specs.declared.BadTag.{BadTag}
use Rattle.rows.specs.declared.Tombstone.{Tombstone}
use Rattle.rows.specs.declared.Reply.{Reply}
use Rattle.rows.specs.declared.Reachable.{Reachable}
use Rattle.model.specs.Basics.{match_found, match_some, find, trunc8}
use Rattle.model.specs.State.{State, tombstones_now, apply}
use Rattle.model.specs.Calls
use Rattle.model.specs.Calls.{Call, Result, telling, only, done, malformed, fetch_reply, tomb_reply}
use Rattle.model.specs.Window.{no_reachable, window_rows, prefix_rows, lookup}
use Rattle.model.specs.Custody.{tombstone_of_tag}
use Rattle.model.specs.Exchange.{Envelope, envelopes, reply_for, not_fetched, fetch_for, has_prefix, tomb_for, halved, in_question, is_offered, searched_rows, searched_count, offers, answer_inventory, list_more, too_many, receive_inventory, receive_inventory_tests}
use Rattle.model.specs.Step.{Post, Lent, tests, perform, step, run}
use Rattle.model.specs.Before.{step_before, perform_before, receive_inventory_before, is_offered_before_three, offers_before_three, answer_inventory_before_three, step_before_three, run_before_three}
use Rattle.model.specs.Good.{Good}
use Rattle.model.proofs.BeforeLaws.{Terminator, Tested, refuses, passes, tested, either, terminator_answers, same_run}
use Rattle.model.proofs.RefusalLaws.{of_step, by_test, IsInventory, by_call}
use Rattle.model.proofs.KeepRows.{envelopes_few}

-- ---- the words

-- the same holdings, and no tag tombstoned
abbrev pub untombstoned : State → State
untombstoned s = apply s (tombstones_now [])

-- an envelope: what a terminator is answered with for a row that is offered
abbrev pub is_envelope : Reply → Bool
is_envelope r = eqb r.kind 1

-- What request Three changes. The tombstones are searched for exactly the rows that would be offered, by the rule before, if no tag were tombstoned. An answered
-- terminator tells how many: as many as it would have been answered with envelopes. No other call tells a number. All else of every answer is as it was, and so are
-- the holdings after any list of calls.
pub record OnlyCounted : Type 0 where
  pub rows : (s : State) (peer : ContactId) → map halved (searched_rows s peer) ≡ offers_before_three (untombstoned s) peer
  pub count : (s : State) (c : Call) → Terminator s c → (step s c).told ≡ count_by is_envelope (step_before_three (untombstoned s) c).replies ∷ []
  pub others : (s : State) (c : Call) → (Terminator s c → ⊥) → (step s c).told ≡ []
  pub same : (s : State) (c : Call) → telling [] (step s c) ≡ step_before_three s c
  pub holdings : (p : Post) (ls : List Lent) → run p ls ≡ run_before_three p ls
  pub few : (s : State) (c : Call) → Good s → searched_count (step s c) ≤ 512

-- ---- the tests of a row, in either order

module _ (ts : List Tombstone) (listed : List (List ℕ)) (e : Envelope) where
  same_offered : is_offered ts listed e ≡ is_offered_before_three ts listed e
  unfolding is_offered in_question is_offered_before_three
  same_offered = go (ltb 1 e.head.copies) (any (tombstone_of_tag e.head.tag) ts) (any (λ (p : List ℕ). same_bytes p (trunc8 e.head.tag)) listed)
    where
      go : (m t l : Bool) → ((m && not l) && not t) ≡ (m && not t && not l)
      go true true true = refl
      go true true false = refl
      go true false true = refl
      go true false false = refl
      go false t l = refl

-- no tag tombstoned: what is offered are the rows in question
free_offered : (listed : List (List ℕ)) (e : Envelope) → is_offered [] listed e ≡ in_question listed e
unfolding is_offered any
free_offered listed e = and-true (in_question listed e)

offers_same : (s : State) (peer : ContactId) → offers s peer ≡ offers_before_three s peer
unfolding offers offers_before_three
offers_same s peer =
    ap (λ (p : Envelope → Bool). map halved (filter p (envelopes s.own s.carried peer))) (λ i e. same_offered s.tombstones s.session.exchange.listed e i)

-- ---- the envelopes among the replies

no_envelope_lem : {A : Type 0} (f : A → List Reply) → ((x : A) → count_by is_envelope (f x) ≡ 0) → (xs : List A) → count_by is_envelope (flat_map f xs) ≡ 0
unfolding flat_map count_by
no_envelope_lem f h [] = refl
no_envelope_lem f h (x ∷ xs) = omega (arith, count_append is_envelope (f x) (flat_map f xs), h x, no_envelope_lem f h xs)

fetch_none : (bad : List BadTag) (ts : List Tombstone) (window : List Reachable) (peer : ContactId) (prefix : List ℕ) → count_by is_envelope (fetch_for bad ts window peer prefix) ≡ 0
unfolding fetch_for count_by
fetch_none bad ts window peer prefix = go (lookup window prefix)
  where
    by : (b : Bool) (tag : List ℕ) → count_by is_envelope (cond b [] (fetch_reply tag ∷ [])) ≡ 0
    by true tag = refl
    by false tag = refl

    go : (f : Option ℕ)
        → count_by is_envelope (match_found f (λ i. cond (not_fetched bad ts peer (get_or window i no_reachable).tag) [] (fetch_reply (get_or window i no_reachable).tag ∷ [])) []) ≡ 0
    go (Some i) = by (not_fetched bad ts peer (get_or window i no_reachable).tag) (get_or window i no_reachable).tag
    go None = refl

tomb_none : (ts : List Tombstone) (prefix : List ℕ) → count_by is_envelope (tomb_for ts prefix) ≡ 0
unfolding tomb_for count_by
tomb_none ts prefix = go (find (has_prefix prefix) ts)
  where
    go : (o : Option Tombstone) → count_by is_envelope (match_some o (λ t. tomb_reply t.tag t.s ∷ []) []) ≡ 0
    go (Some t) = refl
    go None = refl

each_envelope : (es : List Envelope) → count_by is_envelope (map reply_for es) ≡ length es
unfolding count_by
each_envelope [] = refl
each_envelope (e ∷ es) = ap suc (each_envelope es)

module _ (s : State) (window : List Reachable) (peer : ContactId) where
  envelopes_counted : count_by is_envelope (answer_inventory_before_three s window peer).replies ≡ length (offers_before_three s peer)
  unfolding answer_inventory_before_three
  envelopes_counted =
      let listed : List (List ℕ) = s.session.exchange.listed in
      let fetches : List Reply = flat_map (fetch_for s.bad_tags s.tombstones window peer) listed in
      let tombs : List Reply = flat_map (tomb_for s.tombstones) listed in
      omega (
        arith,
        count_append is_envelope (fetches ++ tombs) (map reply_for (offers_before_three s peer)),
        count_append is_envelope fetches tombs,
        no_envelope_lem (fetch_for s.bad_tags s.tombstones window peer) (fetch_none s.bad_tags s.tombstones window peer) listed,
        no_envelope_lem (tomb_for s.tombstones) (tomb_none s.tombstones) listed,
        each_envelope (offers_before_three s peer),
      )

  -- the answer but for its number
  same_answer : telling [] (answer_inventory s window peer) ≡ answer_inventory_before_three s window peer
  unfolding answer_inventory answer_inventory_before_three
  same_answer = rw (offers_same s peer)

-- of the holdings without tombstones
searched_rows_lem : (s : State) (peer : ContactId) → map halved (searched_rows s peer) ≡ offers_before_three (untombstoned s) peer
unfolding searched_rows offers_before_three apply
searched_rows_lem s peer =
    let listed : List (List ℕ) = s.session.exchange.listed in
    ap (λ (p : Envelope → Bool). map halved (filter p (envelopes s.own s.carried peer))) (λ i e. (sym (free_offered listed e) ∙ same_offered [] listed e) i)

-- ---- every call

module _ (s : State) (replies : ℕ) (window : List ℕ) (peer : ContactId) (listed : List ℕ) where
  abbrev C : Call
  C = Calls.inventory_received replies window peer listed

  -- whether a terminator is answered does not hang on tombstones
  answered_same : (step s C).answer ≡ (step (untombstoned s) C).answer
  unfolding step tests perform receive_inventory receive_inventory_tests answer_inventory list_more apply
  answered_same = go (tested (tests s C))
    where
      alike : (many ends : Bool)
          → (cond many (only malformed) (cond ends (answer_inventory s (window_rows window) peer) (list_more s.session.exchange (prefix_rows listed)))).answer
          ≡ (cond many (only malformed) (cond ends (answer_inventory (untombstoned s) (window_rows window) peer) (list_more s.session.exchange (prefix_rows listed)))).answer
      alike true ends = refl
      alike false true = refl
      alike false false = refl

      go : Tested (tests s C) → (step s C).answer ≡ (step (untombstoned s) C).answer
      go (refuses why h) = ap (λ (o : Result). o.answer) (h _ ∙ sym (h _))
      go (passes h) =
          ap (λ (o : Result). o.answer) (h _) ∙ alike (too_many s.session.exchange (length (prefix_rows listed))) (eqb (length (prefix_rows listed)) 0)
          ∙ sym (ap (λ (o : Result). o.answer) (h _))

untombstoned_too : (s : State) (c : Call) → Terminator s c → Terminator (untombstoned s) c
untombstoned_too s c t = record {
  call = t.call;
  empty = t.empty;
  answered = subst (λ (z : Call). (step (untombstoned s) z).answer ≡ done) (sym t.call.is)
      (sym (answered_same s t.call.replies t.call.window t.call.peer t.call.listed) ∙ subst (λ (z : Call). (step s z).answer ≡ done) t.call.is t.answered);
}

told_count : (s : State) (c : Call) (t : Terminator s c) → (step s c).told ≡ length (searched_rows s t.call.peer) ∷ []
unfolding answer_inventory
told_count s c t = ap (λ (o : Result). o.told) (terminator_answers answer_inventory_before_three s c t).0

counted : (s : State) (c : Call) → Terminator s c → (step s c).told ≡ count_by is_envelope (step_before_three (untombstoned s) c).replies ∷ []
unfolding untombstoned_too
counted s c t =
    let u : State = untombstoned s in
    let e : (step_before_three u c).replies ≡ (answer_inventory_before_three u (window_rows t.call.window) t.call.peer).replies =
    ap (λ (o : Result). o.replies) (terminator_answers answer_inventory_before_three u c (untombstoned_too s c t)).1 in
    told_count s c t
    ∙ ap (λ (n : ℕ). n ∷ [])
    (sym (length-map (searched_rows s t.call.peer) halved) ∙ ap length (searched_rows_lem s t.call.peer) ∙ sym (ap (count_by is_envelope) e ∙ envelopes_counted u (window_rows t.call.window) t.call.peer))

abbrev Untold : Result → Type 0
Untold o = o.told ≡ []

-- a call tells nothing, or is a terminator: any other inventory is answered alike, whatever terminators are
untold : (s : State) (c : Call) → ((step s c).told ≡ []) ⊎ Terminator s c
unfolding step step_before perform_before receive_inventory_before list_more
untold s c =
    ⊎_elim (λ p. inl (of_step Untold (tests s c) (perform s c) (λ why. refl) p.untold)) (λ i. rw i.is (⊎_elim (λ e. inl (ap (λ (o : Result). o.told) e ∙ listing i)) inr (either (λ t window peer. only done) s _)))
    (by_call s c)
  where
    listing : {c : Call} (i : IsInventory c) → (step_before (λ t window peer. only done) s (Calls.inventory_received i.replies i.window i.peer i.listed)).told ≡ []
    listing i =
        of_step Untold (tests s (Calls.inventory_received i.replies i.window i.peer i.listed)) _ (λ why. refl)
        (by_test Untold (too_many s.session.exchange (length (prefix_rows i.listed))) refl (by_test Untold (eqb (length (prefix_rows i.listed)) 0) refl refl))

same_result : (s : State) (c : Call) → telling [] (step s c) ≡ step_before_three s c
same_result s c = ⊎_elim (λ e. ⊎_elim (λ n. sym (ap (λ (ns : List ℕ). telling ns (step s c)) n) ∙ e) ended (untold s c)) ended (either answer_inventory_before_three s c)
  where
    ended : Terminator s c → telling [] (step s c) ≡ step_before_three s c
    ended t =
        let e = terminator_answers answer_inventory_before_three s c t in
        ap (telling []) e.0 ∙ same_answer s (window_rows t.call.window) t.call.peer ∙ sym e.1

at_most : (s : State) (c : Call) → Good s → searched_count (step s c) ≤ 512
unfolding searched_rows
at_most s c g =
    ⊎_elim (λ n. omega (arith, ap (λ (ns : List ℕ). get_or ns 0 0) n)) (λ t.
    let es : List Envelope = envelopes s.own s.carried t.call.peer in
    omega (arith, ap (λ (ns : List ℕ). get_or ns 0 0) (told_count s c t), length_filter (in_question s.session.exchange.listed) es, envelopes_few s g t.call.peer))
    (untold s c)

pub only_counted : OnlyCounted
only_counted = record {
  rows = searched_rows_lem;
  count = counted;
  others = λ s c n. ⊎_elim (λ e. e) (λ t. absurd (n t)) (untold s c);
  same = same_result;
  holdings = same_run answer_inventory_before_three (λ s window peer. ap (λ (o : Result). o.change) (same_answer s window peer));
  few = at_most;
}
