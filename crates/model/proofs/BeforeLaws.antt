-- Every call beside the rules before a request: its answer is the same, or it is a terminator that is answered; and where what a terminator
-- changes is the same, so is the post after any list of calls.
-- Assumes nothing.
use Rattle.std.proofs.Common.{◌≡◌, ℕ, Bool, true, false, eqb, ◌⊎◌, List, [], ◌∷◌, length, sym, refl, ap, ◌∙◌, subst, inl, inr, ⊎_elim, eqb-true}
use Rattle.std.proofs.lemmas.List.{nil_from_length}
use Rattle.courier_core.specs.declared.ContactId.{ContactId}
use Rattle.courier_core.specs.declared.Refusal.{Refusal}
use Rattle.rows.specs.declared.Reachable.{Reachable}
use Rattle.model.specs.State.{State}
use Rattle.model.specs.Calls
use Rattle.model.specs.Calls.{Call, Result, only, done, malformed, refused, step_of}
use Rattle.model.specs.Window.{window_rows, prefix_rows}
use Rattle.model.specs.Exchange.{answer_inventory, too_many, receive_inventory}
use Rattle.model.specs.Step.{Post, Lent, tests, perform, step, state_for, answer_to, after, run, left_by}
use Rattle.model.specs.Before.{receive_inventory_before, perform_before, step_before, after_before, run_before}
use Rattle.model.proofs.RefusalLaws.{IsInventory}

-- an empty inventory that is answered
pub record Terminator (s : State) (c : Call) : Type 0 where
  pub call : IsInventory c
  pub empty : prefix_rows call.listed ≡ []
  pub answered : (step s c).answer ≡ done

-- tests in order: one refuses whatever is performed, or none does
pub data Tested (ts : List (Bool × Refusal)) : Type 0 where
  refuses : (why : Refusal) → ((o : Result) → step_of ts o ≡ only (refused why)) → Tested ts
  passes : ((o : Result) → step_of ts o ≡ o) → Tested ts

pub tested : (ts : List (Bool × Refusal)) → Tested ts
unfolding step_of
tested [] = passes (λ o. refl)
tested ((true, why) ∷ ts) = refuses why (λ o. refl)
tested ((false, why) ∷ ts) = go (tested ts)
  where
    go : Tested ts → Tested ((false, why) ∷ ts)
    go (refuses w h) = refuses w h
    go (passes h) = passes h

-- ---- every call, beside what a terminator was answered with

module _ (answer : State → List Reachable → ContactId → Result) where
  module _ (s : State) (replies : ℕ) (window : List ℕ) (peer : ContactId) (listed : List ℕ) where
    abbrev C : Call
    C = Calls.inventory_received replies window peer listed

    abbrev tags : List (List ℕ)
    tags = prefix_rows listed

    inventory_either : (step s C ≡ step_before answer s C) ⊎ Terminator s C
    unfolding step step_before tests perform perform_before receive_inventory receive_inventory_before answer_inventory
    inventory_either = go (too_many s.session.exchange (length tags)) refl (eqb (length tags) 0) refl (tested (tests s C))
      where
        go : (many : Bool) → too_many s.session.exchange (length tags) ≡ many → (ends : Bool) → eqb (length tags) 0 ≡ ends → Tested (tests s C)
            → (step s C ≡ step_before answer s C) ⊎ Terminator s C
        go true m ends e t = inl (rw m)
        go false m false e t = inl (rw (m, e))
        go false m true e (refuses why h) = inl (h _ ∙ sym (h _))
        go false m true e (passes h) = inr (record {
          call = record { replies = replies; window = window; peer = peer; listed = listed; is = refl };
          empty = nil_from_length tags (eqb-true (length tags) 0 e);
          answered = ap (λ (o : Result). o.answer) (h _) ∙ rw (m, e);
        })

    terminator_is : tags ≡ [] → (step s C).answer ≡ done → (step s C ≡ answer_inventory s (window_rows window) peer) × (step_before answer s C ≡ answer s (window_rows window) peer)
    unfolding step step_before tests perform perform_before receive_inventory receive_inventory_before
    terminator_is n d = go (tested (tests s C)) (too_many s.session.exchange 0) refl
      where
        go : Tested (tests s C) → (many : Bool) → too_many s.session.exchange 0 ≡ many
            → (step s C ≡ answer_inventory s (window_rows window) peer) × (step_before answer s C ≡ answer s (window_rows window) peer)
        go (refuses why h) many m = let e = sym d ∙ ap (λ (o : Result). o.answer) (h _) in cc
        go (passes h) true m =
            let e : done ≡ malformed = sym d ∙ ap (λ (o : Result). o.answer) (h _) ∙ rw (n, m) in
            cc
        go (passes h) false m = (h _ ∙ rw (n, m), h _ ∙ rw (n, m))

  -- every call's answer is the same, or the call is a terminator
  pub either : (s : State) (c : Call) → (step s c ≡ step_before answer s c) ⊎ Terminator s c
  unfolding step step_before perform_before
  either s (Calls.contact id v) = inl refl
  either s (Calls.setting enabled copies lifetime) = inl refl
  either s (Calls.clock seconds) = inl refl
  either s (Calls.open_exchange peer) = inl refl
  either s (Calls.envelope replies actions window peer head ct) = inl refl
  either s (Calls.inventory_received replies window peer listed) = inventory_either s replies window peer listed
  either s (Calls.fetch replies peer tag) = inl refl
  either s (Calls.custody_answer actions peer tag code) = inl refl
  either s (Calls.tomb actions peer tag secret) = inl refl
  either s (Calls.opened replies actions peer tag secret expiry) = inl refl
  either s (Calls.failed peer tag) = inl refl
  either s (Calls.stored_tombstone actions tag secret expiry) = inl refl
  either s (Calls.add_own id msgno key dir generation idx secret ct) = inl refl
  either s (Calls.maintenance actions) = inl refl
  either s (Calls.inventory_of_ours prefixes peer) = inl refl
  either s (Calls.row_blob blob slot) = inl refl
  either s (Calls.save file) = inl refl
  either s (Calls.page area number) = inl refl

  -- a terminator's two answers
  pub terminator_answers : (s : State) (c : Call) (t : Terminator s c)
      → (step s c ≡ answer_inventory s (window_rows t.call.window) t.call.peer) × (step_before answer s c ≡ answer s (window_rows t.call.window) t.call.peer)
  terminator_answers s c t =
      rw t.call.is (terminator_is s t.call.replies t.call.window t.call.peer t.call.listed t.empty (subst (λ (z : Call). (step s z).answer ≡ done) t.call.is t.answered))

  -- ---- a list of calls, if what a terminator changes is the same

  module _ (same : (s : State) (window : List Reachable) (peer : ContactId) → (answer_inventory s window peer).change ≡ (answer s window peer).change) where
    same_change : (s : State) (c : Call) → (step s c).change ≡ (step_before answer s c).change
    same_change s c =
        ⊎_elim (ap (λ (o : Result). o.change)) (λ t.
        let e = terminator_answers s c t in
        ap (λ (o : Result). o.change) e.0 ∙ same s (window_rows t.call.window) t.call.peer ∙ sym (ap (λ (o : Result). o.change) e.1))
        (either s c)

    same_after : (p : Post) (l : Lent) → after p l ≡ after_before answer p l
    unfolding after answer_to after_before
    same_after p l =
        ap (left_by p l) (same_change (state_for p l) l.call)

    pub same_run : (p : Post) (ls : List Lent) → run p ls ≡ run_before answer p ls
    unfolding run run_before
    same_run p [] = refl
    same_run p (l ∷ ls) = ap (λ (q : Post). run q ls) (same_after p l) ∙ same_run (after_before answer p l) ls
