-- From what a call does by value to what it does on small areas, whatever they are.
-- Assumes nothing.
use Rattle.std.proofs.Common.{◌≡◌, ℕ, List, sym, refl, ap, ◌∙◌, subst}
use Rattle.std.specs.Prelude.{Result as Outcome}
use Rattle.courier_core.specs.declared.Refusal.{Refusal}
use Rattle.model.specs.State.{State}
use Rattle.model.specs.Calls.{Result, answer_of}
use Rattle.model.specs.Areas.{Areas, AnswerAreas, Written, Retold, view}
use Rattle.model.proofs.CallLaws.{retold}
use Rattle.rows.specs.declared.Device.{Device}
use Rattle.rows.specs.declared.Exchange.{Exchange}
use Rattle.boundary.specs.Boundary.{Kept, device_read, device_kept, device_of, exchange_of, HoldsDevice, HoldsExchange, exchange_kept, both_kept}
use Rattle.host_answers.specs.declared.Answer.{Answer}
use Rattle.goosetable.specs.Hosts.{Counted, Hosts}
use Rattle.goosetable.proofs.StayLaws.{Tells, OnlyAnswers, Places, held_by, refused_all}

-- A call of e, which the small areas d hold, leaves y; y is put into them, so that they are x. Its answer q, turned into f q, is what is said of the model's result.
-- `place` finds in all areas what the small ones hold.
pub hosts : {D S A B : Type 0} (k : Kept D S) {host : B → Answer} (f : Outcome A Refusal → B) {says : Result → A} {says' : Result → B} {call : State → Result} {q : Outcome A Refusal} {r : B} {d x : D} {e y : S}
    {before after : S → Areas → Areas} {lent back : AnswerAreas} → Tells host says' → OnlyAnswers call → ((s : State) → f (answer_of says (call s)) ≡ says' (call s)) → ((s : State) → Counted (host (says' (call s))) (call s))
    → (place : Areas → S) → Places place before after → (k.holds x ≡ k.holds d → x ≡ d) → r ≡ f q → e ≡ k.holds d → x ≡ k.put d y → k.holds x ≡ y
    → ((a : Areas) → Written says (call (view (before e a))) q (before e a) (after y a) lent back) → Hosts k host says' call r d x before after lent back
hosts k {host} f {says} {says'} {call} {q} {r} {d} {x} {e} {y} {before} {after} {lent} {back} tells answers same counts place p stays r-is e-is x-is x-holds w =
    let does : (a : Areas) → Retold says' (call (view (before (k.holds d) a))) r (before (k.holds d) a) (after (k.holds x) a) lent back = λ a.
    let held : Written says (call (view (before (k.holds d) a))) q (before (k.holds d) a) (after (k.holds x) a) lent back =
    subst (λ s. Written says (call (view (before s a))) q (before s a) (after (k.holds x) a) lent back) e-is
    (subst (λ s. Written says (call (view (before e a))) q (before e a) (after s a) lent back) (sym x-holds) (w a)) in
    retold f r-is (same (view (before (k.holds d) a))) held in
    record {
      does = does;
      small = x-is ∙ ap (k.put d) (sym x-holds);
      counted = λ a. subst (λ q. Counted (host q) (call (view (before (k.holds d) a)))) (sym (does a).answer) (counts (view (before (k.holds d) a)));
      refusal = λ n. refused_all k says' call r d x before after lent back does host tells answers n stays place p;
    }

-- ---- by the small areas

module _ {A B : Type 0} {host : B → Answer} (f : Outcome A Refusal → B) {says : Result → A} {says' : Result → B} {call : State → Result} (tells : Tells host says') (answers : OnlyAnswers call)
    (same : (s : State) → f (answer_of says (call s)) ≡ says' (call s)) (counts : (s : State) → Counted (host (says' (call s))) (call s)) {q : Outcome A Refusal} {r : B} {lent back : AnswerAreas} (r-is : r ≡ f q) where
  -- a device that is only read, and one that may change
  module _ {d : List ℕ} {dev : Device} {before after : Device → Areas → Areas} (p : Places (λ (z : Areas). z.device) before after) (dev-is : dev ≡ device_of d) where
    pub hosts_read : ((a : Areas) → Written says (call (view (before dev a))) q (before dev a) (after dev a) lent back) → Hosts device_read host says' call r d d before after lent back
    hosts_read w = hosts device_read f tells answers same counts (λ (z : Areas). z.device) p (λ e. refl) r-is dev-is refl (sym dev-is) w

    pub hosts_device : {x : List ℕ} {dy : Device} → HoldsDevice d dy x
        → ((a : Areas) → Written says (call (view (before dev a))) q (before dev a) (after dy a) lent back) → Hosts device_kept host says' call r d x before after lent back
    hosts_device put w = hosts device_kept f tells answers same counts (λ (z : Areas). z.device) p (λ e. put.stays (sym put.holds ∙ e)) r-is dev-is put.bytes put.holds w

  -- with the exchange in an area beside the device's, which is only read, or put too
  module _ {d e z : List ℕ} {dev : Device} {ex ey : Exchange} {before after : Device × Exchange → Areas → Areas} (p : Places held_by before after) (dev-is : dev ≡ device_of d)
      (ex-is : ex ≡ exchange_of e) (put : HoldsExchange e ey z) where
    pub hosts_exchange : ((a : Areas) → Written says (call (view (before (dev, ex) a))) q (before (dev, ex) a) (after (dev, ey) a) lent back)
        → Hosts exchange_kept host says' call r (d, e) (d, z) before after lent back
    hosts_exchange w =
        hosts exchange_kept f tells answers same counts held_by p (λ g i. (d, put.stays (sym put.holds ∙ ap (λ (s : Device × Exchange). s.1) g) i)) r-is (λ i. (dev-is i, ex-is i)) (λ i. (d, put.bytes i))
        (λ i. (sym dev-is i, put.holds i)) w

    pub hosts_both : {x : List ℕ} {dy : Device} → HoldsDevice d dy x
        → ((a : Areas) → Written says (call (view (before (dev, ex) a))) q (before (dev, ex) a) (after (dy, ey) a) lent back)
        → Hosts both_kept host says' call r (d, e) (x, z) before after lent back
    hosts_both one w =
        hosts both_kept f tells answers same counts held_by p
        (λ g i. (one.stays (sym one.holds ∙ ap (λ (s : Device × Exchange). s.0) g) i, put.stays (sym put.holds ∙ ap (λ (s : Device × Exchange). s.1) g) i)) r-is (λ i. (dev-is i, ex-is i))
        (λ i. (one.bytes i, put.bytes i)) (λ i. (one.holds i, put.holds i)) w
