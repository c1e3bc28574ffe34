-- What else leaves every byte: "Malformed .. leaves everything unchanged", of the two calls that say it beside a failure; and a window call that is refused.
-- Assumes nothing.
use Rattle.std.proofs.Common.{◌≡◌, ℕ, ◌≤◌, Bool, true, false, eqb, List, [], ◌∷◌, length, sym, refl, ap, ◌∙◌, arith}
use Rattle.octets.specs.Bytes.{Bytes}
use Rattle.courier_core.specs.Core.{first_of}
use Rattle.courier_core.specs.declared.ContactId.{ContactId}
use Rattle.courier_core.specs.declared.Refusal.{Refusal}
use Rattle.rows.specs.declared.Device.{Device}
use Rattle.rows.specs.declared.Exchange.{Exchange}
use Rattle.chain.specs.Chain.{window, window_tests, window_says, window_area}
use Rattle.std.specs.Prelude.{Ok, Err}
use Rattle.model.specs.State.{State}
use Rattle.model.specs.Calls.{Result, tomb, inventory_received, malformed, only, answer_of}
use Rattle.model.specs.Window.{prefix_rows}
use Rattle.model.specs.Exchange.{too_many, answer_inventory, list_more, receive_inventory}
use Rattle.model.specs.Tombs.{Met, meets, turn, end_own, receive_tomb}
use Rattle.model.specs.Step.{perform, step}
use Rattle.model.specs.Areas.{Areas, AnswerAreas, view}
use Rattle.model.proofs.RefusalLaws.{of_step, by_test}
use Rattle.inventory.specs.Inventory.{received_says}
use Rattle.answers.specs.Says.{says as tomb_says}
use Rattle.boundary.specs.Boundary.{device_kept, exchange_kept}
use Rattle.boundary.proofs.AreaLaws.{device_stays, exchange_stays}
use Rattle.host_answers.specs.HostAnswers.{tomb_answer, inventory_answer, wrote_answer}
use Rattle.host_answers.specs.declared.Answer.{Answer}
use Rattle.goosetable.specs.Hosts.{LeavesAll, HostsCall}
use Rattle.goosetable.proofs.StayLaws.{Places, held_by, leaves_all}

-- ---- 128 is said of a result that only says so

abbrev Malformed : (Result → Answer) → Result → Type 0
Malformed says o = (says o).said ≡ 128 → o ≡ only malformed

abbrev tomb_replies : Result → Answer
tomb_replies o = tomb_answer (length o.replies) (answer_of tomb_says o)

meeting : (s : State) (tag secret : List ℕ) (m : Met) → Malformed tomb_replies (receive_tomb s tag secret m)
unfolding receive_tomb turn end_own
meeting s tag secret m = grind arith

tomb_malformed : (actions : ℕ) (peer : ContactId) (tag secret : List ℕ) (s : State) → Malformed tomb_replies (step s (tomb actions peer tag secret))
unfolding step perform
tomb_malformed actions peer tag secret s =
    of_step (Malformed tomb_replies) _ _ (λ why. grind arith)
    (meeting s tag secret (meets s.own s.carried tag secret))

abbrev inventory_replies : Result → Answer
inventory_replies o = inventory_answer (answer_of received_says o)

inventory_malformed : (replies : ℕ) (area : List ℕ) (peer : ContactId) (listed : List ℕ) (s : State) → Malformed inventory_replies (step s (inventory_received replies area peer listed))
unfolding step perform receive_inventory answer_inventory list_more
inventory_malformed replies area peer listed s =
    of_step (Malformed inventory_replies) _ _ (λ why. grind arith)
    (by_test (Malformed inventory_replies) (too_many s.session.exchange (length (prefix_rows listed))) (λ e. refl)
    (by_test (Malformed inventory_replies) (eqb (length (prefix_rows listed)) 0) (λ e. absurd (omega (arith, e))) (λ e. absurd (omega (arith, e)))))

-- ---- on areas

pub tomb_leaves : (actions : ℕ) (peer : ContactId) (tag secret : List ℕ) {r : Answer} {d x : List ℕ} {before after : Device → Areas → Areas} {lent back : AnswerAreas}
    → HostsCall device_kept tomb_replies (tomb actions peer tag secret) r d x before after lent back → Places (λ (z : Areas). z.device) before after → length d ≡ 60 → Bytes d
    → r.said ≡ 128 → LeavesAll device_kept tomb_replies malformed r d x before after lent back
tomb_leaves actions peer tag secret {r} {d} {x} {before} {after} {lent} {back} h p l b e =
    leaves_all device_kept tomb_replies (λ s. step s (tomb actions peer tag secret)) r d x before after lent back h.does (λ a. malformed)
    (λ a. tomb_malformed actions peer tag secret (view (before (device_kept.holds d) a)) (sym (ap (λ (q : Answer). q.said) (h.does a).answer) ∙ e))
    (λ g. h.small ∙ ap (device_kept.put d) g ∙ device_stays d l b) (λ (z : Areas). z.device) p

pub inventory_leaves_lem : (replies : ℕ) (area : List ℕ) (peer : ContactId) (listed : List ℕ) {r : Answer} {d e x : List ℕ} {before after : Device × Exchange → Areas → Areas} {lent back : AnswerAreas}
    → HostsCall exchange_kept inventory_replies (inventory_received replies area peer listed) r (d, e) (d, x) before after lent back → Places held_by before after → length e ≡ 26 → Bytes e
    → r.said ≡ 128 → LeavesAll exchange_kept inventory_replies malformed r (d, e) (d, x) before after lent back
inventory_leaves_lem replies area peer listed {r} {d} {e} {x} {before} {after} {lent} {back} h p l b said =
    leaves_all exchange_kept inventory_replies (λ s. step s (inventory_received replies area peer listed)) r (d, e) (d, x) before after lent back h.does (λ a. malformed)
    (λ a. inventory_malformed replies area peer listed (view (before (exchange_kept.holds (d, e)) a)) (sym (ap (λ (q : Answer). q.said) (h.does a).answer) ∙ said))
    (λ g. h.small ∙ ap (exchange_kept.put (d, e)) g ∙ (λ i. (d, exchange_stays e l b i))) held_by p

-- ---- the window call

tested : (ts : List (Bool × Refusal)) (n : ℕ) (answer rest : List ℕ) → 1 ≤ (wrote_answer (first_of ts Err (Ok n))).said → first_of ts (λ why. answer) rest ≡ answer
tested [] n answer rest h = absurd (omega (arith, h))
tested ((true, why) ∷ ts) n answer rest h = refl
tested ((false, why) ∷ ts) n answer rest h = tested ts n answer rest h

pub window_leaves : (answer skipped chains : List ℕ) → 1 ≤ (wrote_answer (window_says answer skipped chains)).said → window_area answer skipped chains ≡ answer
unfolding window_says window_area
window_leaves answer skipped chains h = tested (window_tests answer skipped chains) (length (window skipped chains)) answer _ h
