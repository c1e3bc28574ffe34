-- Number 5, no row for a tombstone, by the number that the host gets alone: with 1,024 rows for them or more no call but load answers it.
-- Assumes nothing.
use Rattle.std.proofs.Common.{◌≡◌, ℕ, ◌/◌, ◌≤◌, ◌≢◌, List, length, sym, ap, ◌∙◌, arith}
use Rattle.courier_core.proofs.NumberLaws.{of_one_refusal}
use Rattle.courier_core.specs.declared.Refusal.TheVariants as refusal
use Rattle.rows.specs.Rows.{tombstone_width}
use Rattle.rows.specs.Limits.{max_tombstones}
use Rattle.model.specs.State.{State}
use Rattle.model.specs.Calls.{Call, Result, tomb, opened, stored_tombstone, refused, answer_of}
use Rattle.model.specs.Step.{step}
use Rattle.model.specs.Areas.{Areas, AnswerAreas, view, no_areas}
use Rattle.model.proofs.RoomLaws.{never_5_areas}
use Rattle.stored_tombstone.specs.StoredTombstone.{says_stored}
use Rattle.tombstones.specs.Tombstones.{tombstones_lent}
use Rattle.answers.specs.Says.{says as tomb_says}
use Rattle.tombs.specs.Tombs.{tomb_lent}
use Rattle.reports.specs.Reports.{opened_lent}
use Rattle.boundary.specs.Boundary.{Kept, device_kept}
use Rattle.host_answers.specs.HostAnswers.{acted_answer, tomb_answer}
use Rattle.host_answers.specs.declared.Answer.{Answer as HostAnswer}
use Rattle.goosetable.specs.Hosts.{Hosts, HostsCall, contact_id}
use Rattle.goosetable.proofs.StayLaws.{Refuses, Tells}
use Rattle.goosetable.proofs.TellLaws.{acted_tells, tomb_tells}

-- of each exported call by its law of TellLaws, on any areas with any bytes, loaded or not
pub never_5_said : {D S A : Type 0} (k : Kept D S) {host : A → HostAnswer} {says : Result → A} (c : Call) {r : A} {d x : D} {before after : S → Areas → Areas} {lent back : AnswerAreas}
    → Tells host says → Hosts k host says (λ (s : State). step s c) r d x before after lent back
    → (a : Areas) → max_tombstones ≤ length (before (k.holds d) a).tombstones / tombstone_width → (host r).said ≢ 5
never_5_said k {host} {says} c {r} {d} {before = before} tells h a rows e =
    let b : Areas = before (k.holds d) a in
    let said : (host (says (step (view b) c))).said ≡ 5 = ap (λ q. (host q).said) (sym (h.does a).answer) ∙ e in
    let t : Refuses (step (view b) c).answer _ = tells (step (view b) c) (omega (arith, said), omega (arith, said)) in
    never_5_areas b rows c (t.is ∙ ap refused (of_one_refusal t.why refusal.NoTombstoneRow (sym t.number ∙ said)))

-- ---- the three calls that may add a tombstone

module _ {r : HostAnswer} {d x to to' : List ℕ} {lent back : AnswerAreas} (actions peer : ℕ) (tag secret : List ℕ) (rows : max_tombstones ≤ length to / tombstone_width) where
  pub tomb_never_5 : {contacts own own' carried carried' : List ℕ}
      → HostsCall device_kept (λ o. tomb_answer (length o.replies) (answer_of tomb_says o)) (tomb actions (contact_id peer) tag secret) r d x (λ v. tomb_lent v contacts own carried to)
      (λ v. tomb_lent v contacts own' carried' to') lent back → r.said ≢ 5
  tomb_never_5 h = never_5_said device_kept _ tomb_tells h no_areas rows

  pub opened_never_5 : (replies expiry : ℕ) {contacts : List ℕ}
      → HostsCall device_kept (λ o. tomb_answer (length o.replies) (answer_of tomb_says o)) (opened replies actions (contact_id peer) tag secret expiry) r d x (λ v. opened_lent v contacts to)
      (λ v. opened_lent v contacts to') lent back → r.said ≢ 5
  opened_never_5 replies expiry h = never_5_said device_kept _ tomb_tells h no_areas rows

  pub stored_never_5 : (expiry : ℕ)
      → HostsCall device_kept (λ o. acted_answer (answer_of says_stored o)) (stored_tombstone actions tag secret expiry) r d x (λ v. tombstones_lent v to) (λ v. tombstones_lent v to') lent back
      → r.said ≢ 5
  stored_never_5 expiry h = never_5_said device_kept _ acted_tells h no_areas rows
