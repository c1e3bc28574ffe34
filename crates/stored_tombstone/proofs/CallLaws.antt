-- Laws of the call stored tombstone: each way out as the model's step, and what it leaves.
-- Assumes nothing.
use Rattle.std.proofs.Common.{◌≡◌, ℕ, ◌+◌, ◌*◌, ◌/◌, Bool, true, false, Result, Ok, Err, ltb, List, length, sym, refl, ap, ◌∙◌}
use Rattle.courier_core.specs.declared.Refusal.{Refusal}
use Rattle.courier_core.specs.declared.Refusal.TheVariants as refusal
use Rattle.octets.specs.Bytes.{splice}
use Rattle.table.specs.Rows.{join, written}
use Rattle.table.specs.Codec.{with_table}
use Rattle.rows.specs.declared.Device.{Device}
use Rattle.model.specs.Calls.{Call, Result as Outcome, step_of, stored_tombstone}
use Rattle.model.specs.Tombs.{store_actions, stored_tests, stored}
use Rattle.model.specs.Step.{tests, perform, step}
use Rattle.model.specs.Areas.{Areas, Written, view, answer_areas}
use Rattle.model.proofs.CallLaws.{refused_here, not_here, answering_call, refused_call}
use Rattle.model.specs.Lent.{actions_lent}
use Rattle.tombstones.specs.declared.Storing.{Storing}
use Rattle.tombstones.specs.Tombstones.{ChoiceOf, store_tests, Stores, tombstones_lent}
use Rattle.tombstones.proofs.CallLaws.{cannot_store, can_store, lent_reads, areas_stored, with_actions}
use Rattle.stored_tombstone.specs.StoredTombstone.{says_stored}

module _ (d : Device) (tag secret : List ℕ) (expiry : ℕ) (to ac : List ℕ) (a : Areas) where
  abbrev B : Areas
  B = tombstones_lent d to a

  abbrev C : Call
  C = stored_tombstone (length ac) tag secret expiry

  abbrev short : Bool
  short = ltb (length ac) (13 * (512 + length to / 44))

  abbrev Says : Result ℕ Refusal → Device → (x y : List ℕ) → Type 0
  Says v r x y = Written says_stored (step (view B) C) v B (tombstones_lent r x a) (actions_lent ac) (actions_lent y)

  pub says_short : true ≡ short → Says (Err refusal.ShortArea) d to ac
  unfolding step tests perform stored_tests view
  says_short e = refused_call refusal.ShortArea (refused_here _ _ _ (sym e)) refl refl

  module _ (long : false ≡ short) where
    past : {o : Outcome} → step_of (store_tests (view B) tag) (stored (view B) tag secret expiry) ≡ o → step (view B) C ≡ o
    unfolding step tests perform stored_tests store_tests view
    past e = not_here _ _ _ (sym long) e

    pub says_refused : (why : Refusal) → ChoiceOf d to tag (Err why) → Says (Err why) d to ac
    says_refused why q = refused_call why (past (cannot_store (view B) tag _ why (q (view B) (lent_reads d to a)))) refl refl

    pub says_stored_lem : (h : Storing) (r : Device) (n : ℕ) (x y : List ℕ) → ChoiceOf d to tag (Ok h) → Stores h d tag secret expiry 0 to ac r n x y → Says (Ok n) r x y
    unfolding stored answer_areas with_table written join splice
    says_stored_lem h r n x y q S =
        let k = can_store (view B) tag (stored (view B) tag secret expiry) h (q (view B) (lent_reads d to a)) in
        let D = S (view B) (lent_reads d to a) k.1 in
        answering_call (stored (view B) tag secret expiry) (past k.0) (ap Ok D.count) (areas_stored d to a (view B) tag secret expiry 0 ac D)
        (ap actions_lent (D.actions ∙ with_actions ac (store_actions (view B) tag)))
