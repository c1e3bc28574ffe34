-- Laws of the call tomb: each way out as the model's step, and what it leaves.
-- Assumes nothing.
use Rattle.std.proofs.Common.{◌≡◌, ℕ, ◌+◌, ◌*◌, ◌/◌, Bool, true, false, not, ltb, List, length, sym, refl, ap, ◌∙◌, Result, Ok, Err}
use Rattle.courier_core.specs.declared.ContactId.{ContactId}
use Rattle.courier_core.specs.declared.Refusal.{Refusal}
use Rattle.courier_core.specs.declared.Refusal.TheVariants as refusal
use Rattle.table.specs.Codec.{table_of}
use Rattle.rows.specs.declared.Device.{Device}
use Rattle.rows.specs.Rows.{contact_codec, own_codec, carried_codec, tombstone_codec}
use Rattle.model.specs.State.{nothing}
use Rattle.model.specs.Calls.{Call, Result as Outcome, malformed, done, step_of, tomb}
use Rattle.model.specs.Contacts.{known}
use Rattle.model.specs.Tombs as model
use Rattle.model.specs.Tombs.{meets, turn, no_row_to_meet, no_slot_to_meet, receive_tomb, tomb_tests}
use Rattle.model.specs.Step.{tests, perform, step}
use Rattle.model.specs.Areas.{Areas, AnswerAreas, Written, view, store, store_device, store_session}
use Rattle.model.specs.Lent.{contacts_in, own_in, carried_in, actions_lent}
use Rattle.model.proofs.CallLaws.{refused_here, not_here, no_test, quiet_call, refused_call}
use Rattle.tombstones.specs.declared.Storing.{Storing}
use Rattle.tombstones.specs.Tombstones.{ChoiceOf, store_tests}
use Rattle.tombstones.proofs.CallLaws.{cannot_store, can_store, lent_reads}
use Rattle.answers.specs.declared.Said.{Said}
use Rattle.answers.specs.declared.Said.TheVariants as said
use Rattle.answers.specs.Says.{says}
use Rattle.tombs.specs.Tombs.{met_tests, after_meeting, Ends, EndsBy, held_lent, own_lent, tomb_lent}

-- a call whose result is another's
pub as_step : {o p : Outcome} {r : Result Said Refusal} {before after : Areas} {lent back : AnswerAreas} → o ≡ p → Written says p r before after lent back → Written says o r before after lent back
as_step e w = rw e w

-- ---- a row that turns needs one of the R rows once room is made, and no new slot

module _ (d : Device) (i : ℕ) (tag secret carried to ac : List ℕ) (a : Areas) where
  abbrev H : Areas
  H = held_lent d carried to a

  abbrev used : Bool
  used = model.all_rows_used (length to / 44) (table_of tombstone_codec d.tombstones to)

  pub no_row : true ≡ used → Written says (after_meeting (view H) tag secret (model.carried_at i)) (Err refusal.NoTombstoneRow) H H (actions_lent ac) (actions_lent ac)
  unfolding view after_meeting met_tests no_row_to_meet
  no_row e = refused_call refusal.NoTombstoneRow (refused_here _ _ _ (sym e)) refl refl

  pub has_row : false ≡ used → {r : Result Said Refusal} {after : Areas} {back : AnswerAreas} → Written says (turn (view H) i tag secret) r H after (actions_lent ac) back
      → Written says (after_meeting (view H) tag secret (model.carried_at i)) r H after (actions_lent ac) back
  unfolding view after_meeting met_tests no_row_to_meet no_slot_to_meet receive_tomb
  has_row e w = as_step (not_here _ _ _ (sym e) (not_here _ _ _ refl (no_test _))) w

-- ---- an own row that ends: its tombstone is stored, or that is refused

module _ (d : Device) (i : ℕ) (tag secret own to ac : List ℕ) (a : Areas) where
  abbrev O : Areas
  O = own_lent d own to a

  pub not_ended : (why : Refusal) → ChoiceOf d to tag (Err why)
      → Written says (after_meeting (view O) tag secret (model.own_at i)) (Err why) O O (actions_lent ac) (actions_lent ac)
  unfolding after_meeting met_tests no_row_to_meet no_slot_to_meet receive_tomb store_tests
  not_ended why q = refused_call why (cannot_store (view O) tag (model.end_own (view O) i tag secret) why (q (view O) (lent_reads d to (own_in own a)))) refl refl

  pub is_ended : (h : Storing) → ChoiceOf d to tag (Ok h) → {r : Result Said Refusal} {after : Areas → Areas} {back : AnswerAreas}
      → EndsBy h i tag secret r (own_lent d own to) after (actions_lent ac) back
      → Written says (after_meeting (view O) tag secret (model.own_at i)) r O (after a) (actions_lent ac) back
  unfolding after_meeting met_tests no_row_to_meet no_slot_to_meet receive_tomb store_tests
  is_ended h q w =
      let k = can_store (view O) tag (model.end_own (view O) i tag secret) h (q (view O) (lent_reads d to (own_in own a))) in
      as_step k.0 (w a k.1)

-- ---- tomb

module _ (d : Device) (peer : ContactId) (tag secret contacts own carried to ac : List ℕ) (a : Areas) where
  abbrev B : Areas
  B = tomb_lent d contacts own carried to a

  abbrev C : Call
  C = tomb (length ac) peer tag secret

  abbrev short : Bool
  short = ltb (length ac) (13 * (512 + length to / 44))

  abbrev is_known : Bool
  is_known = known (table_of contact_codec d.contacts contacts) peer

  abbrev Tombs : Result Said Refusal → Device → (own' carried' to' ac' : List ℕ) → Type 0
  Tombs r d' own' carried' to' ac' = Written says (step (view B) C) r B (tomb_lent d' contacts own' carried' to' a) (actions_lent ac) (actions_lent ac')

  pub tomb_short : true ≡ short → Tombs (Err refusal.ShortArea) d own carried to ac
  unfolding step tests perform tomb_tests view
  tomb_short e = refused_call refusal.ShortArea (refused_here _ _ _ (sym e)) refl refl

  module _ (long : false ≡ short) where
    pub tomb_stranger : false ≡ is_known → Tombs (Err refusal.UnknownContact) d own carried to ac
    unfolding step tests perform tomb_tests view
    tomb_stranger k = refused_call refusal.UnknownContact (not_here _ _ _ (sym long) (refused_here _ _ _ (ap not (sym k)))) refl refl

    module _ (k : true ≡ is_known) {m : model.Met} (e : m ≡ meets (table_of own_codec d.own own) (table_of carried_codec d.carried carried) tag secret) where
      past : step (view B) C ≡ after_meeting (view B) tag secret m
      unfolding step tests perform tomb_tests after_meeting met_tests view
      past = not_here _ _ _ (sym long) (not_here _ _ _ (ap not (sym k)) (ap (after_meeting (view B) tag secret) (sym e)))

      pub tomb_turned : {r : Result Said Refusal} {d' : Device} {carried' to' ac' : List ℕ}
          → Ends tag secret m r (held_lent d carried to) (held_lent d' carried' to') (actions_lent ac) (actions_lent ac') → Tombs r d' own carried' to' ac'
      tomb_turned w = as_step past (w (contacts_in contacts (own_in own a)))

      pub tomb_ended : {r : Result Said Refusal} {d' : Device} {own' to' ac' : List ℕ}
          → Ends tag secret m r (own_lent d own to) (own_lent d' own' to') (actions_lent ac) (actions_lent ac') → Tombs r d' own' carried to' ac'
      tomb_ended w = as_step past (w (contacts_in contacts (carried_in carried a)))

      pub tomb_wrong : m ≡ model.wrong → Tombs (Ok said.Malformed) d own carried to ac
      unfolding after_meeting met_tests no_row_to_meet no_slot_to_meet receive_tomb step_of store store_device store_session
      tomb_wrong w = quiet_call malformed nothing (past ∙ ap (after_meeting (view B) tag secret) w) refl refl

      pub tomb_unknown : m ≡ model.unknown → Tombs (Ok (said.Done 0)) d own carried to ac
      unfolding after_meeting met_tests no_row_to_meet no_slot_to_meet receive_tomb step_of store store_device store_session
      tomb_unknown w = quiet_call done nothing (past ∙ ap (after_meeting (view B) tag secret) w) refl refl
