-- Laws of the calls report opened and report failed: each way out as the model's step, and what it leaves.
-- Assumes nothing.
use Rattle.std.proofs.Common.{◌≡◌, ℕ, ◌+◌, ◌*◌, ◌/◌, ◌<◌, ◌≤◌, min, Bool, true, false, cond, not, ◌&&◌, ◌||◌, ltb, leb, List, [], ◌∷◌, ◌++◌, length, sym, refl, ap, ◌∙◌, subst, ap₂, le-leb, Result, Ok, Err}
use borrow.Author.Tests.{lt-leb}
use Rattle.octets.specs.Bytes.{splice}
use Rattle.courier_core.specs.declared.ContactId.{ContactId}
use Rattle.courier_core.specs.declared.Refusal.{Refusal}
use Rattle.courier_core.specs.declared.Refusal.TheVariants as refusal
use Rattle.table.specs.Rows.{held}
use Rattle.table.specs.Codec.{table_of, TableNow}
use Rattle.table.proofs.TableLaws.{length_table, with_one}
use Rattle.rows.specs.declared.Device.{Device}
use Rattle.rows.specs.declared.BadTag.{BadTag}
use Rattle.rows.specs.Rows.{contact_codec, bad_tag_codec, reply_codec, reply_bytes}
use Rattle.model.specs.State.{nothing, bad_tags_now}
use Rattle.model.specs.Calls.{Call, Result as Outcome, result, malformed, step_of, opened, failed, tomb_reply}
use Rattle.model.specs.Contacts.{known, lifetime_end}
use Rattle.model.specs.Window.{is_bad}
use Rattle.model.specs.Tombs.{opened_tests, report_opened, store_actions, failed_tests, report_failed}
use Rattle.model.specs.Step.{tests, perform, step}
use Rattle.model.specs.Areas.{Areas, Written, view, store, store_device, store_session, answer_areas}
use Rattle.model.specs.Lent.{no_answers, contacts_in, answers_lent}
use Rattle.model.proofs.CallLaws.{refused_here, not_here, no_test, answering_call, quiet_call, refused_call}
use Rattle.tombstones.specs.declared.Storing.{Storing}
use Rattle.tombstones.specs.Tombstones.{ChoiceOf, store_tests, Stores, StoredAs}
use Rattle.tombstones.proofs.CallLaws.{cannot_store, can_store, lent_reads, areas_stored, with_actions}
use Rattle.answers.specs.declared.Said.{Said}
use Rattle.answers.specs.declared.Said.TheVariants as said
use Rattle.answers.specs.Says.{says}
use Rattle.reports.specs.Reports.{opened_lent, failed_lent}

-- ---- report opened

module _ (d : Device) (peer : ContactId) (tag secret : List ℕ) (expiry : ℕ) (contacts to rs ac : List ℕ) (a : Areas) where
  abbrev P : Areas
  P = opened_lent d contacts to a

  abbrev opens : Call
  opens = opened (length rs) (length ac) peer tag secret expiry

  abbrev short_both : Bool
  short_both = ltb (length rs) 61440 || ltb (length ac) (13 * (512 + length to / 44))

  abbrev Opens : Result Said Refusal → Device → (to' rs' ac' : List ℕ) → Type 0
  Opens r d' to' rs' ac' = Written says (step (view P) opens) r P (opened_lent d' contacts to' a) (answers_lent rs ac) (answers_lent rs' ac')

  pub opened_short : true ≡ short_both → Opens (Err refusal.ShortArea) d to rs ac
  unfolding step tests perform opened_tests view
  opened_short e = refused_call refusal.ShortArea (refused_here _ _ _ (sym e)) refl refl

  module _ (long : false ≡ short_both) where
    pub opened_stranger : false ≡ known (table_of contact_codec d.contacts contacts) peer → Opens (Err refusal.UnknownContact) d to rs ac
    unfolding step tests perform opened_tests view
    opened_stranger k = refused_call refusal.UnknownContact (not_here _ _ _ (sym long) (refused_here _ _ _ (ap not (sym k)))) refl refl

    module _ (k : true ≡ known (table_of contact_codec d.contacts contacts) peer) where
      opened_past : {o : Outcome} → step_of (store_tests (view P) tag) (report_opened (view P) tag secret expiry) ≡ o → step (view P) opens ≡ o
      unfolding step tests perform opened_tests store_tests view
      opened_past e = not_here _ _ _ (sym long) (not_here _ _ _ (ap not (sym k)) e)

      pub opened_refused : (why : Refusal) → ChoiceOf d to tag (Err why) → Opens (Err why) d to rs ac
      opened_refused why q =
          refused_call why (opened_past (cannot_store (view P) tag _ why (q (view P) (lent_reads d to (contacts_in contacts a))))) refl refl

      pub opened_stored : (h : Storing) (until : ℕ) (r : Device) (n : ℕ) (x y z : List ℕ) → ChoiceOf d to tag (Ok h) → until ≡ min expiry (lifetime_end d.now_s d.courier)
          → z ≡ splice rs 0 (reply_bytes (tomb_reply tag secret)) → Stores h d tag secret until 0 to ac r n x y → Opens (Ok (said.Done n)) r x z y
      unfolding view report_opened answer_areas splice
      opened_stored h until r n x y z q u ez S =
          let f = can_store (view P) tag (report_opened (view P) tag secret expiry) h (q (view P) (lent_reads d to (contacts_in contacts a))) in
          let D = S (view P) (lent_reads d to (contacts_in contacts a)) f.1 in
          let M : ℕ = min expiry (lifetime_end d.now_s d.courier) in
          let E = subst (λ (t : ℕ). StoredAs (view P) d tag secret t 0 to ac r n x y) u D in
          answering_call (report_opened (view P) tag secret expiry) (opened_past f.0) (ap (λ (m : ℕ). Ok (said.Done m)) E.count)
          (areas_stored d to (contacts_in contacts a) (view P) tag secret M 0 ac E)
          (ap₂ answers_lent (with_one reply_codec rs z _ (tomb_reply tag secret) refl ez) (E.actions ∙ with_actions ac (store_actions (view P) tag)))

-- ---- report failed

module _ (d : Device) (peer : ContactId) (tag contacts bad : List ℕ) (a : Areas) where
  abbrev F : Areas
  F = failed_lent d contacts bad a

  abbrev fails : Call
  fails = failed peer tag

  abbrev Tb : List BadTag
  Tb = table_of bad_tag_codec d.bad_tags bad

  abbrev Fails : Result Said Refusal → Device → List ℕ → Type 0
  Fails r d' bad' = Written says (step (view F) fails) r F (failed_lent d' contacts bad' a) no_answers no_answers

  abbrev bads : Bool → Outcome
  bads x = result malformed [] [] (cond x nothing (bad_tags_now (Tb ++ (record { peer = peer; tag = tag } ∷ []))))

  pub failed_stranger : false ≡ known (table_of contact_codec d.contacts contacts) peer → Fails (Err refusal.UnknownContact) d bad
  unfolding step tests perform failed_tests view
  failed_stranger k = refused_call refusal.UnknownContact (refused_here _ _ _ (ap not (sym k))) refl refl

  module _ (k : true ≡ known (table_of contact_codec d.contacts contacts) peer) where
    pub failed_again : true ≡ is_bad Tb peer tag → Fails (Ok said.Malformed) d bad
    unfolding step tests perform failed_tests report_failed view store store_device store_session
    failed_again b =
        quiet_call malformed nothing
        (not_here _ _ _ (ap not (sym k)) (not_here _ _ _ (ap (λ (x : Bool). not x && leb (length bad / 24) (length Tb)) (sym b)) (no_test _))
        ∙ ap bads (sym b)) refl refl

    module _ (b : false ≡ is_bad Tb peer tag) {n : ℕ} (en : n ≡ held (length bad) 24 d.bad_tags) where
      full_by : {x : Bool} → leb (length bad / 24) n ≡ x → (not (is_bad Tb peer tag) && leb (length bad / 24) (length Tb)) ≡ x
      full_by e = ap₂ (λ (x : Bool) (m : ℕ). not x && leb (length bad / 24) m) (sym b) (length_table bad_tag_codec d.bad_tags bad ∙ sym en) ∙ e

      pub failed_full : length bad / 24 ≤ n → Fails (Err refusal.NoBadTagRow) d bad
      unfolding step tests perform failed_tests view
      failed_full h = refused_call refusal.NoBadTagRow (not_here _ _ _ (ap not (sym k)) (refused_here _ _ _ (full_by (le-leb (length bad / 24) n h)))) refl refl

      pub failed_added : n < length bad / 24 → {m : ℕ} {y : List ℕ} → TableNow bad_tag_codec bad (Tb ++ (record { peer = peer; tag = tag } ∷ [])) m y
          → Fails (Ok said.Malformed) (record d { bad_tags = m }) y
      unfolding step tests perform failed_tests report_failed view store store_device store_session
      failed_added h {m = m} {y} N =
          quiet_call malformed (bad_tags_now (Tb ++ (record { peer = peer; tag = tag } ∷ [])))
          (not_here _ _ _ (ap not (sym k)) (not_here _ _ _ (full_by (lt-leb (length bad / 24) n h)) (no_test _)) ∙ ap bads (sym b)) refl
          (λ j. failed_lent (record d { bad_tags = N.count j }) contacts (N.area j) a)
