-- Laws of the own envelope call: each way out as the model's step, and what it leaves.
-- Assumes nothing.
use Rattle.std.proofs.Common.{◌≡◌, ℕ, ◌*◌, Bool, true, false, cond, not, ◌&&◌, List, [], map, length, Option, Some, None, Result, Ok, Err, sym, refl, ap, ◌∙◌, ap₂}
use Rattle.octets.specs.Bytes.{splice}
use Rattle.courier_core.specs.declared.ContactId.{ContactId}
use Rattle.courier_core.specs.declared.Refusal.{Refusal}
use Rattle.courier_core.specs.declared.Refusal.TheVariants as refusal
use Rattle.chain.specs.declared.Dir.{Dir}
use Rattle.courier.specs.Tags.{route_tag}
use Rattle.table.specs.Lists.{any, is_at, unwrap_or}
use Rattle.table.specs.Codec.{table_of, with_table, TableNow}
use Rattle.rows.specs.declared.Device.{Device}
use Rattle.rows.specs.declared.Contact.{Contact}
use Rattle.rows.specs.declared.Own.{Own}
use Rattle.rows.specs.Rows.{contact_codec, own_codec}
use Rattle.model.specs.State.{Change, nothing, own_now, own_cells_now, ◌and◌}
use Rattle.model.specs.Calls.{Call, Answer, Result as Outcome, add_own, refused, own_row, no_envelope, result, only, done_with, answer_of}
use Rattle.model.specs.Contacts.{known}
use Rattle.model.specs.Cells.{free_cell, cells_used, new_cell}
use Rattle.model.specs.Own.{is_message, own_length, none_made, own_tests, new_own, insert_own, make_own, own_envelope}
use Rattle.model.specs.Step.{tests, perform, step}
use Rattle.model.specs.Areas.{Areas, Written, view, store, store_device, store_session}
use Rattle.model.specs.Lent.{no_answers}
use Rattle.model.proofs.CallLaws.{refused_here, not_here, no_test, quiet_call}
use Rattle.own_envelope.specs.OwnEnvelope.{own_says, lent_own, made_own}

module _ (d : Device) (id : ContactId) (msgno : ℕ) (key : List ℕ) (dir : Dir) (generation idx : ℕ) (secret ct contacts own cells : List ℕ) (a : Areas) where
  abbrev B : Areas
  B = lent_own d contacts own cells a

  abbrev C : Call
  C = add_own id msgno key dir generation idx secret ct

  abbrev Says : Result (Option Own) Refusal → Device → List ℕ → List ℕ → Type 0
  Says m d' own' cells' = Written own_says (step (view B) C) m B (lent_own d' contacts own' cells' a) no_answers no_answers

  abbrev Ps : List Contact
  Ps = table_of contact_codec d.contacts contacts

  abbrev To : List Own
  To = table_of own_codec d.own own

  abbrev named : List ℕ
  named = map (λ (o : Own). o.cell) To

  -- an answer that changes nothing
  stays : (said : Answer) → step (view B) C ≡ only said → Says (answer_of own_says (only said)) d own cells
  unfolding store store_device store_session
  stays said e = quiet_call said nothing e refl refl

  pub says_stranger : known Ps id ≡ false → Says (Err refusal.UnknownContact) d own cells
  unfolding step tests perform own_tests view
  says_stranger k = stays (refused refusal.UnknownContact) (refused_here _ _ _ (ap not k))

  module _ (k : known Ps id ≡ true) where
    pub says_taken : any (is_message id msgno) To ≡ true → Says (Err refusal.MessageNumberTaken) d own cells
    unfolding step tests perform own_tests view
    says_taken t = stays (refused refusal.MessageNumberTaken) (not_here _ _ _ (ap not k) (refused_here _ _ _ t))

    module _ (t : any (is_message id msgno) To ≡ false) where
      pub says_length : own_length (length ct) ≡ false → Says (Err refusal.OwnLength) d own cells
      unfolding step tests perform own_tests view
      says_length l = stays (refused refusal.OwnLength) (not_here _ _ _ (ap not k) (not_here _ _ _ t (refused_here _ _ _ (ap not l))))

      module _ (l : own_length (length ct) ≡ true) where
        -- the last test, and what is performed where it fails
        last : {o : Outcome} → (not (none_made To (length ct)) && cells_used (length cells) named) ≡ false
            → own_envelope (view B) id msgno key dir generation idx secret ct ≡ o → step (view B) C ≡ o
        unfolding step tests perform own_tests view
        last u e = not_here _ _ _ (ap not k) (not_here _ _ _ t (not_here _ _ _ (ap not l) (not_here _ _ _ u (no_test _ ∙ e))))

        pub says_none : none_made To (length ct) ≡ true → Says (Ok None) d own cells
        unfolding own_envelope view
        says_none n =
            stays (done_with no_envelope)
            (last (ap (λ (b : Bool). not b && cells_used (length cells) named) n)
            (ap (λ (b : Bool). cond b (only (done_with no_envelope)) (make_own (view B) (new_own (view B) id msgno (route_tag key dir generation idx) secret (length ct)) ct)) n))

        module _ (n : none_made To (length ct) ≡ false) where
          used : {f : Option ℕ} → f ≡ free_cell (length cells) named → (not (none_made To (length ct)) && cells_used (length cells) named) ≡ not (is_at f)
          unfolding cells_used
          used e = ap₂ (λ (b : Bool) (f : Option ℕ). not b && not (is_at f)) n (sym e)

          pub says_full : None ≡ free_cell (length cells) named → Says (Err refusal.NoCell) d own cells
          unfolding step tests perform own_tests view
          says_full f =
              stays (refused refusal.NoCell)
              (not_here _ _ _ (ap not k) (not_here _ _ _ t (not_here _ _ _ (ap not l) (refused_here _ _ _ (used f)))))

          -- the row is made
          module _ {cell : ℕ} {tag : List ℕ} {row : Own} (f : Some cell ≡ free_cell (length cells) named)
              (et : tag ≡ route_tag key dir generation idx) (er : row ≡ made_own d id msgno tag secret (length ct) cell) where
            abbrev changes : Change
            changes = own_now (insert_own Ps row To) and own_cells_now (splice cells (row.cell * 2064) ct)

            is_new : new_own (view B) id msgno (route_tag key dir generation idx) secret (length ct) ≡ row
            unfolding new_own new_cell view
            is_new =
                ap₂ (λ (t : List ℕ) (k : ℕ). made_own d id msgno t secret (length ct) k) (sym et) (ap (unwrap_or 0) (sym f)) ∙ sym er

            stepped : step (view B) C ≡ result (done_with (own_row row)) [] [] changes
            unfolding own_envelope make_own view
            stepped =
                last (used f)
                (ap (λ (b : Bool). cond b (only (done_with no_envelope)) (make_own (view B) (new_own (view B) id msgno (route_tag key dir generation idx) secret (length ct)) ct)) n
                ∙ ap (λ (r : Own). make_own (view B) r ct) is_new)

            pub says_row : {count : ℕ} {own' cells' : List ℕ} → cells' ≡ splice cells (cell * 2064) ct
                → TableNow own_codec own (insert_own Ps row To) count own' → Says (Ok (Some row)) (record d { own = count }) own' cells'
            unfolding store store_device store_session
            says_row {own' = own'} {cells' = cells'} ec N =
                quiet_call (done_with (own_row row)) changes stepped refl
                (ap₂ (λ (k : ℕ) (x : List ℕ). lent_own (record d { own = k }) contacts x cells' a) N.count N.area
                ∙ ap (λ (x : List ℕ). lent_own (record d { own = length (insert_own Ps row To) }) contacts (with_table own_codec own (insert_own Ps row To)) x a)
                (ec ∙ ap (λ (r : Own). splice cells (r.cell * 2064) ct) (sym er)))
