-- An envelope call that is answered with code 0 has put its row, with its ciphertext in a cell that no row named.
-- Assumes nothing.
use Rattle.std.proofs.Common.{◌≡◌, ℕ, Bool, true, false, not, ◌&&◌, List, [], ◌∷◌, length, get_or, replicate, sym, refl, ap, ◌∙◌, arith, Option, Some, None}
use Rattle.std.proofs.lemmas.List.{get_or_at}
use borrow.Author.Tests.{not-false}
use Rattle.courier_core.specs.declared.ContactId.{ContactId}
use Rattle.courier_core.specs.declared.Refusal.{Refusal}
use Rattle.table.specs.Lists.{is_at}
use Rattle.courier.specs.declared.Header.{Header}
use Rattle.courier.specs.declared.Custody.{Custody}
use Rattle.courier.specs.declared.Custody.TheVariants as custody
use Rattle.courier.specs.Courier.{custody_code}
use Rattle.rows.specs.declared.Reply.{Reply}
use Rattle.model.specs.Basics.{match_found}
use Rattle.model.specs.State.{State}
use Rattle.model.specs.Calls
use Rattle.model.specs.Calls.{Result, refused, step_of, custody_reply}
use Rattle.model.specs.Contacts.{known}
use Rattle.model.specs.Window.{no_reachable, window_rows, lookup}
use Rattle.model.specs.Cells.{cells_used}
use Rattle.model.specs.Custody.{custody_of, is_accepted, accepts, carried_named, ours_at, answer_custody, envelope_tests, receive_envelope}
use Rattle.model.specs.Step.{tests, perform, step}
use Rattle.model.proofs.KeepLaws.{Passed}
use Rattle.model.proofs.RefusalLaws.{of_passed}
use Rattle.model.proofs.KeepRows.{and_false, or_false}
use Rattle.history.proofs.Effects.{Placed}
use Rattle.history.proofs.EffectLaws.{placed}

-- the code in a list of custody replies to a tag
abbrev no_reply : Reply
no_reply = record { kind = 0; cell = 0; body = [] }

abbrev code_in : ℕ → List Reply → ℕ
code_in n rs = get_or (get_or rs 0 no_reply).body n 9

-- a call that lists replies was not refused
replied : (ts : List (Bool × Refusal)) (o : Result) (x : Reply) → (step_of ts o).replies ≡ x ∷ [] → Passed ts × (step_of ts o ≡ o)
replied ts o x =
    of_passed (λ (r : Result). r.replies ≡ x ∷ [] → Passed ts × (r ≡ o)) ts o (λ why e. let z : ◌≡◌ {A = ℕ} 0 1 = ap length e in absurd (omega arith))
    (λ p e. (p, refl))

module _ (s : State) (replies actions : ℕ) (window : List ℕ) (peer : ContactId) (head : Header) (ct : List ℕ) where
  code_accepted : (code : Custody) → (answer_custody s peer head ct code).replies ≡ custody_reply head.tag custody.Accepted ∷ [] → custody_code code ≡ 0
  unfolding answer_custody
  code_accepted code e = sym (get_or_at head.tag (custody_code code) (replicate 20 0) 9 (length head.tag) refl) ∙ ap (code_in (length head.tag)) e ∙ get_or_at head.tag 0 (replicate 20 0) 9 (length head.tag) refl

  answered : (f : Option ℕ) (code : Custody) → custody_of s peer head (length ct) ≡ code → lookup (window_rows window) head.tag ≡ f
      → known s.contacts peer ≡ true → (accepts s (window_rows window) peer head (length ct) && cells_used (length s.carried_cells) (carried_named s)) ≡ false
      → (match_found f (λ i. ours_at (get_or (window_rows window) i no_reachable)) (answer_custody s peer head ct code)).replies ≡ custody_reply head.tag custody.Accepted ∷ []
      → Placed s peer head (length ct) × (match_found f (λ i. ours_at (get_or (window_rows window) i no_reachable)) (answer_custody s peer head ct code) ≡ answer_custody s peer head ct custody.Accepted)
  unfolding accepts ours_at
  answered (Some i) code e l k u h = let z : ◌≡◌ {A = ℕ} 0 1 = ap length h in absurd (omega arith)
  answered None custody.Accepted e l k u h =
      let used : cells_used (length s.carried_cells) (carried_named s) ≡ false =
      and_false (not (is_at (lookup (window_rows window) head.tag)) && is_accepted (custody_of s peer head (length ct))) (cells_used (length s.carried_cells) (carried_named s)) (rw (e, l)) u in
      (placed s replies actions window peer head ct k used e, refl)
  answered None custody.Full e l k u h = let z : ◌≡◌ {A = ℕ} 1 0 = code_accepted custody.Full h in absurd (omega arith)
  answered None custody.Duplicate e l k u h = let z : ◌≡◌ {A = ℕ} 2 0 = code_accepted custody.Duplicate h in absurd (omega arith)
  answered None custody.Off e l k u h = let z : ◌≡◌ {A = ℕ} 3 0 = code_accepted custody.Off h in absurd (omega arith)
  answered None custody.Invalid e l k u h = let z : ◌≡◌ {A = ℕ} 4 0 = code_accepted custody.Invalid h in absurd (omega arith)

  -- the tests that an envelope has passed that is answered with code 0, and what its call does
  pub code_0 : (step s (Calls.envelope replies actions window peer head ct)).replies ≡ custody_reply head.tag custody.Accepted ∷ []
      → Placed s peer head (length ct) × (step s (Calls.envelope replies actions window peer head ct) ≡ answer_custody s peer head ct custody.Accepted)
  unfolding step tests perform envelope_tests receive_envelope
  code_0 h =
      let o : Result = receive_envelope s (window_rows window) peer head ct in
      let q = replied (envelope_tests s replies actions window peer head (length ct)) o (custody_reply head.tag custody.Accepted) h in
      let p = q.0 in
      let a = answered (lookup (window_rows window) head.tag) (custody_of s peer head (length ct)) refl refl
      (not-false (known s.contacts peer) (or_false _ _ p.1.1.0).0) p.1.1.1.0 (ap (λ (x : Result). x.replies) (sym q.1) ∙ h) in
      (a.0, q.1 ∙ a.1)
