-- What holds of every call: the first test that holds refuses it and nothing changes, or none holds and it is performed.
-- Assumes nothing.
use Rattle.std.proofs.Common.{◌≡◌, ℕ, Bool, true, false, List, [], ◌∷◌, sym, refl, ap, ◌∙◌, Ok, Err}
use Rattle.std.specs.Prelude
use Rattle.octets.specs.Bytes.{splice}
use Rattle.courier_core.specs.Core.{first_of, number_of}
use Rattle.courier_core.specs.declared.Refusal.{Refusal}
use Rattle.table.specs.Rows.{join, written}
use Rattle.table.specs.Codec.{with_table}
use Rattle.model.specs.State.{Change, nothing}
use Rattle.model.specs.Calls.{Answer, Result, result, refused, only, step_of, refused_or, answer_number, answer_of}
use Rattle.model.specs.Areas.{Areas, AnswerAreas, Written, Retold, store, store_device, store_session, answer_areas}
use Rattle.model.specs.Saved.{writes}
use Rattle.model.specs.Lent.{bytes_lent, device_in, contacts_in, own_in, carried_in, tombstones_in, bad_tags_in, own_cells_in, carried_cells_in, exchange_in}

module _ (why : Refusal) (ts : List (Bool × Refusal)) (p : Result) {t : Bool} where
  pub refused_here : t ≡ true → step_of ((t, why) ∷ ts) p ≡ only (refused why)
  unfolding step_of
  refused_here e = rw e

  pub not_here : {o : Result} → t ≡ false → step_of ts p ≡ o → step_of ((t, why) ∷ ts) p ≡ o
  unfolding step_of
  not_here e q = rw e q

pub no_test : (p : Result) → step_of [] p ≡ p
unfolding step_of
no_test p = refl

-- A call that tests first and then chooses what to do: its result, by what its tests and the choice said.
abbrev pub result_by : {A : Type 0} → (A → Result) → Prelude.Result A Refusal → Result
result_by f (Err why) = only (refused why)
result_by f (Ok chosen) = f chosen

pub tested_call : {A : Type 0} (f : A → Result) (ts : List (Bool × Refusal)) (k : Prelude.Result A Refusal) {p : Result} → result_by f k ≡ p
    → step_of ts p ≡ result_by f (first_of ts Err k)
unfolding step_of
tested_call f [] k e = sym e
tested_call f ((true, why) ∷ ts) k e = refl
tested_call f ((false, why) ∷ ts) k e = tested_call f ts k e

-- what a call answers has the number of the model's answer
number_lem : {A : Type 0} (said : A) (m : Answer) → number_of (refused_or Err (Ok said) m) ≡ answer_number m
number_lem said (refused why) = refl
number_lem said other = refl

pub numbered : {A : Type 0} (says : Result → A) (o : Result) → number_of (answer_of says o) ≡ answer_number o.answer
numbered says o = number_lem (says o) o.answer

module _ {A : Type 0} {says : Result → A} {r : Prelude.Result A Refusal} {o : Result} {before after : Areas} {lent : AnswerAreas} where
  -- a call that answers in the areas lent for it
  pub answering_call : {back : AnswerAreas} (p : Result) → o ≡ p → r ≡ answer_of says p → after ≡ store before p.change → back ≡ answer_areas p lent
      → Written says o r before after lent back
  answering_call p e q s b = rw e (record { answer = q; number = ap number_of q ∙ numbered says p; areas = s; answers = b })

  -- a call that writes to no answer area
  pub quiet_call : (said : Answer) (change : Change) → o ≡ result said [] [] change → r ≡ answer_of says (result said [] [] change) → after ≡ store before change
      → Written says o r before after lent lent
  unfolding answer_areas with_table written join splice
  quiet_call said change e q s = answering_call (result said [] [] change) e q s refl

  -- a call that is refused
  pub refused_call : (why : Refusal) → o ≡ only (refused why) → r ≡ Err why → after ≡ before → Written says o r before after lent lent
  unfolding store store_device store_session
  refused_call why e q s = quiet_call (refused why) nothing e q s

-- a call that writes bytes to the area lent for them, and changes nothing
pub bytes_call : {A : Type 0} {says : Result → A} {o : Result} {r : Prelude.Result A Refusal} {before : Areas} {lent back : List ℕ} (b : List ℕ) → o ≡ writes b → r ≡ Ok (says (writes b))
    → back ≡ splice lent 0 b → Written says o r before before (bytes_lent lent) (bytes_lent back)
unfolding store store_device store_session answer_areas with_table written join
bytes_call b e q s = answering_call (writes b) e q refl (ap bytes_lent s)

-- a call's answer told in other words
pub retold : {A B : Type 0} (f : Prelude.Result A Refusal → B) {says : Result → A} {tells : Result → B} {o : Result} {r : Prelude.Result A Refusal} {q : B} {before after : Areas}
    {lent back : AnswerAreas} → q ≡ f r → f (answer_of says o) ≡ tells o → Written says o r before after lent back → Retold tells o q before after lent back
retold f e same w = record { answer = e ∙ ap f w.answer ∙ same; areas = w.areas; answers = w.answers }

-- Areas with their own parts set into them are themselves: a contract speaks of all areas whose lent parts are what the call is lent.
pub own_parts : (a : Areas) → device_in a.device (contacts_in a.contacts (own_in a.own (carried_in a.carried (tombstones_in a.tombstones
    (bad_tags_in a.bad_tags (own_cells_in a.own_cells (carried_cells_in a.carried_cells
    (exchange_in a.session.exchange a.session.prefixes a.session.offers a)))))))) ≡ a
own_parts a = refl
