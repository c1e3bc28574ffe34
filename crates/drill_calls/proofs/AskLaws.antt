-- From what each call does to what is told of its record.
-- Assumes nothing.
use Rattle.std.proofs.Common.{◌≡◌, ◌≤◌, List, ℕ, length, refl, sym, ap, ◌∙◌, subst, Option, Some, Ok, Err}
use Rattle.std.specs.Prelude.{IsSome, Result}
use Rattle.std.specs.Result.{MatchResult, IsOkAnd}
use Rattle.drill_lines.specs.declared.Said.{Said}
use Rattle.std.proofs.lemmas.Option.{same_Some}
use Rattle.octets.specs.Bytes.{part}
use Rattle.courier_core.specs.declared.Refusal.{Refusal}
use Rattle.courier.specs.declared.Header.{Header}
use Rattle.courier.specs.Courier.{header_of, envelope_decode}
use Rattle.courier.proofs.HeaderLaws.{decode_whole}
use Rattle.wire.specs.Log.{Record}
use Rattle.model.specs.State.{State}
use Rattle.model.specs.Calls as calls
use Rattle.model.specs.Calls.{Call}
use Rattle.model.specs.Step.{step}
use Rattle.model.specs.Areas.{Areas, AnswerAreas, Written, view}
use Rattle.model.specs.Lent.{Does}
use Rattle.model.proofs.CallLaws.{retold}
use Rattle.drill_run.specs.Drill.{record_step, call_of}
use Rattle.drill_calls.specs.Asking.{Told, told_by, told_with, Asks}
use Rattle.drill_calls.proofs.StepLaws.{Same}

-- A call that is a record's does what the model's step does: what is told of its answer is told of the record.
pub asked : {A : Type 0} (told : Result A Refusal → Told) {says : calls.Result → A} {said : Result A Refusal} {r : Told} (m : Record) {c : Call} {before after : Areas → Areas} {lent back : AnswerAreas}
    → c ≡ call_of m → ((s : State) → Same told says (step s (call_of m))) → Does says c said before after lent back → r ≡ told said
    → Asks (Some m) r before after lent back
unfolding record_step
asked told {says} {said} {r} m {c} {before} {after} {lent} {back} e same w q a =
    let v = subst (λ (k : Call). Written says (step (view (before a)) k) said (before a) (after a) lent back) e (w a) in
    retold (λ x. told_by (told x)) (ap told_by q) (same (view (before a))) v

-- What an answer says is mapped, and a refusal stays.
pub mapped : {A : Type 0} (f : A → Said) {P : A → Said → Type 0} (x : Result A Refusal) {r : Told} → ((a : A) (s : Said) → P a s → s ≡ f a)
    → MatchResult x (λ a. IsOkAnd r (P a)) (λ e. r ≡ Err e) → r ≡ told_with f x
mapped f (Ok a) {r = Ok s} h m = ap Ok (h a s m)
mapped f (Ok a) {r = Err e} h m = absurd m
mapped f (Err e) h m = m

-- the header of an envelope is whole
pub envelope_whole : (s : List ℕ) {r : Option Header} → 45 ≤ length s → r ≡ envelope_decode s 8 → IsSome r
envelope_whole s {r} room e = subst IsSome (decode_whole s 8 room ∙ sym e) refl

pub header_whole : (s : List ℕ) {r : Option Header} {h : Header} → 45 ≤ length s → r ≡ envelope_decode s 8 → r ≡ Some h → h ≡ header_of (part s 8 37)
header_whole s {r} {h} room e w = same_Some h (header_of (part s 8 37)) (sym w ∙ e ∙ sym (decode_whole s 8 room))

-- a body's record is what was read of it
pub asks_of : {m k : Option Record} (r : Told) {before after : Areas → Areas} {lent back : AnswerAreas} → m ≡ k → Asks k r before after lent back → Asks m r before after lent back
asks_of {m} {k} r {before} {after} {lent} {back} e h = subst (λ (x : Option Record). Asks x r before after lent back) (sym e) h
