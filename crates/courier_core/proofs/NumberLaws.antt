-- What the number of an answer tells: 0 that it is no refusal, and any other which refusal it is.
-- Assumes nothing.
use Rattle.std.proofs.Common.{◌≡◌, ◌≤◌, refl, arith}
use Rattle.std.specs.Prelude.{Ok}
use Rattle.courier_core.specs.Core.{refusal_number, number_of}
use Rattle.courier_core.specs.declared.Refusal.{Refusal}

pub of_no_refusal : {A : Type 0} (said : A) → number_of (Ok said) ≡ 0
of_no_refusal said = refl

pub of_a_refusal : (why : Refusal) → 1 ≤ refusal_number why
of_a_refusal why = grind arith

pub of_one_refusal : (v w : Refusal) → refusal_number v ≡ refusal_number w → v ≡ w
of_one_refusal v w e = grind (arith, e)
