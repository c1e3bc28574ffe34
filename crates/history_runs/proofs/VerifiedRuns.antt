-- A depositor that is verified, on fresh areas, computed: at 32 rows it is answered Full.
-- Assumes nothing.
use Rattle.std.proofs.Common.{◌≡◌, ℕ, zero, suc, List, [], ◌∷◌, ◌++◌, refl}
use Rattle.courier_core.specs.declared.Verification.TheVariants as verification
use Rattle.courier.specs.declared.Custody.TheVariants as custody
use Rattle.rows.specs.declared.Reply.{Reply}
use Rattle.rows.specs.declared.Action.{Action}
use Rattle.model.specs.Calls.{Result, put_courier, custody_reply}
use Rattle.model.specs.Step.{Lent, step}
use Rattle.model.specs.Areas.{PostAreas, view, areas_for, after_areas}
use Rattle.model.proofs.Examples.{of_byte}
use Rattle.history_runs.proofs.Runs.{send, sends, contact, ran}

-- what calls answer, one after the other
answers : PostAreas → List Lent → List (List Reply × List Action)
unfolding ran
answers p [] = []
answers p (l ∷ ls) =
    let o : Result = step (view (areas_for p l)) l.call in
    (o.replies, o.actions) ∷ answers (after_areas p l) ls

-- n envelopes are accepted, tags n − 1 down to 0, and get the slots from slot on
accepted : ℕ → ℕ → List (List Reply × List Action)
accepted slot zero = []
accepted slot (suc n) = (custody_reply (of_byte n) custody.Accepted ∷ [], put_courier slot ∷ []) ∷ accepted (suc slot) n

thirty_third :
    answers (ran 33 (contact 5 verification.Verified ∷ [])) (sends 5 32 ++ (send 5 200 ∷ []))
    ≡ accepted 0 32 ++ ((custody_reply (of_byte 200) custody.Full ∷ [], []) ∷ [])
unfolding answers accepted
thirty_third = refl
