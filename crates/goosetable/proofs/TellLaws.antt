-- What each exported call says tells a refusal from everything else, and which it is, by the number alone.
-- Assumes nothing.
use Rattle.std.proofs.Common.{◌≡◌, ℕ, true, List, length, refl, Option, Some, None}
use Rattle.std.specs.Prelude.{Ok}
use Rattle.model.specs.Calls.{answer_of}
use Rattle.rows.specs.declared.Own.{Own}
use Rattle.contacts.specs.Answers.{said_of}
use Rattle.envelope.specs.Answers.{envelope_says}
use Rattle.envelope.specs.declared.Answer.{Answer as EnvelopeSaid}
use Rattle.envelope.specs.declared.Answer.TheVariants as envelope_said
use Rattle.fetch.specs.Fetch.{fetch_says}
use Rattle.own_envelope.specs.OwnEnvelope.{own_says}
use Rattle.inventory.specs.Inventory.{inventory_says, received_says}
use Rattle.inventory.specs.declared.Said.{Said as InventorySaid}
use Rattle.inventory.specs.declared.Said.TheVariants as inventory_said
use Rattle.stored_tombstone.specs.StoredTombstone.{says_stored}
use Rattle.answers.specs.Says.{says as tomb_says}
use Rattle.answers.specs.declared.Said.{Said as TombSaid}
use Rattle.answers.specs.declared.Said.TheVariants as tomb_said
use Rattle.saved.specs.Blobs.{blob_says}
use Rattle.saved.specs.Saving.{save_says}
use Rattle.host_answers.specs.HostAnswers.{done_answer, envelope_answer, fetched_answer, own_answer, own_answers, wrote_answer, inventory_answer, acted_answer, tomb_answer, blob_answer}
use Rattle.goosetable.specs.Hosts.{alone, beside_row}
use Rattle.goosetable.proofs.StayLaws.{Tells, is_other, by_answer}

-- ---- a refusal, or one thing else, which several calls say alike

pub done_tells : Tells alone (λ o. done_answer (answer_of said_of o))
done_tells = by_answer done_answer said_of (λ why. refl) (λ u. refl)

pub acted_tells : Tells alone (λ o. acted_answer (answer_of says_stored o))
acted_tells = by_answer acted_answer says_stored (λ why. refl) (λ n. refl)

pub wrote_tells : Tells alone (λ o. wrote_answer (answer_of save_says o))
wrote_tells = by_answer wrote_answer save_says (λ why. refl) (λ n. refl)

pub listed_tells : Tells alone (λ o. wrote_answer (answer_of inventory_says o))
listed_tells = by_answer wrote_answer inventory_says (λ why. refl) (λ n. refl)

-- ---- by what else is said

envelope_other : (said : EnvelopeSaid) → is_other (envelope_answer (Ok said)).said ≡ true
envelope_other (envelope_said.Ours contact generation idx) = refl
envelope_other (envelope_said.Done replies actions) = refl

pub envelope_tells : Tells alone (λ o. envelope_answer (answer_of envelope_says o))
envelope_tells = by_answer envelope_answer envelope_says (λ why. refl) envelope_other

fetch_other : (replies : ℕ) (said : Option (List ℕ)) → is_other (fetched_answer replies (Ok said)).said ≡ true
fetch_other replies (Some ct) = refl
fetch_other replies None = refl

pub fetch_tells : (own carried : List ℕ) → Tells alone (λ o. fetched_answer (length o.replies) (answer_of (fetch_says own carried) o))
fetch_tells own carried o = by_answer (fetched_answer (length o.replies)) (fetch_says own carried) (λ why. refl) (fetch_other (length o.replies)) o

own_other : (said : Option Own) → is_other (own_answer (Ok said)).said ≡ true
own_other (Some row) = refl
own_other None = refl

pub own_tells : (area : List ℕ) → Tells beside_row (λ o. own_answers area (answer_of own_says o))
own_tells area = by_answer own_answer own_says (λ why. refl) own_other

inventory_other : (said : InventorySaid) → is_other (inventory_answer (Ok said)).said ≡ true
inventory_other (inventory_said.Done replies searched) = refl
inventory_other inventory_said.Malformed = refl

pub inventory_tells : Tells alone (λ o. inventory_answer (answer_of received_says o))
inventory_tells = by_answer inventory_answer received_says (λ why. refl) inventory_other

tomb_other : (replies : ℕ) (said : TombSaid) → is_other (tomb_answer replies (Ok said)).said ≡ true
tomb_other replies (tomb_said.Done actions) = refl
tomb_other replies tomb_said.Malformed = refl

pub tomb_tells : Tells alone (λ o. tomb_answer (length o.replies) (answer_of tomb_says o))
tomb_tells o = by_answer (tomb_answer (length o.replies)) tomb_says (λ why. refl) (tomb_other (length o.replies)) o

blob_other : (said : Option ℕ) → is_other (blob_answer (Ok said)).said ≡ true
blob_other (Some len) = refl
blob_other None = refl

pub blob_tells : Tells alone (λ o. blob_answer (answer_of blob_says o))
blob_tells = by_answer blob_answer blob_says (λ why. refl) blob_other
