-- By the law of small areas, from the call by value.
use Rattle.std.proofs.Common.{refl}
use Rattle.host_answers.specs.HostAnswers.{blob_answer}
use Rattle.goosetable.proofs.StayLaws.{only_answers}
use Rattle.goosetable.proofs.TellLaws.{blob_tells}
use Rattle.goosetable.proofs.CountLaws.{blob_counted}
use Rattle.goosetable.proofs.HostLaws.{hosts_read}
use Rattle.goosetable.proofs.goosetable_row_blob.Goals as goal

pub returns : goal.returns
returns c =
    hosts_read blob_answer blob_tells (only_answers _) (λ s. refl) (blob_counted _ _) c.blob_answer.ensures (λ s a. refl, λ s a. refl) c.device_of-d.ensures c.row_blob.ensures
