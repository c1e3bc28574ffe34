-- By the law of small areas, from the call by value.
use Rattle.std.proofs.Common.{refl}
use Rattle.host_answers.specs.HostAnswers.{tomb_answer}
use Rattle.goosetable.proofs.StayLaws.{only_answers}
use Rattle.goosetable.proofs.TellLaws.{tomb_tells}
use Rattle.goosetable.proofs.CountLaws.{failed_counted, failed_counts}
use Rattle.goosetable.proofs.HostLaws.{hosts_device}
use Rattle.goosetable.proofs.goosetable_failed.Goals as goal

pub returns : goal.returns
returns c =
    hosts_device (tomb_answer 0) tomb_tells (only_answers _) (failed_counts _ _) (failed_counted _ _) c.tomb_answer.ensures (λ s a. refl, λ s a. refl) c.device_of-d.ensures c.put_device.ensures c.report_failed-said.ensures
