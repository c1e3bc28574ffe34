-- By the law of small areas, from the call by value.
use Rattle.std.proofs.Common.{refl}
use Rattle.host_answers.specs.HostAnswers.{acted_answer}
use Rattle.goosetable.proofs.StayLaws.{only_answers}
use Rattle.goosetable.proofs.TellLaws.{acted_tells}
use Rattle.goosetable.proofs.CountLaws.{maintenance_counted}
use Rattle.goosetable.proofs.HostLaws.{hosts_device}
use Rattle.goosetable.proofs.goosetable_maintenance.Goals as goal

pub returns : goal.returns
returns c =
    hosts_device acted_answer acted_tells (only_answers _) (λ s. refl) (maintenance_counted _) c.acted_answer.ensures (λ s a. refl, λ s a. refl) c.device_of-d.ensures c.put_device.ensures c.maintain_couriers-said.ensures
