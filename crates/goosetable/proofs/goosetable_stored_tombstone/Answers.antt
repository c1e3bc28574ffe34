-- By the law of small areas, from the call by value.
use Rattle.std.proofs.Common.{refl}
use Rattle.host_answers.specs.HostAnswers.{acted_answer}
use Rattle.goosetable.proofs.StayLaws.{only_answers}
use Rattle.goosetable.proofs.TellLaws.{acted_tells}
use Rattle.goosetable.proofs.CountLaws.{stored_counted}
use Rattle.goosetable.proofs.HostLaws.{hosts_device}
use Rattle.goosetable.proofs.goosetable_stored_tombstone.Goals as goal

pub returns : goal.returns
returns c =
    hosts_device acted_answer acted_tells (only_answers _) (λ s. refl) (stored_counted _ _ _ _) c.acted_answer.ensures (λ s a. refl, λ s a. refl) c.device_of-d.ensures c.put_device.ensures c.stored_tombstone-said.ensures
