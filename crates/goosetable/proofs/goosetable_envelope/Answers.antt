-- By the law of small areas, from the call by value.
use Rattle.std.proofs.Common.{refl}
use Rattle.host_answers.specs.HostAnswers.{envelope_answer}
use Rattle.goosetable.proofs.StayLaws.{only_answers}
use Rattle.goosetable.proofs.TellLaws.{envelope_tells}
use Rattle.goosetable.proofs.CountLaws.{envelope_counted}
use Rattle.goosetable.proofs.HostLaws.{hosts_device}
use Rattle.goosetable.proofs.goosetable_envelope.Goals as goal

pub returns : goal.returns
returns c =
    hosts_device envelope_answer envelope_tells (only_answers _) (λ s. refl) (envelope_counted _ _ _ _ _ _) c.envelope_answer.ensures (λ s a. refl, λ s a. refl) c.device_of-d.ensures c.put_device.ensures c.envelope-said.ensures
