-- By the law of small areas, from the call by value.
use Rattle.std.proofs.Common.{refl}
use Rattle.host_answers.specs.HostAnswers.{done_answer}
use Rattle.goosetable.proofs.StayLaws.{only_answers}
use Rattle.goosetable.proofs.TellLaws.{done_tells}
use Rattle.goosetable.proofs.CountLaws.{clock_counted}
use Rattle.goosetable.proofs.HostLaws.{hosts_device}
use Rattle.goosetable.proofs.goosetable_clock.Goals as goal

pub returns : goal.returns
returns c =
    hosts_device done_answer done_tells (only_answers _) (λ s. refl) (clock_counted _) c.done_answer.ensures (λ s a. refl, λ s a. refl) c.device_of-d.ensures c.put_device.ensures c.clock.ensures
