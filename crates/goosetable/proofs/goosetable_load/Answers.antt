-- By the law of small areas, from the call by value.
use Rattle.std.proofs.Common.{refl}
use Rattle.host_answers.specs.HostAnswers.{done_answer}
use Rattle.goosetable.proofs.StayLaws.{load_answers}
use Rattle.goosetable.proofs.TellLaws.{done_tells}
use Rattle.goosetable.proofs.CountLaws.{load_counted}
use Rattle.goosetable.proofs.HostLaws.{hosts_device}
use Rattle.goosetable.proofs.goosetable_load.Goals as goal

pub returns : goal.returns
returns c =
    hosts_device done_answer done_tells (load_answers _) (λ s. refl) (load_counted _) c.done_answer.ensures (λ s a. refl, λ s a. refl) c.device_of-d.ensures c.put_device.ensures c.load-said.ensures
