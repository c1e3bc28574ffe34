-- By the law of small areas, from the call by value.
use Rattle.std.proofs.Common.{refl}
use Rattle.host_answers.specs.HostAnswers.{wrote_answer}
use Rattle.goosetable.proofs.StayLaws.{only_answers}
use Rattle.goosetable.proofs.TellLaws.{wrote_tells}
use Rattle.goosetable.proofs.CountLaws.{page_counted}
use Rattle.goosetable.proofs.HostLaws.{hosts_read}
use Rattle.goosetable.proofs.goosetable_page.Goals as goal

pub returns : goal.returns
returns c =
    hosts_read wrote_answer wrote_tells (only_answers _) (λ s. refl) (page_counted _ _) c.wrote_answer.ensures (λ s a. refl, λ s a. refl) c.device_of-d.ensures c.page.ensures
