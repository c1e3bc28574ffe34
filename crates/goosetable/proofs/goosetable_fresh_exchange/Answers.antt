-- By the law of small areas, from the call by value.
use Rattle.std.proofs.Common.{refl}
use Rattle.host_answers.specs.HostAnswers.{done_answer}
use Rattle.goosetable.proofs.StayLaws.{only_answers}
use Rattle.goosetable.proofs.TellLaws.{done_tells}
use Rattle.goosetable.proofs.CountLaws.{exchange_counted}
use Rattle.goosetable.proofs.HostLaws.{hosts_exchange}
use Rattle.goosetable.proofs.goosetable_fresh_exchange.Goals as goal

pub returns : goal.returns
returns c =
    hosts_exchange done_answer done_tells (only_answers _) (λ s. refl) (exchange_counted _) c.done_answer.ensures (λ s a. refl, λ s a. refl) c.device_of-d.ensures c.exchange_of-e.ensures c.put_exchange.ensures c.fresh_exchange-said.ensures.does
