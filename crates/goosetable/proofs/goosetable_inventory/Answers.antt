-- By the law of small areas, from the call by value.
use Rattle.std.proofs.Common.{refl}
use Rattle.host_answers.specs.HostAnswers.{inventory_answer}
use Rattle.goosetable.proofs.StayLaws.{only_answers}
use Rattle.goosetable.proofs.TellLaws.{inventory_tells}
use Rattle.goosetable.proofs.CountLaws.{inventory_counted}
use Rattle.goosetable.proofs.HostLaws.{hosts_exchange}
use Rattle.goosetable.proofs.goosetable_inventory.Goals as goal

pub returns : goal.returns
returns c =
    hosts_exchange inventory_answer inventory_tells (only_answers _) (λ s. refl) (inventory_counted _ _ _ _) c.inventory_answer.ensures (λ s a. refl, λ s a. refl) c.device_of-d.ensures c.exchange_of-e.ensures c.put_exchange.ensures c.receive_inventory-said.ensures.does
