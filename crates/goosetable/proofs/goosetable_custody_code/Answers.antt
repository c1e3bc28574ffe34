-- The byte is read, and then by the law of small areas, from the call by value.
use Rattle.std.proofs.Common.{sym, refl, ◌∙◌}
use Rattle.host_answers.specs.HostAnswers.{acted_answer}
use Rattle.goosetable.specs.Hosts.{reads}
use Rattle.goosetable.proofs.StayLaws.{only_answers}
use Rattle.goosetable.proofs.TellLaws.{acted_tells}
use Rattle.goosetable.proofs.CountLaws.{code_counted}
use Rattle.goosetable.proofs.HostLaws.{hosts_both}
use Rattle.goosetable.proofs.goosetable_custody_code.Goals as goal

pub returns : goal.returns
returns c =
    reads _ (sym c.from_code.ensures ∙ c.in-Some.is)
    (hosts_both acted_answer acted_tells (only_answers _) (λ s. refl) (code_counted _ _ _ _) c.acted_answer.ensures (λ s a. refl, λ s a. refl) c.device_of-d.ensures c.exchange_of-e.ensures c.put_exchange.ensures c.put_device.ensures c.handed_over-said.ensures.does)
