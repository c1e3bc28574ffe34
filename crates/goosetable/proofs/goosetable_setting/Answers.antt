-- The byte is read, and then by the law of small areas, from the call by value.
use Rattle.std.proofs.Common.{sym, refl, ◌∙◌}
use Rattle.host_answers.specs.HostAnswers.{done_answer}
use Rattle.goosetable.specs.Hosts.{reads}
use Rattle.goosetable.proofs.StayLaws.{only_answers}
use Rattle.goosetable.proofs.TellLaws.{done_tells}
use Rattle.goosetable.proofs.CountLaws.{setting_counted}
use Rattle.goosetable.proofs.HostLaws.{hosts_device}
use Rattle.goosetable.proofs.goosetable_setting.Goals as goal

pub returns : goal.returns
returns c =
    reads _ (sym c.enabled_of.ensures ∙ c.in-Some.is)
    (hosts_device done_answer done_tells (only_answers _) (λ s. refl) (setting_counted _ _ _) c.done_answer.ensures (λ s a. refl, λ s a. refl) c.device_of-d.ensures c.put_device.ensures c.setting-said.ensures)
