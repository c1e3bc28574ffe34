-- The byte is read, and then by the law of small areas, from the call by value.
use Rattle.std.proofs.Common.{sym, refl, ◌∙◌}
use Rattle.host_answers.specs.HostAnswers.{own_answers}
use Rattle.goosetable.specs.Hosts.{reads}
use Rattle.goosetable.proofs.StayLaws.{only_answers}
use Rattle.goosetable.proofs.TellLaws.{own_tells}
use Rattle.goosetable.proofs.CountLaws.{own_counted}
use Rattle.goosetable.proofs.HostLaws.{hosts_device}
use Rattle.goosetable.proofs.goosetable_own_envelope.Goals as goal

pub returns : goal.returns
returns c =
    reads _ (sym c.from_label.ensures ∙ c.in-Some.is)
    (hosts_device (own_answers _) (own_tells c.args.row.now) (only_answers _) (λ s. refl) (own_counted _ _ _ _ _ _ _ _) (λ i. (c.own_answer.ensures i, c.own_row.ensures i)) (λ s a. refl, λ s a. refl) c.device_of-d.ensures c.put_device.ensures c.own_envelope-made.ensures)
