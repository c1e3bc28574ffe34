-- By the law of small areas, from the call by value.
use Rattle.std.proofs.Common.{refl}
use Rattle.host_answers.specs.HostAnswers.{fetched_answer}
use Rattle.goosetable.proofs.StayLaws.{only_answers}
use Rattle.goosetable.proofs.TellLaws.{fetch_tells}
use Rattle.goosetable.proofs.CountLaws.{fetch_counted, fetch_counts}
use Rattle.goosetable.proofs.HostLaws.{hosts_read}
use Rattle.goosetable.proofs.goosetable_fetch.Goals as goal

pub returns : goal.returns
returns c =
    hosts_read (fetched_answer 1) (fetch_tells _ _) (only_answers _) (fetch_counts _ _ _ _ _) (fetch_counted _ _ _ _ _) c.fetch_answer.ensures (λ s a. refl, λ s a. refl) c.device_of.ensures c.fetch-fetched.ensures
