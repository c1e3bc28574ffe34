-- The byte is read; the tag is the call's.
use Rattle.std.proofs.Common.{sym, ◌∙◌}
use Rattle.goosetable.specs.Hosts.{reads}
use Rattle.goosetable.proofs.goosetable_route_tag.Goals as goal

pub returns : goal.returns
returns c = reads _ (sym c.from_label.ensures ∙ c.in-Some.is) (record { answer = c.done_answer.ensures; area = c.route_tag.ensures })
