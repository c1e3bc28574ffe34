-- `holdings::window::keys_rise`: the keys rise if each row from the second on is above the one before it. Assumes nothing.
use Rattle.std.proofs.Common.{true, false, refl, rules, tests}
use Rattle.std.proofs.lemmas.Iterator.{YieldsList-from_range, cases_from_all}
use Rattle.holdings.proofs.WindowLaws.{rise_told, rise_at}
use Rattle.holdings.proofs.window.keys_rise.Goals as goal

pub returns : goal.returns
returns c =
    rise_told _ _ _ refl
    (cases_from_all _ _ _ (rise_at c.args.window.now true) (rise_at c.args.window.now false) c.all.ensures.ran (YieldsList-from_range 1 _ _ refl refl)
    (λ x q k. search (rules, tests)) (λ x q k. search (rules, tests)))
