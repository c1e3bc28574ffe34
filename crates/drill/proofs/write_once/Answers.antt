-- So many as write says, and no more than it was handed. Assumes nothing.
use Rattle.std.proofs.Common.{◌≡◌, arith}
use Rattle.drill.proofs.WrittenLaws.{takes_once}
use Rattle.drill.proofs.write_once.Goals as goal
use Rattle.drill.proofs.write_once.Goals.{in-Ok, in-Err}

pub returns : goal.returns
returns g c =
    takes_once c.args.bytes.now
    (elim c.match-write_some.branch [
      | in-Ok w ↦ let e : c.match-write_some.n.0 ≡ w.in-Ok.n = λ i. (w.n-is i).0 in omega (arith, e, w.in-Ok.ensures.bound)
      | in-Err w ↦ let e : c.match-write_some.n.0 ≡ 0 = λ i. (w.n-is i).0 in omega (arith, e)
    ])
    c.further.ensures
