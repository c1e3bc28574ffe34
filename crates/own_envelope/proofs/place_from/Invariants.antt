-- `place_from`: a place where the contact stands, or the count, is no earlier than its first. Assumes nothing.
use Rattle.std.proofs.Common.{◌*◌, ◌≤◌, length}
use Rattle.own_envelope.proofs.place_from.Given as goal

abbrev pub invariant-loop-k : goal.invariant-loop-k
invariant-loop-k l = l.n * 9 ≤ length l.contacts.area.now
