-- `wrong_carried`: each of the three tests in turn. Assumes nothing.
use Rattle.load_tests.proofs.TestLaws.{carried_unknown, carried_twice, carried_many}
use Rattle.load_tests.proofs.KeyLaws.{in_file}
use Rattle.std.proofs.Common.{arith}
use Rattle.octets.specs.Bytes.{part}
use Rattle.octets.proofs.Parts.{length_part}
use Rattle.load_tests.proofs.Against.wrong_carried.Goals as goal

pub returns-then-not-known : goal.returns-then-not-known
unfolding part
returns-then-not-known c = carried_unknown _ _ _ c.known.ensures c.get_u64-id.ensures c.if-not-known.true

pub returns-then-count_keys-gt1 : goal.returns-then-count_keys-gt1
unfolding part
returns-then-count_keys-gt1 c =
    carried_twice _ _ _ c.known.ensures c.get_u64-id.ensures c.if-not-known.false (in_file 8 _ (omega (arith, length_part c.args.record.now 21 16 (omega arith))) c.args.self.now.gathered c.count_keys.ensures)
    c.if-count_keys-gt1.true

pub returns : goal.returns
unfolding part
returns c =
    carried_many _ _ _ c.known.ensures c.get_u64-id.ensures c.if-not-known.false (in_file 8 _ (omega (arith, length_part c.args.record.now 21 16 (omega arith))) c.args.self.now.gathered c.count_keys.ensures)
    c.if-count_keys-gt1.false (in_file 0 _ (omega (arith, length_part c.args.record.now 13 8 (omega arith))) c.args.self.now.gathered c.count_keys-2.ensures)
