-- `wrong_row`: each test of a row in turn. Assumes nothing.
use Rattle.octets.specs.Bytes.{part}
use Rattle.load_tests.proofs.TestLaws.{row_past, row_twice, row_carried, row_other}
use Rattle.load_tests.proofs.Against.wrong_row.Goals as goal

pub returns-then-self-get_u64 : goal.returns-then-self-get_u64
unfolding part
returns-then-self-get_u64 c = row_past _ _ _ _ c.get_u64.ensures c.if-self-get_u64.true

pub returns-then-slot_twice : goal.returns-then-slot_twice
unfolding part
returns-then-slot_twice c = row_twice _ _ _ _ c.get_u64.ensures c.if-self-get_u64.false c.slot_twice.ensures c.if-slot_twice.true

pub returns-then-has_key : goal.returns-then-has_key
unfolding part
returns-then-has_key c =
    row_carried _ _ _ _ c.get_u64.ensures c.if-self-get_u64.false c.slot_twice.ensures c.if-slot_twice.false c.has_key.ensures c.if-has_key.true
    c.wrong_carried.ensures

pub returns : goal.returns
unfolding part
returns c =
    row_other _ _ _ _ c.get_u64.ensures c.if-self-get_u64.false c.slot_twice.ensures c.if-slot_twice.false c.has_key.ensures c.if-has_key.false
