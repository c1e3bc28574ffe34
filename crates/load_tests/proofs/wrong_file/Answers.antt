-- `wrong_file`: each test of number 8 in turn. Assumes nothing.
use Rattle.load_tests.proofs.TestLaws.{by_next, file_short, file_mark, file_cut, file_over, file_records}
use Rattle.load_tests.specs.Records.{is_carried}
use Rattle.std.proofs.Common.{sym, refl, ◌∙◌, arith}
use Rattle.load_tests.proofs.wrong_file.Goals as goal

pub returns-then-file-lt-FILE_HEAD : goal.returns-then-file-lt-FILE_HEAD
returns-then-file-lt-FILE_HEAD c = file_short _ _ _ refl c.if-file-lt-FILE_HEAD.true

pub returns-then-not-has_key : goal.returns-then-not-has_key
returns-then-not-has_key c = file_mark _ _ _ (omega arith) refl c.has_key.ensures c.if-not-has_key.true

pub returns-then-cut_short : goal.returns-then-cut_short
returns-then-cut_short c = file_cut _ _ _ (omega arith) c.has_key.ensures c.if-not-has_key.false refl (sym c.if-cut_short.true ∙ c.cut_short.ensures)

pub returns-then-count-gt-MAX_CARRIED : goal.returns-then-count-gt-MAX_CARRIED
returns-then-count-gt-MAX_CARRIED c = file_over _ _ _ (omega arith) c.has_key.ensures c.if-not-has_key.false (sym c.if-cut_short.false ∙ c.cut_short.ensures) c.count.ensures refl c.if-count-gt-MAX_CARRIED.true

pub wrong_records-requires : goal.wrong_records-requires
unfolding is_carried
wrong_records-requires c = omega (arith, c.count.ensures, c.if-count-gt-MAX_CARRIED.false)

pub returns : goal.returns
returns c = file_records _ _ _ (omega arith) c.has_key.ensures c.if-not-has_key.false (sym c.if-cut_short.false ∙ c.cut_short.ensures) c.count.ensures c.if-count-gt-MAX_CARRIED.false (by_next _ _ c.get_u64-next.ensures c.wrong_records.ensures)
