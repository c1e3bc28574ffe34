-- `load`: refused by its tests, or the records are loaded. Assumes nothing.
use Rattle.std.proofs.Common.{rules}
use Rattle.std.proofs.lemmas.Result.{err_from_is_err_and}
use Rattle.load.proofs.CallLaws.{fine_areas, fine_ten, load_refused, load_performed}
use Rattle.load.proofs.load.Goals as goal

pub get_u64-next-requires : goal.get_u64-next-requires
get_u64-next-requires c = fine_ten _ _ _ _ c.in_ok-test_file.ensures

pub load_records-counts-requires : goal.load_records-counts-requires
load_records-counts-requires c = fine_areas _ _ _ _ _ (search rules) c.in_ok-test_file.ensures

pub returns-in_err-test_file : goal.returns-in_err-test_file
returns-in_err-test_file c a =
    let p = err_from_is_err_and c.from_residual.result c.from_residual.ensures.1 in
    rw (p.1, p.2) (load_refused _ _ _ _ _ _ a _ c.in_err-test_file.ensures)

pub returns : goal.returns
returns c a = load_performed _ _ _ _ _ _ a c.in_ok-test_file.ensures c.load_records-counts.ensures c.get_u64-next.ensures
