use Rattle.std.proofs.Common.{ℕ, ◌+◌, ◌-◌, ◌*◌, ◌/◌, length, drop, refl, arith, length-drop, length-take, rules}
use Rattle.table.specs.Rows.{all_rows}
use Rattle.table.proofs.RowLaws.{all_rows_lent, all_rows_end}
use Rattle.octets.specs.Bytes.{part}
use Rattle.chain.proofs.Keys.{chains_none, chains_put}
use Rattle.chain.proofs.list_chains.Goals as goal

pub loop-i-init : goal.loop-i-init
loop-i-init c = (chains_none _ c.args.room.now _ (all_rows_end 10 c.args.chains.now (length c.args.chains.now / 10) (omega arith)), refl)

pub loop-i-preserved : goal.loop-i-preserved
unfolding part
loop-i-preserved c =
    let i : ℕ = c.loop-i.i - 1 in
    let rows = all_rows_lent 10 c.args.chains.now i c.loop-i.i (i * 10 + 10 - i * 10) (omega arith) (omega arith) (omega arith) in (
      chains_put c.loop-i.n c.list_chain-n.result c.args.room.now c.loop-i.room c.list_chain-n.new.room _
          (drop c.loop-i.i (all_rows 10 c.args.chains.now)) (drop i (all_rows 10 c.args.chains.now))
          (omega arith) (simp (length-take, length-drop) (omega arith))
          rows c.loop-i.invariant.0 c.list_chain-n.ensures.value c.list_chain-n.ensures.room_after,
      search rules,
    )
