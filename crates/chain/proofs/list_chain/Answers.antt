use Rattle.std.proofs.Common.{ℕ, ◌/◌, List, map, length, ap, ◌∙◌, arith}
use Rattle.octets.specs.Bytes.{splice}
use Rattle.table.specs.Rows.{join}
use Rattle.chain.specs.Chain.{count, key_row}
use Rattle.chain.proofs.Keys.{listed_all}
use Rattle.chain.proofs.list_chain.Goals as goal

pub returns-clause-room_after : goal.returns-clause-room_after
returns-clause-room_after c =
    let all = listed_all (length c.args.room.now / 6) c.min-n.result c.get_u64-next.result c.args.chain.now c.get_u64-next.ensures (omega arith) in
    let put : List (List ℕ) → List ℕ = λ rs. splice c.args.room.now 0 (join rs) in
    c.loop-i.invariant.0
    ∙ ap (λ (n : ℕ). put (map (key_row c.args.chain.now) (count c.get_u64-next.result n))) (omega arith)
    ∙ ap put all.1
