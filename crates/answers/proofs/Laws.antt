-- Laws of the rows that are written: their bytes, the bodies of replies, and a result that lists actions alone.
-- Assumes nothing.
use Rattle.std.specs.Prelude.{◌≡◌, ℕ, ◌+◌, List, [], ◌++◌, length, drop, replicate}
use mathlib.Core.Path.{sym, ap, ap₂, ◌∙◌}
use mathlib.Core.List.{append_assoc}
use native.Mathlib.Omega.{arith}
use lib.ListN.{length-append}
use lib.Seq.{take_at, drop-append-add}
use Rattle.octets.specs.Bytes.{splice, be}
use Rattle.octets.proofs.Numbers.{length_be}
use Rattle.table.specs.Rows.{join, written}
use Rattle.table.specs.Codec.{with_table}
use Rattle.rows.specs.declared.Action.{Action}
use Rattle.rows.specs.declared.Reply.{Reply}
use Rattle.rows.specs.Rows.{reply_bytes, action_codec}
use Rattle.model.specs.State.{Change}
use Rattle.model.specs.Calls.{Answer, result}
use Rattle.model.specs.Areas.{answer_areas}
use Rattle.model.specs.Lent.{actions_lent}

-- a reply with its whole body has 40 bytes
pub length_reply : (r : Reply) → length r.body ≡ 37 → length (reply_bytes r) ≡ 40
unfolding reply_bytes
length_reply r h =
    omega (arith, length-append (be 1 r.kind ++ be 2 r.cell) r.body, length-append (be 1 r.kind) (be 2 r.cell), length_be 1 r.kind, length_be 2 r.cell)

-- a tag over zeros, and more behind it
pub tag_and_more : (tag more y z : List ℕ) → length tag ≡ 16 → y ≡ splice (replicate 37 0) 0 tag → z ≡ splice y 16 more
    → z ≡ tag ++ (more ++ drop (length more) (replicate 21 0))
unfolding splice
tag_and_more tag more y z l e f =
    let R : List ℕ = replicate 21 0 in
    f ∙ ap (λ (x : List ℕ). splice x 16 more) (e ∙ ap (λ (n : ℕ). tag ++ drop (0 + n) (replicate 37 0)) l)
    ∙ ap₂ (λ (x w : List ℕ). x ++ more ++ w) (take_at tag R 16 l)
    (ap (λ (n : ℕ). drop (n + length more) (tag ++ R)) (sym l) ∙ drop-append-add tag R (length more))
    ∙ append_assoc tag more (drop (length more) R)

-- a result that lists actions alone
pub acted : (v : Answer) (acts : List Action) (c : Change) (ac y : List ℕ) → y ≡ with_table action_codec ac acts
    → actions_lent y ≡ answer_areas (result v [] acts c) (actions_lent ac)
unfolding answer_areas with_table written join splice
acted v acts c ac y e = ap actions_lent e
