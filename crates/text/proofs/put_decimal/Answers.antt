-- There are at most 20 digits, and they are those of `decimal`.
use Rattle.std.proofs.Common.{◌≤◌, length, sym, ap, ◌∙◌, arith}
use Rattle.text.proofs.TextLaws.{digits_decimal, few, length_digits}
use Rattle.octets.specs.Bytes.{splice}
use Rattle.text.proofs.put_decimal.Goals as goal

pub returns : goal.returns
returns c =
    let k = c.decimal-k.result in
    let d = c.decimal-k.ensures in
    let f : k ≤ 20 = few k c.args.n d.len c.ranges.n.fits in
    let e = d.digits ∙ digits_decimal k c.args.n d.len f in
    let l = sym (length_digits 10 k c.args.n) ∙ ap length (digits_decimal k c.args.n d.len f) in
    record {
      area = c.copy_in.ensures ∙ ap (splice c.args.out.now c.args.at) e;
      next = omega (arith, l);
      near = omega (arith, l);
    }
