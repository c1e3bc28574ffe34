use mathlib.Core.Path.{◌∙◌}
use Rattle.kdf.specs.Kdf.{longest_tag}
use Rattle.kdf.proofs.KdfLaws.{kept_done, kept_refused, tag_bytes}
use Rattle.kdf.proofs.tag.Goals as goal

pub returns-in_err-allowed-clause-out_after : goal.returns-in_err-allowed-clause-out_after
returns-in_err-allowed-clause-out_after c = kept_refused c.args.label.now longest_tag _ c.args.out.now c.in_err-allowed.ensures.value

pub returns-clause-out_after : goal.returns-clause-out_after
returns-clause-out_after c =
    let fits = c.in_ok-allowed.ensures.fits in
    tag_bytes _ c.args.key.now c.args.label.now c.args.x.now _ c.head_of-head.ensures c.hmac_parts-digest.ensures c.copy_from_slice.ensures.after
    ∙ kept_done c.args.label.now longest_tag _ c.args.out.now fits.0 fits.1
