use Rattle.std.proofs.Common.{◌≢◌, ◌<◌, false, length, arith, ◌∙◌, get_or-set_other, get_or-set_same, length-set}
use Rattle.conf_include.proofs.MaskLaws.{byte_row}
use Rattle.conf_include.proofs.mask.put_byte.Goals as goal

pub returns : goal.returns
returns c mask row other =
    let n = length c.args.name.now in
    let size = c.requires in
    let kept = c.loop-i.auto.row in
    let last : n < length c.loop-i.row = omega arith in
    byte_row c.args.byte mask c.args.name.now c.args.row.now _ other row (length-set c.loop-i.row n false ∙ kept)
    (λ k inside. let apart : k ≢ n = omega arith in rw get_or-set_other (c.loop-i.invariant.0 k (omega arith)))
    (get_or-set_same c.loop-i.row n false false last)
