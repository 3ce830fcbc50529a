use Rattle.std.proofs.Common.{drop, refl, ◌∙◌, ap}
use Rattle.std.proofs.lemmas.List.{take_rest}
use Rattle.ngx_variables.specs.Paths.{without_last_slash}
use Rattle.ngx_variables.proofs.Seams.{cut_from}
use Rattle.ngx_variables.proofs.joining.drop_last_slash.Goals as goal

pub returns : goal.returns
returns c =
    let at = c.args.at in
    let kept = c.without_last_slash-size.ensures ∙ ap without_last_slash (take_rest c.as_slice.result.now at ∙ ap (λ l. drop at l) c.as_slice.ensures) in
    c.truncate.ensures ∙ cut_from at _ c.args.out.now c.without_last_slash-size.result.now c.requires kept refl
