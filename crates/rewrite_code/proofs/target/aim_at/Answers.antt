use Rattle.std.proofs.Common.{◌≡◌, ◌+◌, ◌++◌, true, length, drop, is_some, sym, ◌∙◌, ap, rules}
use Rattle.ngx_variables.specs.Texts.{value_text}
use Rattle.request_meaning.specs.Cuts.{Cut, cut}
use Rattle.rewrite_code.proofs.Cuts.{aims_at}
use Rattle.rewrite_code.proofs.target.aim_at.Goals as goal

pub returns : goal.returns
returns c =
    let main = c.args.main.now in
    let request = c.args.request.now in
    let vars = c.args.vars.now in
    let asked : is_some (cut c.pieces.result.now).args ≡ true = search rules in
    let path = c.append_path.new.out in
    aims_at main request vars c.args.to.now c.args.whole path c.in_ok-args.args c.requires
    (sym asked ∙ ap (λ t. is_some (cut t).args) c.pieces.ensures)
    (c.in_ok-append_path.ensures
    ∙ (ap (λ t. t ++ value_text main request vars (cut c.pieces-2.result.now).path) c.new-path.ensures
    ∙ ap (λ t. value_text main request vars (cut t).path) c.pieces-2.ensures))
    (c.in_ok-args.ensures
    ∙ (c.behind.ensures
    ∙ (ap (λ n. drop (n + 1) c.as_slice.result.now) c.len.ensures
    ∙ ap (λ t. drop (length path + 1) t) c.as_slice.ensures)))
