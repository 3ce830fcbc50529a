use Rattle.std.proofs.Common.{[], ◌∷◌, ◌++◌, ◌∙◌, ap, map}
use Rattle.conf_races.specs.Origins.{line_of, head_line}
use Rattle.conf_races.proofs.LineLaws.{one_more, none_left}
use Rattle.conf_races.proofs.lines.directive_lines.Goals as goal

pub loop-branch-preserved : goal.loop-branch-preserved
loop-branch-preserved c =
    let d = c.in-Some.branch.directive.now in
    let now = c.loop-branch.lines.items in
    one_more now c.push.new.self.items (line_of d ∷ []) _ _ _
    (c.in_ok-push.ensures.items ∙ ap (λ x. now ++ x ∷ []) c.line_of.ensures)
    (ap (map head_line) c.in-Some.ensures.blocks) c.loop-branch.invariant

pub returns : goal.returns
returns c = none_left c.loop-branch.lines.items _ _ (ap (map head_line) c.in_default.ensures.blocks) c.loop-branch.invariant
