use Rattle.std.proofs.Common.{◌++◌, ◌∙◌, ap, map, flat_map}
use Rattle.conf_races.specs.Origins.{line_of, word_lines}
use Rattle.conf_races.proofs.LineLaws.{one_more, none_left}
use Rattle.conf_races.proofs.lines.word_lines.Goals as goal

pub loop-branch-preserved : goal.loop-branch-preserved
loop-branch-preserved c =
    let d = c.in-Some.branch.directive.now in
    let now = c.loop-branch.lines.items in
    one_more now c.push_words.new.lines.items (map (λ w. line_of d) d.args) _ _ _
    (c.in_ok-push_words.ensures ∙ ap (λ x. now ++ map (λ w. x) c.as_slice.result.now) c.line_of.ensures ∙ ap (λ ws. now ++ map (λ w. line_of d) ws) c.as_slice.ensures)
    (ap (flat_map word_lines) c.in-Some.ensures.blocks) c.loop-branch.invariant

pub returns : goal.returns
returns c = none_left c.loop-branch.lines.items _ _ (ap (flat_map word_lines) c.in_default.ensures.blocks) c.loop-branch.invariant
