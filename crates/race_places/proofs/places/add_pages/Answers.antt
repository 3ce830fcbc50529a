use Rattle.std.proofs.Common.{arith}
use Rattle.site_views.specs.Values.{PageRule}
use Rattle.site_whole.specs.Whole.{page_seen}
use Rattle.race_meaning.specs.Reads.{in_target}
use Rattle.race_check.specs.Names.{has}
use Rattle.race_check.proofs.Lists.{next_at, all_over}
use Rattle.race_places.specs.Index.{at}
use Rattle.race_places.proofs.Lines.{lines_more, lines_short, lines_over}
use Rattle.race_places.proofs.places.add_pages.Goals as goal

pub returns-in_default : goal.returns-in_default
returns-in_default c = λ name.
    lines_short (λ (r : PageRule). in_target name r.target) page_seen c.args.rules.now c.loop-rule.rule-index c.loop-rule.left.now (at c.loop-rule.reads name) _ c.in_default.ensures.cases (c.loop-rule.invariant name)

pub loop-rule-preserved : goal.loop-rule-preserved
loop-rule-preserved c = λ name.
    lines_more (λ (r : PageRule). in_target name r.target) page_seen c.args.rules.now c.loop-rule.rule-index c.rule-item.result c.loop-rule.left.now c.in-Some.rest.now c.in-Some.line.now (has c.in_ok-read.read name)
    (at c.loop-rule.reads name) (at c.add_all.new.self name) _ (next_at c.args.rules.now c.loop-rule.rule-index c.rule-item.result (omega arith) c.rule-item.is) c.in-Some.ensures.cases.0 (c.in_ok-read.ensures name) (c.in_ok-add_all.ensures name) (c.loop-rule.invariant name)

pub returns : goal.returns
returns c = λ name.
    lines_over (λ (r : PageRule). in_target name r.target) page_seen c.args.rules.now c.loop-rule.rule-index c.loop-rule.left.now (at c.loop-rule.reads name) _ (all_over c.args.rules.now c.loop-rule.rule-index (omega arith)) (c.loop-rule.invariant name)
