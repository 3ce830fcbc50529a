use Rattle.std.proofs.Common.{ℕ, List, arith}
use Rattle.site_views.specs.Values.{Text}
use Rattle.site_whole.specs.Whole.{auth_set_seen}
use Rattle.race_meaning.specs.Reads.{in_text}
use Rattle.race_check.specs.Names.{has}
use Rattle.race_check.proofs.Lists.{next_at, all_over}
use Rattle.race_places.specs.Index.{at}
use Rattle.race_places.proofs.Lines.{lines_more, lines_short, lines_over}
use Rattle.race_places.proofs.places.add_auth_sets.Goals as goal

pub returns-in_default : goal.returns-in_default
returns-in_default c = λ name.
    lines_short (λ (s : List ℕ × Text). in_text name s.1) auth_set_seen c.args.sets.now c.loop-set.set-index c.loop-set.left.now (at c.loop-set.reads name) _ c.in_default.ensures.cases (c.loop-set.invariant name)

pub loop-set-preserved : goal.loop-set-preserved
loop-set-preserved c = λ name.
    lines_more (λ (s : List ℕ × Text). in_text name s.1) auth_set_seen c.args.sets.now c.loop-set.set-index c.set-item.result c.loop-set.left.now c.in-Some.rest.now c.in-Some.line.now (has c.in_ok-read.read name)
    (at c.loop-set.reads name) (at c.add_all.new.self name) _ (next_at c.args.sets.now c.loop-set.set-index c.set-item.result (omega arith) c.set-item.is) c.in-Some.ensures.cases.0 (c.in_ok-read.ensures name) (c.in_ok-add_all.ensures name) (c.loop-set.invariant name)

pub returns : goal.returns
returns c = λ name.
    lines_over (λ (s : List ℕ × Text). in_text name s.1) auth_set_seen c.args.sets.now c.loop-set.set-index c.loop-set.left.now (at c.loop-set.reads name) _ (all_over c.args.sets.now c.loop-set.set-index (omega arith)) (c.loop-set.invariant name)
