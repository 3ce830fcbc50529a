use Rattle.std.proofs.Common.{arith}
use Rattle.site_views.specs.Values.{IndexName}
use Rattle.site_whole.specs.Whole.{index_seen}
use Rattle.race_meaning.specs.Reads.{in_text}
use Rattle.race_check.specs.Names.{has}
use Rattle.race_check.proofs.Lists.{next_at, all_over}
use Rattle.race_places.specs.Index.{at}
use Rattle.race_places.proofs.Lines.{lines_more, lines_short, lines_over}
use Rattle.race_places.proofs.places.add_names.Goals as goal

pub returns-in_default : goal.returns-in_default
returns-in_default c = λ name.
    lines_short (λ (i : IndexName). in_text name i.text) index_seen c.args.names.now c.loop-index.index-index c.loop-index.left.now (at c.loop-index.reads name) _ c.in_default.ensures.cases (c.loop-index.invariant name)

pub loop-index-preserved : goal.loop-index-preserved
loop-index-preserved c = λ name.
    lines_more (λ (i : IndexName). in_text name i.text) index_seen c.args.names.now c.loop-index.index-index c.index-item.result c.loop-index.left.now c.in-Some.rest.now c.in-Some.line.now (has c.in_ok-read.read name)
    (at c.loop-index.reads name) (at c.add_all.new.self name) _ (next_at c.args.names.now c.loop-index.index-index c.index-item.result (omega arith) c.index-item.is) c.in-Some.ensures.cases.0 (c.in_ok-read.ensures name) (c.in_ok-add_all.ensures name) (c.loop-index.invariant name)

pub returns : goal.returns
returns c = λ name.
    lines_over (λ (i : IndexName). in_text name i.text) index_seen c.args.names.now c.loop-index.index-index c.loop-index.left.now (at c.loop-index.reads name) _ (all_over c.args.names.now c.loop-index.index-index (omega arith)) (c.loop-index.invariant name)
