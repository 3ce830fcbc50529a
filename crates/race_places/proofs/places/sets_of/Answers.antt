use Rattle.std.proofs.Common.{◌<◌, length, arith}
use Rattle.site_whole.specs.Whole.{level_whole}
use Rattle.race_check.proofs.Lists.{number_at, all_over}
use Rattle.race_places.specs.Index.{at}
use Rattle.race_places.specs.Places.{level_by, level_sets}
use Rattle.race_places.proofs.Lines.{both_more, both_short, both_over}
use Rattle.race_places.proofs.places.sets_of.Goals as goal

pub returns-in_default : goal.returns-in_default
returns-in_default c = λ lists patterns name.
    both_short (level_sets name) (level_whole patterns c.args.site.now) (level_by lists) c.args.numbers.now c.loop-number.number-index c.loop-number.left.now (at c.loop-number.sets name) _ c.in_default.ensures.cases (c.loop-number.invariant lists patterns name)

pub loop-number-preserved : goal.loop-number-preserved
loop-number-preserved c = λ lists patterns name.
    let xs = c.args.numbers.now in
    let i = c.loop-number.number-index in
    let inside : i < length xs = omega arith in
    both_more (level_sets name) (level_whole patterns c.args.site.now) (level_by lists) xs i _ c.loop-number.left.now c.in-Some.rest.now c.in-Some.own.now (at c.loop-number.sets name) (at c.add_sets.new.sets name) _
    (number_at xs i inside) c.in-Some.ensures.cases.0 (c.in_ok-add_sets.ensures lists patterns name) (c.loop-number.invariant lists patterns name)

pub returns : goal.returns
returns c = λ lists patterns name.
    both_over (level_sets name) (level_whole patterns c.args.site.now) (level_by lists) c.args.numbers.now c.loop-number.number-index c.loop-number.left.now (at c.loop-number.sets name) _ (all_over c.args.numbers.now c.loop-number.number-index (omega arith)) (c.loop-number.invariant lists patterns name)
