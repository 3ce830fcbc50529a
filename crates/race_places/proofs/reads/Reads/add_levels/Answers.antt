use Rattle.std.proofs.Common.{◌<◌, length, arith}
use Rattle.site_whole.specs.Whole.{level_whole}
use Rattle.race_check.proofs.Lists.{number_at, all_over}
use Rattle.race_places.specs.Index.{at, is_among}
use Rattle.race_places.specs.Places.{level_by, level_reads}
use Rattle.race_places.proofs.Among.{among_more, among_short, among_over}
use Rattle.race_places.proofs.reads.Reads.add_levels.Goals as goal

pub returns-in_default : goal.returns-in_default
returns-in_default c = λ patterns name line.
    among_short line (level_reads name) (level_whole patterns c.args.site.now) (level_by c.args.lists.now) c.args.numbers.now c.loop-number.number-index c.loop-number.left.now
    (is_among line (at c.loop-number.self.index name)) _ c.in_default.ensures.cases (c.loop-number.invariant.1 patterns name line)

pub loop-number-preserved : goal.loop-number-preserved
loop-number-preserved c =
    let xs = c.args.numbers.now in
    let i = c.loop-number.number-index in
    let inside : i < length xs = omega arith in (
      c.in_ok-add_level.ensures.there,
      λ patterns name line.
          among_more line (level_reads name) (level_whole patterns c.args.site.now) (level_by c.args.lists.now) xs i _ c.loop-number.left.now c.in-Some.rest.now c.in-Some.own.now
          (is_among line (at c.loop-number.self.index name)) (is_among line (at c.add_level.new.self.index name)) _
          (number_at xs i inside) c.in-Some.ensures.cases.0 (c.in_ok-add_level.ensures.gains patterns name line) (c.loop-number.invariant.1 patterns name line),
    )

pub returns : goal.returns
returns c = λ patterns name line.
    among_over line (level_reads name) (level_whole patterns c.args.site.now) (level_by c.args.lists.now) c.args.numbers.now c.loop-number.number-index c.loop-number.left.now
    (is_among line (at c.loop-number.self.index name)) _ (all_over c.args.numbers.now c.loop-number.number-index (omega arith)) (c.loop-number.invariant.1 patterns name line)
