use Rattle.std.proofs.Common.{◌||◌, ◌<◌, ◌∙◌, ap, length, arith}
use Rattle.site_model.specs.Levels.{raw_level}
use Rattle.site_whole.specs.Whole.{values_seen}
use Rattle.race_check.proofs.Lists.{number_at, all_over}
use Rattle.race_places.specs.Index.{at, is_among}
use Rattle.race_places.specs.Places.{origins_by, value_reads}
use Rattle.race_places.proofs.Among.{among_more, among_short, among_over}
use Rattle.race_places.proofs.reads.Reads.add_blocks.Goals as goal

pub returns-in_default-clause-gains : goal.returns-in_default-clause-gains
returns-in_default-clause-gains c = λ name line.
    among_short line (value_reads name) (λ n. values_seen c.args.site.now (raw_level c.args.site.now n)) (origins_by c.args.lists.now) c.args.numbers.now c.loop-number.number-index c.loop-number.left.now
    (is_among line (at c.loop-number.self.index name)) _ c.in_default.ensures.cases (c.loop-number.invariant.1 name line)

pub loop-number-preserved : goal.loop-number-preserved
loop-number-preserved c =
    let xs = c.args.numbers.now in
    let i = c.loop-number.number-index in
    let inside : i < length xs = omega arith in (
      c.in_ok-add_values.ensures.there,
      λ name line.
          among_more line (value_reads name) (λ n. values_seen c.args.site.now (raw_level c.args.site.now n)) (origins_by c.args.lists.now) xs i _ c.loop-number.left.now c.in-Some.rest.now c.in-Some.own.now
          (is_among line (at c.loop-number.self.index name)) (is_among line (at c.add_values.new.self.index name)) _
          (number_at xs i inside) c.in-Some.ensures.cases.0
          (c.in_ok-add_values.ensures.gains name line ∙ ap (λ l. is_among line (at c.loop-number.self.index name) || is_among line (value_reads name (values_seen c.args.site.now l) (origins_by c.args.lists.now c.in-Some.own.now))) c.level.ensures)
          (c.loop-number.invariant.1 name line),
    )

pub returns-clause-gains : goal.returns-clause-gains
returns-clause-gains c = λ name line.
    among_over line (value_reads name) (λ n. values_seen c.args.site.now (raw_level c.args.site.now n)) (origins_by c.args.lists.now) c.args.numbers.now c.loop-number.number-index c.loop-number.left.now
    (is_among line (at c.loop-number.self.index name)) _ (all_over c.args.numbers.now c.loop-number.number-index (omega arith)) (c.loop-number.invariant.1 name line)
