use Rattle.std.proofs.Common.{sym, subst, arith}
use Rattle.std.proofs.lemmas.Bool.Decides.{nat_tests}
use Rattle.std.proofs.lemmas.List.{length-map}
use Rattle.location_match.specs.Prefixes.{IsHalved}
use Rattle.location_match.specs.Entries.{texts_of}
use Rattle.location_match.proofs.Nearest.{covers-last, none-fits, fast-none, fast-some}
use Rattle.location_match.proofs.prefixes.longest_in.Goals as goal

pub returns-then-count-eq0-clause-none : goal.returns-then-count-eq0-clause-none
returns-then-count-eq0-clause-none g c =
    let found = c.count_not_above-count.ensures in
    let count = length-map c.args.entries.now (λ e. e.text) in
    none-fits (texts_of c.args.entries.now) c.requires.sorted c.args.path.now c.count_not_above-count.result (omega (arith, count, found.inside))
    found.below (λ i le lt. found.above i le (omega (arith, count, lt))) (grind (arith, nat_tests))

pub returns-then-count-eq0-clause-cost : goal.returns-then-count-eq0-clause-cost
returns-then-count-eq0-clause-cost g c =
    let found = c.count_not_above-count.ensures in
    let count = length-map c.args.entries.now (λ e. e.text) in
    fast-none (texts_of c.args.entries.now) c.requires.sorted c.args.path.now c.count_not_above-count.result (omega (arith, count, found.inside))
    found.below (λ i le lt. found.above i le (omega (arith, count, lt)))
    c.args.steps.now c.count_not_above-count.new.steps (grind (arith, nat_tests))
    (subst (λ n. IsHalved n c.args.steps.now c.count_not_above-count.new.steps) (sym count) found.cost)

pub longest_from-requires-clause-covers : goal.longest_from-requires-clause-covers
longest_from-requires-clause-covers g c =
    let found = c.count_not_above-count.ensures in
    let count = length-map c.args.entries.now (λ e. e.text) in
    covers-last (texts_of c.args.entries.now) c.requires.sorted c.args.path.now c.count_not_above-count.result (omega (arith, count, found.inside))
    found.below (λ i le lt. found.above i le (omega (arith, count, lt))) (grind (arith, nat_tests))

pub returns-clause-counted : goal.returns-clause-counted
returns-clause-counted g c = omega (arith, c.count_not_above-count.ensures.cost.taken, c.longest_from.ensures.counted)

pub returns-clause-cost : goal.returns-clause-cost
returns-clause-cost g c =
    let found = c.count_not_above-count.ensures in
    let count = length-map c.args.entries.now (λ e. e.text) in
    fast-some (texts_of c.args.entries.now) c.requires.sorted c.args.path.now c.count_not_above-count.result (omega (arith, count, found.inside))
    found.below (λ i le lt. found.above i le (omega (arith, count, lt)))
    c.args.steps.now c.count_not_above-count.new.steps c.longest_from.new.steps (grind (arith, nat_tests))
    (subst (λ n. IsHalved n c.args.steps.now c.count_not_above-count.new.steps) (sym count) found.cost)
    c.longest_from.ensures.cost
