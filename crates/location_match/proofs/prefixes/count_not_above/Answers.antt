use Rattle.std.proofs.Common.{◌≡◌, ◌+◌, ◌-◌, ◌<◌, ◌≤◌, ◌/◌, true, false, length, sym, ap, ◌∙◌, subst, arith}
use Rattle.std.proofs.lemmas.List.{length-map}
use Rattle.location_match.specs.Prefixes.{text_at, is_at_most}
use Rattle.location_match.specs.Shared.{shared}
use Rattle.location_match.specs.Entries.{texts_of}
use Rattle.location_match.proofs.Halves.{IsHalving, halving-start, halving-step}
use Rattle.location_match.proofs.Nearest.{below-left, above-right, bounds-start, bounds-shared, bounds-right, bounds-left}
use Rattle.location_match.proofs.prefixes.count_not_above.Goals as goal

pub loop-low-init : goal.loop-low-init
loop-low-init g c = record {
  ordered = omega arith;
  inside = omega arith;
  below = λ i lt. absurd (omega (arith, lt));
  above = λ i le lt. absurd (omega (arith, le, lt));
  bounds = bounds-start (texts_of c.args.entries.now) c.args.path.now (length c.args.entries.now);
  halved = subst (λ n. IsHalving (length c.args.entries.now) n c.args.steps.now c.args.steps.now) (omega arith)
      (halving-start (length c.args.entries.now) c.args.steps.now);
}

pub shared_from-now-requires : goal.shared_from-now-requires
shared_from-now-requires g c =
    let texts = texts_of c.args.entries.now in
    let path = c.args.path.now in
    let count : length texts ≡ length c.args.entries.now = length-map c.args.entries.now (λ e. e.text) in
    let middle = c.loop-low.low + (c.loop-low.high - c.loop-low.low) / 2 in
    let same : c.as_slice-text.result.now ≡ text_at texts middle = c.as_slice-text.ensures ∙ c.entry_at.ensures.text in
    let least : c.start_of.result ≤ shared (text_at texts middle) path =
    bounds-shared texts c.requires.sorted path c.args.common c.loop-low.low c.loop-low.high c.loop-low.below c.loop-low.above c.loop-low.floor
    c.requires.common c.loop-low.invariant.bounds c.start_of.result middle (omega arith) (omega (arith, c.loop-low-test.true))
    (omega (arith, count, c.loop-low.invariant.inside)) c.start_of.ensures in
    subst (λ t. c.start_of.result ≤ shared t path) (sym same) least

pub loop-low-preserved-then-is_not_above_by : goal.loop-low-preserved-then-is_not_above_by
loop-low-preserved-then-is_not_above_by g c =
    let texts = texts_of c.args.entries.now in
    let path = c.args.path.now in
    let count : length texts ≡ length c.args.entries.now = length-map c.args.entries.now (λ e. e.text) in
    let middle = c.loop-low.low + (c.loop-low.high - c.loop-low.low) / 2 in
    let inside : middle < length texts = omega (arith, count, c.loop-low.invariant.inside, c.loop-low-test.true) in
    let same : c.as_slice-text.result.now ≡ text_at texts middle = c.as_slice-text.ensures ∙ c.entry_at.ensures.text in
    let below : is_at_most (text_at texts middle) path ≡ true =
    ap (λ t. is_at_most t path) (sym same) ∙ sym c.is_not_above_by.ensures ∙ c.if-is_not_above_by.true in
    let is : c.shared_from-now.result ≡ shared (text_at texts middle) path = c.shared_from-now.ensures ∙ ap (λ t. shared t path) same in
    let least : (c.min-floor.result ≤ c.shared_from-now.result) × (c.min-floor.result ≤ c.args.common) =
    (grind (arith, c.min-floor.ensures), grind (arith, c.min-floor.ensures)) in
    record {
      ordered = omega (arith, c.loop-low-test.true);
      inside = c.loop-low.invariant.inside;
      below = λ i lt. below-left texts c.requires.sorted path middle i inside below (omega (arith, lt));
      above = c.loop-low.invariant.above;
      bounds = bounds-right texts c.requires.sorted path c.args.common c.loop-low.low c.loop-low.high c.loop-low.below c.loop-low.above c.loop-low.floor
          c.requires.common c.loop-low.invariant.bounds middle c.shared_from-now.result c.min-floor.result inside is least below;
      halved = halving-step (length c.args.entries.now) (c.loop-low.high - c.loop-low.low) _ c.args.steps.now c.loop-low.steps _
          (omega (arith, c.loop-low-test.true)) (omega (arith, c.loop-low-test.true)) c.entry_at.ensures.step c.loop-low.invariant.halved;
    }

pub loop-low-preserved : goal.loop-low-preserved
loop-low-preserved g c =
    let texts = texts_of c.args.entries.now in
    let path = c.args.path.now in
    let count : length texts ≡ length c.args.entries.now = length-map c.args.entries.now (λ e. e.text) in
    let middle = c.loop-low.low + (c.loop-low.high - c.loop-low.low) / 2 in
    let inside : middle < length texts = omega (arith, count, c.loop-low.invariant.inside, c.loop-low-test.true) in
    let same : c.as_slice-text.result.now ≡ text_at texts middle = c.as_slice-text.ensures ∙ c.entry_at.ensures.text in
    let above : is_at_most (text_at texts middle) path ≡ false =
    ap (λ t. is_at_most t path) (sym same) ∙ sym c.is_not_above_by.ensures ∙ c.if-is_not_above_by.false in
    let is : c.shared_from-now.result ≡ shared (text_at texts middle) path = c.shared_from-now.ensures ∙ ap (λ t. shared t path) same in
    let least : (c.min-floor.result ≤ c.shared_from-now.result) × (c.min-floor.result ≤ c.args.common) =
    (grind (arith, c.min-floor.ensures), grind (arith, c.min-floor.ensures)) in
    record {
      ordered = omega arith;
      inside = omega (arith, c.loop-low.invariant.inside, c.loop-low-test.true);
      below = c.loop-low.invariant.below;
      above = λ i le lt. above-right texts c.requires.sorted path middle i above le (omega (arith, count, lt));
      bounds = bounds-left texts c.requires.sorted path c.args.common c.loop-low.low c.loop-low.high c.loop-low.below c.loop-low.above c.loop-low.floor
          c.requires.common c.loop-low.invariant.bounds middle c.shared_from-now.result c.min-floor.result inside is least above;
      halved = halving-step (length c.args.entries.now) (c.loop-low.high - c.loop-low.low) _ c.args.steps.now c.loop-low.steps _
          (omega (arith, c.loop-low-test.true)) (omega (arith, c.loop-low-test.true)) c.entry_at.ensures.step c.loop-low.invariant.halved;
    }
