use Rattle.std.proofs.Common.{◌-◌, length, sym, ◌∙◌, arith}
use Rattle.body_frame.proofs.StateLemmas.{taken, skips_end, counted_ended, counted_all}
use Rattle.body_frame.proofs.state.BodyState.take.Goals as goal

pub returns-in-Ended-clause-takes : goal.returns-in-Ended-clause-takes
returns-in-Ended-clause-takes c =
    let i = c.loop-count.invariant in
    let u = length c.args.bytes.now - length c.loop-count.rest.now in
    let s = c.skip-count.ensures in
    let skips = skips_end _ _ _ c.args.bytes.now c.loop-count.rest.now u c.skip-count.result i.skips i.left c.if-count-eq0.true s.skips in
    taken _ _ _ u u _ skips (omega arith) (λ short. omega (arith, s.none c.if-count-eq0.true short, i.within)) (sym c.in-Ended.is ∙ c.step.ensures) (sym (counted_ended _ _ u _ c.step.ensures c.in-Ended.is))

pub returns-in_default-clause-takes : goal.returns-in_default-clause-takes
returns-in_default-clause-takes c =
    let i = c.loop-count.invariant in
    let u = length c.args.bytes.now - length c.loop-count.rest.now in
    let s = c.skip-count.ensures in
    let skips = skips_end _ _ _ c.args.bytes.now c.loop-count.rest.now u c.skip-count.result i.skips i.left c.if-count-eq0.true s.skips in
    taken _ _ _ u _ _ skips (omega arith) (λ short. omega (arith, s.none c.if-count-eq0.true short, i.within)) c.step.ensures (sym (counted_all _ _ u _ c.step.ensures c.in_default.not-Ended))
