use Rattle.std.proofs.Common.{◌<◌, arith}
use Rattle.req_head.proofs.CodeLemmas.{digit_bounds, number_fits, number_more, power_fits}
use Rattle.req_head.proofs.rules.number_of.Goals as goal

pub overflow_mul-number : goal.overflow_mul-number
overflow_mul-number c =
    let i = c.loop-digit.digit-index in
    let few : i < 19 = omega (arith, c.requires.few) in
    let fits = number_fits c.loop-digit.number i 0 c.loop-digit.invariant.1 (omega arith) in
    omega (arith, fits, power_fits i few)

pub overflow_add-number : goal.overflow_add-number
overflow_add-number c =
    let i = c.loop-digit.digit-index in
    let few : i < 19 = omega (arith, c.requires.few) in
    let bounds = digit_bounds c.args.digits.now i c.loop-digit-test.true c.requires.digits in
    let fits = number_fits c.loop-digit.number i c.from.result c.loop-digit.invariant.1 (omega (arith, bounds.1, c.from.ensures)) in
    omega (arith, fits, power_fits i few)

pub loop-digit-preserved : goal.loop-digit-preserved
loop-digit-preserved c =
    let i = c.loop-digit.digit-index in
    let bounds = digit_bounds c.args.digits.now i c.loop-digit-test.true c.requires.digits in (
      number_more c.args.digits.now i c.loop-digit.number c.from.result c.loop-digit-test.true c.requires.digits c.loop-digit.invariant.0 c.from.ensures,
      number_fits c.loop-digit.number i c.from.result c.loop-digit.invariant.1 (omega (arith, bounds.1, c.from.ensures)),
    )
