use Rattle.std.proofs.Common.{◌<◌, length, arith}
use Rattle.rewrite_compile.proofs.Spaces.{other_end, space_end, nothing_left}
use Rattle.rewrite_compile.proofs.words.trim_back.Goals as goal

pub returns-then-last-ne32 : goal.returns-then-last-ne32
returns-then-last-ne32 c =
    let long : 0 < length c.loop-rest.rest.now = omega arith in
    other_end c.loop-rest.rest.now c.args.text.now long c.if-last-ne32.true c.loop-rest.invariant

pub loop-rest-preserved : goal.loop-rest-preserved
loop-rest-preserved c =
    let long : 0 < length c.loop-rest.rest.now = omega arith in
    space_end c.loop-rest.rest.now c.args.text.now long c.if-last-ne32.false c.loop-rest.invariant

pub returns : goal.returns
returns c = nothing_left c.loop-rest.rest.now c.args.text.now c.in_default.len_below c.loop-rest.invariant
