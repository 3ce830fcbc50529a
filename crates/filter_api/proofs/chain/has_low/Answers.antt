use Rattle.std.proofs.Common.{length, ◌<◌, arith}
use Rattle.filter_api.proofs.LowKinds.{any_here, any_later}
use Rattle.filter_api.proofs.chain.has_low.Goals as goal

pub returns-then-kind_of-lt3 : goal.returns-then-kind_of-lt3
returns-then-kind_of-lt3 g c =
    let xs = c.args.members.now.items in
    let hx : c.loop-i.i < length xs = omega (arith, c.args.members.now.ok) in
    any_here (λ b. ((goal.BodyFilter-dyn g (b.vtable, b.value)).member b.value).kind) xs c.loop-i.i c.index.result.now _ hx c.index.ensures (omega (arith, c.kind_of.ensures.kind)) c.loop-i.invariant

pub loop-i-preserved : goal.loop-i-preserved
loop-i-preserved g c =
    let xs = c.args.members.now.items in
    let hx : c.loop-i.i < length xs = omega (arith, c.args.members.now.ok) in
    any_later (λ b. ((goal.BodyFilter-dyn g (b.vtable, b.value)).member b.value).kind) xs c.loop-i.i c.index.result.now _ hx c.index.ensures (omega (arith, c.kind_of.ensures.kind)) c.loop-i.invariant
