use Rattle.std.proofs.Common.{length, ◌<◌, arith}
use Rattle.ssi_text.specs.Marks.{marks}
use Rattle.filter_api.proofs.Turns.{pass_step}
use Rattle.filter_api.proofs.stage.pass_all.Goals as goal

pub loop-i-preserved : goal.loop-i-preserved
loop-i-preserved g c =
    let xs = c.args.members.now.items in
    let gs = c.loop-i.stages.items in
    let hx : c.loop-i.i < length xs = omega (arith, c.args.members.now.ok) in
    let hg : c.loop-i.i < length gs = omega (arith, c.args.members.now.ok, c.loop-i.stages.ok, c.loop-i.invariant.0) in
    let s = pass_step (λ b. ((goal.BodyFilter-dyn g (b.vtable, b.value)).member b.value).machine c.args.facts.now) xs gs c.loop-i.i c.index.result.now c.index_mut.result.now c.pass.new.stage (marks c.loop-i.parts.items) (marks c.in_ok-parts.parts.items) _ hx hg c.index.ensures c.index_mut.ensures.value c.in_ok-parts.ensures.stage c.in_ok-parts.ensures.out c.loop-i.invariant.1 c.loop-i.invariant.2 in
    (c.loop-i.invariant.0, s.0, s.1)
