use Rattle.std.proofs.Common.{◌≤◌, length, ap, ◌∙◌, length-drop, arith}
use Rattle.outgoing.specs.Leaving.{most}
use Rattle.page_response.specs.Pages.{left_in, step_weight}
use Rattle.page_response.proofs.Moving as moving
use Rattle.page_response.proofs.pages.Pages.written.Goals as goal

pub returns-then-self-gt0-clause-lowers : goal.returns-then-self-gt0-clause-lowers
unfolding step_weight
returns-then-self-gt0-clause-lowers c = λ some.
    let old = c.args.self.now.outgoing.pending in
    let size = ap length c.used.ensures.pending ∙ length-drop c.args.count old in
    let before : length c.used.new.self.pending ≤ most = omega (arith, size, c.requires.bounded) in
    let few = c.pump.ensures.bounded before in
    let steps = c.pump.ensures.others.0 in
    omega (arith, steps, few, c.if-self-gt0.true)

pub returns-else-self-gt0-clause-bytes : goal.returns-else-self-gt0-clause-bytes
returns-else-self-gt0-clause-bytes c = λ w patterns site trees.
    let p = c.args.self.now in
    moving.used_first p.outgoing c.used.new.self c.args.count c.used.ensures.pending c.used.ensures.block (left_in w patterns site trees p).body
