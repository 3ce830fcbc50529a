use Rattle.std.proofs.Common.{◌∙◌, ℕ, List, ◌++◌, ap, arith}
use Rattle.byte_text.proofs.Queues.{grown}
use Rattle.byte_text.proofs.queue.ByteQueue.append_with.Goals as goal

pub returns-clause-added : goal.returns-clause-added
returns-clause-added g c = λ e.
    let s = c.self.inside in
    let more = grown s.start s.end c.args.count s.bytes.items c.fill_after.new.bytes.items c.self.invariant.0 (let a = c.in_ok-make_room.ensures.room in let b = c.fill_after.ensures.len in omega (arith, a, b)) (c.fill_after.ensures.items ∙ c.in_ok-make_room.ensures.items) in
    (more.0, more.1, more.2 ∙ ap (λ (x : List ℕ). x ++ more.0) (c.self.view_is ∙ c.settle.ensures))
