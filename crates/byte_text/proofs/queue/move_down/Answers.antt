use Rattle.std.proofs.Common.{◌-◌, drop}
use Rattle.byte_text.proofs.Queues.{lowered}
use Rattle.byte_text.proofs.queue.move_down.Goals as goal

pub returns-clause-items : goal.returns-clause-items
returns-clause-items c =
    lowered c.args.start c.args.end c.args.bytes.now c.copy_from_slice.new.self
    (drop (c.args.end - c.args.start) c.split_at_mut-free.result.0.now) c.split_at_mut-free.result.1.now
    c.requires.within c.requires.room (let a = c.copy_from_slice.ensures.after in let b = c.split_at_mut-free.ensures.back in cc)
