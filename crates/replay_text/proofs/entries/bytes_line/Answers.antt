use Rattle.std.proofs.Common.{arith}
use Rattle.replay_words.specs.Sums.{most_bytes}
use Rattle.replay_text.proofs.entries.bytes_line.Goals as goal

pub overflow_add-used : goal.overflow_add-used
unfolding most_bytes
overflow_add-used c = omega (arith, c.in_ok-bytes.ensures.within, c.len.ensures)
