use Rattle.std.proofs.Common.{◌-◌, ◌≡◌, ◌≤◌, ◌++◌, length, take, drop, List, ℕ}
use Rattle.replay_words.specs.Sums.{repeated}
use Rattle.replay_words.proofs.sums.repeat_from.Given as goal

-- this many copies are there
pub record Copies (front text bytes : List ℕ) (start len count done : ℕ) : Type 0 where
  pub copies : bytes ≡ front ++ repeated done text
  pub front_len : length front ≡ start
  pub text_len : length text ≡ len
  pub some : 1 ≤ done
  pub no_more : done ≤ count

abbrev pub invariant-copies : goal.invariant-copies
invariant-copies l = Copies (take l.start l.fn.out.items) (drop l.start l.fn.out.items) l.out.items l.start l.len l.count l.done

abbrev pub decreases-copies : goal.decreases-copies
decreases-copies l = l.count - l.done
