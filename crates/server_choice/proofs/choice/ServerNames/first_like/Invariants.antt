use Rattle.std.proofs.Common.{◌≡◌, drop}
use Rattle.server_choice.specs.Choice.{first_like as like_of}
use Rattle.server_choice.proofs.choice.ServerNames.first_like.Given as goal

abbrev pub invariant-loop-like : goal.invariant-loop-like
invariant-loop-like l = record {
  kept : l.patterns ≡ l.fn.patterns;
  rest : like_of l.patterns (drop l.like-index l.self.likes.items) l.host ≡ like_of l.fn.patterns l.fn.self.likes.items l.host;
}
