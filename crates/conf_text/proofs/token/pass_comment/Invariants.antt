use Rattle.std.proofs.Common.{◌≡◌, ◌≤◌, ℕ, List, length}
use Rattle.conf_text.specs.Tokens.{tokens, comment}
use Rattle.conf_text.proofs.token.pass_comment.Given as goal

pub record Kept (line : ℕ) (rest : List ℕ) (line' : ℕ) (rest' : List ℕ) : Type 0 where
  pub same : tokens (comment rest') line' rest' ≡ tokens (comment rest) line rest
  pub within : length rest' ≤ length rest
  pub line_same : line' ≡ line

abbrev pub invariant-loop-first : goal.invariant-loop-first
invariant-loop-first l = Kept l.fn.place.line l.fn.place.rest.now l.place.line l.place.rest.now

abbrev pub decreases-loop-first : goal.decreases-loop-first
decreases-loop-first l = length l.place.rest.now
