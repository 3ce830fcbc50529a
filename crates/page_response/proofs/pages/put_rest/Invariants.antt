use Rattle.std.proofs.Common.{◌≡◌, ◌+◌, ◌++◌, ℕ, List, [], length}
use Rattle.std.specs.Prelude.{is_some}
use Rattle.outgoing.specs.Leaving.{to_come}
use Rattle.postpone_filter.specs.Runs.{filled}
use Rattle.page_response.specs.Pages.{AreClosed}
use Rattle.page_response.proofs.pages.put_rest.Given as goal

abbrev pub invariant-loop : goal.invariant-loop
invariant-loop l = record {
  put : (more : List ℕ) → to_come l.outgoing (filled (λ _. []) l.order.pieces ++ more) ≡ to_come l.fn.outgoing (filled (λ _. []) l.fn.order.pieces ++ more);
  log : l.sent + length (filled (λ _. []) l.order.pieces) ≡ l.fn.sent + length (filled (λ _. []) l.fn.order.pieces);
  closed : AreClosed l.fn.order.pieces → AreClosed l.order.pieces;
  kind : is_some l.outgoing.block ≡ is_some l.fn.outgoing.block;
}
