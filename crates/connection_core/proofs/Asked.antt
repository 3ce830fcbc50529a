-- Of which tree jobs ask.
use Rattle.std.proofs.Common.{◌≡◌, ℕ, ◌≤◌, Bool, true, false, cond, eqb, ◌&&◌, List, [], ◌∷◌, Option, None, Some, refl, sym, ap, ◌∙◌, arith, suc}
use Rattle.std.specs.Borrow.{Bor}
use Rattle.std.specs.Prelude.{IfSome, option_copied}
use Rattle.std.proofs.lemmas.Bool.Decides.{nat_tests}
use Rattle.file_tree.specs.Tree.{tree_of}
use Rattle.file_tree.specs.declared.job.Ask.{Ask}
use Rattle.ngx_outside.specs.Views.{ask_in}
use Rattle.http_connection.specs.node_turn.declared.node.Node.{Node}
use Rattle.http_connection.specs.family_nodes.Runs.{is_waiting}
use Rattle.http_connection.specs.subrequests.Wants.{jobs_from}
use Rattle.http_connection.specs.request_flow.Flows.{waits}
use Rattle.http_connection.specs.access_flow.Flows.{waits as access_waits}
use Rattle.http_connection.specs.response_flow.declared.flight.Flight.{Flight}
use Rattle.http_connection.specs.response_flow.declared.flight.Flight.TheVariants.{Alone, Asking, Page}
use Rattle.http_connection.specs.response_flow.Flights.{flight_tree, jobs_of}

-- a node's job that waits asks of the page's tree
same_tree : (t : Bool) (a b : ℕ) → (t && eqb a b) ≡ true → a ≡ b
same_tree true a b h = grind (arith, nat_tests)
same_tree false a b h = cc

page_asks : (tree at : ℕ) (nodes : List Node) (node : ℕ) (ask : Ask) → ask_in (jobs_from tree at nodes) node ≡ Some ask → tree_of ask ≡ tree
unfolding jobs_from
page_asks tree at [] node ask e = cc
page_asks tree at (n ∷ nodes) node ask e =
    (elim (is_waiting tree n) as (λ t. (t ≡ true → tree_of n.ask ≡ tree) → ask_in (cond t (record { node = at; ask = n.ask } ∷ jobs_from tree (suc at) nodes) (jobs_from tree (suc at) nodes)) node ≡ Some ask → tree_of ask ≡ tree) [
      | true ↦ λ own. elim (eqb at node) as (λ t. cond t (Some n.ask) (ask_in (jobs_from tree (suc at) nodes) node) ≡ Some ask → tree_of ask ≡ tree) [
        | true ↦ λ f. ap tree_of (let i : ask ≡ n.ask = cc in i) ∙ own refl
        | false ↦ page_asks tree (suc at) nodes node ask
      ]
      | false ↦ λ own. page_asks tree (suc at) nodes node ask
    ]) (same_tree _ (tree_of n.ask) tree) e

-- a job asks of the tree of its connection's request
pub asks_known : (flight : Option Flight) (node tree : ℕ) (job : Option (Bor Ask)) → option_copied job ≡ ask_in (jobs_of flight) node → flight_tree flight ≤ tree → IfSome job (λ ask. tree_of ask.now ≤ tree)
asks_known flight node tree None e h = tt
asks_known None node tree (Some ask) e h = cc
asks_known (Some (Alone flow)) node tree (Some ask) e h = by (waits flow.value.stage) e
  where
    at : (t : Bool) → Some ask.now ≡ cond t (Some flow.value.ask) None → tree_of ask.now ≤ tree
    at true f = let g = ap tree_of (let i : ask.now ≡ flow.value.ask = cc in i) in omega (arith, g, h)
    at false f = cc

    by : (t : Bool) → Some ask.now ≡ ask_in (cond t (record { node = 0; ask = flow.value.ask } ∷ []) []) node → tree_of ask.now ≤ tree
    by true f = at (eqb 0 node) f
    by false f = cc
asks_known (Some (Asking flow)) node tree (Some ask) e h = by (access_waits flow.value.stage) e
  where
    own : ℕ
    own = flow.value.request.value.opened

    at : (t : Bool) → Some ask.now ≡ cond t (Some flow.value.ask) None → tree_of ask.now ≤ tree
    at true f = let g = ap tree_of (let i : ask.now ≡ flow.value.ask = cc in i) in omega (arith, g, h)
    at false f = cc

    by : (t : Bool) → Some ask.now ≡ ask_in (cond t (record { node = own; ask = flow.value.ask } ∷ []) []) node → tree_of ask.now ≤ tree
    by true f = at (eqb own node) f
    by false f = cc
asks_known (Some (Page p)) node tree (Some ask) e h =
    let f = p.pages.value.family in
    let g = page_asks f.tree 0 f.nodes node ask.now (sym e) in
    omega (arith, g, h)
