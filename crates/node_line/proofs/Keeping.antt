-- A body that is kept: its request comes to an answer below 400 however it goes on.
use Rattle.std.proofs.Common.{ℕ, List, [], ◌∷◌, refl}
use Rattle.acts.specs.Vars.{Vars, look, set}
use Rattle.acts.specs.Act.{Done, Get, Put, Stat, Call, Write, Inner, ◌>>=◌}
use Rattle.file_tree.specs.Tree.{Tree}
use Rattle.family_meaning.specs.request_meaning.Serving.{World, Serving, Child, Answer}
use Rattle.family_meaning.specs.request_meaning.Replies.{Came, run, reply}
use Rattle.family_meaning.specs.Line.{rest, reply_of, has_node}
use Rattle.family_meaning.specs.Line.Line.{Nil, Bytes, Gives}
use Rattle.family_meaning.specs.Moves.{AllEnd, IsGood, KeepsBody}
use Rattle.node_line.specs.Stances.{under}

pub run_ends : (P : Answer → Type 0) (tree : Tree) (inner : Child → Vars → Came Answer) (m : Serving Answer) (vars : Vars) → AllEnd P m → P (run tree inner m vars).result
unfolding run
run_ends P tree inner (Done a) vars h = h
run_ends P tree inner (Get name k) vars h = run_ends P tree inner (k (look vars name)) vars (h (look vars name))
run_ends P tree inner (Put name value m) vars h = run_ends P tree inner m (set name value vars) h
run_ends P tree inner (Stat path k) vars h = run_ends P tree inner (k (tree path)) vars (h (tree path))
run_ends P tree inner (Call child k) vars h =
    let r = inner child vars in
    run_ends P tree inner (k (reply_of r.result r.body)) r.vars (h (reply_of r.result r.body))
run_ends P tree inner (Write bytes m) vars h = run_ends P tree inner m vars h
run_ends P tree inner (Inner child m) vars h = run_ends P tree inner m (inner child vars).vars h

-- the line of one node, before which bytes wait
pub keeps_body : (w : World) (tree : Tree) (bytes : List ℕ) (node left : ℕ) (m : Serving Answer) → AllEnd IsGood m → KeepsBody w tree (Bytes bytes (Gives node left m Nil))
unfolding rest has_node
keeps_body w tree bytes node left m h = record {
  node = refl;
  good = λ vars. record { answer = (run tree (reply w tree left) m vars).result; there = refl; good = run_ends IsGood tree (reply w tree left) m vars h };
}

-- and before which they wait one by one
pub keeps_under : (w : World) (tree : Tree) (bytes : List ℕ) (node left : ℕ) (m : Serving Answer) → AllEnd IsGood m → KeepsBody w tree (under bytes (Gives node left m Nil))
unfolding rest has_node under
keeps_under w tree [] node left m h = record {
  node = refl;
  good = λ vars. record { answer = (run tree (reply w tree left) m vars).result; there = refl; good = run_ends IsGood tree (reply w tree left) m vars h };
}
keeps_under w tree (b ∷ bytes) node left m h =
    let k = keeps_under w tree bytes node left m h in
    record { node = k.node; good = λ vars. record { answer = (k.good vars).answer; there = (k.good vars).there; good = (k.good vars).good } }

-- one act and then another that ends so
pub all_then : {X : Type 0} (P : Answer → Type 0) (m : Serving X) (k : X → Serving Answer) → ((x : X) → AllEnd P (k x)) → AllEnd P (m >>= k)
unfolding ◌>>=◌
all_then P (Done x) k h = h x
all_then P (Get name f) k h = λ value. all_then P (f value) k h
all_then P (Put name value m) k h = all_then P m k h
all_then P (Stat path f) k h = λ item. all_then P (f item) k h
all_then P (Call child f) k h = λ reply. all_then P (f reply) k h
all_then P (Write bytes m) k h = all_then P m k h
all_then P (Inner child m) k h = all_then P m k h
