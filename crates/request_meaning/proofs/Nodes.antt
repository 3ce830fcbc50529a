-- One node without subrequests, act by act.
use Rattle.std.proofs.Common.{◌≡◌, ℕ, List, ◌++◌, refl, sym, ap, ◌∙◌, append_assoc}
use Rattle.file_tree.specs.Tree.{Tree}
use Rattle.acts.specs.Vars.{Vars, look, set}
use Rattle.acts.specs.Act.{Done, Get, Put, Stat, Call, Write, Inner}
use Rattle.request_meaning.specs.Serving.{Serving, Child, Answer}
use Rattle.request_meaning.specs.Replies.{Came, run, after_bytes}
use Rattle.request_meaning.specs.Laws.{AsksOnly, anything, no_child, ActByAct, NodeIsMeant}
use Rattle.request_meaning.specs.Laws.ActByAct.{Stays, Reads, Sets, Learns, Places}

after_both : {A : Type 0} (a b : List ℕ) (c : Came A) → after_bytes a (after_bytes b c) ≡ after_bytes (a ++ b) c
after_both a b c = ap (λ body. record { result = c.result; body = body; vars = c.vars }) (sym (append_assoc a b c.body))

so_far : {A : Type 0} (tree : Tree) (inner : Child → Vars → Came Answer) (m n : Serving A) (vars vars' : Vars) (placed : List ℕ) →
    ActByAct A tree m vars placed n vars' → run tree inner m vars ≡ after_bytes placed (run tree inner n vars')
unfolding run
so_far tree inner _ _ _ _ _ (Stays {m} {vars}) = refl
so_far tree inner _ _ _ _ _ (Reads {name} {k} {m} {placed} {vars} {vars'} h) = so_far tree inner (k (look vars name)) m vars vars' placed h
so_far tree inner _ _ _ _ _ (Sets {name} {value} {n} {m} {placed} {vars} {vars'} h) = so_far tree inner n m (set name value vars) vars' placed h
so_far tree inner _ _ _ _ _ (Learns {path} {k} {m} {placed} {vars} {vars'} h) = so_far tree inner (k (tree path)) m vars vars' placed h
so_far tree inner _ _ _ _ _ (Places {bytes} {placed} {n} {m} {vars} {vars'} h) =
    ap (after_bytes bytes) (so_far tree inner n m vars vars' placed h) ∙ after_both bytes placed (run tree inner m vars')

ends : {A : Type 0} (tree : Tree) (inner : Child → Vars → Came Answer) (m : Serving A) (vars : Vars) → AsksOnly no_child anything m →
    (let r = run tree inner m vars in
    ActByAct A tree m vars r.body (Done r.result) r.vars)
unfolding run
ends tree inner (Done a) vars h = Stays
ends tree inner (Get name k) vars h = Reads (ends tree inner (k (look vars name)) vars (h (look vars name)))
ends tree inner (Put name value m) vars h = Sets (ends tree inner m (set name value vars) h)
ends tree inner (Stat path k) vars h = Learns (ends tree inner (k (tree path)) vars (h (tree path)))
ends tree inner (Call child k) vars h = absurd h.0
ends tree inner (Write bytes m) vars h = Places (ends tree inner m vars h)
ends tree inner (Inner child m) vars h = absurd h.0

pub meant : {A : Type 0} → NodeIsMeant A
meant = record { so_far = so_far; ends = ends }
