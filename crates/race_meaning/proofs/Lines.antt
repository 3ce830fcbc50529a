-- A step of any node of a steady line keeps what the line comes to.
use Rattle.std.proofs.Common.{◌≡◌, ℕ, suc, List, ◌++◌, Option, None, Some, refl, sym, ◌∙◌, ap, subst}
use Rattle.file_tree.specs.Tree.{Tree}
use Rattle.acts.specs.Vars.{Vars, look, set}
use Rattle.acts.specs.Act.{Done, Get, Put, Stat, Call, Write, Inner, settled}
use Rattle.family_meaning.specs.request_meaning.Serving.{World, Serving, Child, Reply, Answer}
use Rattle.family_meaning.specs.request_meaning.Replies
use Rattle.family_meaning.specs.request_meaning.Replies.{Came, run, script, or_stub}
use Rattle.family_meaning.specs.Line.{Line, Left, rest, before, reply_of, status_of, joined, opened, with_stub, begun}
use Rattle.family_meaning.specs.Line.Line.{Nil, Bytes, Gives, Waits, Stubs}
use Rattle.family_meaning.specs.Moves.{Quiet, Thinks, Moves, Runs}
use Rattle.family_meaning.specs.Moves.Quiet.{Learns, Places, Placed, Merges, Opens, Asks, Hears, Leaves, Keeps, Decides, Chooses, Parts, Gone, PastBytes, PastNode, PastWait, Within, PastStub, WithinStub}
use Rattle.family_meaning.specs.Moves.Thinks.{Here, Reads, ThereBytes, ThereNode, ThereWait, InWait, ThereStub, InStub}
use Rattle.family_meaning.specs.Moves.Moves.{Quietly, ByTable}
use Rattle.family_meaning.specs.Moves.Runs.{Ends, Steps}
use Rattle.family_meaning.proofs.Orders.{quiet_same}
use Rattle.family_meaning.proofs.Exacts.{thinks, reads}
use Rattle.race_meaning.specs.Steady.{Names, along, Agree, MayAsk, Shared, steady_rules, Steady, SameReply, InnerSame, any}
use Rattle.race_meaning.proofs.Steadies.{agree_through, agree_kept, run_same}

-- two lines come to the same, and leave tables that agree with the shared one
pub record SameLeft (s : Shared) (r q : Left) : Type 0 where
  pub answer : r.answer ≡ q.answer
  pub body : r.body ≡ q.body
  pub left : Agree s.steady s.table r.vars
  pub right : Agree s.steady s.table q.vars

module _ (s : Shared) where
  pub left_through : (r q t : Left) → SameLeft s r q → SameLeft s q t → SameLeft s r t
  left_through r q t g h = record { answer = g.answer ∙ h.answer; body = g.body ∙ h.body; left = g.left; right = h.right }

  -- every node of the line is steady
  abbrev pub SteadyLine : Line → Type 0
  SteadyLine Nil = Unit {0}
  SteadyLine (Bytes bytes line) = SteadyLine line
  SteadyLine (Gives node left m line) = Steady s s.steady m any × SteadyLine line
  SteadyLine (Waits node own left k line) = SteadyLine own × (((reply : Reply) → Steady s s.steady (k reply) any) × SteadyLine line)
  SteadyLine (Stubs own stub line) = SteadyLine own × SteadyLine line

  pub settled_steady : (known : Names) (m : Serving Answer) (v : Vars) → Steady s known m any → Agree s.steady s.table v →
      Steady s s.steady (settled m v).0 any × Agree s.steady s.table (settled m v).1
  unfolding settled
  settled_steady known (Done a) v h l = (tt, l)
  settled_steady known (Get name k) v h l = settled_steady known (k (look v name)) v (h.1 (look v name)) l
  settled_steady known (Put name value m) v h l = settled_steady (along name known) m (set name value v) h.1 (agree_kept name value l h.0)
  settled_steady known (Stat path k) v h l = (h, l)
  settled_steady known (Call child k) v h l = (h, l)
  settled_steady known (Write bytes m) v h l = (h, l)
  settled_steady known (Inner child m) v h l = (h, l)

  steady_joined : (a b : Line) → SteadyLine a → SteadyLine b → SteadyLine (joined a b)
  unfolding joined
  steady_joined Nil b h g = g
  steady_joined (Bytes bytes a) b h g = steady_joined a b h g
  steady_joined (Gives node left m a) b h g = (h.0, steady_joined a b h.1 g)
  steady_joined (Waits node own left k a) b h g = (h.0, (h.1.0, steady_joined a b h.1.1 g))
  steady_joined (Stubs own stub a) b h g = (h.0, steady_joined a b h.1 g)

  steady_stub : (stub : Option (List ℕ)) (own line : Line) → SteadyLine own → SteadyLine line → SteadyLine (with_stub stub own line)
  steady_stub None own line h g = steady_joined own line h g
  steady_stub (Some stub) own line h g = (h, g)

  module _ (w : World) (tree : Tree) (inner_same : (left : ℕ) → InnerSame s (Replies.reply w tree left))
      (children : (left : ℕ) (c : Child) → MayAsk (steady_rules s) c → Steady s s.steady (script w left c) any) where
    pub opened_steady : (number left : ℕ) (c : Child) (line : Line) → MayAsk (steady_rules s) c → SteadyLine line → SteadyLine (opened w number left c line)
    opened_steady number left c line may h = steady_stub c.stub (begun w number left c) line (children left c may, tt) h

    node_same : (left : ℕ) (m : Serving Answer) (v u : Vars) → Steady s s.steady m any → Agree s.steady s.table v → Agree s.steady s.table u →
        SameReply s (run tree (Replies.reply w tree left) m v) (run tree (Replies.reply w tree left) m u)
    node_same left m v u h l r = run_same s tree (Replies.reply w tree left) (inner_same left) s.steady m any v u h l r (agree_through l r)

    abbrev SameRest : Line → Line → Type 0
    SameRest line line' = (v u : Vars) (last : Option Answer) → Agree s.steady s.table v → Agree s.steady s.table u → SameLeft s (rest w tree line last v) (rest w tree line' last u)

    -- one body, and what comes after it
    row_same : (line line' : Line) (b c : List ℕ) (a d : Option Answer) (v u : Vars) → SameRest line line' → b ≡ c → a ≡ d → Agree s.steady s.table v → Agree s.steady s.table u →
        SameLeft s (before b (rest w tree line a v)) (before c (rest w tree line' d u))
    row_same line line' b c a d v u f e g l r =
        let h : SameLeft s (rest w tree line a v) (rest w tree line' d u) = subst (λ x. SameLeft s (rest w tree line a v) (rest w tree line' x u)) g (f v u a l r) in
        record { answer = h.answer; body = ap (λ x. x ++ (rest w tree line a v).body) e ∙ ap (λ x. c ++ x) h.body; left = h.left; right = h.right }

    waits_same : (left : ℕ) (k : Reply → Serving Answer) (line line' : Line) → ((reply : Reply) → Steady s s.steady (k reply) any) → SameRest line line' →
        (a d : Option Answer) (b c : List ℕ) (v u : Vars) → a ≡ d → b ≡ c → Agree s.steady s.table v → Agree s.steady s.table u →
        SameLeft s (elim a [
          | None ↦ rest w tree line None v
          | Some answer ↦ let q = run tree (Replies.reply w tree left) (k (reply_of answer b)) v in
              before q.body (rest w tree line (Some q.result) q.vars)
        ]) (elim d [
          | None ↦ rest w tree line' None u
          | Some answer ↦ let q = run tree (Replies.reply w tree left) (k (reply_of answer c)) u in
              before q.body (rest w tree line' (Some q.result) q.vars)
        ])
    waits_same left k line line' h f None None b c v u e g l r = f v u None l r
    waits_same left k line line' h f None (Some d) b c v u e g l r = no_some e
      where
        no_some : {A B : Type 0} {a : A} → None ≡ Some a → B
        no_some e = cc
    waits_same left k line line' h f (Some a) None b c v u e g l r = no_some (sym e)
      where
        no_some : {A B : Type 0} {a : A} → None ≡ Some a → B
        no_some e = cc
    waits_same left k line line' h f (Some a) (Some d) b c v u e g l r =
        let same : SameReply s (run tree (Replies.reply w tree left) (k (reply_of a b)) v) (run tree (Replies.reply w tree left) (k (reply_of d c)) u)
        = subst (λ x. SameReply s (run tree (Replies.reply w tree left) (k (reply_of a b)) v) (run tree (Replies.reply w tree left) (k x) u)) (reply_same (some_is e) g) (node_same left (k (reply_of a b)) v u (h (reply_of a b)) l r) in
        row_same line line' _ _ _ _ _ _ f same.body (ap Some same.result) same.left same.right
      where
        some_is : {A : Type 0} {a b : A} → Some a ≡ Some b → a ≡ b
        some_is e = cc

        reply_same : a ≡ d → b ≡ c → reply_of a b ≡ reply_of d c
        reply_same e g = ap (λ x. reply_of x b) e ∙ ap (reply_of d) g

    stubs_same : (stub : List ℕ) (own own' line line' : Line) (v u : Vars) → SameLeft s (rest w tree own None v) (rest w tree own' None u) → SameRest line line' →
        SameLeft s (let r = rest w tree own None v in before (or_stub (Some stub) (status_of r.answer) r.body) (rest w tree line r.answer r.vars))
        (let r = rest w tree own' None u in before (or_stub (Some stub) (status_of r.answer) r.body) (rest w tree line' r.answer r.vars))
    stubs_same stub own own' line line' v u h f =
        let a = rest w tree own None v in
        let d = rest w tree own' None u in
        row_same line line' _ _ _ _ _ _ f (ap (λ x. or_stub (Some stub) (status_of x) a.body) h.answer ∙ ap (or_stub (Some stub) (status_of d.answer)) h.body) h.answer h.left h.right

    pub rest_same : (line : Line) → SteadyLine line → SameRest line line
    unfolding rest
    rest_same Nil h v u last l r = record { answer = refl; body = refl; left = l; right = r }
    rest_same (Bytes bytes line) h v u last l r = row_same line line bytes bytes last last v u (rest_same line h) refl refl l r
    rest_same (Gives node left m line) h v u last l r =
        let same = node_same left m v u h.0 l r in
        row_same line line _ _ _ _ _ _ (rest_same line h.1) same.body (ap Some same.result) same.left same.right
    rest_same (Waits node own left k line) h v u last l r =
        let same = rest_same own h.0 v u None l r in
        waits_same left k line line h.1.0 (rest_same line h.1.1) _ _ _ _ _ _ same.answer same.body same.left same.right
    rest_same (Stubs own stub line) h v u last l r = stubs_same stub own own line line v u (rest_same own h.0 v u None l r) (rest_same line h.1)

    -- ---- steps

    -- quiet steps keep a line steady
    pub quiet_steady : (line line' : Line) → Quiet w tree line line' → SteadyLine line → SteadyLine line'
    quiet_steady _ _ (Learns {path}) h = (h.0 (tree path), h.1)
    quiet_steady _ _ Places h = h
    quiet_steady _ _ Placed h = h
    quiet_steady _ _ Merges h = h
    quiet_steady _ _ (Opens {node} {left} {child} {m} {line} number) h = opened_steady number left child (Gives node (suc left) m line) h.0.0.0 (h.0.1, h.1)
    quiet_steady _ _ (Asks {node} {left} {child} {k} {line} number) h = (opened_steady number left child Nil h.0.0 tt, (h.0.1, h.1))
    quiet_steady _ _ (Hears reply e) h = (h.1.0 reply, h.1.1)
    quiet_steady _ _ (Leaves e) h = h.1
    quiet_steady _ _ (Keeps {own} {line} k f) h = steady_joined own line h.0 h.1
    quiet_steady _ _ (Decides reply e n) h = h.1
    quiet_steady _ _ (Chooses node left reply e) h = (tt, h.1)
    quiet_steady _ _ Parts h = h
    quiet_steady _ _ Gone h = h
    quiet_steady _ _ (PastBytes {line} {line'} q) h = quiet_steady line line' q h
    quiet_steady _ _ (PastNode {line} {line'} q) h = (h.0, quiet_steady line line' q h.1)
    quiet_steady _ _ (PastWait {line} {line'} q) h = (h.0, (h.1.0, quiet_steady line line' q h.1.1))
    quiet_steady _ _ (Within {own} {own'} q) h = (quiet_steady own own' q h.0, h.1)
    quiet_steady _ _ (PastStub {line} {line'} q) h = (h.0, quiet_steady line line' q h.1)
    quiet_steady _ _ (WithinStub {own} {own'} q) h = (quiet_steady own own' q h.0, h.1)

    -- the line after a step, by the table then
    pub record Kept (line line' : Line) (v' : Vars) : Type 0 where
      pub steady : SteadyLine line'
      pub vars : Agree s.steady s.table v'
      pub same : SameRest line line'

    -- what is exactly so for the tables of the step is so for all tables that agree
    by_here : (line line' : Line) (v v' : Vars) → SteadyLine line → SteadyLine line' → Agree s.steady s.table v → Agree s.steady s.table v' →
        ((last : Option Answer) → rest w tree line last v ≡ rest w tree line' last v') → Kept line line' v'
    by_here line line' v v' h g p q e = record {
      steady = g;
      vars = q;
      same = λ t u last l r.
          left_through (rest w tree line last t) (rest w tree line last v) (rest w tree line' last u) (rest_same line h t v last l p)
          (subst (λ x. SameLeft s x (rest w tree line' last u)) (sym (e last)) (rest_same line' g v' u last q r));
    }

    thinks_keep : (line line' : Line) (v v' : Vars) → Thinks line v line' v' → SteadyLine line → Agree s.steady s.table v → Kept line line' v'
    unfolding rest
    thinks_keep _ _ _ _ (Here {node} {left} {m} {line} {vars}) h p =
        let g = settled_steady s.steady m vars h.0 p in
        by_here (Gives node left m line) (Gives node left (settled m vars).0 line) vars (settled m vars).1 h (g.0, h.1) p g.1 (thinks w tree node left m line vars)
    thinks_keep _ _ _ _ (Reads {node} {left} {name} {k} {line} {vars}) h p =
        by_here (Gives node left (Get name k) line) (Gives node left (k (look vars name)) line) vars vars h (h.0.1 (look vars name), h.1) p p (reads w tree node left name k line vars)
    thinks_keep _ _ _ _ (ThereBytes {bytes} {line} {line'} {vars} {vars'} t) h p =
        let g = thinks_keep line line' vars vars' t h p in
        record { steady = g.steady; vars = g.vars; same = λ a b last l r. row_same line line' bytes bytes last last a b g.same refl refl l r }
    thinks_keep _ _ _ _ (ThereNode {node} {left} {m} {line} {line'} {vars} {vars'} t) h p =
        let g = thinks_keep line line' vars vars' t h.1 p in
        record {
          steady = (h.0, g.steady);
          vars = g.vars;
          same = λ a b last l r. let i = node_same left m a b h.0 l r in
              row_same line line' _ _ _ _ _ _ g.same i.body (ap Some i.result) i.left i.right;
        }
    thinks_keep _ _ _ _ (ThereWait {node} {left} {own} {line} {line'} {k} {vars} {vars'} t) h p =
        let g = thinks_keep line line' vars vars' t h.1.1 p in
        record {
          steady = (h.0, (h.1.0, g.steady));
          vars = g.vars;
          same = λ a b last l r. let i = rest_same own h.0 a b None l r in
              waits_same left k line line' h.1.0 g.same _ _ _ _ _ _ i.answer i.body i.left i.right;
        }
    thinks_keep _ _ _ _ (InWait {node} {left} {own} {own'} {line} {k} {vars} {vars'} t) h p =
        let g = thinks_keep own own' vars vars' t h.0 p in
        record {
          steady = (g.steady, h.1);
          vars = g.vars;
          same = λ a b last l r. let i = g.same a b None l r in
              waits_same left k line line h.1.0 (rest_same line h.1.1) _ _ _ _ _ _ i.answer i.body i.left i.right;
        }
    thinks_keep _ _ _ _ (ThereStub {own} {line} {line'} {stub} {vars} {vars'} t) h p =
        let g = thinks_keep line line' vars vars' t h.1 p in
        record { steady = (h.0, g.steady); vars = g.vars; same = λ a b last l r. stubs_same stub own own line line' a b (rest_same own h.0 a b None l r) g.same }
    thinks_keep _ _ _ _ (InStub {own} {own'} {line} {stub} {vars} {vars'} t) h p =
        let g = thinks_keep own own' vars vars' t h.0 p in
        record { steady = (g.steady, h.1); vars = g.vars; same = λ a b last l r. stubs_same stub own own' line line a b (g.same a b None l r) (rest_same line h.1) }

    moves_keep : (line line' : Line) (v v' : Vars) → Moves w tree line v line' v' → SteadyLine line → Agree s.steady s.table v → Kept line line' v'
    moves_keep _ _ _ _ (Quietly {line} {line'} {vars} q) h p =
        by_here line line' vars vars h (quiet_steady line line' q h) p p (λ last. quiet_same w tree line line' q vars last)
    moves_keep _ _ _ _ (ByTable {line} {line'} {vars} {vars'} t) h p = thinks_keep line line' vars vars' t h p

    -- any number of steps, of any nodes, in any order
    pub runs_keep : (line line' : Line) (v v' : Vars) → Runs w tree line v line' v' → SteadyLine line → Agree s.steady s.table v → Kept line line' v'
    runs_keep _ _ _ _ (Ends {line} {vars}) h p = record { steady = h; vars = p; same = rest_same line h }
    runs_keep _ _ _ _ (Steps {first} {next} {last = end} {vars} {vars'} {vars''} x y) h p =
        let g = moves_keep first next vars vars' x h p in
        let k = runs_keep next end vars' vars'' y g.steady g.vars in
        record {
          steady = k.steady;
          vars = k.vars;
          same = λ a b last l r. left_through (rest w tree first last a) (rest w tree next last vars') (rest w tree end last b) (g.same a vars' last l g.vars) (k.same vars' b last g.vars r);
        }
