-- Steady nodes ask for as many subrequests for any two tables that agree; so a step by the table changes nothing of how many are asked
-- for.
use Rattle.std.proofs.Common.{◌≡◌, inl, inr, ℕ, zero, suc, ◌+◌, List, Option, None, Some, refl, sym, ap, ◌∙◌}
use Rattle.file_tree.specs.Tree.{Tree}
use Rattle.acts.specs.Vars.{Vars, look, set}
use Rattle.acts.specs.Act.{Done, Get, Put, Stat, Call, Write, Inner, settled}
use Rattle.race_meaning.specs.ngx_variables.declared.request.Main.{Main}
use Rattle.family_meaning.specs.request_meaning.Serving.{World, Serving, Child, Reply, Answer}
use Rattle.family_meaning.specs.request_meaning.Replies
use Rattle.family_meaning.specs.request_meaning.Replies.{Came, run, script, or_stub}
use Rattle.family_meaning.specs.request_meaning.Counts.{subs_in, child_subs}
use Rattle.family_meaning.specs.Line.{Line, Left, rest, before, status_of, reply_of}
use Rattle.family_meaning.specs.Line.Line.{Nil, Bytes, Gives, Waits, Stubs}
use Rattle.family_meaning.specs.Left.{subs_left, act_subs}
use Rattle.family_meaning.specs.Moves.{Thinks}
use Rattle.family_meaning.specs.Moves.Thinks.{Here, Reads, ThereBytes, ThereNode, ThereWait, InWait, ThereStub, InStub}
use Rattle.family_meaning.specs.Moves.Moves.{ByTable}
use Rattle.family_meaning.specs.Moves.Runs.{Ends, Steps}
use Rattle.family_meaning.proofs.Exacts.{thinks, reads}
use Rattle.race_meaning.specs.Named.{IsRaceless}
use Rattle.race_meaning.specs.Steady.{Names, along, Agree, MayAsk, Shared, steady_rules, Steady, SameReply, InnerSame, any}
use Rattle.race_meaning.specs.Laws.{AreFit, shared}
use Rattle.race_meaning.proofs.Steadies.{agree_through, agree_kept, agree_set, run_same}
use Rattle.race_meaning.proofs.Children.{child_steady, reply_same}
use Rattle.race_meaning.proofs.Lines.{SameLeft, SteadyLine, settled_steady, rest_same, runs_keep}
use Rattle.race_meaning.proofs.Solos.{AloneLine, SoloLine, no_thinks}
use Rattle.family_rest.proofs.Counts.{heard_subs, here_subs, reads_subs}
use Rattle.family_rest.proofs.Steady.{IsKept}

module _ (s : Shared) where
  -- each content subrequest asks for as many for tables that agree
  abbrev CountSame : (Child → Vars → ℕ) → Type 0
  CountSame count = (c : Child) (v u : Vars) → MayAsk (steady_rules s) c → Agree s.steady s.table v → Agree s.steady s.table u → count c v ≡ count c u

  sum : (a b c d : ℕ) → a ≡ b → c ≡ d → a + c ≡ b + d
  sum a b c d e g = ap (λ z. z + c) e ∙ ap (λ z. b + z) g

  subs_same : {A : Type 0} (tree : Tree) (inner : Child → Vars → Came Answer) → InnerSame s inner → (count : Child → Vars → ℕ) → CountSame count → (known : Names) (m : Serving A) (post : Names → A → Type 0) (v u : Vars) →
      Steady s known m post → Agree s.steady s.table v → Agree s.steady s.table u → Agree known v u → subs_in tree inner count m v ≡ subs_in tree inner count m u
  unfolding subs_in
  subs_same tree inner i count c known (Done a) post v u h l r e = refl
  subs_same tree inner i count c known (Get name k) post v u h l r e =
      subs_same tree inner i count c known (k (look v name)) post v u (h.1 (look v name)) l r e
      ∙ ap (λ b. subs_in tree inner count (k b) u) (e.at name h.0)
  subs_same tree inner i count c known (Put name value m) post v u h l r e =
      subs_same tree inner i count c (along name known) m post (set name value v) (set name value u) h.1 (agree_kept name value l h.0) (agree_kept name value r h.0) (agree_set name value e)
  subs_same tree inner i count c known (Stat path k) post v u h l r e = subs_same tree inner i count c s.steady (k (tree path)) post v u (h (tree path)) l r (agree_through l r)
  subs_same tree inner i count c known (Call child k) post v u h l r e =
      let same = i child v u h.0 l r in
      let reply : Reply = record { answer = (inner child v).result; body = (inner child v).body } in
      let other : Reply = record { answer = (inner child u).result; body = (inner child u).body } in
      let equal : reply ≡ other = cc (same.result, same.body) in
      sum (1 + count child v) (1 + count child u) (subs_in tree inner count (k reply) (inner child v).vars) (subs_in tree inner count (k other) (inner child u).vars)
      (ap (λ z. 1 + z) (c child v u h.0 l r))
      (subs_same tree inner i count c s.steady (k reply) post (inner child v).vars (inner child u).vars (h.1 reply) same.left same.right (agree_through same.left same.right)
      ∙ ap (λ a. subs_in tree inner count (k a) (inner child u).vars) equal)
  subs_same tree inner i count c known (Write bytes m) post v u h l r e = subs_same tree inner i count c s.steady m post v u h l r (agree_through l r)
  subs_same tree inner i count c known (Inner child m) post v u h l r e =
      let same = i child v u h.0.0 l r in
      sum (1 + count child v) (1 + count child u) (subs_in tree inner count m (inner child v).vars) (subs_in tree inner count m (inner child u).vars)
      (ap (λ z. 1 + z) (c child v u h.0.0 l r))
      (subs_same tree inner i count c s.steady m post (inner child v).vars (inner child u).vars h.1 same.left same.right (agree_through same.left same.right))

  module _ (w : World) (tree : Tree) (inner_same : (left : ℕ) → InnerSame s (Replies.reply w tree left))
      (children : (left : ℕ) (c : Child) → MayAsk (steady_rules s) c → Steady s s.steady (script w left c) any) where
    child_same : (left : ℕ) → CountSame (child_subs w tree left)
    unfolding child_subs
    child_same zero c v u may l r = refl
    child_same (suc left) c v u may l r =
        subs_same tree (Replies.reply w tree left) (inner_same left) (child_subs w tree left) (child_same left) s.steady (script w left c) any v u (children left c may) l r (agree_through l r)

    node_subs : (left : ℕ) (m : Serving Answer) (v u : Vars) → Steady s s.steady m any → Agree s.steady s.table v → Agree s.steady s.table u → act_subs w tree left m v ≡ act_subs w tree left m u
    node_subs left m v u h l r = subs_same tree (Replies.reply w tree left) (inner_same left) (child_subs w tree left) (child_same left) s.steady m any v u h l r (agree_through l r)

    node_same : (left : ℕ) (m : Serving Answer) (v u : Vars) → Steady s s.steady m any → Agree s.steady s.table v → Agree s.steady s.table u →
        SameReply s (run tree (Replies.reply w tree left) m v) (run tree (Replies.reply w tree left) m u)
    node_same left m v u h l r = run_same s tree (Replies.reply w tree left) (inner_same left) s.steady m any v u h l r (agree_through l r)

    -- two lines ask for as many, for any tables that agree
    abbrev SameSubs : Line → Line → Type 0
    SameSubs line line' = (v u : Vars) → Agree s.steady s.table v → Agree s.steady s.table u → subs_left w tree line v ≡ subs_left w tree line' u

    -- after a node
    behind_same : (left : ℕ) (m : Serving Answer) (line line' : Line) → Steady s s.steady m any → SameSubs line line' → (v u : Vars) → Agree s.steady s.table v → Agree s.steady s.table u →
        act_subs w tree left m v + subs_left w tree line (run tree (Replies.reply w tree left) m v).vars ≡ act_subs w tree left m u + subs_left w tree line' (run tree (Replies.reply w tree left) m u).vars
    behind_same left m line line' h f v u l r =
        let same = node_same left m v u h l r in
        sum (act_subs w tree left m v) (act_subs w tree left m u) _ _ (node_subs left m v u h l r) (f _ _ same.left same.right)

    -- after lines for which a node waits, which come to the same
    heard_same : (left : ℕ) (k : Reply → Serving Answer) (line line' : Line) → ((reply : Reply) → Steady s s.steady (k reply) any) → SameSubs line line' →
        (a d : Option Answer) (b c : List ℕ) (v u : Vars) → a ≡ d → b ≡ c → Agree s.steady s.table v → Agree s.steady s.table u →
        heard_subs w tree left k line (record { answer = a; body = b; vars = v }) ≡ heard_subs w tree left k line' (record { answer = d; body = c; vars = u })
    heard_same left k line line' h f None None b c v u e g l r = f v u l r
    heard_same left k line line' h f None (Some d) b c v u e g l r = no_some e
      where
        no_some : {A B : Type 0} {a : A} → None ≡ Some a → B
        no_some e = cc
    heard_same left k line line' h f (Some a) None b c v u e g l r = no_some (sym e)
      where
        no_some : {A B : Type 0} {a : A} → None ≡ Some a → B
        no_some e = cc
    heard_same left k line line' h f (Some a) (Some d) b c v u e g l r =
        behind_same left (k (reply_of a b)) line line' (h (reply_of a b)) f v u l r
        ∙ ap (λ (x : Reply). act_subs w tree left (k x) u + subs_left w tree line' (run tree (Replies.reply w tree left) (k x) u).vars) (same_reply (some_is e) g)
      where
        some_is : {A : Type 0} {a b : A} → Some a ≡ Some b → a ≡ b
        some_is e = cc

        same_reply : a ≡ d → b ≡ c → reply_of a b ≡ reply_of d c
        same_reply e g = ap (λ x. reply_of x b) e ∙ ap (reply_of d) g

    line_same : (line : Line) → SteadyLine s line → SameSubs line line
    unfolding subs_left
    line_same Nil h v u l r = refl
    line_same (Bytes bytes line) h v u l r = line_same line h v u l r
    line_same (Gives node left m line) h v u l r = behind_same left m line line h.0 (line_same line h.1) v u l r
    line_same (Waits node own left k line) h v u l r =
        let same = rest_same s w tree inner_same children own h.0 v u None l r in
        sum (subs_left w tree own v) (subs_left w tree own u) _ _ (line_same own h.0 v u l r)
        (heard_same left k line line h.1.0 (line_same line h.1.1) _ _ _ _ _ _ same.answer same.body same.left same.right)
    line_same (Stubs own stub line) h v u l r =
        let same = rest_same s w tree inner_same children own h.0 v u None l r in
        sum (subs_left w tree own v) (subs_left w tree own u) _ _ (line_same own h.0 v u l r) (line_same line h.1 _ _ same.left same.right)

    -- ---- a step by the table

    thinks_left : (own own' : Line) (v v' : Vars) → Thinks own v own' v' → SteadyLine s own → Agree s.steady s.table v →
        (a b : Vars) → Agree s.steady s.table a → Agree s.steady s.table b → SameLeft s (rest w tree own None a) (rest w tree own' None b)
    thinks_left own own' v v' t h p a b l r = (runs_keep s w tree inner_same children own own' v v' (Steps (ByTable t) Ends) h p).same a b None l r

    pub thinks_vars : (own own' : Line) (v v' : Vars) → Thinks own v own' v' → SteadyLine s own → Agree s.steady s.table v → Agree s.steady s.table v'
    thinks_vars own own' v v' t h p = (runs_keep s w tree inner_same children own own' v v' (Steps (ByTable t) Ends) h p).vars

    pub thinks_subs : (line line' : Line) (v v' : Vars) → Thinks line v line' v' → SteadyLine s line → Agree s.steady s.table v → SameSubs line line'
    unfolding subs_left subs_in
    thinks_subs _ _ _ _ (Here {node} {left} {m} {line} {vars}) h p a b l r =
        let g = settled_steady s s.steady m vars h.0 p in
        line_same (Gives node left m line) h a vars l p
        ∙ here_subs w tree node left m line vars
        ∙ line_same (Gives node left (settled m vars).0 line) (g.0, h.1) (settled m vars).1 b g.1 r
    thinks_subs _ _ _ _ (Reads {node} {left} {name} {k} {line} {vars}) h p a b l r =
        line_same (Gives node left (Get name k) line) h a vars l p
        ∙ reads_subs w tree node left name k line vars
        ∙ line_same (Gives node left (k (look vars name)) line) (h.0.1 (look vars name), h.1) vars b p r
    thinks_subs _ _ _ _ (ThereBytes {bytes} {line} {line'} {vars} {vars'} t) h p a b l r = thinks_subs line line' vars vars' t h p a b l r
    thinks_subs _ _ _ _ (ThereNode {node} {left} {m} {line} {line'} {vars} {vars'} t) h p a b l r =
        behind_same left m line line' h.0 (thinks_subs line line' vars vars' t h.1 p) a b l r
    thinks_subs _ _ _ _ (ThereWait {node} {left} {own} {line} {line'} {k} {vars} {vars'} t) h p a b l r =
        let same = rest_same s w tree inner_same children own h.0 a b None l r in
        sum (subs_left w tree own a) (subs_left w tree own b) _ _ (line_same own h.0 a b l r)
        (heard_same left k line line' h.1.0 (thinks_subs line line' vars vars' t h.1.1 p) _ _ _ _ _ _ same.answer same.body same.left same.right)
    thinks_subs _ _ _ _ (InWait {node} {left} {own} {own'} {line} {k} {vars} {vars'} t) h p a b l r =
        let same = thinks_left own own' vars vars' t h.0 p a b l r in
        sum (subs_left w tree own a) (subs_left w tree own' b) _ _ (thinks_subs own own' vars vars' t h.0 p a b l r)
        (heard_same left k line line h.1.0 (line_same line h.1.1) _ _ _ _ _ _ same.answer same.body same.left same.right)
    thinks_subs _ _ _ _ (ThereStub {own} {line} {line'} {stub} {vars} {vars'} t) h p a b l r =
        let same = rest_same s w tree inner_same children own h.0 a b None l r in
        sum (subs_left w tree own a) (subs_left w tree own b) _ _ (line_same own h.0 a b l r) (thinks_subs line line' vars vars' t h.1 p _ _ same.left same.right)
    thinks_subs _ _ _ _ (InStub {own} {own'} {line} {stub} {vars} {vars'} t) h p a b l r =
        let same = thinks_left own own' vars vars' t h.0 p a b l r in
        sum (subs_left w tree own a) (subs_left w tree own' b) _ _ (thinks_subs own own' vars vars' t h.0 p a b l r) (line_same line h.1 _ _ same.left same.right)

-- ---- a line with one node at each level

abbrev Single : Line → Type 0
Single Nil = Unit {0}
Single (Bytes bytes line) = Single line
Single (Gives node left m line) = line ≡ Nil
Single (Waits node own left k line) = Single own × (line ≡ Nil)
Single (Stubs own stub line) = Single own × (line ≡ Nil)

module _ (w : World) where
  alone_single : (main : Main) (line : Line) → AloneLine w main line → Single line
  alone_single main Nil h = tt
  alone_single main (Bytes bytes line) h = alone_single main line h
  alone_single main (Gives node left m line) h = h.1
  alone_single main (Waits node own left k line) h = absurd h
  alone_single main (Stubs own stub line) h = (alone_single main own h.0, h.1)

  solo_single : (line : Line) (v : Vars) → SoloLine w line v → Single line
  solo_single Nil v h = absurd h
  solo_single (Bytes bytes line) v h = solo_single line v h
  solo_single (Gives node left m line) v h = h.1
  solo_single (Waits node own left k line) v h = (alone_single h.0.main own h.0.alone, h.1)
  solo_single (Stubs own stub line) v h = absurd h

  module _ (tree : Tree) where
    record Exact (line : Line) (v : Vars) (line' : Line) (v' : Vars) : Type 0 where
      same : (last : Option Answer) → rest w tree line last v ≡ rest w tree line' last v'
      subs : subs_left w tree line v ≡ subs_left w tree line' v'

    single_thinks : (line line' : Line) (v v' : Vars) → Thinks line v line' v' → Single line → Exact line v line' v'
    unfolding rest subs_left
    single_thinks _ _ _ _ (Here {node} {left} {m} {line} {vars}) h = record { same = thinks w tree node left m line vars; subs = here_subs w tree node left m line vars }
    single_thinks _ _ _ _ (Reads {node} {left} {name} {k} {line} {vars}) h = record { same = reads w tree node left name k line vars; subs = reads_subs w tree node left name k line vars }
    single_thinks _ _ _ _ (ThereBytes {bytes} {line} {line'} {vars} {vars'} t) h =
        let g = single_thinks line line' vars vars' t h in
        record { same = λ last. ap (before bytes) (g.same last); subs = g.subs }
    single_thinks _ _ _ _ (ThereNode {line} {line'} {vars} {vars'} t) h = no_thinks w line line' vars vars' t h
    single_thinks _ _ _ _ (ThereWait {line} {line'} {vars} {vars'} t) h = no_thinks w line line' vars vars' t h.1
    single_thinks _ _ _ _ (InWait {node} {left} {own} {own'} {line} {k} {vars} {vars'} t) h =
        let g = single_thinks own own' vars vars' t h.0 in
        record {
          same = λ last. ap (λ (r : Left). elim r.answer [
            | None ↦ rest w tree line None r.vars
            | Some answer ↦ let q = run tree (Replies.reply w tree left) (k (reply_of answer r.body)) r.vars in
                before q.body (rest w tree line (Some q.result) q.vars)
          ]) (g.same None);
          subs = ap (λ z. z + heard_subs w tree left k line (rest w tree own None vars)) g.subs ∙ ap (λ (r : Left). subs_left w tree own' vars' + heard_subs w tree left k line r) (g.same None);
        }
    single_thinks _ _ _ _ (ThereStub {line} {line'} {vars} {vars'} t) h = no_thinks w line line' vars vars' t h.1
    single_thinks _ _ _ _ (InStub {own} {own'} {line} {stub} {vars} {vars'} t) h =
        let g = single_thinks own own' vars vars' t h.0 in
        record {
          same = λ last. ap (λ (r : Left). before (or_stub (Some stub) (status_of r.answer) r.body) (rest w tree line r.answer r.vars)) (g.same None);
          subs = ap (λ z. z + subs_left w tree line (rest w tree own None vars).vars) g.subs ∙ ap (λ (r : Left). subs_left w tree own' vars' + subs_left w tree line r.vars) (g.same None);
        }

  -- ---- a step by the table of a family's line, whichever tree answers

  pub table_subs : AreFit w → IsRaceless w.server → (tree : Tree) (line line' : Line) (v v' : Vars) → Thinks line v line' v' → IsKept w line v → subs_left w tree line v ≡ subs_left w tree line' v'
  table_subs fit race tree line line' v v' t (inl h) = (single_thinks tree line line' v v' t (solo_single line v h)).subs
  table_subs fit race tree line line' v v' t (inr b) =
      let s = shared w.server b.table b.main in
      let replies : (left : ℕ) → InnerSame s (Replies.reply w tree left) = λ left. reply_same w fit b.is_so race b.main b.table b.has tree left in
      let children : (left : ℕ) (c : Child) → MayAsk (steady_rules s) c → Steady s s.steady (script w left c) any = λ left c may. child_steady w fit b.is_so race b.main b.table b.has left c may in
      thinks_subs s w tree replies children line line' v v' t b.steady b.agree v v' b.agree (thinks_vars s w tree replies children line line' v v' t b.steady b.agree)
