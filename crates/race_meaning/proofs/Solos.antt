-- A main request before its first content subrequest: it may read what it likes, and sets what isn't settled.
use Rattle.std.proofs.Common.{◌≡◌, ◌⊎◌, inl, inr, ℕ, suc, Bool, true, false, cond, List, [], ◌++◌, bytes_eq, Option, None, Some, refl, sym, ◌∙◌, ap, subst}
use Rattle.std.proofs.lemmas.Slice.Eq.{bytes_eq-Decides}
use Rattle.file_tree.specs.Tree.{Tree, Item}
use Rattle.acts.specs.Vars.{Vars, look, set}
use Rattle.acts.specs.Act.{Done, Get, Put, Stat, Call, Write, Inner, ◌>>=◌, settled}
use Rattle.acts.proofs.ActLaws.{look_after_set}
use Rattle.ngx_variables.specs.declared.request.Main.{Main}
use Rattle.ngx_variables.specs.declared.request.Role.TheVariants.{Content, Auth}
use Rattle.family_meaning.specs.request_meaning.Serving.{World, Serving, Child, Reply, Answer}
use Rattle.family_meaning.specs.request_meaning.Replies
use Rattle.family_meaning.specs.request_meaning.Replies.{Came, run, script, or_stub}
use Rattle.family_meaning.specs.Line.{Line, Left, rest, before, reply_of, status_of, joined, opened, with_stub, begun, has_node}
use Rattle.family_meaning.specs.Line.Line.{Nil, Bytes, Gives, Waits, Stubs}
use Rattle.family_meaning.specs.Moves.{Quiet, Thinks, Moves, Runs}
use Rattle.family_meaning.specs.Moves.Quiet.{Learns, Places, Placed, Merges, Opens, Asks, Hears, Leaves, Keeps, Decides, Chooses, Parts, Gone, PastBytes, PastNode, PastWait, Within, PastStub, WithinStub}
use Rattle.family_meaning.specs.Moves.Thinks.{Here, Reads, ThereBytes, ThereNode, ThereWait, InWait, ThereStub, InStub}
use Rattle.family_meaning.specs.Moves.Moves.{Quietly, ByTable}
use Rattle.family_meaning.specs.Moves.Runs.{Ends, Steps}
use Rattle.family_meaning.proofs.Orders.{quiet_same}
use Rattle.family_meaning.proofs.Exacts.{thinks, reads}
use Rattle.race_meaning.specs.Named.{is_open, is_fixed}
use Rattle.race_meaning.specs.Steady.{Names, along, Agree, Rules, Obeys, MayAsk, Shared, steady_rules, Steady, InnerSame, any}
use Rattle.race_meaning.specs.Laws.{is_steady, shared}
use Rattle.race_meaning.proofs.Obeying.{no_false}
use Rattle.race_meaning.proofs.Servers.{HasValues, fixed_value, every}
use Rattle.race_meaning.proofs.Children.{auth_rules, auth_obeys}
use Rattle.race_meaning.proofs.Lines.{SteadyLine, settled_steady, quiet_steady, runs_keep}

-- ---- fixed variables keep their values

module _ (w : World) where
  set_at : (name other value : List ℕ) (want : Option (List ℕ)) (v : Vars) (e : Bool) → bytes_eq name other ≡ e → (e ≡ true → Some value ≡ want) → look v other ≡ want → cond e (Some value) (look v other) ≡ want
  set_at name other value want v true q f h = f refl
  set_at name other value want v false q f h = h

  pub set_values : (main : Main) (name value : List ℕ) (v : Vars) → (is_fixed w.server name ≡ true → Some value ≡ fixed_value w.server main name) → HasValues w.server main v → HasValues w.server main (set name value v)
  set_values main name value v f h = record {
    at = λ other e. look_after_set name value v other
        ∙ set_at name other value (fixed_value w.server main other) v (bytes_eq name other) refl
        (λ q. let p : name ≡ other = (bytes_eq-Decides name other).0 q in
        f (subst (λ z. is_fixed w.server z ≡ true) (sym p) e) ∙ ap (fixed_value w.server main) p)
        (h.at other e);
  }

  -- ---- acts before the first content subrequest

  -- From here on the act asks at most for auth subrequests, and this holds of the table and the result at its end.
  abbrev pub Alone : {A : Type 0} → Serving A → (Vars → A → Type 0) → Vars → Type 0
  Alone (Done a) post v = post v a
  Alone (Get name k) post v = Alone (k (look v name)) post v
  Alone (Put name value m) post v = Alone m post (set name value v)
  Alone (Stat path k) post v = (item : Item) → Alone (k item) post v
  Alone (Call child k) post v = (child.role ≡ Auth) × (HasValues w.server child.main v × ((reply : Reply) (v' : Vars) → HasValues w.server child.main v' → Alone (k reply) post v'))
  Alone (Write bytes m) post v = Alone m post v
  Alone (Inner child m) post v = ⊥

  pub alone_bind : {A B : Type 0} (m : Serving A) (k : A → Serving B) (mid : Vars → A → Type 0) (post : Vars → B → Type 0) (v : Vars) →
      Alone m mid v → ((v' : Vars) (a : A) → mid v' a → Alone (k a) post v') → Alone (m >>= k) post v
  unfolding ◌>>=◌
  alone_bind (Done a) k mid post v h f = f v a h
  alone_bind (Get name g) k mid post v h f = alone_bind (g (look v name)) k mid post v h f
  alone_bind (Put name value m) k mid post v h f = alone_bind m k mid post (set name value v) h f
  alone_bind (Stat path g) k mid post v h f = λ i. alone_bind (g i) k mid post v (h i) f
  alone_bind (Call child g) k mid post v h f = (h.0, (h.1.0, λ q v' p. alone_bind (g q) k mid post v' (h.1.1 q v' p) f))
  alone_bind (Write bytes m) k mid post v h f = alone_bind m k mid post v h f
  alone_bind (Inner child m) k mid post v h f = absurd h

  pub alone_post : {A : Type 0} (m : Serving A) (post post' : Vars → A → Type 0) (v : Vars) → ((v' : Vars) (a : A) → post v' a → post' v' a) → Alone m post v → Alone m post' v
  alone_post (Done a) post post' v f h = f v a h
  alone_post (Get name k) post post' v f h = alone_post (k (look v name)) post post' v f h
  alone_post (Put name value m) post post' v f h = alone_post m post post' (set name value v) f h
  alone_post (Stat path k) post post' v f h = λ i. alone_post (k i) post post' v f (h i)
  alone_post (Call child k) post post' v f h = (h.0, (h.1.0, λ q v' p. alone_post (k q) post post' v' f (h.1.1 q v' p)))
  alone_post (Write bytes m) post post' v f h = alone_post m post post' v f h
  alone_post (Inner child m) post post' v f h = absurd h

  pub alone_after : {A B C : Type 0} (m : Serving A) (f : A → Serving B) (g : B → Serving C) (post : Vars → C → Type 0) (v : Vars) → Alone (m >>= λ a. f a >>= g) post v → Alone ((m >>= f) >>= g) post v
  unfolding ◌>>=◌
  alone_after (Done a) f g post v h = h
  alone_after (Get name k) f g post v h = alone_after (k (look v name)) f g post v h
  alone_after (Put name value m) f g post v h = alone_after m f g post (set name value v) h
  alone_after (Stat path k) f g post v h = λ i. alone_after (k i) f g post v (h i)
  alone_after (Call child k) f g post v h = (h.0, (h.1.0, λ q v' p. alone_after (k q) f g post v' (h.1.1 q v' p)))
  alone_after (Write bytes m) f g post v h = alone_after m f g post v h
  alone_after (Inner child m) f g post v h = absurd h

  pub record Calls (r : Rules) (I : Vars → Type 0) : Type 0 where
    pub puts : (name value : List ℕ) (v : Vars) → (r.fixed name ≡ true → Some value ≡ r.value name) → I v → I (set name value v)
    pub asks : (c : Child) (v : Vars) → MayAsk r c → I v → (c.role ≡ Auth) × (HasValues w.server c.main v × ((v' : Vars) → HasValues w.server c.main v' → I v'))
    pub inner : (c : Child) → MayAsk r c → c.role ≡ Content → ⊥

  pub alone_obeys : {A : Type 0} (r : Rules) (I : Vars → Type 0) → Calls r I → (known : Names) (m : Serving A) (post : Names → A → Type 0) (end : A → Type 0) (v : Vars) →
      Obeys r known m post → ((now : Names) (a : A) → post now a → end a) → I v → Alone m (λ v' a. I v' × end a) v
  alone_obeys r I c known (Done a) post end v h f i = (i, f known a h)
  alone_obeys r I c known (Get name k) post end v h f i = alone_obeys r I c known (k (look v name)) post end v (h.1 (look v name)) f i
  alone_obeys r I c known (Put name value m) post end v h f i = alone_obeys r I c (along name known) m post end (set name value v) h.1 f (c.puts name value v h.0 i)
  alone_obeys r I c known (Stat path k) post end v h f i = λ item. alone_obeys r I c r.kept (k item) post end v (h item) f i
  alone_obeys r I c known (Call child k) post end v h f i =
      let a = c.asks child v h.0 i in
      (a.0, (a.1.0, λ q v' p. alone_obeys r I c r.kept (k q) post end v' (h.1 q) f (a.1.1 v' p)))
  alone_obeys r I c known (Write bytes m) post end v h f i = alone_obeys r I c r.kept m post end v h f i
  alone_obeys r I c known (Inner child m) post end v h f i = absurd (c.inner child h.0.0 h.0.1)

  -- The act is steady from here on, for a table that agrees with the one that holds now.
  pub record IsReady (m : Serving Answer) (v : Vars) : Type 0 where
    pub is_so : is_open w.server ≡ true
    pub main : Main
    pub table : Vars
    pub has : HasValues w.server main table
    pub agree : Agree (is_steady w.server) table v
    pub steady : Steady (shared w.server table main) (is_steady w.server) m any

  -- It is alone until it is ready.
  abbrev pub Solo : Serving Answer → Vars → Type 0
  Solo (Done a) v = Unit {0}
  Solo (Get name k) v = IsReady (Get name k) v ⊎ Solo (k (look v name)) v
  Solo (Put name value m) v = IsReady (Put name value m) v ⊎ Solo m (set name value v)
  Solo (Stat path k) v = IsReady (Stat path k) v ⊎ ((item : Item) → Solo (k item) v)
  Solo (Call child k) v = IsReady (Call child k) v ⊎
      ((child.role ≡ Auth) × (HasValues w.server child.main v × ((reply : Reply) (v' : Vars) → HasValues w.server child.main v' → Solo (k reply) v')))
  Solo (Write bytes m) v = IsReady (Write bytes m) v ⊎ Solo m v
  Solo (Inner child m) v = IsReady (Inner child m) v

  pub ready_solo : (m : Serving Answer) (v : Vars) → IsReady m v → Solo m v
  ready_solo (Done a) v h = tt
  ready_solo (Get name k) v h = inl h
  ready_solo (Put name value m) v h = inl h
  ready_solo (Stat path k) v h = inl h
  ready_solo (Call child k) v h = inl h
  ready_solo (Write bytes m) v h = inl h
  ready_solo (Inner child m) v h = h

  pub alone_solo : {A : Type 0} (m : Serving A) (k : A → Serving Answer) (mid : Vars → A → Type 0) (v : Vars) → Alone m mid v → ((v' : Vars) (a : A) → mid v' a → Solo (k a) v') → Solo (m >>= k) v
  unfolding ◌>>=◌
  alone_solo (Done a) k mid v h f = f v a h
  alone_solo (Get name g) k mid v h f = inr (alone_solo (g (look v name)) k mid v h f)
  alone_solo (Put name value m) k mid v h f = inr (alone_solo m k mid (set name value v) h f)
  alone_solo (Stat path g) k mid v h f = inr (λ i. alone_solo (g i) k mid v (h i) f)
  alone_solo (Call child g) k mid v h f = inr (h.0, (h.1.0, λ q v' p. alone_solo (g q) k mid v' (h.1.1 q v' p) f))
  alone_solo (Write bytes m) k mid v h f = inr (alone_solo m k mid v h f)
  alone_solo (Inner child m) k mid v h f = absurd h

  settled_ready : (m : Serving Answer) (v : Vars) → IsReady m v → IsReady (settled m v).0 (settled m v).1
  settled_ready m v h =
      let g = settled_steady (shared w.server h.table h.main) (is_steady w.server) m v h.steady h.agree in
      record { is_so = h.is_so; main = h.main; table = h.table; has = h.has; agree = g.1; steady = g.0 }

  solo_settled : (m : Serving Answer) (v : Vars) → Solo m v → Solo (settled m v).0 (settled m v).1
  unfolding settled
  solo_settled (Done a) v h = tt
  solo_settled (Get name k) v (inl h) = ready_solo (settled (k (look v name)) v).0 (settled (k (look v name)) v).1 (settled_ready (Get name k) v h)
  solo_settled (Get name k) v (inr h) = solo_settled (k (look v name)) v h
  solo_settled (Put name value m) v (inl h) = ready_solo (settled m (set name value v)).0 (settled m (set name value v)).1 (settled_ready (Put name value m) v h)
  solo_settled (Put name value m) v (inr h) = solo_settled m (set name value v) h
  solo_settled (Stat path k) v h = h
  solo_settled (Call child k) v h = h
  solo_settled (Write bytes m) v h = h
  solo_settled (Inner child m) v h = h

  solo_reads : (name : List ℕ) (k : Option (List ℕ) → Serving Answer) (v : Vars) → Solo (Get name k) v → Solo (k (look v name)) v
  solo_reads name k v (inl h) = ready_solo (k (look v name)) v (record { is_so = h.is_so; main = h.main; table = h.table; has = h.has; agree = h.agree; steady = h.steady.1 (look v name) })
  solo_reads name k v (inr h) = h

  -- ---- the line of an auth subrequest

  abbrev pub AloneLine : Main → Line → Type 0
  AloneLine main Nil = Unit {0}
  AloneLine main (Bytes bytes line) = AloneLine main line
  AloneLine main (Gives node left m line) = Obeys (auth_rules w main) (every w.server) m any × (line ≡ Nil)
  AloneLine main (Waits node own left k line) = ⊥
  AloneLine main (Stubs own stub line) = AloneLine main own × (line ≡ Nil)

  no_quiet : {B : Type 0} (tree : Tree) (line line' : Line) → Quiet w tree line line' → line ≡ Nil → B
  no_quiet {B = B} tree line line' q e = by (subst (λ l. Quiet w tree l line') e q)
    where
      by : Quiet w tree Nil line' → B
      by x = elim x [ ]

  pub no_thinks : {B : Type 0} (line line' : Line) (v v' : Vars) → Thinks line v line' v' → line ≡ Nil → B
  no_thinks {B = B} line line' v v' t e = by (subst (λ l. Thinks l v line' v') e t)
    where
      by : Thinks Nil v line' v' → B
      by x = elim x [ ]

  no_node : {B : Type 0} (line : Line) → line ≡ Nil → has_node line ≡ true → B
  unfolding has_node
  no_node line e h = no_false (sym (ap has_node e) ∙ h)

  joined_nil : (line : Line) → line ≡ Nil → joined line Nil ≡ Nil
  unfolding joined
  joined_nil line e = ap (λ l. joined l Nil) e

  alone_joined : (main : Main) (own line : Line) → line ≡ Nil → AloneLine main own → AloneLine main (joined own line)
  unfolding joined
  alone_joined main Nil line e h = subst (AloneLine main) (sym e) tt
  alone_joined main (Bytes bytes own) line e h = alone_joined main own line e h
  alone_joined main (Gives node left m own) line e h = (h.0, ap (joined own) e ∙ joined_nil own h.1)
  alone_joined main (Waits node wait left k own) line e h = absurd h
  alone_joined main (Stubs wait stub own) line e h = (h.0, ap (joined own) e ∙ joined_nil own h.1)

  alone_settled : (main : Main) (known : Names) (m : Serving Answer) (v : Vars) → Obeys (auth_rules w main) known m any → HasValues w.server main v →
      Obeys (auth_rules w main) (every w.server) (settled m v).0 any × HasValues w.server main (settled m v).1
  unfolding settled
  alone_settled main known (Done a) v h p = (tt, p)
  alone_settled main known (Get name k) v h p = alone_settled main known (k (look v name)) v (h.1 (look v name)) p
  alone_settled main known (Put name value m) v h p = alone_settled main (along name known) m (set name value v) h.1 (set_values main name value v h.0 p)
  alone_settled main known (Stat path k) v h p = (h, p)
  alone_settled main known (Call child k) v h p = (h, p)
  alone_settled main known (Write bytes m) v h p = (h, p)
  alone_settled main known (Inner child m) v h p = (h, p)

  alone_quiet : (tree : Tree) (main : Main) (line line' : Line) → Quiet w tree line line' → AloneLine main line → AloneLine main line'
  alone_quiet tree main _ _ (Learns {path}) h = (h.0 (tree path), h.1)
  alone_quiet tree main _ _ Places h = h
  alone_quiet tree main _ _ Placed h = h
  alone_quiet tree main _ _ Merges h = h
  alone_quiet tree main _ _ (Opens number) h = no_false h.0.0.0.0
  alone_quiet tree main _ _ (Asks number) h = no_false h.0.0.0
  alone_quiet tree main _ _ (Hears reply e) h = absurd h
  alone_quiet tree main _ _ (Leaves {line} e) h = no_node line h.1 e
  alone_quiet tree main _ _ (Keeps {own} {line} k f) h = alone_joined main own line h.1 h.0
  alone_quiet tree main _ _ (Decides {line} reply e n) h = no_node line h.1 n
  alone_quiet tree main _ _ (Chooses node left reply e) h = (tt, h.1)
  alone_quiet tree main _ _ Parts h = h
  alone_quiet tree main _ _ Gone h = h
  alone_quiet tree main _ _ (PastBytes {line} {line'} q) h = alone_quiet tree main line line' q h
  alone_quiet tree main _ _ (PastNode {line} {line'} q) h = no_quiet tree line line' q h.1
  alone_quiet tree main _ _ (PastWait q) h = absurd h
  alone_quiet tree main _ _ (Within q) h = absurd h
  alone_quiet tree main _ _ (PastStub {line} {line'} q) h = no_quiet tree line line' q h.1
  alone_quiet tree main _ _ (WithinStub {own} {own'} q) h = (alone_quiet tree main own own' q h.0, h.1)

  -- a step of its node is exact
  record Aside (tree : Tree) (main : Main) (line : Line) (v : Vars) (line' : Line) (v' : Vars) : Type 0 where
    alone : AloneLine main line'
    values : HasValues w.server main v'
    exact : (last : Option Answer) → rest w tree line last v ≡ rest w tree line' last v'

  bytes_exact : (tree : Tree) (bytes : List ℕ) (line line' : Line) (v v' : Vars) → ((last : Option Answer) → rest w tree line last v ≡ rest w tree line' last v') →
      (last : Option Answer) → rest w tree (Bytes bytes line) last v ≡ rest w tree (Bytes bytes line') last v'
  unfolding rest
  bytes_exact tree bytes line line' v v' f last = ap (before bytes) (f last)

  stub_exact : (tree : Tree) (own own' : Line) (stub : List ℕ) (line : Line) (v v' : Vars) → rest w tree own None v ≡ rest w tree own' None v' →
      (last : Option Answer) → rest w tree (Stubs own stub line) last v ≡ rest w tree (Stubs own' stub line) last v'
  unfolding rest
  stub_exact tree own own' stub line v v' e last = ap (λ (r : Left). before (or_stub (Some stub) (status_of r.answer) r.body) (rest w tree line r.answer r.vars)) e

  wait_exact : (tree : Tree) (node : ℕ) (own own' : Line) (left : ℕ) (k : Reply → Serving Answer) (line : Line) (v v' : Vars) → rest w tree own None v ≡ rest w tree own' None v' →
      (last : Option Answer) → rest w tree (Waits node own left k line) last v ≡ rest w tree (Waits node own' left k line) last v'
  unfolding rest
  wait_exact tree node own own' left k line v v' e last = ap (λ (r : Left). elim r.answer [
    | None ↦ rest w tree line None r.vars
    | Some answer ↦ let q = run tree (Replies.reply w tree left) (k (reply_of answer r.body)) r.vars in
        before q.body (rest w tree line (Some q.result) q.vars)
  ]) e

  alone_thinks : (tree : Tree) (main : Main) (line line' : Line) (v v' : Vars) → Thinks line v line' v' → AloneLine main line → HasValues w.server main v → Aside tree main line v line' v'
  alone_thinks tree main _ _ _ _ (Here {node} {left} {m} {line} {vars}) h p =
      let g = alone_settled main (every w.server) m vars h.0 p in
      record { alone = (g.0, h.1); values = g.1; exact = thinks w tree node left m line vars }
  alone_thinks tree main _ _ _ _ (Reads {node} {left} {name} {k} {line} {vars}) h p =
      record { alone = (h.0.1 (look vars name), h.1); values = p; exact = reads w tree node left name k line vars }
  alone_thinks tree main _ _ _ _ (ThereBytes {bytes} {line} {line'} {vars} {vars'} t) h p =
      let g = alone_thinks tree main line line' vars vars' t h p in
      record { alone = g.alone; values = g.values; exact = bytes_exact tree bytes line line' vars vars' g.exact }
  alone_thinks tree main _ _ _ _ (ThereNode {line} {line'} {vars} {vars'} t) h p = no_thinks line line' vars vars' t h.1
  alone_thinks tree main _ _ _ _ (ThereWait t) h p = absurd h
  alone_thinks tree main _ _ _ _ (InWait t) h p = absurd h
  alone_thinks tree main _ _ _ _ (ThereStub {line} {line'} {vars} {vars'} t) h p = no_thinks line line' vars vars' t h.1
  alone_thinks tree main _ _ _ _ (InStub {own} {own'} {line} {stub} {vars} {vars'} t) h p =
      let g = alone_thinks tree main own own' vars vars' t h.0 p in
      record { alone = (g.alone, h.1); values = g.values; exact = stub_exact tree own own' stub line vars vars' (g.exact None) }

  -- ---- the line of a main request that is alone

  pub record Stopped (own : Line) (k : Reply → Serving Answer) (v : Vars) : Type 0 where
    pub main : Main
    pub values : HasValues w.server main v
    pub alone : AloneLine main own
    pub later : (reply : Reply) (v' : Vars) → HasValues w.server main v' → Solo (k reply) v'

  abbrev pub SoloLine : Line → Vars → Type 0
  SoloLine Nil v = ⊥
  SoloLine (Bytes bytes line) v = SoloLine line v
  SoloLine (Gives node left m line) v = Solo m v × (line ≡ Nil)
  SoloLine (Waits node own left k line) v = Stopped own k v × (line ≡ Nil)
  SoloLine (Stubs own stub line) v = ⊥

  -- every node is steady, for a table that agrees with the one that holds now
  pub record Begun (line : Line) (v : Vars) : Type 0 where
    pub is_so : is_open w.server ≡ true
    pub main : Main
    pub table : Vars
    pub has : HasValues w.server main table
    pub agree : Agree (is_steady w.server) table v
    pub steady : SteadyLine (shared w.server table main) line

  past : (bytes : List ℕ) (line : Line) (v : Vars) → SoloLine line v ⊎ Begun line v → SoloLine (Bytes bytes line) v ⊎ Begun (Bytes bytes line) v
  past bytes line v (inl h) = inl h
  past bytes line v (inr h) = inr (record { is_so = h.is_so; main = h.main; table = h.table; has = h.has; agree = h.agree; steady = h.steady })

  nil_steady : (s : Shared) (line : Line) → line ≡ Nil → SteadyLine s line
  nil_steady s line e = subst (SteadyLine s) (sym e) tt

  auth_line : (number left : ℕ) (c : Child) → c.role ≡ Auth → AloneLine c.main (opened w number left c Nil)
  unfolding joined
  auth_line number left c e = by c.stub
    where
      by : (stub : Option (List ℕ)) → AloneLine c.main (with_stub stub (begun w number left c) Nil)
      by None = (auth_obeys w left c e, refl)
      by (Some stub) = ((auth_obeys w left c e, refl), refl)

  module _ (tree : Tree) (children : is_open w.server ≡ true → (main : Main) (table : Vars) → HasValues w.server main table → (left : ℕ) (c : Child) → MayAsk (steady_rules (shared w.server table main)) c → Steady (shared w.server table main) (is_steady w.server) (script w left c) any)
      (inner_same : is_open w.server ≡ true → (main : Main) (table : Vars) → HasValues w.server main table → (left : ℕ) → InnerSame (shared w.server table main) (Replies.reply w tree left)) where
    -- a step from where its node is ready
    from_ready : (node left : ℕ) (m : Serving Answer) (line line' : Line) (v : Vars) → Quiet w tree (Gives node left m line) line' → line ≡ Nil → IsReady m v → Begun line' v
    from_ready node left m line line' v q e h = record {
      is_so = h.is_so;
      main = h.main;
      table = h.table;
      has = h.has;
      agree = h.agree;
      steady = quiet_steady (shared w.server h.table h.main) w tree (inner_same h.is_so h.main h.table h.has) (children h.is_so h.main h.table h.has) (Gives node left m line) line' q (h.steady, nil_steady (shared w.server h.table h.main) line e);
    }

    solo_quiet : (line line' : Line) (v : Vars) → Quiet w tree line line' → SoloLine line v → SoloLine line' v ⊎ Begun line' v
    solo_quiet _ _ v (Learns {node} {left} {path} {k} {line}) (inl h, e) = inr (from_ready node left (Stat path k) line (Gives node left (k (tree path)) line) v Learns e h)
    solo_quiet _ _ v (Learns {node} {left} {path} {k} {line}) (inr h, e) = inl (h (tree path), e)
    solo_quiet _ _ v (Places {node} {left} {some} {more} {m} {line}) (inl h, e) = inr (from_ready node left (Write (some ++ more) m) line (Bytes some (Gives node left (Write more m) line)) v Places e h)
    solo_quiet _ _ v (Places {node} {left} {some} {more} {m} {line}) (inr h, e) = inl (inr h, e)
    solo_quiet _ _ v (Placed {node} {left} {m} {line}) (inl h, e) = inr (from_ready node left (Write [] m) line (Gives node left m line) v Placed e h)
    solo_quiet _ _ v (Placed {node} {left} {m} {line}) (inr h, e) = inl (h, e)
    solo_quiet _ _ v (Merges {node} {left} {first} {second} {m} {line}) (inl h, e) =
        inr (from_ready node left (Write first (Write second m)) line (Gives node left (Write (first ++ second) m) line) v Merges e h)
    solo_quiet _ _ v (Merges {node} {left} {first} {second} {m} {line}) (inr (inl h), e) =
        inl (inl (record { is_so = h.is_so; main = h.main; table = h.table; has = h.has; agree = h.agree; steady = h.steady }), e)
    solo_quiet _ _ v (Merges {node} {left} {first} {second} {m} {line}) (inr (inr h), e) = inl (inr h, e)
    solo_quiet _ _ v (Opens {node} {left} {child} {m} {line} number) (h, e) =
        inr (from_ready node (suc left) (Inner child m) line (opened w number left child (Gives node (suc left) m line)) v (Opens number) e h)
    solo_quiet _ _ v (Asks {node} {left} {child} {k} {line} number) (inl h, e) =
        inr (from_ready node (suc left) (Call child k) line (Waits node (opened w number left child Nil) (suc left) k line) v (Asks number) e h)
    solo_quiet _ _ v (Asks {node} {left} {child} {k} {line} number) (inr h, e) =
        inl (record { main = child.main; values = h.1.0; alone = auth_line number left child h.0; later = h.1.1 }, e)
    solo_quiet _ _ v (Hears {node} {left} {own} {line} {k} reply d) (h, e) = inl (h.later reply v h.values, e)
    solo_quiet _ _ v (Leaves {line} n) (h, e) = no_node line e n
    solo_quiet _ _ v (Keeps k f) h = absurd h
    solo_quiet _ _ v (Decides reply e n) h = absurd h
    solo_quiet _ _ v (Chooses node left reply e) h = absurd h
    solo_quiet _ _ v Parts h = inl h
    solo_quiet _ _ v Gone h = inl h
    solo_quiet _ _ v (PastBytes {bytes} {line} {line'} q) h = past bytes line' v (solo_quiet line line' v q h)
    solo_quiet _ _ v (PastNode {line} {line'} q) (h, e) = no_quiet tree line line' q e
    solo_quiet _ _ v (PastWait {line} {line'} q) (h, e) = no_quiet tree line line' q e
    solo_quiet _ _ v (Within {own} {own'} q) (h, e) = inl (record { main = h.main; values = h.values; alone = alone_quiet tree h.main own own' q h.alone; later = h.later }, e)
    solo_quiet _ _ v (PastStub q) h = absurd h
    solo_quiet _ _ v (WithinStub q) h = absurd h

    -- a step comes to the same, and the main request is alone still or every node is steady
    pub record Went (line : Line) (v : Vars) (line' : Line) (v' : Vars) : Type 0 where
      pub exact : (last : Option Answer) → rest w tree line last v ≡ rest w tree line' last v'
      pub next : SoloLine line' v' ⊎ Begun line' v'

    solo_thinks : (line line' : Line) (v v' : Vars) → Thinks line v line' v' → SoloLine line v → Went line v line' v'
    solo_thinks _ _ _ _ (Here {node} {left} {m} {line} {vars}) (h, e) = record { exact = thinks w tree node left m line vars; next = inl (solo_settled m vars h, e) }
    solo_thinks _ _ _ _ (Reads {node} {left} {name} {k} {line} {vars}) (h, e) = record { exact = reads w tree node left name k line vars; next = inl (solo_reads name k vars h, e) }
    solo_thinks _ _ _ _ (ThereBytes {bytes} {line} {line'} {vars} {vars'} t) h =
        let g = solo_thinks line line' vars vars' t h in
        record { exact = bytes_exact tree bytes line line' vars vars' g.exact; next = past bytes line' vars' g.next }
    solo_thinks _ _ _ _ (ThereNode {line} {line'} {vars} {vars'} t) (h, e) = no_thinks line line' vars vars' t e
    solo_thinks _ _ _ _ (ThereWait {line} {line'} {vars} {vars'} t) (h, e) = no_thinks line line' vars vars' t e
    solo_thinks _ _ _ _ (InWait {node} {left} {own} {own'} {line} {k} {vars} {vars'} t) (h, e) =
        let g = alone_thinks tree h.main own own' vars vars' t h.alone h.values in
        record { exact = wait_exact tree node own own' left k line vars vars' (g.exact None); next = inl (record { main = h.main; values = g.values; alone = g.alone; later = h.later }, e) }
    solo_thinks _ _ _ _ (ThereStub t) h = absurd h
    solo_thinks _ _ _ _ (InStub t) h = absurd h

    pub solo_moves : (line line' : Line) (v v' : Vars) → Moves w tree line v line' v' → SoloLine line v → Went line v line' v'
    solo_moves _ _ _ _ (Quietly {line} {line'} {vars} q) h = record { exact = quiet_same w tree line line' q vars; next = solo_quiet line line' vars q h }
    solo_moves _ _ _ _ (ByTable {line} {line'} {vars} {vars'} t) h = solo_thinks line line' vars vars' t h

    -- two lines come to the same answer and bytes
    pub record SameEnd (r q : Left) : Type 0 where
      pub answer : r.answer ≡ q.answer
      pub body : r.body ≡ q.body

    begun_keep : (line line' : Line) (v v' : Vars) → Runs w tree line v line' v' → Begun line v → (last : Option Answer) → SameEnd (rest w tree line last v) (rest w tree line' last v')
    begun_keep line line' v v' runs b last =
        let k = runs_keep (shared w.server b.table b.main) w tree (inner_same b.is_so b.main b.table b.has) (children b.is_so b.main b.table b.has) line line' v v' runs b.steady b.agree in
        let same = k.same v v' last b.agree k.vars in
        record { answer = same.answer; body = same.body }

    pub solo_keep : (line line' : Line) (v v' : Vars) → Runs w tree line v line' v' → SoloLine line v ⊎ Begun line v → (last : Option Answer) → SameEnd (rest w tree line last v) (rest w tree line' last v')
    solo_keep line line' v v' runs (inr b) last = begun_keep line line' v v' runs b last
    solo_keep _ _ _ _ Ends (inl h) last = record { answer = refl; body = refl }
    solo_keep _ _ _ _ (Steps {first} {next} {last = end} {vars} {vars'} {vars''} x y) (inl h) last =
        let g = solo_moves first next vars vars' x h in
        let k = solo_keep next end vars' vars'' y g.next last in
        record { answer = ap (λ (r : Left). r.answer) (g.exact last) ∙ k.answer; body = ap (λ (r : Left). r.body) (g.exact last) ∙ k.body }
