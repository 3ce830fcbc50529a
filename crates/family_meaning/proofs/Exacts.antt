-- Steps of the first node.
use Rattle.std.proofs.Common.{◌≡◌, ◌≢◌, ℕ, suc, true, false, nat_le, cond, List, [], ◌∷◌, ◌++◌, Option, None, Some, refl, sym, ap, ◌∙◌, append_assoc, append-nil}
use Rattle.file_tree.specs.Tree.{Tree, Item}
use Rattle.acts.specs.Vars.{Vars, look, set}
use Rattle.acts.specs.Act.{Done, Get, Put, Stat, Call, Write, Inner, settled}
use Rattle.request_meaning.specs.Serving.{World, Serving, Child, Reply, Answer}
use Rattle.request_meaning.specs.Replies
use Rattle.request_meaning.specs.Replies.{Came, run, reply, script, or_stub, stubbed, main_script, main_came, main_reply, most_depth}
use Rattle.family_meaning.specs.Line.{Line, Left, rest, joined, opened, with_stub, with_bytes, some_reply, done_of, ended, has_node, front, before, reply_of, status_of}
use Rattle.family_meaning.specs.Line.Line.{Nil, Bytes, Gives, Waits, Stubs}
use Rattle.family_meaning.specs.Exact.{Same, FirstIsExact}
use Rattle.family_meaning.specs.Moves.{KeepsBody, SomeBody, IsGoodLeft}
use Rattle.family_meaning.specs.Flight.{Terms, flight_rest, begun, whole_rest}
use Rattle.request_meaning.specs.ngx_variables.declared.request.Main.{Main}
use Rattle.request_meaning.specs.ngx_variables.declared.request.Request.{Request}

-- what was settled comes to the same
pub settled_run : {A : Type 0} (tree : Tree) (inner : Child → Vars → Came Answer) (m : Serving A) (vars : Vars) → run tree inner m vars ≡ run tree inner (settled m vars).0 (settled m vars).1
unfolding run settled
settled_run tree inner (Done a) vars = refl
settled_run tree inner (Get name k) vars = settled_run tree inner (k (look vars name)) vars
settled_run tree inner (Put name value m) vars = settled_run tree inner m (set name value vars)
settled_run tree inner (Stat path k) vars = refl
settled_run tree inner (Call child k) vars = refl
settled_run tree inner (Write bytes m) vars = refl
settled_run tree inner (Inner child m) vars = refl

pub thinks : (w : World) (tree : Tree) (node left : ℕ) (m : Serving Answer) (line : Line) (vars : Vars) → Same w tree (Gives node left m line) vars (Gives node left (settled m vars).0 line) (settled m vars).1
unfolding rest
thinks w tree node left m line vars last = ap (λ r. before r.body (rest w tree line (Some r.result) r.vars)) (settled_run tree (reply w tree left) m vars)

pub reads : (w : World) (tree : Tree) (node left : ℕ) (name : List ℕ) (k : Option (List ℕ) → Serving Answer) (line : Line) (vars : Vars) → Same w tree (Gives node left (Get name k) line) vars (Gives node left (k (look vars name)) line) vars
unfolding rest run
reads w tree node left name k line vars last = refl

pub learns : (w : World) (tree : Tree) (node left : ℕ) (path : List ℕ) (k : Item → Serving Answer) (line : Line) (vars : Vars) → Same w tree (Gives node left (Stat path k) line) vars (Gives node left (k (tree path)) line) vars
unfolding rest run
learns w tree node left path k line vars last = refl

before_before : (a b : List ℕ) (l : Left) → before (a ++ b) l ≡ before a (before b l)
before_before a b l = ap (λ body. record { answer = l.answer; body = body; vars = l.vars }) (append_assoc a b l.body)

pub places : (w : World) (tree : Tree) (node left : ℕ) (some more : List ℕ) (m : Serving Answer) (line : Line) (vars : Vars) → Same w tree (Gives node left (Write (some ++ more) m) line) vars (Bytes some (Gives node left (Write more m) line)) vars
unfolding rest run
places w tree node left some more m line vars last =
    let r = run tree (reply w tree left) m vars in
    ap (λ body. before body (rest w tree line (Some r.result) r.vars)) (append_assoc some more r.body)
    ∙ before_before some (more ++ r.body) (rest w tree line (Some r.result) r.vars)

pub merges : (w : World) (tree : Tree) (node left : ℕ) (first second : List ℕ) (m : Serving Answer) (line : Line) (vars : Vars) → Same w tree (Gives node left (Write first (Write second m)) line) vars (Gives node left (Write (first ++ second) m) line) vars
unfolding rest run
merges w tree node left first second m line vars last =
    let r = run tree (reply w tree left) m vars in
    ap (λ body. before body (rest w tree line (Some r.result) r.vars)) (sym (append_assoc first second r.body))

-- a subrequest that opens: with a stub or without one
module _ (w : World) (tree : Tree) (node left number : ℕ) (act : Serving Answer) where
  opens_by : (stub : Option (List ℕ)) (m : Serving Answer) (line : Line) (vars : Vars) (last : Option Answer) →
      (let r = run tree (reply w tree left) act vars in
      let q = run tree (reply w tree (suc left)) m r.vars in
      before (or_stub stub r.result.status r.body ++ q.body) (rest w tree line (Some q.result) q.vars))
      ≡ rest w tree (with_stub stub (Gives number left act Nil) (Gives node (suc left) m line)) last vars
  unfolding rest joined
  opens_by None m line vars last =
      let r = run tree (reply w tree left) act vars in
      let q = run tree (reply w tree (suc left)) m r.vars in
      before_before r.body q.body (rest w tree line (Some q.result) q.vars)
  opens_by (Some stub) m line vars last =
      let r = run tree (reply w tree left) act vars in
      let q = run tree (reply w tree (suc left)) m r.vars in
      before_before (or_stub (Some stub) r.result.status r.body) q.body (rest w tree line (Some q.result) q.vars)
      ∙ ap (λ body. before (or_stub (Some stub) r.result.status body) (before q.body (rest w tree line (Some q.result) q.vars))) (sym (append-nil r.body))

  asks_by : (stub : Option (List ℕ)) (k : Reply → Serving Answer) (line : Line) (vars : Vars) (last : Option Answer) →
      (let r = run tree (reply w tree left) act vars in
      let q = run tree (reply w tree (suc left)) (k (reply_of r.result (or_stub stub r.result.status r.body))) r.vars in
      before q.body (rest w tree line (Some q.result) q.vars))
      ≡ rest w tree (Waits node (with_stub stub (Gives number left act Nil) Nil) (suc left) k line) last vars
  unfolding rest joined
  asks_by None k line vars last =
      let r = run tree (reply w tree left) act vars in
      ap (λ body. let q = run tree (reply w tree (suc left)) (k (reply_of r.result body)) r.vars in before q.body (rest w tree line (Some q.result) q.vars)) (sym (append-nil r.body))
  asks_by (Some stub) k line vars last =
      let r = run tree (reply w tree left) act vars in
      ap (λ body. let q = run tree (reply w tree (suc left)) (k (reply_of r.result body)) r.vars in before q.body (rest w tree line (Some q.result) q.vars))
      (ap (or_stub (Some stub) r.result.status) (sym (append-nil r.body)) ∙ sym (append-nil (or_stub (Some stub) r.result.status (r.body ++ []))))

pub opens : (w : World) (tree : Tree) (node left number : ℕ) (child : Child) (m : Serving Answer) (line : Line) (vars : Vars) → Same w tree (Gives node (suc left) (Inner child m) line) vars (opened w number left child (Gives node (suc left) m line)) vars
unfolding rest run reply
opens w tree node left number child m line vars last = opens_by w tree node left number (script w left child) child.stub m line vars last

pub asks : (w : World) (tree : Tree) (node left number : ℕ) (child : Child) (k : Reply → Serving Answer) (line : Line) (vars : Vars) → Same w tree (Gives node (suc left) (Call child k) line) vars (Waits node (opened w number left child Nil) (suc left) k line) vars
unfolding rest run reply
asks w tree node left number child k line vars last = asks_by w tree node left number (script w left child) child.stub k line vars last

some_inj : {A : Type 0} {a b : A} → Some a ≡ Some b → a ≡ b
some_inj e = cc

no_some : {A B : Type 0} {a : A} → None ≡ Some a → B
no_some e = cc

-- what comes before a line with a node makes no difference
last_lost : (w : World) (tree : Tree) (line : Line) (a b : Option Answer) (vars : Vars) → has_node line ≡ true → rest w tree line a vars ≡ rest w tree line b vars
unfolding rest has_node
last_lost w tree Nil a b vars h = cc
last_lost w tree (Bytes bytes line) a b vars h = ap (before bytes) (last_lost w tree line a b vars h)
last_lost w tree (Gives node left m line) a b vars h = refl
last_lost w tree (Waits node own left k line) a b vars h = refl
last_lost w tree (Stubs own stub line) a b vars h = refl

pub leaves : (w : World) (tree : Tree) (node left : ℕ) (answer : Answer) (line : Line) (vars : Vars) → has_node line ≡ true → Same w tree (Gives node left (Done answer) line) vars line vars
unfolding rest run
leaves w tree node left answer line vars h last = last_lost w tree line (Some answer) last vars h

-- a line of which every node is over comes to its reply
left_by : Vars → Reply → Left
left_by vars reply = record { answer = Some reply.answer; body = reply.body; vars = vars }

some_same : (a : Option Answer) (said : Reply) (vars : Vars) → some_reply a ≡ Some said → (record { answer = a; body = []; vars = vars }) ≡ left_by vars said
unfolding left_by
some_same None said vars e = no_some e
some_same (Some answer) said vars e = ap (left_by vars) (some_inj e)

prefixed : (bytes : List ℕ) (r : Option Reply) (said : Reply) → with_bytes bytes r ≡ Some said → (inner : Reply) × (r ≡ Some inner) × (reply_of inner.answer (bytes ++ inner.body) ≡ said)
prefixed bytes None said e = no_some e
prefixed bytes (Some r) said e = (r, refl, some_inj e)

by_done : (d : Option Answer) (line : Line) (said : Reply) → (elim d [
  | None ↦ None
  | Some answer ↦ ended line (Some answer)
]) ≡ Some said → (answer : Answer) × (d ≡ Some answer) × (ended line (Some answer) ≡ Some said)
by_done None line said e = no_some e
by_done (Some answer) line said e = (answer, refl, e)

done_is : (m : Serving Answer) (answer : Answer) → done_of m ≡ Some answer → m ≡ Done answer
done_is (Done a) answer e = ap Done (some_inj e)
done_is (Get name k) answer e = no_some e
done_is (Put name value m) answer e = no_some e
done_is (Stat path k) answer e = no_some e
done_is (Call child k) answer e = no_some e
done_is (Write bytes m) answer e = no_some e
done_is (Inner child m) answer e = no_some e

ended_rest : (w : World) (tree : Tree) (line : Line) (last : Option Answer) (vars : Vars) (said : Reply) → ended line last ≡ Some said → rest w tree line last vars ≡ left_by vars said
unfolding rest ended run left_by
ended_rest w tree Nil last vars said e = some_same last said vars e
ended_rest w tree (Bytes bytes line) last vars said e =
    let p = prefixed bytes (ended line last) said e in
    ap (before bytes) (ended_rest w tree line last vars p.0 p.1) ∙ ap (left_by vars) p.2
ended_rest w tree (Gives node left m line) last vars said e =
    let p = by_done (done_of m) line said e in
    ap (λ n. let r = run tree (Replies.reply w tree left) n vars in before r.body (rest w tree line (Some r.result) r.vars)) (done_is m p.0 p.1)
    ∙ ended_rest w tree line (Some p.0) vars said p.2
ended_rest w tree (Waits node own left k line) last vars said e = no_some e
ended_rest w tree (Stubs own stub line) last vars said e = no_some e

pub hears : (w : World) (tree : Tree) (node left : ℕ) (own : Line) (k : Reply → Serving Answer) (line : Line) (vars : Vars) (said : Reply) →
    ended own None ≡ Some said → Same w tree (Waits node own left k line) vars (Gives node left (k said) line) vars
unfolding rest left_by
hears w tree node left own k line vars said e last =
    ap (λ (r : Left). elim r.answer [
      | None ↦ rest w tree line None r.vars
      | Some answer ↦ let q = run tree (Replies.reply w tree left) (k (reply_of answer r.body)) r.vars in
          before q.body (rest w tree line (Some q.result) q.vars)
    ]) (ended_rest w tree own None vars said e)

pub decides : (w : World) (tree : Tree) (own : Line) (stub : List ℕ) (line : Line) (vars : Vars) (said : Reply) →
    ended own None ≡ Some said → has_node line ≡ true → Same w tree (Stubs own stub line) vars (Bytes (or_stub (Some stub) said.answer.status said.body) line) vars
unfolding rest left_by
decides w tree own stub line vars said e h last =
    ap (λ (r : Left). before (or_stub (Some stub) (status_of r.answer) r.body) (rest w tree line r.answer r.vars)) (ended_rest w tree own None vars said e)
    ∙ ap (before (or_stub (Some stub) said.answer.status said.body)) (last_lost w tree line (Some said.answer) last vars h)

pub chooses : (w : World) (tree : Tree) (own : Line) (stub : List ℕ) (node left : ℕ) (line : Line) (vars : Vars) (said : Reply) → ended own None ≡ Some said →
    Same w tree (Stubs own stub line) vars (Bytes (or_stub (Some stub) said.answer.status said.body) (Gives node left (Done said.answer) line)) vars
unfolding rest run left_by
chooses w tree own stub node left line vars said e last =
    ap (λ (r : Left). before (or_stub (Some stub) (status_of r.answer) r.body) (rest w tree line r.answer r.vars)) (ended_rest w tree own None vars said e)

-- bytes that come first
pub parts : (w : World) (tree : Tree) (some more : List ℕ) (line : Line) (vars : Vars) → Same w tree (Bytes (some ++ more) line) vars (Bytes some (Bytes more line)) vars
unfolding rest
parts w tree some more line vars last = before_before some more (rest w tree line last vars)

pub gone : (w : World) (tree : Tree) (line : Line) (vars : Vars) → Same w tree (Bytes [] line) vars line vars
unfolding rest
gone w tree line vars last = refl

-- two lines one after another
waits_joined : (w : World) (tree : Tree) (a b : Line) (left : ℕ) (k : Reply → Serving Answer) →
    ((last : Option Answer) (vars : Vars) → rest w tree (joined a b) last vars ≡ (let r = rest w tree a last vars in before r.body (rest w tree b r.answer r.vars))) →
    (answer : Option Answer) (body : List ℕ) (vars : Vars) →
    (elim answer [
      | None ↦ rest w tree (joined a b) None vars
      | Some answer ↦ let q = run tree (Replies.reply w tree left) (k (reply_of answer body)) vars in
          before q.body (rest w tree (joined a b) (Some q.result) q.vars)
    ]) ≡ (let r : Left = elim answer [
      | None ↦ rest w tree a None vars
      | Some answer ↦ let q = run tree (Replies.reply w tree left) (k (reply_of answer body)) vars in
          before q.body (rest w tree a (Some q.result) q.vars)
    ] in before r.body (rest w tree b r.answer r.vars))
waits_joined w tree a b left k ih None body vars = ih None vars
waits_joined w tree a b left k ih (Some answer) body vars =
    let q = run tree (Replies.reply w tree left) (k (reply_of answer body)) vars in
    let r = rest w tree a (Some q.result) q.vars in
    ap (before q.body) (ih (Some q.result) q.vars) ∙ sym (before_before q.body r.body (rest w tree b r.answer r.vars))

pub joined_rest : (w : World) (tree : Tree) (a b : Line) (last : Option Answer) (vars : Vars) → rest w tree (joined a b) last vars ≡ (let r = rest w tree a last vars in before r.body (rest w tree b r.answer r.vars))
unfolding rest joined
joined_rest w tree Nil b last vars = refl
joined_rest w tree (Bytes bytes a) b last vars =
    let r = rest w tree a last vars in
    ap (before bytes) (joined_rest w tree a b last vars) ∙ sym (before_before bytes r.body (rest w tree b r.answer r.vars))
joined_rest w tree (Gives node left m a) b last vars =
    let r = run tree (Replies.reply w tree left) m vars in
    let q = rest w tree a (Some r.result) r.vars in
    ap (before r.body) (joined_rest w tree a b (Some r.result) r.vars) ∙ sym (before_before r.body q.body (rest w tree b q.answer q.vars))
joined_rest w tree (Waits node own left k a) b last vars =
    let r = rest w tree own None vars in
    waits_joined w tree a b left k (λ before vars'. joined_rest w tree a b before vars') r.answer r.body r.vars
joined_rest w tree (Stubs own stub a) b last vars =
    let r = rest w tree own None vars in
    let q = rest w tree a r.answer r.vars in
    let bytes = or_stub (Some stub) (status_of r.answer) r.body in
    ap (before bytes) (joined_rest w tree a b r.answer r.vars) ∙ sym (before_before bytes q.body (rest w tree b q.answer q.vars))

-- what is at the front comes first
front_first : (w : World) (tree : Tree) (line : Line) (last : Option Answer) (vars : Vars) → (more : List ℕ) × ((rest w tree line last vars).body ≡ front line ++ more)
unfolding rest front
front_first w tree Nil last vars = ([], refl)
front_first w tree (Bytes bytes line) last vars =
    let p = front_first w tree line last vars in
    (p.0, ap (λ body. bytes ++ body) p.1 ∙ sym (append_assoc bytes (front line) p.0))
front_first w tree (Gives node left m line) last vars = ((rest w tree (Gives node left m line) last vars).body, refl)
front_first w tree (Waits node own left k line) last vars = ((rest w tree (Waits node own left k line) last vars).body, refl)
front_first w tree (Stubs own stub line) last vars = ((rest w tree (Stubs own stub line) last vars).body, refl)

-- so a line at whose front bytes wait comes to some
pub front_some : (w : World) (tree : Tree) (line : Line) → front line ≢ [] → SomeBody w tree line
front_some w tree line h vars e = let p = front_first w tree line None vars in by (front line) p.0 h (sym p.1 ∙ e)
  where
    by : (bytes more : List ℕ) → bytes ≢ [] → bytes ++ more ≡ [] → ⊥
    by [] more k z = k refl
    by (b ∷ bytes) more k z = cc

-- a body that isn't empty, of a status below 400, stays
pub body_stays : (stub : List ℕ) (status : ℕ) (body : List ℕ) → nat_le 400 status ≡ false → body ≢ [] → or_stub (Some stub) status body ≡ body
body_stays stub status [] g h = absurd (h refl)
body_stays stub status (b ∷ body) g h = ap (λ c. cond c stub (b ∷ body)) g

keeps_by : (w : World) (tree : Tree) (stub : List ℕ) (line : Line) (r : Left) → IsGoodLeft r → r.body ≢ [] → before (or_stub (Some stub) (status_of r.answer) r.body) (rest w tree line r.answer r.vars) ≡ before r.body (rest w tree line r.answer r.vars)
keeps_by w tree stub line r g h =
    ap (λ body. before body (rest w tree line r.answer r.vars))
    (ap (λ a. or_stub (Some stub) (status_of a) r.body) g.there ∙ body_stays stub g.answer.status r.body g.good h)

pub keeps : (w : World) (tree : Tree) (own : Line) (stub : List ℕ) (line : Line) (vars : Vars) →
    KeepsBody w tree own → SomeBody w tree own → Same w tree (Stubs own stub line) vars (joined own line) vars
unfolding rest
keeps w tree own stub line vars s h last =
    let r = rest w tree own None vars in
    keeps_by w tree stub line r (s.good vars) (h vars)
    ∙ ap (λ (r : Left). before r.body (rest w tree line r.answer r.vars)) (last_lost w tree own None last vars s.node)
    ∙ sym (joined_rest w tree own line last vars)

pub first_steps : FirstIsExact
first_steps = record { thinks = thinks; reads = reads; learns = learns; places = places; merges = merges; opens = opens; asks = asks; leaves = leaves; hears = hears; keeps = keeps; decides = decides; chooses = chooses; parts = parts; gone = gone }

pub whole_at_start : (w : World) (tree : Tree) (main : Main) (request : Request) (terms : Terms) → flight_rest w tree (begun w main request terms) ≡ whole_rest terms (main_reply w tree main request)
unfolding flight_rest begun rest main_reply main_came
whole_at_start w tree main request terms =
    let r = run tree (reply w tree most_depth) (main_script w main request) [] in
    ap (λ body. whole_rest terms (reply_of r.result body)) (append-nil r.body)
