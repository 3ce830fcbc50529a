-- When an act can't show in which order subrequests run: it reads only what is settled, or what it set since it was last suspended.
use Rattle.std.specs.Prelude.{◌≡◌, ℕ, Bool, true, false, List, Option, Some, bytes_eq, if◌then◌else◌}
use Rattle.file_tree.specs.Tree.{Tree, Item}
use Rattle.acts.specs.Vars.{Vars, look}
use Rattle.acts.specs.Act.{Done, Get, Put, Stat, Call, Write, Inner}
use Rattle.ngx_variables.specs.declared.request.Main.{Main}
use Rattle.ngx_variables.specs.declared.request.Role.{Role}
use Rattle.ngx_variables.specs.declared.request.Role.TheVariants as role
use Rattle.family_meaning.specs.request_meaning.Serving.{Serving, Child, Reply, Answer}
use Rattle.family_meaning.specs.request_meaning.Replies.{Came, run}

-- a set of names of variables
abbrev pub Names : Type 0
Names = List ℕ → Bool

abbrev pub Covers : Names → Names → Type 0
Covers a b = (name : List ℕ) → a name ≡ true → b name ≡ true

abbrev pub along : List ℕ → Names → Names
along name names other = if bytes_eq name other then true else names other

-- two tables agree on these names
pub record Agree (names : Names) (v u : Vars) : Type 0 where
  pub at : (name : List ℕ) → names name ≡ true → look v name ≡ look u name

-- What an act keeps to: the names that it knows again after each suspension; the names to which it gives one value alone, and
-- which value; the main request of the subrequests that it asks for, and the roles that these may have.
pub record Rules : Type 0 where
  pub kept : Names
  pub fixed : Names
  pub value : List ℕ → Option (List ℕ)
  pub main : Main
  pub asks : Role → Bool

abbrev pub MayAsk : Rules → Child → Type 0
MayAsk r child = (r.asks child.role ≡ true) × (child.main ≡ r.main)

-- The act reads only what is in `known` by then; of that a suspension leaves the names that are kept. It gives a fixed name only
-- its value, and asks only for subrequests that it may ask for. `post` holds of what is known at the end, and of the result.
abbrev pub Obeys : {A : Type 0} → Rules → Names → Serving A → (Names → A → Type 0) → Type 0
Obeys r known (Done a) post = post known a
Obeys r known (Get name k) post = (known name ≡ true) × ((value : Option (List ℕ)) → Obeys r known (k value) post)
Obeys r known (Put name value m) post = (r.fixed name ≡ true → Some value ≡ r.value name) × Obeys r (along name known) m post
Obeys r known (Stat path k) post = (item : Item) → Obeys r r.kept (k item) post
Obeys r known (Call child k) post = MayAsk r child × ((reply : Reply) → Obeys r r.kept (k reply) post)
Obeys r known (Write bytes m) post = Obeys r r.kept m post
Obeys r known (Inner child m) post = (MayAsk r child × (child.role ≡ role.Content)) × Obeys r r.kept m post

-- the names whose value is settled once content subrequests begin, a table that has these values, and the main request
pub record Shared : Type 0 where
  pub steady : Names
  pub table : Vars
  pub main : Main

abbrev pub is_content : Role → Bool
is_content role.Main = false
is_content role.Content = true
is_content role.Auth = false

abbrev pub steady_rules : Shared → Rules
steady_rules s = record { kept = s.steady; fixed = s.steady; value = look s.table; main = s.main; asks = is_content }

-- A steady act reads only what is known, which is what is settled and what it set since it was last suspended; it gives a
-- settled name the value that it has, and asks for content subrequests alone.
abbrev pub Steady : {A : Type 0} → Shared → Names → Serving A → (Names → A → Type 0) → Type 0
Steady s known m post = Obeys (steady_rules s) known m post

abbrev pub any : {A : Type 0} → Names → A → Type 0
any known a = Unit {0}

-- two runs that no one can tell apart: by result, bytes, or what is in the tables
pub record SameReply {A : Type 0} (s : Shared) (r q : Came A) : Type 0 where
  pub result : r.result ≡ q.result
  pub body : r.body ≡ q.body
  pub left : Agree s.steady s.table r.vars
  pub right : Agree s.steady s.table q.vars

-- what each content subrequest comes to is the same for tables that agree
abbrev pub InnerSame : Shared → (Child → Vars → Came Answer) → Type 0
InnerSame s inner =
    (c : Child) (v u : Vars) → MayAsk (steady_rules s) c → Agree s.steady s.table v → Agree s.steady s.table u → SameReply s (inner c v) (inner c u)

-- A steady act comes to the same for tables that agree. (That one steady act and then another is steady speaks of all
-- conditions, which no clause can: it is the lemma steady_bind.)
abbrev pub SteadyIsSame : Type 0 → Type 0
SteadyIsSame A =
    (s : Shared) (tree : Tree) (inner : Child → Vars → Came Answer) → InnerSame s inner → (known : Names) (m : Serving A) (v u : Vars)
    → Steady s known m any → Agree s.steady s.table v → Agree s.steady s.table u → Agree known v u
    → SameReply s (run tree inner m v) (run tree inner m u)
