-- Laws of the meaning.
use Rattle.std.specs.Prelude.{◌≡◌, ℕ, zero, suc, false, List, [], ◌∷◌, ◌++◌, Option, None, Some}
use Rattle.file_tree.specs.Tree.{Tree, Item}
use Rattle.acts.specs.Vars.{Vars, look, set}
use Rattle.acts.specs.Act.{Done, Get, Put, Stat, Call, Write, Inner, ◌>>=◌}
use Rattle.addition_filter.specs.filter_api.declared.facts.Facts.{Facts}
use Rattle.addition_filter.specs.filter_api.Members.{Member, others_of}
use Rattle.addition_filter.specs.Machine.{addition_member}
use Rattle.ssi_filter.specs.Machine.{ssi_member}
use Rattle.file_path.specs.ngx_variables.declared.request.Main.{Main}
use Rattle.file_path.specs.ngx_variables.declared.request.Request.{Request}
use Rattle.site_views.specs.Values.{Values}
use Rattle.site_views.specs.Rewrites.{Directive, Program}
use Rattle.site_views.specs.Rewrites.Directive.{If}
use Rattle.site_views.specs.Views.{LevelView, Locations, NamedView, ServerView}
use Rattle.site_views.specs.Views.Locations.{NoMore, Location}
use Rattle.request_meaning.specs.Serving.{World, Serving, Child, Reply, Answer, Asked, Standing, is_main_role}
use Rattle.request_meaning.specs.Bodies.{filtered_marks}
use Rattle.request_meaning.specs.Answering.{page}
use Rattle.request_meaning.specs.Errors.{failed}
use Rattle.request_meaning.specs.Errors.Next.{Answered}
use Rattle.request_meaning.specs.Phases.{round, rounds, until}
use Rattle.request_meaning.specs.Replies.{Came, run, main_script, script, most_depth}

-- ---- changes

-- The changes that are left fall by one at each round that changes the request; where none is left one more is an error with
-- the built-in page, and no error goes to a page of its own.
pub record ChangesFall : Type 0 where
  pub some : (w : World) (left : ℕ) (a : Asked) → rounds w (suc left) a ≡ (round w (suc left) a >>= until (λ s b. rounds w left b))
  pub none : (w : World) (a : Asked) → rounds w zero a ≡ (round w zero a >>= until (λ s b. Done (page b s 500)))
  pub no_page : (a : Asked) (s : Standing) (code : ℕ) → failed zero a s code ≡ Done (Answered (page a s code))

-- ---- what an act asks for

-- The act asks only for subrequests of which this is so, and comes only to results of which that is so.
abbrev pub AsksOnly : {A : Type 0} → (Child → Type 0) → (A → Type 0) → Serving A → Type 0
AsksOnly P post (Done a) = post a
AsksOnly P post (Get name k) = (value : Option (List ℕ)) → AsksOnly P post (k value)
AsksOnly P post (Put name value m) = AsksOnly P post m
AsksOnly P post (Stat path k) = (item : Item) → AsksOnly P post (k item)
AsksOnly P post (Call child k) = P child × ((reply : Reply) → AsksOnly P post (k reply))
AsksOnly P post (Write bytes m) = AsksOnly P post m
AsksOnly P post (Inner child m) = P child × AsksOnly P post m

abbrev pub anything : {A : Type 0} → A → Type 0
anything a = Unit {0}

abbrev pub no_child : Child → Type 0
no_child child = ⊥

-- ---- how deep subrequests nest

-- a subrequest that may be asked for where this many levels are left: none where none is left
abbrev pub MayAsk : (left : ℕ) → Child → Type 0
MayAsk zero child = ⊥
MayAsk (suc left) child = is_main_role child.role ≡ false

-- Acts of serving ask only for subrequests of a depth less; so these nest at most 50 deep.
pub record SubrequestsNest : Type 0 where
  pub main : (w : World) (main : Main) (request : Request) → AsksOnly (MayAsk most_depth) anything (main_script w main request)
  pub child : (w : World) (left : ℕ) (child : Child) → is_main_role child.role ≡ false → AsksOnly (MayAsk left) anything (script w left child)

-- ---- sites of one node a request

abbrev pub BlockHas : (Values → Type 0) → Directive → Type 0
BlockHas V (If test negated block (Some values)) = V values
BlockHas V other = Unit {0}

abbrev pub AllBlocks : (Values → Type 0) → Program → Type 0
AllBlocks V [] = Unit {0}
AllBlocks V (d ∷ program) = BlockHas V d × AllBlocks V program

-- it is so of the values of a level, and of those of the `if` blocks in it
abbrev pub LevelHas : (Values → Type 0) → LevelView → Type 0
LevelHas V level = V level.values × AllBlocks V level.program

abbrev pub AllLocations : (Values → Type 0) → Locations → Type 0
AllLocations V NoMore = Unit {0}
AllLocations V (Location here inner later) = LevelHas V here.level × (AllLocations V inner × AllLocations V later)

abbrev pub AllNamed : (Values → Type 0) → List NamedView → Type 0
AllNamed V [] = Unit {0}
AllNamed V (n ∷ others) = LevelHas V n.level × AllNamed V others

-- it is so of the values of all levels of a server
pub record AllLevels (V : Values → Type 0) (server : ServerView) : Type 0 where
  pub own : LevelHas V server.level
  pub locations : AllLocations V server.locations
  pub named : AllNamed V server.named

-- a level that names no auth subrequest, no server side includes and no additions
pub record IsAlone (values : Values) : Type 0 where
  pub auth : values.auth ≡ None
  pub ssi : values.ssi ≡ false
  pub before : values.before ≡ None
  pub after : values.after ≡ None

-- where there are neither includes nor additions, what the filters make of a body is text alone
abbrev pub MakesText : World → Type 0
MakesText w =
    (facts : Facts) (bytes : List ℕ) → facts.ssi ≡ false → facts.before ≡ false → facts.after ≡ false → others_of (filtered_marks w facts bytes) ≡ []

-- the chain of body filters that a server has: includes, then additions
abbrev pub shipped : List Member
shipped = ssi_member ∷ addition_member ∷ []

-- So does the chain that a server has.
abbrev pub ShippedMakesText : Type 0
ShippedMakesText = (w : World) → w.members ≡ shipped → MakesText w

-- A site whose levels name no auth subrequest, no includes and no additions asks for no subrequest.
abbrev pub AloneAsksNone : Type 0
AloneAsksNone =
    (w : World) → AllLevels IsAlone w.server → MakesText w → (main : Main) (request : Request) → AsksOnly no_child anything (main_script w main request)

-- ---- one node, act by act

-- An act is run one act after another, with these bytes placed: what is left of it, and the table then.
pub data ActByAct (A : Type 0) (tree : Tree) : Serving A → Vars → List ℕ → Serving A → Vars → Type 0 where
  Stays : {m : Serving A} {vars : Vars} → ActByAct A tree m vars [] m vars
  Reads : {name : List ℕ} {k : Option (List ℕ) → Serving A} {m : Serving A} {placed : List ℕ} {vars vars' : Vars} →
      ActByAct A tree (k (look vars name)) vars placed m vars' → ActByAct A tree (Get name k) vars placed m vars'
  Sets : {name value : List ℕ} {n m : Serving A} {placed : List ℕ} {vars vars' : Vars} →
      ActByAct A tree n (set name value vars) placed m vars' → ActByAct A tree (Put name value n) vars placed m vars'
  Learns : {path : List ℕ} {k : Item → Serving A} {m : Serving A} {placed : List ℕ} {vars vars' : Vars} →
      ActByAct A tree (k (tree path)) vars placed m vars' → ActByAct A tree (Stat path k) vars placed m vars'
  Places : {bytes placed : List ℕ} {n m : Serving A} {vars vars' : Vars} →
      ActByAct A tree n vars placed m vars' → ActByAct A tree (Write bytes n) vars (bytes ++ placed) m vars'

-- Wherever a node without subrequests has come to, act by act, the bytes that it placed and what is left of it are its
-- meaning; and it comes to its end so.
pub record NodeIsMeant (A : Type 0) : Type 0 where
  pub so_far : (tree : Tree) (inner : Child → Vars → Came Answer) (m n : Serving A) (vars vars' : Vars) (placed : List ℕ) →
      ActByAct A tree m vars placed n vars' →
      run tree inner m vars ≡ record { result = (run tree inner n vars').result; body = placed ++ (run tree inner n vars').body; vars = (run tree inner n vars').vars }
  pub ends : (tree : Tree) (inner : Child → Vars → Came Answer) (m : Serving A) (vars : Vars) → AsksOnly no_child anything m →
      (let r = run tree inner m vars in
      ActByAct A tree m vars r.body (Done r.result) r.vars)
