-- Where no variable is named, nobody can tell in which order subrequests ran.
use Rattle.std.specs.Prelude.{◌≡◌, ℕ, Bool, true, false, not, ◌||◌, List, [], ◌∷◌, None, Some}
use Rattle.std.specs.List.{list_any}
use Rattle.file_tree.specs.Tree.{Tree}
use Rattle.acts.specs.Vars.{Vars, look}
use Rattle.ngx_variables.specs.declared.request.Main.{Main}
use Rattle.ngx_variables.specs.declared.request.Request.{Request}
use Rattle.ngx_variables.specs.declared.request.Role.TheVariants.{Content}
use Rattle.ngx_variables.specs.Texts.{value_text}
use Rattle.ssi_text.specs.declared.part.Part.{Part}
use Rattle.ssi_text.specs.declared.part.Part.TheVariants as parts
use Rattle.family_meaning.specs.filter_api.declared.facts.Facts.{Facts}
use Rattle.family_meaning.specs.filter_api.Members.{others_of}
use Rattle.family_meaning.specs.site_views.Values.{Text}
use Rattle.family_meaning.specs.site_views.Views.{ServerView}
use Rattle.family_meaning.specs.request_meaning.Serving.{World, Child}
use Rattle.family_meaning.specs.request_meaning.Replies.{reply, main_came, main_reply, main_script, most_depth}
use Rattle.family_meaning.specs.request_meaning.Bodies.{filtered_marks}
use Rattle.family_meaning.specs.request_meaning.Laws.{MakesText, shipped}
use Rattle.family_meaning.specs.Line.{Line, Left, rest}
use Rattle.family_meaning.specs.Line.Line.{Nil, Gives}
use Rattle.family_meaning.specs.Moves.{Runs}
use Rattle.family_meaning.specs.Flight.{Terms, Flight, begun, flight_rest, whole_rest}
use Rattle.race_meaning.specs.Steady.{Shared, Agree, SameReply}
use Rattle.race_meaning.specs.Named.{is_open, is_set, is_fixed, set_texts, IsRaceless}

-- the variables whose value is settled once content subrequests begin: no `set` sets them, or they are fixed
abbrev pub is_steady : ServerView → List ℕ → Bool
is_steady server name = not (is_set server name) || is_fixed server name

abbrev pub FirstIs : List Text → (Text → Type 0) → Type 0
FirstIs [] P = Unit {0}
FirstIs (text ∷ texts) P = P text

-- each fixed variable has its one value
pub record HasFixed (server : ServerView) (main : Main) (vars : Vars) : Type 0 where
  pub at : (name : List ℕ) → is_fixed server name ≡ true → FirstIs (set_texts server name) (λ text. (request : Request) (others : Vars) → look vars name ≡ Some (value_text main request others text))

-- what is shared: which names are steady, a table that has their values, and the main request
abbrev pub shared : ServerView → Vars → Main → Shared
shared server table main = record { steady = is_steady server; table = table; main = main }

-- What is asked of the body filters: they make commands of a body only where there are server side includes, and where there are
-- neither these nor additions nothing but text.
abbrev pub is_command : Part → Bool
is_command (parts.Text text) = false
is_command (parts.Command name ps) = true
is_command parts.Bad = false
is_command parts.Before = false
is_command parts.After = false

pub record AreFit (w : World) : Type 0 where
  pub commands : (facts : Facts) (bytes : List ℕ) → facts.ssi ≡ false → list_any is_command (others_of (filtered_marks w facts bytes)) ≡ false
  pub text : MakesText w

-- The chain of body filters that a server has is so.
abbrev pub ShippedAreFit : Type 0
ShippedAreFit = (w : World) → w.members ≡ shipped → AreFit w

-- Independence, in an open server: a content subrequest replies the same for any two tables that agree with one in which the
-- fixed variables have their values, and leaves both agreeing with it.
abbrev pub Independence : Type 0
Independence =
    (w : World) → AreFit w → is_open w.server ≡ true → IsRaceless w.server → (tree : Tree) (left : ℕ) (c : Child) → c.role ≡ Content → (table v u : Vars)
    → HasFixed w.server c.main table → Agree (is_steady w.server) table v → Agree (is_steady w.server) table u
    → SameReply (shared w.server table c.main) (reply w tree left c v) (reply w tree left c u)

-- Confluence: whatever the steps of a family and their order, what is placed and what its nodes still give is the reply that
-- the recursive meaning gives the main request.
pub record IsReplyOf (w : World) (tree : Tree) (main : Main) (request : Request) (left : Left) : Type 0 where
  pub answer : left.answer ≡ Some (main_came w tree main request).result
  pub body : left.body ≡ (main_came w tree main request).body

abbrev pub Confluence : Type 0
Confluence =
    (w : World) → AreFit w → IsRaceless w.server → (tree : Tree) (main : Main) (request : Request) (line : Line) (vars : Vars)
    → Runs w tree (Gives 0 most_depth (main_script w main request) Nil) [] line vars
    → IsReplyOf w tree main request (rest w tree line None vars)

-- So what is still to come of the response stays the whole response, whatever the steps and their order.
abbrev pub flight_at : Flight → Line → Vars → Flight
flight_at f line vars = record f { line = line; vars = vars }

abbrev pub OrderKeepsResponse : Type 0
OrderKeepsResponse =
    (w : World) → AreFit w → IsRaceless w.server → (tree : Tree) (main : Main) (request : Request) (terms : Terms) (line : Line) (vars : Vars)
    → Runs w tree (begun w main request terms).line (begun w main request terms).vars line vars
    → flight_rest w tree (flight_at (begun w main request terms) line vars) ≡ whole_rest terms (main_reply w tree main request)
