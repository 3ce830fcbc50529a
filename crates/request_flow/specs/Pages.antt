-- What is still to come of a request on whose body filters act, and what became of one that went on.
use Rattle.std.specs.Prelude.{◌≡◌, ℕ, Bool, true, List, [], ◌∷◌, ◌++◌, length, None, Some, if◌then◌else◌}
use Rattle.chunk_out.specs.Chunks.{framed}
use Rattle.file_tree.specs.Tree.{Tree, Trees}
use Rattle.ngx_pattern.specs.Pattern.{Pattern as SetPattern}
use Rattle.request_meaning.specs.Replies.{Came, most_depth, reply, run}
use Rattle.request_meaning.specs.Serving.{World, Serving, Answer}
use Rattle.reply_out.specs.request_phases.Rounds.{phases_left}
use Rattle.reply_out.specs.request_phases.declared.state.Step.TheVariants.{Answers, Calls}
use Rattle.site_model.specs.declared.site.Site.{Site}
use Rattle.family_meaning.specs.Left.{act_subs}
use Rattle.reply_out.specs.declared.terms.InPhases.{InPhases}
use Rattle.request_flow.specs.declared.flow.Onward.{Onward}
use Rattle.request_flow.specs.declared.page.AccessStart.{AccessStart}
use Rattle.request_flow.specs.declared.page.PageHead.{PageHead}
use Rattle.request_flow.specs.declared.page.PageStart.{PageStart}
use Rattle.request_flow.specs.declared.page.Went.{Went}
use Rattle.request_flow.specs.declared.page.Went.TheVariants.{On, Asks, Page}
use Rattle.request_flow.specs.Flows.{HasOpened, IsServedBy, flow_rest, tree_asked}
use Rattle.request_flow.specs.Rests.{Follows, Rest, finished}
use Rattle.request_flow.specs.Sents.{known_bytes, known_len, known_tree, step_rest, with_length}

-- a body as it is sent: in chunks, or as it is
abbrev pub framed_if : (chunked : Bool) → List ℕ → List ℕ
framed_if chunked body = if chunked then framed body else body

-- what is left of its acts: its body, and then its answer, where these are the bytes of the file
abbrev pub page_act : World → List SetPattern → Site → InPhases → PageHead → (bytes : List ℕ) → Serving Answer
page_act w patterns site request page bytes = finished w (phases_left w patterns site bytes request.phases (Answers page.outcome))

abbrev pub page_by : PageHead → Came Answer → (subs : ℕ) → Rest
page_by page came subs =
    record {
      bytes = page.head ++ framed_if page.chunked came.body;
      stays = true;
      logs = (page.status, length came.body) ∷ [];
      values = None;
      subs = subs;
    }

-- What is still to come of it: its head, and its body.
abbrev pub page_rest : World → List SetPattern → Site → Tree → InPhases → PageHead → (bytes : List ℕ) → Rest
page_rest w patterns site tree request page bytes =
    let act = page_act w patterns site request page bytes in
    page_by page (run tree (reply w tree most_depth) act request.vars) (act_subs w tree most_depth act request.vars)

abbrev pub start_rest : World → List SetPattern → Site → Trees → PageStart → Rest
start_rest w patterns site trees p = page_rest w patterns site (trees (known_tree p.page.known)) p.request.value p.page (known_bytes p.page.known trees)

-- what is still to come of a request that asks a subrequest whether it is let in
abbrev pub access_rest : World → List SetPattern → Site → Trees → AccessStart → Rest
access_rest w patterns site trees a = step_rest w patterns site (trees a.of) a.request.value (Calls a.path) []

-- it goes on, as much being still to come as before
abbrev pub GoesTo : World → List SetPattern → Site → Trees → Rest → (out out' : List ℕ) → (closing : Bool) → Went → Type 0
GoesTo w patterns site trees before out out' closing (On o) = Follows site before (flow_rest w patterns site o.flow trees) out out' closing o.closing o.log o.level
GoesTo w patterns site trees before out out' closing (Asks a) = Follows site before (access_rest w patterns site trees a) out out' closing a.closing None None
GoesTo w patterns site trees before out out' closing (Page p) =
    Follows site before (start_rest w patterns site trees p.value) out out' closing p.value.closing None (Some p.value.level)

-- a property of what went on alone, or of a page
abbrev pub IfOn : Went → (Onward → Type 0) → Type 0
IfOn (On o) P = P o
IfOn (Asks a) P = Unit {0}
IfOn (Page p) P = Unit {0}

abbrev pub IfAsks : Went → (AccessStart → Type 0) → Type 0
IfAsks (On o) P = Unit {0}
IfAsks (Asks a) P = P a
IfAsks (Page p) P = Unit {0}

abbrev pub IfPage : Went → (PageStart → Type 0) → Type 0
IfPage (On o) P = Unit {0}
IfPage (Asks a) P = Unit {0}
IfPage (Page p) P = P p.value

-- by what it is served, the tree that it asks, and whether the connection closes after it
abbrev pub IsServed : (server length : ℕ) → Went → Type 0
IsServed server length (On o) = IsServedBy server length o.flow
IsServed server length (Asks a) = (a.request.value.server ≡ server) × (a.request.value.length ≡ length)
IsServed server length (Page p) =
    (p.value.request.value.server ≡ server) × (p.value.request.value.length ≡ length)

-- how many subrequests it has asked whether it is let in
abbrev pub AreOpened : (count : ℕ) → Went → Type 0
AreOpened count (On o) = HasOpened count o.flow
AreOpened count (Asks a) = a.request.value.opened ≡ count
AreOpened count (Page p) = p.value.request.value.opened ≡ count

abbrev pub tree_of_went : Went → ℕ
tree_of_went (On o) = tree_asked o.flow
tree_of_went (Asks a) = a.of
tree_of_went (Page p) = known_tree p.value.page.known

abbrev pub closing_of : Went → Bool
closing_of (On o) = o.closing
closing_of (Asks a) = a.closing
closing_of (Page p) = p.value.closing

-- an answer with a file has the length that was told of it
abbrev pub IsTold : PageHead → Type 0
IsTold page = with_length (known_len page.known) page.outcome ≡ page.outcome
