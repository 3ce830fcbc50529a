-- What a node of a family still does, as acts of the meaning.
use Rattle.std.specs.Prelude.{◌≡◌, ℕ, List, [], ◌++◌, drop, Option, None, Some}
use Rattle.acts.specs.Vars.{Vars}
use Rattle.acts.specs.Act.{Done, Stat, Write, ◌>>=◌, ◌>>◌}
use Rattle.file_tree.specs.Tree.{Item, AFile, AFolder, ALocked, Nothing, known_text}
use Rattle.file_tree.specs.declared.job.Ask.{Ask}
use Rattle.file_tree.specs.declared.job.Ask.TheVariants as asks
use Rattle.file_tree.specs.declared.job.Found.{Found}
use Rattle.file_tree.specs.declared.job.Node.{Node as FileNode}
use Rattle.file_tree.specs.declared.job.Node.TheVariants as files
use Rattle.http_types.specs.declared.words.Method.{Method}
use Rattle.ngx_pattern.specs.Pattern.{Pattern as SetPattern}
use Rattle.page_body.specs.ngx_variables.declared.request.Main.{Main}
use Rattle.page_body.specs.site_model.declared.site.Site.{Site}
use Rattle.ssi_text.specs.Marks.{marks}
use Rattle.request_reply.specs.request_meaning.Serving.{World, Serving, Answer, Prepared, Body as MeantBody}
use Rattle.request_reply.specs.request_meaning.Serving.From.{Start}
use Rattle.request_reply.specs.request_meaning.Bodies.{written, machines}
use Rattle.request_reply.specs.request_meaning.Commands.{captured}
use Rattle.request_reply.specs.request_meaning.Documents.{Doc}
use Rattle.request_reply.specs.request_meaning.Phases.{rounds}
use Rattle.page_body.specs.family_meaning.Suspended.{document_rest}
use Rattle.request_reply.specs.rewrite_code.Places.{standing_seen}
use Rattle.request_reply.specs.request_phases.Rounds.{asked_from, phases_told}
use Rattle.request_reply.specs.request_phases.declared.state.Conclusion.{Conclusion}
use Rattle.request_reply.specs.request_phases.declared.state.Conclusion.TheVariants as outcomes
use Rattle.request_reply.specs.request_phases.declared.state.Phases.{Phases}
use Rattle.page_body.specs.ssi_exec.declared.document.Document.{Document}
use Rattle.page_body.specs.ssi_exec.Scenes.{branch_seen, block_seen}
use Rattle.request_reply.specs.request_meaning.Documents.{default_message}
use Rattle.http_moment.specs.Shown.{default_format}
use Rattle.std.specs.Prelude.{option_map, unwrap_or, zero, suc, ◌∷◌}
use Rattle.page_body.specs.Pages.{waiting, stages_of}
use Rattle.page_body.specs.declared.page.Page.{Page}
use Rattle.node_turn.specs.declared.answered.Answered.{Answered}
use Rattle.node_turn.specs.declared.node.Body.{Body}
use Rattle.node_turn.specs.declared.node.Source.{Source}
use Rattle.node_turn.specs.declared.node.Stage.{Stage}
use Rattle.node_turn.specs.declared.node.Stage.TheVariants.{Begins, Asks, Told, Places, Serves, Reads, Captures, Ends}

-- ---- the main request, which a family keeps once

-- with another method
abbrev pub of_method : Method → Main → Main
of_method method main = record main { method = method }

-- a main request that has of another one what may have memory, but for its method
abbrev pub lender : Main → Main → Main
lender main other = record main {
  asked = other.asked;
  target = other.target;
  host = other.host;
  server_name = other.server_name;
  date = other.date;
  fields = other.fields;
  folder = other.folder;
}

-- phases to which a main request is lent, whose method stays their own
abbrev pub lent : Main → Phases → Phases
lent main p = record p { main = of_method p.main.method main }

-- phases that have this main request
abbrev pub with_main : Main → Phases → Phases
with_main main p = record p { main = main }

-- ---- what is answered

-- an answer to the request of these phases
pub record IsFor (site : Site) (p : Phases) (answer : Answer) : Type 0 where
  pub main : answer.main ≡ p.main
  pub request : answer.request ≡ p.at.request
  pub values : answer.values ≡ (standing_seen site p.at).values

abbrev pub answer_seen : Site → Phases → Answered → Answer
answer_seen site p a =
    record {
      status = a.status;
      main = p.main;
      request = p.at.request;
      values = (standing_seen site p.at).values;
      kind = a.said.kind;
      length = a.said.length;
      known = a.said.known;
      modified = a.said.modified;
      location = a.said.location;
      closes = a.said.closes;
      gone = a.said.gone;
      read = a.said.read;
    }

-- ---- files

-- exactly this many bytes: the first of a text, and zeros after its end
unfoldable pub padded : ℕ → List ℕ → List ℕ
padded zero bytes = []
padded (suc n) [] = 0 ∷ padded n []
padded (suc n) (b ∷ bytes) = b ∷ padded n bytes

-- the path that is asked for now, if there is one
abbrev pub path_or : Option (List ℕ) → List ℕ → List ℕ
path_or None path = path
path_or (Some asked) path = asked

-- what was told of a path, where a file has this text
abbrev pub told_item : FileNode → List ℕ → Item
told_item (files.File len date) text = AFile (padded len text) date
told_item files.Folder text = AFolder
told_item files.Locked text = ALocked
told_item files.Missing text = Nothing

-- what was found at a path, where a file has this text of which nothing is known
abbrev pub found_item : Found → List ℕ → Item
found_item found text = told_item found.node (known_text found.text text)

-- the path for which a job asks
abbrev pub asked_path : Ask → List ℕ
asked_path (asks.Stat path of) = path
asked_path (asks.Read path start count of) = path

-- the bytes of a file that was told last, where it has this text
abbrev pub bytes_for : Conclusion → List ℕ → List ℕ
bytes_for (outcomes.Text code text) file = []
bytes_for (outcomes.File len date) file = padded len file
bytes_for (outcomes.Page code) file = []
bytes_for (outcomes.Redirect code to) file = []
bytes_for outcomes.Close file = []

-- an answer with the file that was told, of this length
abbrev pub told_length : ℕ → Conclusion → Conclusion
told_length len (outcomes.Text code text) = outcomes.Text code text
told_length len (outcomes.File told date) = outcomes.File len date
told_length len (outcomes.Page code) = outcomes.Page code
told_length len (outcomes.Redirect code to) = outcomes.Redirect code to
told_length len outcomes.Close = outcomes.Close

abbrev pub len_of : FileNode → ℕ
len_of (files.File len date) = len
len_of files.Folder = 0
len_of files.Locked = 0
len_of files.Missing = 0

-- ---- what a node still does

-- a body and then the answer, of a request whose document begins with these variables, and may open this many levels
abbrev pub body_then : World → (left : ℕ) → Vars → Answer → MeantBody → Serving Answer
body_then w left ssi answer body = written w left ssi answer body >> Done answer

-- what follows the phases
abbrev pub after_phases : World → (left : ℕ) → Vars → Prepared → Serving Answer
after_phases w left ssi p = body_then w left ssi p.answer p.body

-- the phases and then the body
abbrev pub served_as : World → (left : ℕ) → Vars → Serving Prepared → Serving Answer
served_as w left ssi m = m >>= after_phases w left ssi

-- a document of a request
abbrev pub doc_at : Site → Phases → (left : ℕ) → Document → Doc
doc_at site p left d =
    record {
      main = p.main;
      request = p.at.request;
      values = (standing_seen site p.at).values;
      left = left;
      ssi = d.ssi;
      message = unwrap_or d.message default_message;
      format = unwrap_or d.format default_format;
      blocks = d.blocks;
      block = option_map block_seen d.block;
      branch = branch_seen d.branch;
    }

-- a page of it, where these bytes of its file are still to come
unfoldable pub page_at : World → Site → Phases → (left : ℕ) → Answer → Page → (bytes : List ℕ) → Serving Answer
page_at w site p left answer page bytes =
    document_rest w answer (doc_at site p left page.document) (marks (waiting page)) (machines w page.facts) (stages_of page) bytes

-- the same after a subrequest whose body goes into the variable of this name
unfoldable pub captured_at : World → Site → Phases → (left : ℕ) → Answer → Page → (bytes name text : List ℕ) → Serving Answer
captured_at w site p left answer page bytes name text = do
  doc ← captured (doc_at site p left page.document) name text
  document_rest w answer doc (marks (waiting page)) (machines w page.facts) (stages_of page) bytes

abbrev pub captured_act : World → Site → Phases → (left : ℕ) → Answer → Option Page → (more name text : List ℕ) → Serving Answer
captured_act w site p left answer None more name text = Done answer
captured_act w site p left answer (Some page) more name text = captured_at w site p left answer page more name text

-- bytes that are placed next, and what follows, where this is still to come of the file
abbrev pub placed_act : World → Site → Phases → (left : ℕ) → Answer → Option Page → (bytes more : List ℕ) → Serving Answer
placed_act w site p left answer None bytes more = Write (bytes ++ more) (Done answer)
placed_act w site p left answer (Some page) bytes more = Write bytes (page_at w site p left answer page more)

-- what follows them
abbrev pub served_act : World → Site → Phases → (left : ℕ) → Answer → Option Page → (more : List ℕ) → Serving Answer
served_act w site p left answer None more = Write more (Done answer)
served_act w site p left answer (Some page) more = page_at w site p left answer page more

abbrev pub hand : Body → List ℕ
hand b = drop b.from b.bytes

abbrev pub from_source : Source → (text : List ℕ) → List ℕ
from_source s text = s.text ++ padded s.left text

-- what comes after them, where the file still has this text
abbrev pub later : Body → (text : List ℕ) → List ℕ
later b text = from_source b.source text

-- at this stage, to which a job with this path belongs, and where the file that it reads still has this text
abbrev pub stage_act : World → List SetPattern → Site → Phases → (left : ℕ) → (path : List ℕ) → Stage → (text : List ℕ) → Serving Answer
stage_act w patterns site p left path (Begins ssi) text = served_as w left ssi (rounds w p.changes (asked_from p Start))
stage_act w patterns site p left path (Asks wait ssi) text =
    served_as w left ssi (Stat path (λ item. phases_told w patterns site p wait item))
stage_act w patterns site p left path (Told wait file ssi) text = served_as w left ssi (phases_told w patterns site p wait (found_item file text))
stage_act w patterns site p left path (Places b) text =
    placed_act w site p left (answer_seen site p b.value.answered) b.value.page (hand b.value) (later b.value text)
stage_act w patterns site p left path (Serves b) text =
    served_act w site p left (answer_seen site p b.value.answered) b.value.page (later b.value text)
stage_act w patterns site p left path (Reads b) text =
    served_act w site p left (answer_seen site p b.value.answered) b.value.page (later b.value text)
stage_act w patterns site p left path (Captures c) text =
    captured_act w site p left (answer_seen site p c.body.value.answered) c.body.value.page (later c.body.value text) c.name c.text
stage_act w patterns site p left path (Ends b) text = Done (answer_seen site p b.value.answered)

-- the same after a subrequest for whose body the node waits
abbrev pub stage_heard : World → List SetPattern → Site → Phases → (left : ℕ) → (path : List ℕ) → Stage → (text body : List ℕ) → Serving Answer
stage_heard w patterns site p left path (Begins ssi) text body = stage_act w patterns site p left path (Begins ssi) text
stage_heard w patterns site p left path (Asks wait ssi) text body = stage_act w patterns site p left path (Asks wait ssi) text
stage_heard w patterns site p left path (Told wait file ssi) text body = stage_act w patterns site p left path (Told wait file ssi) text
stage_heard w patterns site p left path (Places b) text body = stage_act w patterns site p left path (Places b) text
stage_heard w patterns site p left path (Serves b) text body = stage_act w patterns site p left path (Serves b) text
stage_heard w patterns site p left path (Reads b) text body = stage_act w patterns site p left path (Reads b) text
stage_heard w patterns site p left path (Captures c) text body =
    captured_act w site p left (answer_seen site p c.body.value.answered) c.body.value.page (later c.body.value text) c.name body
stage_heard w patterns site p left path (Ends b) text body = stage_act w patterns site p left path (Ends b) text
