-- A page as the meaning sees it, and what is done for its next part.
use Rattle.std.specs.Prelude.{◌≡◌, ℕ, ◌<◌, ◌==◌, ◌&&◌, not, Bool, true, false, List, [], ◌∷◌, ◌++◌, length, reverse, Option, None, Some, if◌then◌else◌}
use Rattle.acts.specs.Vars.{Vars}
use Rattle.acts.specs.Act.{Done, Call, Inner, Write, ◌>>=◌, ◌>>◌}
use Rattle.filter_api.specs.declared.stage.Stage.{Stage}
use Rattle.addition_filter.specs.Machine.{is_added}
use Rattle.ssi_filter.specs.Machine.{is_split}
use Rattle.filter_api.specs.declared.facts.Facts.{Facts}
use Rattle.ssi_text.specs.declared.part.Part.{Part}
use Rattle.ssi_text.specs.Marks.{Mark, marks}
use Rattle.ngx_variables.specs.declared.request.Main.{Main}
use Rattle.family_meaning.specs.request_meaning.Serving.{World, Serving, Answer}
use Rattle.family_meaning.specs.request_meaning.Serving.Body.{Filtered}
use Rattle.family_meaning.specs.request_meaning.Documents.{Doc}
use Rattle.family_meaning.specs.request_meaning.Commands.{captured}
use Rattle.family_meaning.specs.request_meaning.Bodies.{body, machines, written}
use Rattle.family_meaning.specs.request_meaning.Laws.{shipped}
use Rattle.family_meaning.specs.Suspended.{document_rest}
use Rattle.ssi_exec.specs.declared.document.Document.{Document}
use Rattle.ssi_exec.specs.declared.document.Scene.{Scene}
use Rattle.ssi_exec.specs.declared.document.Served.{Served}
use Rattle.ssi_exec.specs.declared.document.Served.TheVariants as served
use Rattle.ssi_exec.specs.Scenes.{IsAt, child_seen, doc_seen, own_text, served_act, values_of}
use Rattle.page_body.specs.declared.doing.Doing.{Doing}
use Rattle.page_body.specs.declared.doing.Doing.TheVariants.{Nothing, Writes, Includes, Captures, NeedsMore, Over}
use Rattle.page_body.specs.declared.page.Page.{Page}
use Rattle.page_body.specs.Reading.{ReadsTo, Writing}
use Rattle.page_body.specs.Stages.{added_stage, split_stage}

-- ---- a page

-- an answer of the scene's request, by its level
pub record IsOf (scene : Scene) (answer : Answer) : Type 0 where
  pub main : answer.main ≡ scene.main.now
  pub request : answer.request ≡ scene.request.now
  pub values : answer.values ≡ values_of scene

-- the file has come to its end
abbrev pub is_finished : Page → Bool
is_finished page = page.finished

-- how many parts wait, whether some do, and which, the next one first
abbrev pub parts_left : Page → ℕ
parts_left page = length page.parts.items

abbrev pub waits : Page → Bool
waits page = not (parts_left page == 0)

abbrev pub waiting : Page → List Part
waiting page = reverse page.parts.items

-- the filters that still act
abbrev pub splits : Page → Bool
splits page = not page.finished && is_split page.facts

abbrev pub adds : Page → Bool
adds page = not page.finished && is_added page.facts

abbrev pub stages_of : Page → List Stage
stages_of page = split_stage (splits page) page.split ∷ added_stage (adds page) ∷ []

-- What a page still does, where these bytes of its file are still to come.
unfoldable pub page_rest : World → Answer → Scene → Page → (bytes : List ℕ) → Serving Answer
page_rest w answer scene page bytes =
    document_rest w answer (doc_seen scene page.document) (marks (waiting page)) (machines w page.facts) (stages_of page) bytes

-- The same after a subrequest whose body goes into the variable of this name.
unfoldable pub page_captured : World → Answer → Scene → Page → (name text bytes : List ℕ) → Serving Answer
page_captured w answer scene page name text bytes = do
  doc ← captured (doc_seen scene page.document) name text
  document_rest w answer doc (marks (waiting page)) (machines w page.facts) (stages_of page) bytes

-- A body on which filters act, with these variables in its document, and then its answer.
unfoldable pub filtered_rest : World → (left : ℕ) → Vars → Answer → Facts → (bytes : List ℕ) → Serving Answer
filtered_rest w left ssi answer facts bytes = do
  written w left ssi answer (Filtered facts bytes)
  Done answer

-- a text that is written before what follows, if there is one
abbrev pub text_then : Option (List ℕ) → Serving Answer → Serving Answer
text_then None act = act
text_then (Some text) act = Write text act

-- ---- what is done

-- What is done comes next among the acts that were still to come, after the variables that are read for it. Given are
-- the acts before and after it, and those after a body that is captured.
abbrev pub Does : Main → Vars → Doing → (before after : Serving Answer) → (captures : List ℕ → List ℕ → Serving Answer) → Type 0
Does main vars Nothing before after captures = ReadsTo Answer vars before after
Does main vars (Writes text) before after captures = (m : Serving Answer) × ReadsTo Answer vars before m × Writing Answer text m after
Does main vars (Includes child) before after captures = ReadsTo Answer vars before (Inner (child_seen main child) after)
Does main vars (Captures name child) before after captures =
    ReadsTo Answer vars before (Call (child_seen main child) (λ reply. captures name reply.body))
Does main vars NeedsMore before after captures = before ≡ after
Does main vars Over before after captures = before ≡ after

-- the same of two pages
abbrev pub DoesNext : Scene → Vars → Page → Page → Doing → Type 0
DoesNext scene vars old new doing =
    (w : World) (answer : Answer) (bytes : List ℕ) → IsAt scene w →
    Does scene.main.now vars doing (page_rest w answer scene old bytes) (page_rest w answer scene new bytes) (λ name text. page_captured w answer scene new name text bytes)

-- no part is taken up: the page is at its end, or waits for its file
abbrev pub stop_of : Doing → Option Bool
stop_of Nothing = None
stop_of (Writes text) = None
stop_of (Includes child) = None
stop_of (Captures name child) = None
stop_of NeedsMore = Some false
stop_of Over = Some true

abbrev pub stop_at : Page → Option Bool
stop_at page = if waits page then None else Some (is_finished page)

-- nothing is left of a page
abbrev pub IsOver : Scene → Page → Type 0
IsOver scene page = (w : World) (answer : Answer) → w.members ≡ shipped → page_rest w answer scene page [] ≡ Done answer

-- a subrequest is asked for
abbrev pub asks : Doing → Bool
asks Nothing = false
asks (Writes text) = false
asks (Includes child) = true
asks (Captures name child) = true
asks NeedsMore = false
asks Over = false

-- only where a level of subrequests is left
abbrev pub AsksByLevel : Scene → Doing → Type 0
AsksByLevel scene doing = asks doing ≡ true → (w : World) → IsAt scene w → 0 < scene.left

-- ---- marks

-- marks, one after another, and then the answer
abbrev pub marks_rest : World → Answer → Doc → List Mark → Serving Answer
marks_rest w answer doc xs = do
  body w doc xs
  Done answer

-- what is served for a part, as what is done
abbrev pub doing_seen : Part → Served → Doing
doing_seen part served.Nothing = Nothing
doing_seen part served.Same = Writes (own_text part)
doing_seen part (served.Text text) = Writes text
doing_seen part (served.Includes child) = Includes child
doing_seen part (served.Captures name child) = Captures name child

-- what is served for a part, or a body that is captured, and then what follows
abbrev pub served_then : Part → Served → Doc → (Doc → Serving Answer) → Serving Answer
served_then part served doc k = served_act part served doc >>= k

abbrev pub captured_then : Doc → (Doc → Serving Answer) → (name text : List ℕ) → Serving Answer
captured_then doc k name text = captured doc name text >>= k

-- what is done for some marks
abbrev pub DoesMarks : Scene → Vars → Document → List Mark → Document → Doing → Type 0
DoesMarks scene vars old xs new doing =
    (w : World) (answer : Answer) (rest : List Mark) → IsAt scene w →
    Does scene.main.now vars doing (marks_rest w answer (doc_seen scene old) (xs ++ rest)) (marks_rest w answer (doc_seen scene new) rest)
    (captured_then (doc_seen scene new) (λ doc. marks_rest w answer doc rest))
