-- A body that is too long for a variable unsets it, whatever its bytes are.
use Rattle.std.proofs.Common.{◌≡◌, ℕ, ◌<◌, ◌≤◌, List, length, nat_lt, true, sym, ap, ◌∙◌, if◌then◌else◌, arith}
use Rattle.std.proofs.lemmas.Bool.Decides.{nat_tests}
use Rattle.acts.specs.Act.{Done, ◌>>=◌}
use Rattle.acts.specs.Vars.{set}
use Rattle.request_reply.specs.request_meaning.Documents.{Doc, oops, without}
use Rattle.request_reply.specs.request_meaning.Commands.{captured}
use Rattle.request_reply.specs.request_meaning.Bodies.{machines}
use Rattle.request_reply.specs.request_meaning.Serving.{World, Serving, Answer}
use Rattle.page_body.specs.site_whole.Whole.{values_seen}
use Rattle.page_body.specs.ssi_exec.Scenes.{doc_seen}
use Rattle.page_body.specs.ssi_exec.declared.document.Scene.{Scene}
use Rattle.page_body.specs.family_meaning.Suspended.{document_rest}
use Rattle.page_body.specs.Pages.{page_captured, stages_of, waiting}
use Rattle.page_body.specs.declared.page.Page.{Page}
use Rattle.ssi_text.specs.Marks.{marks}
use Rattle.withheld_text.specs.Withheld.{IsFront}
use Rattle.withheld_text.specs.Withheld.IsFront.{All, Longer}

-- a length above 16384 is above a limit of no more
above : (limit count : ℕ) → limit ≤ 16384 → 16384 < count → nat_lt limit count ≡ true
above limit count few long = grind (arith, nat_tests)

module _ (w : World) (answer : Answer) (scene : Scene) (page : Page) (name bytes : List ℕ) where
  abbrev doc : Doc
  doc = doc_seen scene page.document

  abbrev rest : Doc → Serving Answer
  rest d = document_rest w answer d (marks (waiting page)) (machines w page.facts) (stages_of page) bytes

  too_long : (text : List ℕ) → nat_lt scene.level.now.capture_most (length text) ≡ true → page_captured w answer scene page name text bytes ≡ (oops (record doc { ssi = without name doc.ssi }) >>= rest)
  unfolding page_captured captured values_seen
  too_long text long = ap (λ t. (if t then oops (record doc { ssi = without name doc.ssi }) else Done (record doc { ssi = set name text doc.ssi })) >>= rest) long

  pub front_captured : (text front : List ℕ) → IsFront text front → scene.level.now.capture_most ≤ 16384 → page_captured w answer scene page name text bytes ≡ page_captured w answer scene page name front bytes
  front_captured text front (All is) few = ap (λ t. page_captured w answer scene page name t bytes) (sym is)
  front_captured text front (Longer long longer) few =
      let limit = scene.level.now.capture_most in
      too_long text (above limit (length text) few long) ∙ sym (too_long front (above limit (length front) few longer))
