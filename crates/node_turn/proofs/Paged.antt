-- A page as a node keeps it.
use Rattle.std.proofs.Common.{◌≡◌, ℕ, List, sym, ap, ◌∙◌}
use Rattle.ngx_pattern.specs.Pattern.{Pattern as SetPattern}
use Rattle.page_body.specs.site_model.declared.site.Server.{Server}
use Rattle.page_body.specs.site_whole.Whole.{values_seen, server_whole}
use Rattle.request_reply.specs.request_meaning.Documents.{Doc}
use Rattle.request_reply.specs.request_meaning.Laws.{shipped}
use Rattle.request_reply.specs.request_meaning.Serving.{World, Serving, Answer}
use Rattle.request_reply.specs.request_phases.Rounds.{world_in}
use Rattle.request_reply.specs.request_phases.declared.ground.Ground.{Ground}
use Rattle.request_reply.specs.request_phases.declared.state.Phases.{Phases}
use Rattle.request_reply.specs.rewrite_code.Places.{standing_seen}
use Rattle.page_body.specs.ssi_exec.Scenes.{doc_seen, values_of, IsAt}
use Rattle.page_body.specs.ssi_exec.declared.document.Document.{Document}
use Rattle.page_body.specs.ssi_exec.declared.document.Scene.{Scene}
use Rattle.page_body.specs.family_meaning.Suspended.{document_rest}
use Rattle.request_reply.specs.request_meaning.Bodies.{machines}
use Rattle.ssi_text.specs.Marks.{marks}
use Rattle.acts.specs.Act.{◌>>=◌}
use Rattle.request_reply.specs.request_meaning.Commands.{captured}
use Rattle.page_body.specs.Pages.{IsOf, page_captured, page_rest, waiting, stages_of}
use Rattle.page_body.specs.declared.page.Page.{Page}
use Rattle.node_turn.specs.Nodes.{answer_seen, captured_at, doc_at, page_at}
use Rattle.node_turn.specs.Turns.{IsSceneOf}
use Rattle.node_turn.specs.declared.answered.Answered.{Answered}

-- a page with a document
abbrev page_doc : World → Answer → Doc → Page → List ℕ → Serving Answer
page_doc w answer d page bytes = document_rest w answer d (marks (waiting page)) (machines w page.facts) (stages_of page) bytes

-- and after a body that goes into a variable of it
abbrev captured_page : World → Answer → Doc → Page → (bytes name text : List ℕ) → Serving Answer
captured_page w answer d page bytes name text = captured d name text >>= λ doc. page_doc w answer doc page bytes

module _ (g : Ground) (p : Phases) (left : ℕ) (scene : Scene) (is : IsSceneOf g p left scene) where
  pub values_are : values_of scene ≡ (standing_seen g.site.now p.at).values
  values_are = ap (λ s. values_seen s scene.level.now) is.site ∙ ap (values_seen g.site.now) is.level

  doc_is : (d : Document) → doc_seen scene d ≡ doc_at g.site.now p left d
  doc_is d =
      ap (λ m. record (doc_seen scene d) { main = m }) is.main
      ∙ (ap (λ r. record (doc_seen scene d) { main = p.main; request = r }) is.request
      ∙ (ap (λ v. record (doc_seen scene d) { main = p.main; request = p.at.request; values = v }) values_are
      ∙ ap (λ l. record (doc_seen scene d) { main = p.main; request = p.at.request; values = (standing_seen g.site.now p.at).values; left = l }) is.levels))

  pub page_is : (w : World) (answer : Answer) (page : Page) (bytes : List ℕ) → page_rest w answer scene page bytes ≡ page_at w g.site.now p left answer page bytes
  unfolding page_rest page_at
  page_is w answer page bytes = ap (λ d. page_doc w answer d page bytes) (doc_is page.document)

  pub captured_is : (w : World) (answer : Answer) (page : Page) (bytes : List ℕ) → (λ name text. page_captured w answer scene page name text bytes) ≡ captured_at w g.site.now p left answer page bytes
  unfolding page_captured captured_at
  captured_is w answer page bytes = ap (λ d. captured_page w answer d page bytes) (doc_is page.document)

  pub is_of : (a : Answered) → IsOf scene (answer_seen g.site.now p a)
  is_of a = record { main = sym is.main; request = sym is.request; values = sym values_are }

  pub is_at : (patterns : List SetPattern) → IsAt scene (world_in patterns g shipped)
  unfolding server_whole
  is_at patterns = record { visible = ap (λ (s : Server). s.visible) (sym is.server); merge = ap (λ (s : Server). s.merge) (sym is.server) }
