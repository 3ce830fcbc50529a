-- What a body comes to.
use Rattle.std.specs.Prelude.{◌≡◌, ℕ, ◌==◌, ◌&&◌, not, true, false, Bool, List, length, Option, None, Some}
use Rattle.acts.specs.Vars.{Vars}
use Rattle.acts.specs.Act.{Call, Done, Inner}
use Rattle.ngx_pattern.specs.Pattern.{Pattern as SetPattern}
use Rattle.request_reply.specs.request_meaning.Laws.{shipped}
use Rattle.request_reply.specs.request_meaning.Serving.{Answer, Serving, World}
use Rattle.request_reply.specs.request_phases.Rounds.{world_in}
use Rattle.request_reply.specs.request_phases.declared.ground.Ground.{Ground}
use Rattle.request_reply.specs.request_phases.declared.state.Phases.{Phases}
use Rattle.page_body.specs.Pages.{Does, page_captured, page_rest, stop_of}
use Rattle.page_body.specs.declared.doing.Doing.{Doing}
use Rattle.page_body.specs.declared.page.Page.{Page}
use Rattle.page_body.specs.ssi_exec.Scenes.{IsAt, child_seen}
use Rattle.page_body.specs.ssi_exec.declared.document.Scene.{Scene}
use Rattle.node_turn.specs.Nodes.{from_source, stage_act, stage_heard}
use Rattle.node_turn.specs.Stages.{is_capturing}
use Rattle.node_turn.specs.Turns.{Works}
use Rattle.node_turn.specs.declared.node.Source.{Source}
use Rattle.node_turn.specs.declared.node.Stage.{Stage}
use Rattle.node_turn.specs.declared.page.Served.{Served}
use Rattle.node_turn.specs.declared.page.Served.TheVariants.{On, Opens, Asks, Wants}

-- nothing more comes
abbrev pub is_spent : Source → Bool
is_spent s = (length s.text == 0) && ((s.left == 0) && not s.unread)

-- The next part of a page is taken up, of which a block of its file is asked first where none is found: as much is done as before, with
-- what is done for the part where one is found; and where that is the end of all, nothing more is to come of a source that is spent.
pub record NextPart (scene : Scene) (vars : Vars) (old : Page) (before : Source) (new : Page) (after : Source) (found : Option Doing) : Type 0 where
  pub wants : found ≡ None → (w : World) (answer : Answer) (file : List ℕ) → w.members ≡ shipped →
      page_rest w answer scene old (from_source before file) ≡ page_rest w answer scene new (from_source after file)
  pub does : (doing : Doing) → found ≡ Some doing → (w : World) (answer : Answer) (file : List ℕ) → w.members ≡ shipped → IsAt scene w →
      Does scene.main.now vars doing (page_rest w answer scene old (from_source before file)) (page_rest w answer scene new (from_source after file))
      (λ name text. page_captured w answer scene new name text (from_source after file))
  pub over : (doing : Doing) → found ≡ Some doing → stop_of doing ≡ Some true → is_spent after ≡ true → (w : World) (answer : Answer) (file : List ℕ) →
      w.members ≡ shipped → page_rest w answer scene old (from_source before file) ≡ Done answer

-- Variables are read, and the node goes on at this stage, maybe after a subrequest whose body is here; or it waits for the
-- body of one; or a block of its file is asked.
abbrev pub ServesTo : Ground → Phases → (levels : ℕ) → List SetPattern → (path file : List ℕ) → Vars → Serving Answer → Stage → Served → Type 0
ServesTo g p levels patterns path file vars old stage On =
    Works vars old (stage_act (world_in patterns g shipped) patterns g.site.now p levels path stage file)
ServesTo g p levels patterns path file vars old stage (Opens child) =
    Works vars old (Inner (child_seen p.main child) (stage_act (world_in patterns g shipped) patterns g.site.now p levels path stage file))
ServesTo g p levels patterns path file vars old stage (Asks child) =
    Works vars old (Call (child_seen p.main child) (λ reply. stage_heard (world_in patterns g shipped) patterns g.site.now p levels path stage file reply.body))
ServesTo g p levels patterns path file vars old stage Wants =
    Works vars old (stage_act (world_in patterns g shipped) patterns g.site.now p levels path stage file)

-- Where it waits for the body of a subrequest, that goes into a variable; and not where it goes on after one.
abbrev pub WaitsAt : Served → Stage → Type 0
WaitsAt On stage = Unit {0}
WaitsAt (Opens child) stage = is_capturing stage ≡ false
WaitsAt (Asks child) stage = is_capturing stage ≡ true
WaitsAt Wants stage = Unit {0}
