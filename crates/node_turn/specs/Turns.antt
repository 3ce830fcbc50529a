-- How a node goes on by itself.
use Rattle.std.specs.Prelude.{◌≡◌, ℕ, List, [], ◌++◌, Option}
use Rattle.acts.specs.Vars.{Vars, look}
use Rattle.acts.specs.Act.{Get, Write, settled}
use Rattle.file_tree.specs.Tree.{known_text}
use Rattle.ngx_pattern.specs.Pattern.{Pattern as SetPattern}
use Rattle.page_body.specs.site_model.Levels.{raw_level}
use Rattle.request_reply.specs.rewrite_code.Places.{standing_seen}
use Rattle.request_reply.specs.request_meaning.Laws.{shipped}
use Rattle.request_reply.specs.request_meaning.Serving.{Serving, Answer}
use Rattle.request_reply.specs.request_phases.Rounds.{asked_in, prepared_as, world_in}
use Rattle.request_reply.specs.request_phases.declared.ground.Ground.{Ground}
use Rattle.request_reply.specs.request_phases.declared.state.Conclusion.{Conclusion}
use Rattle.request_reply.specs.request_phases.declared.state.Phases.{Phases}
use Rattle.page_body.specs.ssi_exec.declared.document.Scene.{Scene}
use Rattle.node_turn.specs.Nodes.{after_phases, bytes_for, stage_act}
use Rattle.node_turn.specs.declared.node.Stage.{Stage}

-- what the document of a request in its phases shares with it
pub record IsSceneOf (g : Ground) (p : Phases) (left : ℕ) (scene : Scene) : Type 0 where
  pub main : scene.main.now ≡ p.main
  pub request : scene.request.now ≡ p.at.request
  pub site : scene.site.now ≡ g.site.now
  pub level : scene.level.now ≡ raw_level g.site.now p.at.level
  pub server : scene.server.now ≡ g.server.now
  pub levels : scene.left ≡ left

-- A node reads variables one by one, has placed nothing, or has one text to place in place of two.
pub data Works (vars : Vars) : Serving Answer → Serving Answer → Type 0 where
  Rests : {m : Serving Answer} → Works vars m m
  Reads : {name : List ℕ} {k : Option (List ℕ) → Serving Answer} {m : Serving Answer} → Works vars (k (look vars name)) m → Works vars (Get name k) m
  Placed : {k m : Serving Answer} → Works vars k m → Works vars (Write [] k) m
  Merges : {first second : List ℕ} {k m : Serving Answer} → Works vars (Write (first ++ second) k) m → Works vars (Write first (Write second k)) m

-- Variables are read and written at once, up to the next act that others may come between; and from there the node goes on by itself.
pub record TurnsTo (before after : Vars) (old new : Serving Answer) : Type 0 where
  pub turned : Serving Answer
  pub settles : settled old before ≡ (turned, after)
  pub works : Works after turned new

-- The body that follows what phases decided comes so to the act of this stage, whatever the file is, of which these bytes are
-- known, and whatever is set.
abbrev pub AnswersAs : Ground → Phases → (left : ℕ) → Vars → Conclusion → (known : List ℕ) → Stage → Type 0
AnswersAs g p left ssi outcome known stage = (patterns : List SetPattern) (path text : List ℕ) (vars : Vars) →
    let w = world_in patterns g shipped in
    TurnsTo vars vars (after_phases w left ssi (prepared_as w (asked_in p) (standing_seen g.site.now p.at) (bytes_for outcome (known_text known text)) outcome))
    (stage_act w patterns g.site.now p left path stage text)

-- Bytes are placed: some of what the act writes next, after which it does the rest, up to another act of its own.
pub record PlacesAs (some : List ℕ) (old new : Serving Answer) : Type 0 where
  pub more : List ℕ
  pub rest : Serving Answer
  pub writes : old ≡ Write (some ++ more) rest
  pub works : (vars : Vars) → Works vars (Write more rest) new
