-- A document as the meaning sees it, and what is done for its parts in the acts of the meaning.
use Rattle.std.specs.Prelude.{◌≡◌, ℕ, Bool, List, [], ◌∷◌, codes, Option, None, Some, option_map, unwrap_or, if◌then◌else◌}
use Rattle.acts.specs.Vars.{Vars}
use Rattle.http_moment.specs.Shown.{default_format}
use Rattle.acts.specs.Act.{Done, Write, settled, ◌>>=◌, ◌>>◌}
use Rattle.ngx_variables.specs.declared.request.Main.{Main}
use Rattle.ngx_variables.specs.declared.request.Role.TheVariants.{Content}
use Rattle.site_whole.specs.Whole.{values_seen}
use Rattle.site_whole.specs.site_views.Values.{Values}
use Rattle.ssi_text.specs.declared.part.Part.{Part}
use Rattle.ssi_text.specs.declared.part.Part.TheVariants as parts
use Rattle.request_meaning.specs.Serving.{World, Serving, Child, asks, inner, writes}
use Rattle.request_meaning.specs.Documents.{Doc, Branch, default_message, live_oops}
use Rattle.request_meaning.specs.Documents.Branch.{NoIf, InIf}
use Rattle.request_meaning.specs.Commands.{Word, captured, config_done, echo_done, elif_done, else_done, endif_done, if_done, include_done, set_done, text_of}
use Rattle.request_meaning.specs.Commands.Word.{Block, EndBlock, Config, Echo, If, Elif, Else, EndIf, Include, Set}
use Rattle.ssi_text.specs.declared.part.Param.{Param}
use Rattle.ssi_values.specs.Known.{Known, dated_main}
use Rattle.ssi_exec.specs.declared.document.Branch.{Branch as CodeBranch}
use Rattle.ssi_exec.specs.declared.document.Branch.TheVariants as branches
use Rattle.ssi_exec.specs.declared.document.Child.{Child as CodeChild}
use Rattle.ssi_exec.specs.declared.document.Document.{Document}
use Rattle.ssi_exec.specs.declared.document.OpenBlock.{OpenBlock}
use Rattle.ssi_exec.specs.declared.document.Scene.{Scene}
use Rattle.ssi_exec.specs.declared.document.Served.{Served}
use Rattle.ssi_exec.specs.declared.document.Served.TheVariants as served

-- a world whose server is the scene's, so far as documents ask it
pub record IsAt (scene : Scene) (w : World) : Type 0 where
  pub visible : w.server.visible ≡ scene.server.now.visible
  pub merge : w.server.merge ≡ scene.server.now.merge

abbrev pub branch_seen : CodeBranch → Branch
branch_seen branches.NoIf = NoIf
branch_seen (branches.InIf live taken last) = InIf live taken last

abbrev pub block_seen : OpenBlock → List ℕ × List ℕ
block_seen b = (b.name, b.bytes)

abbrev pub values_of : Scene → Values
values_of scene = values_seen scene.site.now scene.level.now

-- the document of the meaning
abbrev pub doc_seen : Scene → Document → Doc
doc_seen scene d =
    record {
      main = scene.main.now;
      request = scene.request.now;
      values = values_of scene;
      left = scene.left;
      ssi = d.ssi;
      message = unwrap_or d.message default_message;
      format = unwrap_or d.format default_format;
      blocks = d.blocks;
      block = option_map block_seen d.block;
      branch = branch_seen d.branch;
    }

-- what its names are looked up in
abbrev pub known_at : Scene → Document → Vars → Known
known_at scene d vars =
    record {
      main = dated_main scene.main.now (unwrap_or d.format default_format);
      request = scene.request.now;
      ssi = d.ssi;
      visible = scene.server.now.visible;
      vars = vars;
    }

-- ---- what is done

abbrev pub child_seen : Main → CodeChild → Child
child_seen main child =
    record {
      main = main;
      role = Content;
      path = child.path;
      args = child.args;
      ssi = child.ssi;
      stub = child.stub;
      waited = child.waited;
    }

-- a text that is written, if there is one
abbrev pub written : Option (List ℕ) → Doc → Serving Doc
written None doc = Done doc
written (Some text) doc = do
  writes text
  Done doc

-- bytes that are written one after another before what follows, or are passed over
unfoldable pub each_written : {A : Type 0} → List ℕ → Serving A → Serving A
each_written [] act = act
each_written (b ∷ bytes) act = Write (b ∷ []) (each_written bytes act)

abbrev pub bytes_then : {A : Type 0} → (live : Bool) → List ℕ → Serving A → Serving A
bytes_then live bytes act = if live then each_written bytes act else act

-- the text of a part that is taken as it is
abbrev pub own_text : Part → List ℕ
own_text (parts.Text text) = text
own_text other = []

-- what is done for a part, and goes on with the document
abbrev pub served_act : Part → Served → Doc → Serving Doc
served_act part served.Nothing doc = Done doc
served_act part served.Same doc = written (Some (own_text part)) doc
served_act part (served.Text text) doc = written (Some text) doc
served_act part (served.Includes child) doc = do
  inner (child_seen doc.main child)
  Done doc
served_act part (served.Captures name child) doc = do
  reply ← asks (child_seen doc.main child)
  captured doc name reply.body

-- an act of the document settles as what is done for a part
abbrev pub DoesPart : Scene → Vars → (World → Serving Doc) → Part → Served → Document → Type 0
DoesPart scene vars act part s d =
    (w : World) → IsAt scene w → settled (act w) vars ≡ (served_act part s (doc_seen scene d), vars)

-- or as a text that is written
abbrev pub Writes : Scene → Vars → (World → Serving Doc) → Option (List ℕ) → Document → Type 0
Writes scene vars act text d =
    (w : World) → IsAt scene w → settled (act w) vars ≡ (written text (doc_seen scene d), vars)

-- what a command does where text is live, or that doesn't matter
abbrev pub plain_act : World → Doc → Word → List Param → Serving Doc
plain_act w doc Block ps = Done (record doc { block = Some (text_of (codes "name") ps, []) })
plain_act w doc EndBlock ps = live_oops doc
plain_act w doc Config ps = config_done doc ps
plain_act w doc Echo ps = echo_done w doc ps
plain_act w doc If ps = if_done w doc ps doc.branch
plain_act w doc Elif ps = elif_done w doc ps doc.branch
plain_act w doc Else ps = else_done doc doc.branch
plain_act w doc EndIf ps = endif_done doc doc.branch
plain_act w doc Include ps = include_done w doc ps
plain_act w doc Set ps = set_done w doc ps
