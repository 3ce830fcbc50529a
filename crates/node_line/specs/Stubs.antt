-- What becomes of a node with a stub.
use Rattle.std.specs.Prelude.{◌≡◌, ◌≢◌, ℕ, ◌&&◌, ◌==◌, nat_lt, Bool, true, false, List, [], length, Some}
use Rattle.ngx_pattern.specs.Pattern.{Pattern as SetPattern}
use Rattle.family_meaning.specs.ngx_variables.declared.request.Main.{Main}
use Rattle.node_turn.specs.site_model.declared.site.Site.{Site}
use Rattle.postpone_filter.specs.Row.{Row as Order, appended, ended}
use Rattle.family_meaning.specs.request_meaning.Serving.{World, Answer}
use Rattle.family_meaning.specs.request_meaning.Replies.{or_stub}
use Rattle.acts.specs.Act.{Done}
use Rattle.family_meaning.specs.Moves.{AllEnd, IsGood}
use Rattle.node_turn.specs.Stages.{hand_at, withheld_more, node_act}
use Rattle.node_turn.specs.Turns.{PlacesAs}
use Rattle.node_turn.specs.declared.node.Node.{Node}
use Rattle.node_turn.specs.declared.node.Place.{Place}
use Rattle.node_turn.specs.declared.node.Place.TheVariants.{Row, Stub, Gathers, Captured}
use Rattle.node_turn.specs.declared.node.Stage.{Stage}
use Rattle.node_turn.specs.declared.node.Stage.TheVariants.{Begins, Asks, Told, Places, Serves, Reads, Captures, Ends}

-- its body is shown: the status is below 400, and some bytes are at hand
abbrev pub shows : Stage → Bool
shows (Begins ssi) = false
shows (Asks wait ssi) = false
shows (Told wait file ssi) = false
shows (Places b) = nat_lt b.value.answered.status 400 && nat_lt b.value.from (length b.value.bytes)
shows (Serves b) = false
shows (Reads b) = false
shows (Captures c) = false
shows (Ends answered) = false

-- it has come to its answer, of a status below 400
abbrev pub good : Stage → Bool
good (Begins ssi) = false
good (Asks wait ssi) = false
good (Told wait file ssi) = false
good (Places b) = nat_lt b.value.answered.status 400
good (Serves b) = nat_lt b.value.answered.status 400
good (Reads b) = nat_lt b.value.answered.status 400
good (Captures c) = nat_lt c.body.value.answered.status 400
good (Ends b) = nat_lt b.value.answered.status 400

-- bytes of it are placed next
abbrev pub gives_bytes : Stage → Bool
gives_bytes (Begins ssi) = false
gives_bytes (Asks wait ssi) = false
gives_bytes (Told wait file ssi) = false
gives_bytes (Places b) = nat_lt b.value.from (length b.value.bytes)
gives_bytes (Serves b) = false
gives_bytes (Reads b) = false
gives_bytes (Captures c) = false
gives_bytes (Ends b) = false

-- no byte of it is withheld
abbrev pub joins_at : Place → Bool
joins_at Row = false
joins_at (Stub stub text) = length text == 0
joins_at (Gathers stub text) = false
joins_at (Captured stub text) = false

-- Bytes of it came: they are withheld, and it isn't known yet whether they are shown; or its body is shown, some of them are placed, and
-- it goes on in the row.
pub data CameAs (at : ℕ) (row row' : Order) (old new : Node) : Type 0 where
  Withheld : row' ≡ row → new.place ≡ withheld_more (hand_at old.stage) old.place →
      ((w : World) (patterns : List SetPattern) (site : Site) (main : Main) (text : List ℕ) → PlacesAs (hand_at old.stage) (node_act w patterns site main old text) (node_act w patterns site main new text)) →
      CameAs at row row' old new
  Joined : (stub some : List ℕ) → some ≢ [] → old.place ≡ Stub stub [] → new.place ≡ Row → row' ≡ appended at some row →
      ((w : World) (patterns : List SetPattern) (site : Site) (main : Main) (text : List ℕ) → PlacesAs some (node_act w patterns site main old text) (node_act w patterns site main new text)) →
      ((w : World) (patterns : List SetPattern) (site : Site) (main : Main) (text : List ℕ) → AllEnd IsGood (node_act w patterns site main old text)) →
      CameAs at row row' old new

-- The stub that is in the place of its body, which is withheld.
pub record IsStubOf (n : Node) (stub : List ℕ) : Type 0 where
  pub text : List ℕ
  pub place : n.place ≡ Stub stub text
  pub chosen : (w : World) (patterns : List SetPattern) (site : Site) (main : Main) (file : List ℕ) (answer : Answer) → node_act w patterns site main n file ≡ Done answer → or_stub (Some stub) answer.status text ≡ stub

-- It is over, and its stub is at its place.
pub record DecidedAs (at : ℕ) (order order' : Order) (old new : Node) : Type 0 where
  pub stub : List ℕ
  pub is : IsStubOf old stub
  pub row : order' ≡ ended at (appended at stub order)
  pub node : new ≡ record old { over = true }
