-- A request in flight: what is still to come of its response, and how far it is.
use Rattle.std.specs.Global.{Box}
use Rattle.std.specs.Prelude.{◌≡◌, ℕ, ◌+◌, ◌-◌, ◌*◌, ◌^◌, ◌==◌, min, nat_le, nat_lt, Bool, true, false, not, ◌&&◌, List, [], ◌∷◌, length, drop, Option, None, Some, if◌then◌else◌}
use Rattle.file_tree.specs.Tree.{Item, AFile, AFolder, ALocked, Nothing, Tree, Trees, known_text, text_of, tree_of}
use Rattle.file_tree.specs.declared.job.Node.{Node}
use Rattle.file_tree.specs.declared.job.Node.TheVariants as node
use Rattle.file_tree.specs.declared.job.Found.{Found}
use Rattle.file_tree.specs.declared.job.Ask.{Ask}
use Rattle.file_tree.specs.declared.job.Ask.TheVariants as ask
use Rattle.ngx_outside.specs.Views.{Job}
use Rattle.ngx_pattern.specs.Pattern.{Pattern as SetPattern}
use Rattle.site_model.specs.declared.site.Site.{Site}
use Rattle.request_meaning.specs.Serving.{World}
use Rattle.reply_out.specs.request_phases.Rounds.{phases_told}
use Rattle.request_flow.specs.declared.blocks.Sending.{Sending}
use Rattle.reply_out.specs.declared.terms.InPhases.{InPhases}
use Rattle.reply_out.specs.request_phases.declared.state.Wait.{Wait}
use Rattle.request_flow.specs.declared.flow.Stage.{Stage}
use Rattle.request_flow.specs.declared.flow.Stage.TheVariants.{Asked, Told, Reading, Came}
use Rattle.request_flow.specs.declared.flow.Flow.{Flow}
use Rattle.request_flow.specs.declared.run.Heard.{Heard}
use Rattle.request_flow.specs.Terms.{terms_seen}
use Rattle.request_flow.specs.Padded.{padded}
use Rattle.request_flow.specs.Rests.{Rest, no_rest, act_rest}

-- ---- what is still to come

-- what was told of an item is so from then on: a file has the length that was told
abbrev pub told_item : Node → Item → Item
told_item (node.File len date) item = AFile (padded len (text_of item)) date
told_item node.Folder item = AFolder
told_item node.Locked item = ALocked
told_item node.Missing item = Nothing

-- the same, where a file has this text
abbrev pub told_text_item : Node → (text : List ℕ) → Item
told_text_item node text = told_item node (AFile text 0)

-- what was found of an item, of a file with all its bytes or none
abbrev pub found_item : Found → Item → Item
found_item found item = told_text_item found.node (known_text found.text (text_of item))

-- this many bytes of a file are to come
abbrev pub file_rest : Sending → (left : ℕ) → Item → Rest
file_rest sending left item =
    record {
      bytes = padded left (drop (sending.len - left) (text_of item));
      stays = true;
      logs = (sending.status, sending.len) ∷ [];
      values = None;
      subs = 0;
    }

-- where this is at the path for which it asked
abbrev pub told_rest : World → List SetPattern → Site → Tree → InPhases → Wait → Item → Rest
told_rest w patterns site tree request wait item =
    act_rest w tree (terms_seen request.terms)
    (phases_told w patterns site request.phases wait item) request.vars

abbrev pub stage_rest : World → List SetPattern → Site → Tree → Stage → Item → Rest
stage_rest w patterns site tree (Asked request wait) item =
    told_rest w patterns site tree request.value wait item
stage_rest w patterns site tree (Told request wait found) item =
    told_rest w patterns site tree request.value wait (found_item found item)
stage_rest w patterns site tree (Reading sending left) item = file_rest sending left item
stage_rest w patterns site tree (Came sending left placed) item = file_rest sending left item

-- what is where a job asks
abbrev pub item_asked : Trees → Ask → Item
item_asked trees (ask.Stat path of) = trees of path
item_asked trees (ask.Read path start count of) = trees of path

-- what is still to come of the response to a request
abbrev pub one_rest : World → List SetPattern → Site → Flow → Trees → Rest
one_rest w patterns site flow trees =
    stage_rest w patterns site (trees (tree_of flow.ask)) flow.stage (item_asked trees flow.ask)

-- what is still to come of the response to a request in flight
abbrev pub flow_rest : World → List SetPattern → Site → Option (Box Flow) → Trees → Rest
flow_rest w patterns site None trees = no_rest
flow_rest w patterns site (Some flow) trees = one_rest w patterns site flow.value trees

-- ---- how far it is

-- its job waits for an answer
abbrev pub waits : Stage → Bool
waits (Asked request wait) = true
waits (Told request wait found) = false
waits (Reading sending left) = true
waits (Came sending left placed) = false

-- no more bytes than these are shown as pending, and no more than these are placed for a peer
unfoldable pub shown_most : ℕ
shown_most = 65536

unfoldable pub placed_most : ℕ
placed_most = 98304

-- no more bytes of a file are asked at once
unfoldable pub block_most : ℕ
block_most = 16384

-- no more bytes are kept for a peer: those that are placed, and a block that isn't yet
unfoldable pub kept_most : ℕ
kept_most = 114688

-- it can run on
abbrev pub may_run : Stage → Bool
may_run (Asked request wait) = false
may_run (Told request wait found) = true
may_run (Reading sending left) = false
may_run (Came sending left placed) = nat_lt placed placed_most

-- a block of its file came
abbrev pub is_sending : Stage → Bool
is_sending (Asked request wait) = false
is_sending (Told request wait found) = false
is_sending (Reading sending left) = false
is_sending (Came sending left placed) = true

-- a request that goes on in its place, or is over where it is logged
abbrev pub going_on : Box Flow → Option (ℕ × ℕ) → Option (Box Flow)
going_on flow None = Some flow
going_on flow (Some log) = None

-- the jobs of a request
abbrev pub jobs_of : Option (Box Flow) → List Job
jobs_of None = []
jobs_of (Some flow) = if waits flow.value.stage then record { node = 0; ask = flow.value.ask } ∷ [] else []

-- how many of the bytes for a peer are shown as pending: those that are placed
abbrev pub shown_by : Stage → ℕ
shown_by (Asked request wait) = shown_most
shown_by (Told request wait found) = shown_most
shown_by (Reading sending left) = shown_most
shown_by (Came sending left placed) = if nat_lt placed shown_most then placed else shown_most

-- where this many of them were written
abbrev pub stage_written : Stage → ℕ → Stage
stage_written (Asked request wait) count = Asked request wait
stage_written (Told request wait found) count = Told request wait found
stage_written (Reading sending left) count = Reading sending left
stage_written (Came sending left placed) count = Came sending left (placed - count)

-- ---- what fits

abbrev pub is_stat : Ask → Bool
is_stat (ask.Stat path of) = true
is_stat (ask.Read path start count of) = false

-- the block is the first part of what is left, as long as a block may be
abbrev pub is_block : (len left : ℕ) → Ask → Bool
is_block len left (ask.Stat path of) = false
is_block len left (ask.Read path start count of) =
    (start == len - left) && (count == min left block_most)

-- how many bytes a job asks for
abbrev pub count_asked : Ask → ℕ
count_asked (ask.Stat path of) = 0
count_asked (ask.Read path start count of) = count

-- how far a request is fits its job and the bytes for its peer, of which there are this many
abbrev pub stage_fits : Ask → Stage → (size : ℕ) → Bool
stage_fits job (Asked request wait) size = is_stat job && (size == 0)
stage_fits job (Told request wait found) size = is_stat job && (size == 0)
stage_fits job (Reading sending left) size =
    (nat_le left sending.len && is_block sending.len left job) && nat_le size placed_most
stage_fits job (Came sending left placed) size =
    (nat_le left sending.len && not (is_stat job)) &&
    ((nat_le placed size && nat_le placed placed_most) && nat_le size kept_most)

-- where none is in flight, no more bytes are kept than may be placed
abbrev pub flow_fits : Option (Box Flow) → (size : ℕ) → Bool
flow_fits None size = nat_le size placed_most
flow_fits (Some flow) size = stage_fits flow.value.ask flow.value.stage size

-- the number of the tree of which a request's job asks
abbrev pub tree_asked : Option (Box Flow) → ℕ
tree_asked None = 0
tree_asked (Some flow) = tree_of flow.value.ask

-- ---- what is left to do

-- What is left to do once the head may be put is less than this: a file has at most as many blocks as bytes, of which there are
-- fewer than 2^64.
unfoldable pub flow_most : ℕ
flow_most = 9 * 2 ^ 64 + 65544

-- and this is more than what is left at any time: two steps for each question
unfoldable pub asking_most : ℕ
asking_most = flow_most + 2 ^ 33 + 2

abbrev pub stage_left : Stage → (size : ℕ) → ℕ
stage_left (Asked request wait) size = flow_most + 2 * request.value.questions + 2
stage_left (Told request wait found) size = flow_most + 2 * request.value.questions + 1
stage_left (Reading sending left) size = 8 * left + 2
stage_left (Came sending left placed) size =
    (size - placed) + (8 * left + (if left == 0 then 1 else 3))

abbrev pub flow_left : Option (Box Flow) → (size : ℕ) → ℕ
flow_left None size = 0
flow_left (Some flow) size = stage_left flow.value.stage size

-- ---- a request that was told what is at its path

abbrev pub heard_flow : Heard → Flow
heard_flow h = record { ask = h.ask; stage = Told h.request h.wait h.found }

-- the length of what is at a path, where that is a file
abbrev pub file_length : Node → ℕ
file_length (node.File len date) = len
file_length node.Folder = 0
file_length node.Locked = 0
file_length node.Missing = 0

-- ---- by what a request is served

-- the number of the server that answers it, and the length that its head states of its own body, which matter as long as it is
-- within its phases
abbrev pub stage_server : Stage → ℕ
stage_server (Asked request wait) = request.value.server
stage_server (Told request wait found) = request.value.server
stage_server (Reading sending left) = 0
stage_server (Came sending left placed) = 0

abbrev pub stage_length : Stage → ℕ
stage_length (Asked request wait) = request.value.length
stage_length (Told request wait found) = request.value.length
stage_length (Reading sending left) = 0
stage_length (Came sending left placed) = 0

-- it is served so
abbrev pub StageBy : (server length : ℕ) → Stage → Type 0
StageBy server length (Asked request wait) = (request.value.server ≡ server) × (request.value.length ≡ length)
StageBy server length (Told request wait found) =
    (request.value.server ≡ server) × (request.value.length ≡ length)
StageBy server length (Reading sending left) = Unit {0}
StageBy server length (Came sending left placed) = Unit {0}

abbrev pub IsServedBy : (server length : ℕ) → Option (Box Flow) → Type 0
IsServedBy server length None = Unit {0}
IsServedBy server length (Some flow) = StageBy server length flow.value.stage

-- how many subrequests it has asked whether it is let in, which matters as long as it is within its phases
abbrev pub stage_opened : Stage → ℕ
stage_opened (Asked request wait) = request.value.opened
stage_opened (Told request wait found) = request.value.opened
stage_opened (Reading sending left) = 0
stage_opened (Came sending left placed) = 0

-- it has asked this many
abbrev pub StageOpened : (count : ℕ) → Stage → Type 0
StageOpened count (Asked request wait) = request.value.opened ≡ count
StageOpened count (Told request wait found) = request.value.opened ≡ count
StageOpened count (Reading sending left) = Unit {0}
StageOpened count (Came sending left placed) = Unit {0}

abbrev pub HasOpened : (count : ℕ) → Option (Box Flow) → Type 0
HasOpened count None = Unit {0}
HasOpened count (Some flow) = StageOpened count flow.value.stage
