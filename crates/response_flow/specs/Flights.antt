-- A response in flight: what is still to come of it, what it waits for, and how far it is.
use Rattle.std.specs.Prelude.{◌≡◌, ℕ, ◌≤◌, ◌+◌, ◌-◌, ◌*◌, ◌/◌, ◌^◌, ◌==◌, min, nat_le, Bool, true, false, ◌&&◌, ◌||◌, List, [], ◌∷◌, length, take, is_none, Option, None, Some, if◌then◌else◌, ◌++◌, ◌⊎◌, is_some}
use Rattle.file_tree.specs.Tree.{Trees, tree_of}
use Rattle.ngx_outside.specs.Views.{Job, no_bytes}
use Rattle.ngx_pattern.specs.Pattern.{Pattern as SetPattern}
use Rattle.site_model.specs.declared.site.Site.{Site}
use Rattle.request_meaning.specs.Serving.{World}
use Rattle.chunk_out.specs.Chunks.{block_size, chunk}
use Rattle.outgoing.specs.Leaving.{most}
use Rattle.subrequests.specs.Families.{are_done}
use Rattle.subrequests.specs.Moved.{IsWhole}
use Rattle.subrequests.specs.Wants as family
use Rattle.page_response.specs.Pages.{EndsIn, IsReached, bytes_left, nodes_asked, pages_left, whole_length}
use Rattle.page_response.specs.declared.pages.Pages.{Pages}
use Rattle.request_flow.specs.Flows.{IsServedBy, flow_fits, flow_left, flow_rest, is_sending, may_run, shown_by, shown_most, stage_length, stage_opened, stage_server, tree_asked, jobs_of as flow_jobs}
use Rattle.request_flow.specs.declared.flow.Flow.{Flow}
use Rattle.file_tree.specs.declared.job.Ask.{Ask}
use Rattle.file_tree.specs.declared.job.Ask.TheVariants as ask
use Rattle.std.specs.Global.{Box}
use Rattle.access_flow.specs.Flows.{IsOfTree, access_left, is_inner, steps_left, waits}
use Rattle.access_flow.specs.Reached.{AccessReached}
use Rattle.access_flow.specs.declared.flow.AccessFlow.{AccessFlow}
use Rattle.access_flow.specs.declared.flow.Stage.{Stage}
use Rattle.request_flow.specs.Reached.{FlowReached}
use Rattle.request_flow.specs.Rests.{Rest, no_rest}
use Rattle.response_flow.specs.declared.flight.Flight.{Flight}
use Rattle.response_flow.specs.declared.flight.Flight.TheVariants.{Alone, Asking, Page}

-- ---- what is still to come

-- of a page whose head was put
abbrev pub page_left : World → List SetPattern → Site → Trees → Pages → Rest
page_left w patterns site trees p =
    record {
      bytes = bytes_left w patterns site trees p;
      stays = true;
      logs = (p.status, whole_length w patterns site trees p) ∷ [];
      values = None;
      subs = nodes_asked w patterns site trees p - 1;
    }

-- where this many subrequests were asked before: they count too
abbrev pub with_opened : (count : ℕ) → Rest → Rest
with_opened count r = record { bytes = r.bytes; stays = r.stays; logs = r.logs; values = r.values; subs = r.subs + count }

-- of a request that goes on alone, with the subrequests that were asked whether it is let in
abbrev pub alone_rest : World → List SetPattern → Site → Option (Box Flow) → Trees → Rest
alone_rest w patterns site None trees = no_rest
alone_rest w patterns site (Some flow) trees = with_opened (stage_opened flow.value.stage) (flow_rest w patterns site (Some flow) trees)

abbrev pub rest_of : World → List SetPattern → Site → Trees → Flight → Rest
rest_of w patterns site trees (Alone flow) = with_opened (stage_opened flow.value.stage) (flow_rest w patterns site (Some flow) trees)
rest_of w patterns site trees (Asking f) = with_opened f.value.request.value.opened (access_left w patterns site trees f.value)
rest_of w patterns site trees (Page p) = page_left w patterns site trees p.pages.value

-- what is still to come of the response in flight, if one is
abbrev pub flight_rest : World → List SetPattern → Site → Option Flight → Trees → Rest
flight_rest w patterns site None trees = no_rest
flight_rest w patterns site (Some flight) trees = rest_of w patterns site trees flight

-- steps have led to it
abbrev pub IsReachedBy : World → List SetPattern → Site → Flight → Type 0
IsReachedBy w patterns site (Alone flow) = FlowReached w patterns site (Some flow)
IsReachedBy w patterns site (Asking f) = AccessReached w patterns site f.value
IsReachedBy w patterns site (Page p) = IsReached w patterns site p.pages.value

abbrev pub FlightReached : World → List SetPattern → Site → Option Flight → Type 0
FlightReached w patterns site None = Unit {0}
FlightReached w patterns site (Some flight) = IsReachedBy w patterns site flight

-- ---- what it waits for

-- the bytes that are written next, where these are kept for the peer
abbrev pub pending_by : Flight → List ℕ → List ℕ
pending_by (Alone flow) out = take (shown_by flow.value.stage) out
pending_by (Asking f) out = take shown_most out
pending_by (Page p) out = p.pages.value.outgoing.pending

-- How many bytes are shown of those that are kept once a response is over. Of a body in chunks whole chunks are shown, of 4104
-- bytes, as long as they fit; and its tail, its last chunk and the empty one, where 4107 bytes fit. Chunks end at all that is kept
-- without the tail, and at whole chunks before. A body that isn't in chunks has no tail.
unfoldable pub shown_kept : (tail size : ℕ) → ℕ
shown_kept tail size =
    if tail == 0 || nat_le (size - tail + 4107) shown_most then min size shown_most
    else size - tail - 4104 * ((size - tail - shown_most + 4103) / 4104)

-- What is shown of `size` bytes is at most 65536; no less than ends at any whole chunk that fits; and whatever is written of it,
-- the rest of it is still shown then.
pub record ShowsMost (tail size : ℕ) : Type 0 where
  pub few : shown_kept tail size ≤ shown_most
  pub most : (chunks : ℕ) → size - tail - 4104 * chunks ≤ shown_most → size - tail - 4104 * chunks ≤ shown_kept tail size
  pub stays : (count : ℕ) → count ≤ shown_kept tail size → shown_kept tail size ≤ count + shown_kept tail (size - count)

-- A chunk ends at this place of what is kept of a body in chunks, by the lengths: after it come as many bytes as some chunks of whole
-- blocks, of 4104 bytes each, and the tail have.
pub record EndsChunk (place tail size : ℕ) : Type 0 where
  pub chunks : ℕ
  pub after : place + (4104 * chunks + tail) ≡ size

-- How many bytes are shown of what is kept of a body in chunks: all of them, or those up to a place where a chunk ends by its length.
-- Of a whole block the chunk has 4104 bytes.
pub record ShowsWhole : Type 0 where
  pub ends : (before : Option (List ℕ)) (tail : ℕ) (gone out : List ℕ) → is_some before ≡ true → EndsIn before tail (gone ++ out) →
      (shown_kept tail (length out) ≡ length out) ⊎ EndsChunk (shown_kept tail (length out)) tail (length out)
  pub blocks : (block : List ℕ) → length block ≡ block_size → length (chunk block) ≡ 4104

-- the bytes that are written next, where the last `tail` of those that are kept are the tail of a body in chunks
abbrev pub pending_of : Option Flight → List ℕ → (tail : ℕ) → List ℕ
pending_of None out tail = take (shown_kept tail (length out)) out
pending_of (Some flight) out tail = pending_by flight out

-- those of which they are the first
abbrev pub unsent_of : Option Flight → List ℕ → List ℕ
unsent_of None out = out
unsent_of (Some flight) out = pending_by flight out

-- How many of the bytes that are kept are the tail of a body, where the bytes of it that wait tell whether it is in chunks. While
-- a response is in flight nothing is a tail yet.
abbrev pub TailIn : (before : Option (List ℕ)) → Option Flight → (tail : ℕ) → (out : List ℕ) → Type 0
TailIn before None tail out = EndsIn before tail out
TailIn before (Some flight) tail out = tail ≡ 0

-- the tail of some body, in chunks or not
abbrev pub HasTail : (tail : ℕ) → (out : List ℕ) → Type 0
HasTail tail out = (before : Option (List ℕ)) × EndsIn before tail out

-- the tail of the page that was in flight; where none was, of some body
abbrev pub EndsAs : (was : Option Flight) → (tail : ℕ) → (out : List ℕ) → Type 0
EndsAs None tail out = HasTail tail out
EndsAs (Some (Alone flow)) tail out = HasTail tail out
EndsAs (Some (Asking f)) tail out = HasTail tail out
EndsAs (Some (Page p)) tail out = EndsIn p.pages.value.outgoing.block tail out

-- How many of the bytes that are kept are a tail after a run, by what was in flight before it and what is now: where a page was
-- in flight and is over, the tail of its body, in chunks exactly where that page is; where a response is still in flight, none.
abbrev pub TailFits : (was is : Option Flight) → (tail : ℕ) → (out : List ℕ) → Type 0
TailFits was None tail out = EndsAs was tail out
TailFits was (Some flight) tail out = tail ≡ 0

-- the job of the subrequest that was asked last whether the main request is let in
abbrev pub access_jobs : AccessFlow → List Job
access_jobs f = if waits f.stage then record { node = f.request.value.opened; ask = f.ask } ∷ [] else []

abbrev pub jobs_by : Flight → List Job
jobs_by (Alone flow) = flow_jobs (Some flow)
jobs_by (Asking f) = access_jobs f.value
jobs_by (Page p) = family.jobs_of p.pages.value.family

abbrev pub jobs_of : Option Flight → List Job
jobs_of None = []
jobs_of (Some flight) = jobs_by flight

-- The first node of a page is the one that can run: to end the page, where no other goes on; and, so that a page always goes on,
-- where no node can run, none asks the files and nothing is to be written.
abbrev pub is_stuck : Pages → Bool
is_stuck p = no_bytes p.outgoing.pending && (is_none (family.first_job (family.jobs_of p.family)) && is_none (family.first_of (family.ready_of p.family)))

abbrev pub ends_first : Pages → Bool
ends_first p = are_done p.family.nodes || is_stuck p

-- the nodes of a page that can run
abbrev pub page_ready : Pages → List ℕ
page_ready p = if ends_first p then 0 ∷ [] else family.ready_of p.family

-- which of a main request and the subrequest that it asked goes on next, and what can run
abbrev pub next_of : Stage → (opened : ℕ) → ℕ
next_of stage opened = if is_inner stage then opened else 0

abbrev pub access_ready : Stage → (opened : ℕ) → List ℕ
access_ready stage opened = if waits stage then [] else (next_of stage opened ∷ [])

abbrev pub ready_by : Flight → List ℕ
ready_by (Alone flow) = if may_run flow.value.stage then 0 ∷ [] else []
ready_by (Asking f) = access_ready f.value.stage f.value.request.value.opened
ready_by (Page p) = page_ready p.pages.value

abbrev pub ready_of : Option Flight → List ℕ
ready_of None = []
ready_of (Some flight) = ready_by flight

-- a block of the file of a request alone came
abbrev pub sends_alone : Option Flight → Bool
sends_alone None = false
sends_alone (Some (Alone flow)) = is_sending flow.value.stage
sends_alone (Some (Asking f)) = false
sends_alone (Some (Page p)) = false

-- ---- what fits

-- Once a response is over no more bytes are kept than these: far more than the buffers of the nodes of a page have with their
-- framing.
unfoldable pub most_kept : ℕ
most_kept = 2 ^ 26

-- What is kept for the peer is in the queue of a page as long as it is in flight; and no more subrequests were asked whether a request
-- is let in than a byte counts.
abbrev pub IsFitting : Flight → (size : ℕ) → Type 0
IsFitting (Alone flow) size = (flow_fits (Some flow) size ≡ true) × (stage_opened flow.value.stage ≤ 255)
IsFitting (Asking f) size = (size ≡ 0) × IsOfTree f.value × (f.value.request.value.opened ≤ 255)
IsFitting (Page p) size = (size ≡ 0) × IsWhole p.pages.value.family × (length p.pages.value.outgoing.pending ≤ most)

abbrev pub FlightFits : Option Flight → (size : ℕ) → Type 0
FlightFits None size = size ≤ most_kept
FlightFits (Some flight) size = IsFitting flight size

-- the number of the tree of which its jobs ask
abbrev pub tree_by : Flight → ℕ
tree_by (Alone flow) = tree_asked (Some flow)
tree_by (Asking f) = tree_of f.value.ask
tree_by (Page p) = p.pages.value.family.tree

abbrev pub flight_tree : Option Flight → ℕ
flight_tree None = 0
flight_tree (Some flight) = tree_by flight

-- ---- what is left to do

-- what is left of a page is less than this
unfoldable pub page_most : ℕ
page_most = 65537 * 2 ^ 64 + 2 ^ 26

abbrev pub left_by : Flight → (size : ℕ) → ℕ
left_by (Alone flow) size = page_most + flow_left (Some flow) size
left_by (Asking f) size = page_most + steps_left f.value
left_by (Page p) size = most_kept + pages_left p.pages.value

abbrev pub flight_left : Option Flight → (size : ℕ) → ℕ
flight_left None size = 0
flight_left (Some flight) size = left_by flight size

-- ---- by what it is served

abbrev pub flight_server : Flight → ℕ
flight_server (Alone flow) = stage_server flow.value.stage
flight_server (Asking f) = f.value.request.value.server
flight_server (Page p) = p.server

abbrev pub flight_length : Flight → ℕ
flight_length (Alone flow) = stage_length flow.value.stage
flight_length (Asking f) = f.value.request.value.length
flight_length (Page p) = p.length

abbrev pub IsServed : (server length : ℕ) → Flight → Type 0
IsServed server length (Alone flow) = IsServedBy server length (Some flow)
IsServed server length (Asking f) = (f.value.request.value.server ≡ server) × (f.value.request.value.length ≡ length)
IsServed server length (Page p) = (p.server ≡ server) × (p.length ≡ length)

abbrev pub FlightServedBy : (server length : ℕ) → Option Flight → Type 0
FlightServedBy server length None = Unit {0}
FlightServedBy server length (Some flight) = IsServed server length flight

-- a request alone asks for a block of its file
abbrev pub is_read : Ask → Bool
is_read (ask.Stat path of) = false
is_read (ask.Read path start count of) = true

abbrev pub reads_alone_in : Option Flight → Bool
reads_alone_in None = false
reads_alone_in (Some (Page p)) = false
reads_alone_in (Some (Asking f)) = false
reads_alone_in (Some (Alone f)) = is_read f.value.ask
