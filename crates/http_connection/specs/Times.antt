-- How long a connection waits for its peer.
use Rattle.std.specs.Prelude.{◌≡◌, ℕ, ◌+◌, ◌-◌, ◌^◌, ◌/◌, ◌%◌, ◌==◌, ◌≤◌, min, max, Bool, true, false, not, ◌&&◌, ◌||◌, Option, None, Some, if◌then◌else◌}
use Rattle.file_tree.specs.Tree.{Trees}
use Rattle.ngx_outside.specs.Views.{Start}
use Rattle.site_views.specs.Choice.{default_server}
use Rattle.site_views.specs.Values.{Values}
use Rattle.site_views.specs.Views.{ServerView}
use Rattle.answers_meaning.specs.Asking.{Service, server_for}
use Rattle.answers_meaning.specs.Answers.{reply_in}
use Rattle.req_head.specs.declared.head.Head.{Head as RequestHead}
use Rattle.req_head.specs.declared.head.HeadStep.{HeadStep}
use Rattle.req_head.specs.declared.head.HeadStep.TheVariants.{More, Head, Bad}
use Rattle.http_connection.specs.declared.times.Pace.{Pace}
use Rattle.http_connection.specs.declared.times.Times.{Times}
use Rattle.http_connection.specs.declared.times.Awaited.{Awaited}
use Rattle.http_connection.specs.declared.times.Awaited.TheVariants.{Nothing, Room, First, Head as AHead, Further}

-- milliseconds as whole seconds, of which a part counts as one
unfoldable pub seconds_in : ℕ → ℕ
seconds_in milliseconds = milliseconds / 1000 + (if milliseconds % 1000 == 0 then 0 else 1)

-- What is awaited of a peer: nothing where its link is to be closed, or where the connection itself
-- goes on; that it takes the bytes that are pending; the first head, where none came yet; a head, where bytes are buffered;
-- else a further request.
abbrev pub awaited_by : (shut pending busy first buffered : Bool) → Awaited
awaited_by true pending busy first buffered = Nothing
awaited_by false true busy first buffered = Room
awaited_by false false true first buffered = Nothing
awaited_by false false false true buffered = First
awaited_by false false false false true = AHead
awaited_by false false false false false = Further

-- so long after the mark, where no seconds are no limit
abbrev pub after : (mark wait : ℕ) → Option ℕ
after mark wait = if wait == 0 then None else Some (mark + wait)

-- The moment at which a connection is given up (nginx's `send_timeout`, `client_header_timeout` and
-- `keepalive_timeout`). Where two moments begin a wait, it is the later of them, also where the clock went back between them.
abbrev pub due_of : Awaited → Times → Option ℕ
due_of Nothing times = None
due_of Room times = after (max times.mark times.wrote) (seconds_in times.pace.send)
due_of First times = after times.mark times.head
due_of AHead times = after (max times.mark times.filled) times.head
due_of Further times = Some (times.mark + seconds_in times.pace.idle)

-- a moment that isn't later than this one, as far as a number of 64 bits says it
abbrev pub soonest : Option ℕ → ℕ
soonest None = 2 ^ 64 - 1
soonest (Some due) = min due (2 ^ 64 - 1)

-- whatever is awaited, it is awaited no shorter than this many seconds
abbrev pub NoneShorter : (head : ℕ) → Pace → (least : ℕ) → Type 0
NoneShorter head pace least =
    (least ≤ soonest (after 0 (seconds_in pace.send))) ×
    ((least ≤ soonest (after 0 head)) × (least ≤ seconds_in pace.idle))

-- The mark is set to this moment where bytes come to be pending, and where a request comes to its
-- end.
abbrev pub mark_by : (mark moment : ℕ) → (pending flying pending' flying' : Bool) → ℕ
mark_by mark moment pending flying pending' flying' =
    if (not pending && pending') || (flying && not flying') then moment else mark

-- the pace of a level with these values
abbrev pub pace_seen : Values → Pace
pace_seen v = record { send = v.send_wait; idle = v.idle }

abbrev pub no_pace : Pace
no_pace = record { send = 0; idle = 0 }

abbrev pub paced : Option Values → Pace → Pace
paced None pace = pace
paced (Some v) pace = pace_seen v

abbrev pub or_values : Option Values → Option Values → Option Values
or_values None other = other
or_values (Some v) other = Some v

-- A step of a response is paced by the values of the level that answers, where it puts the head, and by what it was before
-- elsewhere; before and after are those values until the head is put, by the trees that answer the jobs, where this is so.
pub record IsPaced (Premise : Type 0) (before after : Trees → Option Values) (old new : Pace) : Type 0 where
  pub told : Option Values
  pub pace : new ≡ paced told old
  pub level : Premise → (trees : Trees) → or_values told (after trees) ≡ before trees

-- the values of the level that answers a head
abbrev pub values_in : Service → Trees → Start → RequestHead → Option ServerView → Option Values
values_in service trees start head None = None
values_in service trees start head (Some server) =
    Some (reply_in service (trees start.tree) start head server).answer.values

-- a server's own values
abbrev pub own_values : Option ServerView → Option Values
own_values None = None
own_values (Some server) = Some server.level.values

-- These are the values of the level that answers a request which starts, where its head is put; what is no request is answered
-- by the own values of the server at the local end.
abbrev pub LevelFor : Service → Start → HeadStep → (after : Trees → Option Values) →
    (told : Option Values) → Type 0
LevelFor service now (Head head size) after told = (trees : Trees) → or_values told (after trees)
    ≡ values_in service trees now head (server_for service head)
LevelFor service now (Bad code no_body) after told =
    told ≡ own_values (default_server service.site.servers service.local)
LevelFor service now More after told = ⊥

-- a request starts, with this pace before it, where this is so
pub record PacedFor (Premise : Type 0) (service : Service) (now : Start) (next : HeadStep)
    (after : Trees → Option Values) (old new : Pace) : Type 0 where
  pub told : Option Values
  pub pace : new ≡ paced told old
  pub level : Premise → LevelFor service now next after told

-- how long a head is awaited, by the own values of the server at the local end
abbrev pub head_wait_in : Option Values → ℕ
head_wait_in None = 0
head_wait_in (Some v) = seconds_in v.head_wait
