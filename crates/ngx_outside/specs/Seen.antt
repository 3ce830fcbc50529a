-- What a core, links, files, a clock and a sink show, told before a call and after it.
use Rattle.std.specs.Prelude.{ℕ, Bool, not, ◌&&◌, nat_lt, List, length, Option}
use Rattle.file_tree.specs.Tree.{Trees}
use Rattle.http_types.specs.declared.words.Addr.{Addr}
use Rattle.ngx_outside.specs.Linked.{LinkView}
use Rattle.ngx_outside.specs.Records.{Given, LinkAnswer, FileAnswer}
use Rattle.ngx_outside.specs.Views.{ConnView, Course, Start}

-- What a core keeps to: what is to come on a connection that is opened, by its local end and its
-- peer; whether anyone answers at a local end; how many connections are held at most; how much an
-- opening and each byte that arrives may add to the work that is left; and whether it keeps the
-- requests of its connections, to be told.
pub record Terms : Type 0 where
  pub fresh : Addr → Addr → Course
  pub serves : Addr → Bool
  pub limit : ℕ
  pub price : ℕ
  pub keeps : Bool

-- A core: what it shows of each connection, by its number; the numbers of those that are held, in
-- their order; what it keeps to; when a request starts that is started now; the work that is left;
-- how many events were refused for want of memory; and the events that were given, where that is
-- told.
pub record CoreSeen : Type 0 where
  pub view : ℕ → ConnView
  pub conns : List ℕ
  pub terms : Terms
  pub now : Start
  pub left : ℕ
  pub refused : ℕ
  pub events : Option (List Given)

-- whether a connection of this number can be opened at a local end: it isn't held, fewer than the
-- limit are, and somebody answers there
abbrev pub opens_at : CoreSeen → ℕ → Addr → Bool
opens_at core conn local = not (core.view conn).held &&
    (nat_lt (length core.conns) core.terms.limit && core.terms.serves local)

-- Links: whether they tell what was read and written, and each link by its id; the ids that were
-- reported, those of them that aren't closed, and the addresses that are listened on, which are
-- always told; how many links are open; whether no notice will come any more; how many notices were
-- told; what calls answered, where that is told; how often listen or next failed, and how often the
-- link of an id; and how many events the core refused, as it was told last.
pub record LinksSeen : Type 0 where
  pub tells : Bool
  pub link : ℕ → LinkView
  pub used : ℕ → Bool
  pub is_open : ℕ → Bool
  pub listening : List Addr
  pub crowd : ℕ
  pub over : Bool
  pub notices : ℕ
  pub answers : Option (List LinkAnswer)
  pub faults : ℕ
  pub link_faults : ℕ → ℕ
  pub refused : ℕ

-- Files: whether they tell what is at each path, and the tree of each number; the number of the
-- newest tree; the bytes that were read last; the numbers that were told as the newest, and what
-- stats and reads answered, each where that is told; and how often a call failed.
pub record FilesSeen : Type 0 where
  pub tells : Bool
  pub trees : Trees
  pub newest : ℕ
  pub block : List ℕ
  pub versions : Option (List ℕ)
  pub answers : Option (List FileAnswer)
  pub faults : ℕ

-- a clock: whether it tells its moments, and these
pub record ClockSeen : Type 0 where
  pub tells : Bool
  pub told : List ℕ

-- a sink: whether it tells what it has taken, and that; and how often a put failed
pub record SinkSeen : Type 0 where
  pub tells : Bool
  pub written : List ℕ
  pub faults : ℕ
