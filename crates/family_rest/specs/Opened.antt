-- How many subrequests a step opens.
use Rattle.std.specs.Prelude.{ℕ, ◌+◌}
use Rattle.file_tree.specs.Tree.{Tree}
use Rattle.acts.specs.Vars.{Vars}
use Rattle.family_meaning.specs.request_meaning.Serving.{World}
use Rattle.family_meaning.specs.Line.{Line}
use Rattle.family_meaning.specs.Moves.{Quiet, Moves}
use Rattle.family_meaning.specs.Moves.Quiet.{Learns as LineLearns, Places as LinePlaces, Placed as LinePlaced, Merges as LineMerges, Opens as LineOpens, Asks as LineAsks, Hears as LineHears, Leaves, Keeps as LineKeeps, Decides as LineDecides, Chooses, Parts, Gone, PastBytes, PastNode, PastWait, Within as LineWithin, PastStub, WithinStub as LineWithinStub}
use Rattle.family_meaning.specs.Moves.Moves.{Quietly, ByTable}
use Rattle.family_order.specs.Items.{Family}
use Rattle.family_order.specs.Acts.{Acts, Goes}
use Rattle.family_order.specs.Acts.Acts.{Thinks, Reads, Learns, Places, Placed, Merges, Opens, Asks, Within, Hears, Ends, WithinStub, Keeps, Decides}
use Rattle.family_order.specs.Acts.Goes.{Stays, Acting, Leaving, Alike}

-- by a step of a line that neither reads nor writes a variable: one where a node opens a subrequest, or asks for its reply
abbrev pub opened_quietly : {w : World} {tree : Tree} {line line' : Line} → Quiet w tree line line' → ℕ
opened_quietly LineLearns = 0
opened_quietly LinePlaces = 0
opened_quietly LinePlaced = 0
opened_quietly LineMerges = 0
opened_quietly (LineOpens number) = 1
opened_quietly (LineAsks number) = 1
opened_quietly (LineHears reply e) = 0
opened_quietly (Leaves h) = 0
opened_quietly (LineKeeps k h) = 0
opened_quietly (LineDecides reply e h) = 0
opened_quietly (Chooses node left reply e) = 0
opened_quietly Parts = 0
opened_quietly Gone = 0
opened_quietly (PastBytes q) = opened_quietly q
opened_quietly (PastNode q) = opened_quietly q
opened_quietly (PastWait q) = opened_quietly q
opened_quietly (LineWithin q) = opened_quietly q
opened_quietly (PastStub q) = opened_quietly q
opened_quietly (LineWithinStub q) = opened_quietly q

-- by a step of a line: none where a node reads and writes variables
abbrev pub opened_move : {w : World} {tree : Tree} {line : Line} {vars : Vars} {line' : Line} {vars' : Vars} → Moves w tree line vars line' vars' → ℕ
opened_move (Quietly q) = opened_quietly q
opened_move (ByTable t) = 0

-- by a step of a family
abbrev pub opened_by : {w : World} {tree : Tree} {f : Family} {vars : Vars} {g : Family} {vars' : Vars} → Acts w tree f vars g vars' → ℕ
opened_by (Thinks n d) = 0
opened_by (Reads n d) = 0
opened_by (Learns n d) = 0
opened_by (Places n some more d) = 0
opened_by (Placed n d) = 0
opened_by (Merges n d) = 0
opened_by (Opens n d) = 1
opened_by (Asks n number d) = 1
opened_by (Within n d m) = opened_move m
opened_by (Hears n reply d e) = 0
opened_by (Ends n d k) = 0
opened_by (WithinStub n d m) = opened_move m
opened_by (Keeps own stub ahead behind a b o well body some) = 0
opened_by (Decides n reply d e k) = 0

-- by any number of steps
abbrev pub opened_going : {w : World} {tree : Tree} {f : Family} {vars : Vars} {g : Family} {vars' : Vars} → Goes w tree f vars g vars' → ℕ
opened_going Stays = 0
opened_going (Acting a more) = opened_by a + opened_going more
opened_going (Leaving count more) = opened_going more
opened_going (Alike a more) = opened_going more
