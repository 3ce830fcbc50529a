-- The events that a core has kept.
use Rattle.std.specs.Prelude.{List, Option}
use Rattle.ngx_outside.specs.Records.{Given, Opened, Arrived, Ended, Wrote, LinkFailed, Answered, Run, Tick, Tree, Gone}
use Rattle.memory_outside.specs.declared.answers.Answers.{Answers}
use Rattle.telling_core.specs.declared.event.GivenEvent.{GivenEvent}
use Rattle.telling_core.specs.declared.event.GivenEvent.TheVariants as event
use Rattle.memory_outside.specs.Answered.{file_answer, told_by}

abbrev pub given_event : GivenEvent → Given
given_event (event.Opened conn local peer) = Opened conn local peer
given_event (event.Arrived conn bytes) = Arrived conn bytes
given_event (event.Ended conn) = Ended conn
given_event (event.Wrote conn count) = Wrote conn count
given_event (event.LinkFailed conn) = LinkFailed conn
given_event (event.Answered conn node answer) = Answered conn node (file_answer answer)
given_event (event.Run conn node) = Run conn node
given_event (event.Tick moment) = Tick moment
given_event (event.Tree to) = Tree to
given_event (event.Gone conn) = Gone conn

abbrev pub events_told : Answers GivenEvent → Option (List Given)
events_told a = told_by given_event a.whole a.kept.items
