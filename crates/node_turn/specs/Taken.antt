-- What a node comes to where the next part of its page is taken up.
use Rattle.acts.specs.Vars.{Vars}
use Rattle.std.specs.Prelude.{◌≡◌, ℕ, List, true, false}
use Rattle.acts.specs.Act.{Call, Inner}
use Rattle.page_body.specs.ngx_variables.declared.request.Main.{Main}
use Rattle.request_reply.specs.request_meaning.Serving.{Serving, Answer}
use Rattle.page_body.specs.ssi_exec.Scenes.{child_seen}
use Rattle.node_turn.specs.Stages.{is_capturing}
use Rattle.node_turn.specs.Turns.{Works}
use Rattle.node_turn.specs.declared.node.Stage.{Stage}
use Rattle.node_turn.specs.declared.turn.Turn.{Turn}
use Rattle.node_turn.specs.declared.turn.Turn.TheVariants.{On, Opens, Asks}

-- Variables are read, and the node goes on, maybe after a subrequest whose body is here; or it waits for the body of one.
abbrev pub TakesTo : Main → Vars → (old new : Serving Answer) → (heard : List ℕ → Serving Answer) → Turn → Type 0
TakesTo main vars old new heard On = Works vars old new
TakesTo main vars old new heard (Opens child) = Works vars old (Inner (child_seen main child) new)
TakesTo main vars old new heard (Asks child) = Works vars old (Call (child_seen main child) (λ reply. heard reply.body))

-- Where it waits for the body of a subrequest, that goes into a variable; and not where it goes on after one.
abbrev pub WaitsBy : Turn → Stage → Type 0
WaitsBy On stage = Unit {0}
WaitsBy (Opens child) stage = is_capturing stage ≡ false
WaitsBy (Asks child) stage = is_capturing stage ≡ true
