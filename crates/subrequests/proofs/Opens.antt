-- A subrequest's node does what its script says.
use Rattle.std.proofs.Common.{◌≡◌, ℕ, List, [], true, false, None, ap, ◌∙◌}
use Rattle.http_types.specs.declared.words.Method.{Method}
use Rattle.http_types.specs.declared.words.Method.TheVariants.{Get as GetMethod}
use Rattle.ngx_variables.specs.declared.request.Main.{Main}
use Rattle.ngx_variables.specs.declared.request.Request.{Request}
use Rattle.ngx_variables.specs.declared.request.Role.TheVariants.{Content}
use Rattle.request_meaning.specs.Phases.{rounds}
use Rattle.request_meaning.specs.Replies.{child_asked, script, served}
use Rattle.request_meaning.specs.Serving.{Asked, World}
use Rattle.request_meaning.specs.Serving.From.{Start}
use Rattle.node_line.specs.request_phases.Rounds.{asked_from, handled_seen}
use Rattle.node_line.specs.request_phases.declared.state.Phases.{Phases}
use Rattle.node_line.specs.ssi_exec.Scenes.{child_seen}
use Rattle.node_line.specs.ssi_exec.declared.document.Child.{Child}
use Rattle.node_line.specs.node_turn.Nodes.{lent, of_method, served_as}

pub record IsAsked (p : Phases) (path args : List ℕ) : Type 0 where
  pub request : p.at.request ≡ record { method = GetMethod; path = path; args = args; groups = []; place = None; role = Content }
  pub inside : p.at.inside ≡ true
  pub error : p.error ≡ None
  pub closes : p.closes ≡ false

asked_is : (method : Method) (main : Main) (p : Phases) (child : Child) → p.main.method ≡ method → IsAsked p child.path child.args → asked_from (lent main p) Start ≡ child_asked (child_seen (of_method method main) child)
asked_is method main p child m is =
    let made : Main → Request → Asked = λ main request. record { main = main; request = request; from = Start; inside = p.at.inside; error = handled_seen p.error; closes = p.closes } in
    ap (λ n. made (of_method n main) p.at.request) m
    ∙ (ap (λ r. made (of_method method main) r) is.request
    ∙ (ap (λ i. record (child_asked (child_seen (of_method method main) child)) { inside = i; error = handled_seen p.error; closes = p.closes }) is.inside
    ∙ (ap (λ e. record (child_asked (child_seen (of_method method main) child)) { error = handled_seen e; closes = p.closes }) is.error
    ∙ ap (λ x. record (child_asked (child_seen (of_method method main) child)) { closes = x }) is.closes)))

pub script_is : (w : World) (left : ℕ) (method : Method) (main : Main) (p : Phases) (child : Child) → p.main.method ≡ method →
    (p.at.request ≡ record { method = GetMethod; path = child.path; args = child.args; groups = []; place = None; role = Content }) × (p.at.inside ≡ true) × (p.error ≡ None) × (p.closes ≡ false) × (p.changes ≡ 10) →
    served_as w left child.ssi (rounds w p.changes (asked_from (lent main p) Start)) ≡ script w left (child_seen (of_method method main) child)
unfolding script served
script_is w left method main p child m is =
    ap (λ n. served_as w left child.ssi (rounds w n (asked_from (lent main p) Start))) is.4
    ∙ ap (λ a. served_as w left child.ssi (rounds w 10 a)) (asked_is method main p child m (record { request = is.0; inside = is.1; error = is.2; closes = is.3 }))
