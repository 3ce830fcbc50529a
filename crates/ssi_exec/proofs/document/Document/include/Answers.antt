use Rattle.std.proofs.Common.{ℕ, List, Some, false, true, sym, ap, ◌∙◌, option_map}
use Rattle.ssi_values.specs.Known.{filled_text}
use Rattle.ssi_exec.specs.Scenes.{doc_seen, known_at}
use Rattle.ssi_exec.proofs.Acts as acts
use Rattle.ssi_exec.proofs.document.Document.include.Goals as goal

pub returns-in_default : goal.returns-in_default
returns-in_default c = λ part w h.
    let scene = c.args.scene.now in
    let d = c.args.self.now in
    let ps = c.args.ps.now in
    acts.not_included scene d c.args.vars.now w h ps part c.in_ok-served.served (acts.apart (doc_seen scene d) ps (c.read_asked.ensures.none c.in_default.is)) (c.in_ok-served.ensures part)

pub returns-then-not-is_there : goal.returns-then-not-is_there
returns-then-not-is_there c = λ part w h.
    let scene = c.args.scene.now in
    let d = c.args.self.now in
    let ps = c.args.ps.now in
    let asked = c.in-Some.ensures.some in
    let none = acts.with_stub (doc_seen scene d) ps (option_map (λ n. n.now) c.in-Some.asked.stub) false asked.1.stub asked.0 (sym c.if-not-is_there.ensures) in
    acts.not_included scene d c.args.vars.now w h ps part c.in_ok-served-2.served none (c.in_ok-served-2.ensures part)

pub returns-then-is_of_itself : goal.returns-then-is_of_itself
returns-then-is_of_itself c = λ part w h.
    let scene = c.args.scene.now in
    let d = c.args.self.now in
    let ps = c.args.ps.now in
    let k = known_at scene d c.args.vars.now in
    let asked = c.in-Some.ensures.some in
    let good = acts.with_stub (doc_seen scene d) ps (option_map (λ n. n.now) c.in-Some.asked.stub) true asked.1.stub asked.0 (sym c.if-not-is_there.ensures) in
    acts.path_included scene d c.args.vars.now w h ps part c.in_ok-child.child c.in-Some.asked.name.now good c.filled_settles.ensures
    (sym (c.is_of_itself.ensures c.if-is_of_itself.true k) ∙ ap (λ t. filled_text k t) asked.1.name) (c.in_ok-child.ensures part ps asked.1)

pub returns-in_ok-child-in-Some-text : goal.returns-in_ok-child-in-Some-text
returns-in_ok-child-in-Some-text c = λ part w h.
    let scene = c.args.scene.now in
    let d = c.args.self.now in
    let ps = c.args.ps.now in
    let asked = c.in-Some.ensures.some in
    let good = acts.with_stub (doc_seen scene d) ps (option_map (λ n. n.now) c.in-Some.asked.stub) true asked.1.stub asked.0 (sym c.if-not-is_there.ensures) in
    acts.path_included scene d c.args.vars.now w h ps part c.in_ok-child-in-Some-text.child c.as_slice.result.now good c.filled_settles.ensures
    (ap (λ (t : List ℕ). Some t) c.as_slice.ensures ∙ (sym c.in-Some-text.is ∙ (c.in_ok-text.ensures ∙ ap (λ t. filled_text (known_at scene d c.args.vars.now) t) asked.1.name))) (c.in_ok-child-in-Some-text.ensures part ps asked.1)

pub returns-in_ok-none-in-None : goal.returns-in_ok-none-in-None
returns-in_ok-none-in-None c = λ part w h.
    let scene = c.args.scene.now in
    let d = c.args.self.now in
    let ps = c.args.ps.now in
    let asked = c.in-Some.ensures.some in
    let good = acts.with_stub (doc_seen scene d) ps (option_map (λ n. n.now) c.in-Some.asked.stub) true asked.1.stub asked.0 (sym c.if-not-is_there.ensures) in
    acts.unread_included scene d c.args.vars.now w h ps part c.in_ok-none-in-None.none good c.filled_settles.ensures
    (sym c.in-None.is ∙ (c.in_ok-text.ensures ∙ ap (λ t. filled_text (known_at scene d c.args.vars.now) t) asked.1.name)) (c.in_ok-none-in-None.ensures part)
