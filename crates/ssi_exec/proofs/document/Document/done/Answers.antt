use Rattle.std.proofs.Common.{sym, ap, ◌∙◌}
use Rattle.acts.specs.Act.{settled}
use Rattle.request_meaning.specs.Commands.{done}
use Rattle.ssi_exec.specs.declared.document.Served.TheVariants as served
use Rattle.ssi_exec.specs.Named.{word_seen}
use Rattle.ssi_exec.specs.Scenes.{doc_seen}
use Rattle.ssi_exec.proofs.Acts as acts
use Rattle.ssi_exec.proofs.document.Document.done.Goals as goal

pub returns-then-is_idle : goal.returns-then-is_idle
returns-then-is_idle c = λ part w h.
    let doc = doc_seen c.args.scene.now c.args.self.now in
    let x = word_seen c.args.word in
    acts.by_serving c.args.vars.now (done w doc x c.args.ps.now) part served.Nothing doc (acts.does_nothing w doc x c.args.ps.now (sym c.is_idle.ensures ∙ c.if-is_idle.true))

pub returns-then-includes : goal.returns-then-includes
returns-then-includes c = λ part w h.
    let doc = doc_seen c.args.scene.now c.args.self.now in
    let x = word_seen c.args.word in
    ap (λ m. settled m c.args.vars.now) (acts.does_it w doc x c.args.ps.now (sym c.is_idle.ensures ∙ c.if-is_idle.false) ∙ acts.does_include w doc x c.args.ps.now (sym c.includes.ensures ∙ c.if-includes.true))
    ∙ c.in_ok-served.ensures part w h

pub returns : goal.returns
returns c = λ part w h.
    let scene = c.args.scene.now in
    let doc = doc_seen scene c.args.self.now in
    let x = word_seen c.args.word in
    acts.as_served c.args.vars.now (done w doc x c.args.ps.now) part c.of.result c.in_ok-text.text (doc_seen scene c.written_by.new.self) (c.of.ensures part (doc_seen scene c.written_by.new.self))
    (ap (λ m. settled m c.args.vars.now) (acts.does_it w doc x c.args.ps.now (sym c.is_idle.ensures ∙ c.if-is_idle.false)) ∙ c.in_ok-text.ensures (sym c.includes.ensures ∙ c.if-includes.false) w h)
