use Rattle.std.proofs.Common.{sym, ap, ◌∙◌}
use Rattle.acts.specs.Act.{settled}
use Rattle.site_whole.specs.Whole.{values_seen}
use Rattle.request_meaning.specs.Commands.{command}
use Rattle.ssi_exec.specs.Named.{word_seen}
use Rattle.ssi_exec.specs.Scenes.{doc_seen}
use Rattle.ssi_exec.proofs.Acts as acts
use Rattle.ssi_exec.proofs.document.Document.command.Goals as goal

pub returns-then-not-are_params : goal.returns-then-not-are_params
unfolding values_seen
returns-then-not-are_params c = λ part w h.
    let doc = doc_seen c.args.scene.now c.args.self.now in
    acts.text_served c.args.vars.now (command w doc c.args.name.now c.args.ps.now) part c.of.result c.in_ok-bad-in-Some.bad doc (c.of.ensures part doc)
    (acts.bad_params w doc c.args.name.now c.args.ps.now (word_seen c.in-Some.word) c.in-Some.ensures (sym c.if-not-are_params.ensures) ∙ c.in_ok-bad-in-Some.ensures)

pub returns-in_ok-served-in-Some : goal.returns-in_ok-served-in-Some
unfolding values_seen
returns-in_ok-served-in-Some c = λ part w h.
    let doc = doc_seen c.args.scene.now c.args.self.now in
    ap (λ m. settled m c.args.vars.now) (acts.good_params w doc c.args.name.now c.args.ps.now (word_seen c.in-Some.word) c.in-Some.ensures (sym c.if-not-are_params.ensures))
    ∙ c.in_ok-served-in-Some.ensures part w h

pub returns-in_ok-text-in-None : goal.returns-in_ok-text-in-None
returns-in_ok-text-in-None c = λ part w h.
    let doc = doc_seen c.args.scene.now c.args.self.now in
    acts.text_served c.args.vars.now (command w doc c.args.name.now c.args.ps.now) part c.of-in-None.result c.in_ok-text-in-None.text doc (c.of-in-None.ensures part doc)
    (acts.no_word w doc c.args.name.now c.args.ps.now c.in-None.ensures ∙ c.in_ok-text-in-None.ensures)
