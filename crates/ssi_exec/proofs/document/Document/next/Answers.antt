use Rattle.std.proofs.Common.{Some, None, cond, sym, ap, ◌∙◌}
use Rattle.acts.specs.Act.{settled}
use Rattle.site_whole.specs.Whole.{values_seen}
use Rattle.ssi_text.specs.declared.part.Part.TheVariants as parts
use Rattle.request_meaning.specs.Bodies.{part}
use Rattle.ssi_exec.specs.Scenes.{doc_seen, served_act}
use Rattle.ssi_exec.proofs.Acts as acts
use Rattle.ssi_exec.proofs.document.Document.next.Goals as goal

pub returns-in_ok-live-in-Text : goal.returns-in_ok-live-in-Text
unfolding part
returns-in_ok-live-in-Text c = λ w h.
    let scene = c.args.scene.now in
    let doc = doc_seen scene c.args.self.now in
    let new = doc_seen scene c.text.new.self in
    let t = c.as_slice.result.now in
    let is = c.in-Text.is ∙ ap (λ t. parts.Text t) (sym c.as_slice.ensures) in
    ap (λ p. settled (part w doc p) c.args.vars.now) is
    ∙ (acts.text_served c.args.vars.now (part w doc (parts.Text t)) (parts.Text t) c.same.result (cond c.in_ok-live-in-Text.live (Some t) None) new (c.same.ensures t new) (c.in_ok-live-in-Text.ensures.part scene)
    ∙ ap (λ p. (served_act p c.same.result new, c.args.vars.now)) (sym is))

pub returns-in_ok-served-in-Command : goal.returns-in_ok-served-in-Command
unfolding part
returns-in_ok-served-in-Command c = λ w h.
    let doc = doc_seen c.args.scene.now c.args.self.now in
    let is = c.in-Command.is ∙ (ap (λ n. parts.Command n c.in-Command.params) (sym c.as_slice-in-Command.ensures) ∙ ap (λ ps. parts.Command c.as_slice-in-Command.result.now ps) (sym c.as_slice-in-Command-2.ensures)) in
    ap (λ p. settled (part w doc p) c.args.vars.now) is ∙ c.in_ok-served-in-Command.ensures c.args.part.now w h

pub returns-in_ok-text-in-Bad : goal.returns-in_ok-text-in-Bad
unfolding part
returns-in_ok-text-in-Bad c = λ w h.
    let scene = c.args.scene.now in
    let doc = doc_seen scene c.args.self.now in
    let new = doc_seen scene c.bad.new.self in
    ap (λ p. settled (part w doc p) c.args.vars.now) c.in-Bad.is
    ∙ acts.text_served c.args.vars.now (part w doc parts.Bad) c.args.part.now c.of.result c.in_ok-text-in-Bad.text new (c.of.ensures c.args.part.now new) c.in_ok-text-in-Bad.ensures

pub returns-in_ok-served-in-Before : goal.returns-in_ok-served-in-Before
unfolding part values_seen
returns-in_ok-served-in-Before c = λ w h.
    let doc = doc_seen c.args.scene.now c.args.self.now in
    ap (λ p. settled (part w doc p) c.args.vars.now) c.in-Before.is
    ∙ acts.by_serving c.args.vars.now (part w doc parts.Before) c.args.part.now c.in_ok-served-in-Before.served doc (c.in_ok-served-in-Before.ensures c.args.part.now)

pub returns-in_ok-served-in-After : goal.returns-in_ok-served-in-After
unfolding part values_seen
returns-in_ok-served-in-After c = λ w h.
    let doc = doc_seen c.args.scene.now c.args.self.now in
    ap (λ p. settled (part w doc p) c.args.vars.now) c.in-After.is
    ∙ acts.by_serving c.args.vars.now (part w doc parts.After) c.args.part.now c.in_ok-served-in-After.served doc (c.in_ok-served-in-After.ensures c.args.part.now)
