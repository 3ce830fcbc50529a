use Rattle.std.proofs.Common.{option_map, sym, ap, ◌∙◌}
use Rattle.acts.specs.Act.{settled}
use Rattle.request_meaning.specs.Bodies.{command_part}
use Rattle.request_meaning.specs.Commands.{command}
use Rattle.ssi_exec.specs.Scenes.{block_seen, doc_seen}
use Rattle.ssi_exec.proofs.Acts as acts
use Rattle.ssi_exec.proofs.Inside as inside
use Rattle.ssi_exec.proofs.document.Document.command_part.Goals as goal

pub returns-in_ok-text-in-Some : goal.returns-in_ok-text-in-Some
unfolding command_part
returns-in_ok-text-in-Some c = λ part w h.
    let scene = c.args.scene.now in
    let doc = doc_seen scene c.args.self.now in
    let new = doc_seen scene c.block_command.new.self in
    let name = c.args.name.now in
    let ps = c.args.ps.now in
    acts.text_served c.args.vars.now (command_part w doc name ps (option_map block_seen c.args.self.now.block)) part c.of.result c.in_ok-text-in-Some.text new (c.of.ensures part new)
    (ap (λ b. command_part w doc name ps (option_map block_seen b)) (sym c.in-Some.ensures.value)
    ∙ (sym (inside.command_anyhow doc (option_map block_seen c.take.new.self) c.in-Some.block.name c.in-Some.block.bytes name ps) ∙ c.in_ok-text-in-Some.ensures))

pub returns-in_ok-served-in-None : goal.returns-in_ok-served-in-None
unfolding command_part
returns-in_ok-served-in-None c = λ part w h.
    let scene = c.args.scene.now in
    let doc = doc_seen scene c.args.self.now in
    let name = c.args.name.now in
    let ps = c.args.ps.now in
    let same = ap (λ b. option_map block_seen b) (sym c.in-None.ensures.value ∙ sym c.in-None.ensures.after) in
    ap (λ b. settled (command_part w doc name ps (option_map block_seen b)) c.args.vars.now) (sym c.in-None.ensures.value)
    ∙ (ap (λ d. settled (command w d name ps) c.args.vars.now) (sym (inside.taken doc (option_map block_seen c.take.new.self) same)) ∙ c.in_ok-served-in-None.ensures part w h)
