use Rattle.std.proofs.Common.{codes, ap, sym, ◌∙◌, option_map}
use Rattle.request_meaning.specs.Commands.{child_of, param}
use Rattle.ssi_exec.specs.Scenes.{child_seen, doc_seen}
use Rattle.ssi_exec.proofs.Acts as acts
use Rattle.ssi_exec.proofs.document.Document.include_child.Goals as goal

pub returns-in_ok-name-in-Some : goal.returns-in_ok-name-in-Some
returns-in_ok-name-in-Some c = λ scene part ps says.
    let doc = doc_seen scene c.args.self.now in
    acts.captures_by doc (child_of doc ps c.args.target.path c.args.target.args) (child_seen scene.main.now c.in_ok-child.child) (param (codes "set") ps) c.in-Some.name.now c.in_ok-name-in-Some.name (ap (λ o. option_map (λ n. n.now) o) (sym c.in-Some.is) ∙ says.set) (c.in_ok-child.ensures scene ps says) c.in_ok-name-in-Some.ensures

pub returns-in-None : goal.returns-in-None
returns-in-None c = λ scene part ps says.
    let doc = doc_seen scene c.args.self.now in
    acts.includes_by doc (child_of doc ps c.args.target.path c.args.target.args) (child_seen scene.main.now c.in_ok-child.child) (param (codes "set") ps) (ap (λ o. option_map (λ n. n.now) o) (sym c.in-None.is) ∙ says.set) (c.in_ok-child.ensures scene ps says)
