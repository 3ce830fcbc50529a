use Rattle.std.proofs.Common.{sym, ap, ◌∙◌, subst, ℕ, List}
use Rattle.file_tree.specs.Tree.{AFile, known_text, text_of, tree_of}
use Rattle.request_meaning.specs.Laws.{shipped}
use Rattle.request_meaning.specs.Serving.{Serving, Prepared}
use Rattle.reply_out.specs.request_phases.Rounds.{world_in, phases_told, phases_left}
use Rattle.request_flow.specs.Flows.{found_item, item_asked, told_text_item}
use Rattle.reply_out.specs.declared.terms.InPhases.{InPhases}
use Rattle.request_flow.specs.Terms.{terms_seen}
use Rattle.request_flow.specs.Padded.{padded}
use Rattle.request_flow.specs.Pages.{GoesTo}
use Rattle.request_flow.specs.Reached.{IsReachedAt}
use Rattle.request_flow.specs.Rests.{act_rest, finished}
use Rattle.request_flow.proofs.Pieces.{told_node, told_text}
use Rattle.request_flow.proofs.Reaching.{goes_on}
use Rattle.request_flow.proofs.Turns.{act_settles}
use Rattle.request_flow.proofs.run.run_told.Goals as goal

pub returns-in_ok-go_on-in-Ok-clause-goes : goal.returns-in_ok-go_on-in-Ok-clause-goes
returns-in_ok-go_on-in-Ok-clause-goes c = λ trees.
    let g = c.args.ground.now in
    let site = g.site.now in
    let patterns = c.args.space.now.patterns in
    let w = world_in patterns g shipped in
    let h = c.args.heard in
    let q = c.deref_mut-inside.result.now in
    let tree = trees (tree_of h.ask) in
    let found = h.found in
    let there = AFile (known_text found.text (text_of (item_asked trees h.ask))) 0 in
    let item = found_item found (item_asked trees h.ask) in
    let step = c.in-Ok.step in
    let left : List ℕ → Serving Prepared = λ bytes. phases_left w patterns site bytes c.resume.new.phases step in
    subst (λ b. GoesTo w patterns site trees b c.args.out.now c.go_on.new.out c.args.closing c.in_ok-go_on-in-Ok.field-0) (sym
    (ap (λ (q : InPhases). act_rest w tree (terms_seen q.terms) (phases_told w patterns site q.phases h.wait item) q.vars) (sym c.deref_mut-inside.ensures.value)
    ∙ (act_settles w tree (terms_seen q.terms) (phases_told w patterns site q.phases h.wait item) (left (text_of item)) q.vars c.resume.new.vars (c.in-Ok.ensures.does item (told_node found.node there) shipped)
    ∙ ap (λ b. act_rest w tree (terms_seen q.terms) (left b) c.resume.new.vars)
    (told_text found.node there ∙ ap (λ n. padded n (text_of there)) (sym c.length_of-len.ensures)))))
    (c.in_ok-go_on-in-Ok.ensures.goes patterns trees)

pub returns-in_ok-go_on-in-Ok-clause-reached : goal.returns-in_ok-go_on-in-Ok-clause-reached
returns-in_ok-go_on-in-Ok-clause-reached c = λ reached.
    let g = c.args.ground.now in
    let site = g.site.now in
    let patterns = c.args.space.now.patterns in
    let w = world_in patterns g shipped in
    let h = c.args.heard in
    let q = c.deref_mut-inside.result.now in
    let step = c.in-Ok.step in
    let left : List ℕ → Serving Prepared = λ bytes. phases_left w patterns site bytes c.resume.new.phases step in
    c.in_ok-go_on-in-Ok.ensures.reached w patterns site
    (λ text.
    let node = h.found.node in
    let item = told_text_item node text in
    let told = phases_told w patterns site q.phases h.wait item in
    goes_on w told (left (padded c.length_of-len.result text)) q.vars c.resume.new.vars
    (subst (λ (q : InPhases). IsReachedAt w (finished w (phases_told w patterns site q.phases h.wait item)) q.vars) (sym c.deref_mut-inside.ensures.value) (reached text))
    (c.in-Ok.ensures.does item (told_node node (AFile text 0)) shipped
    ∙ ap (λ b. (left b, c.resume.new.vars)) (told_text node (AFile text 0) ∙ ap (λ n. padded n text) (sym c.length_of-len.ensures))))
