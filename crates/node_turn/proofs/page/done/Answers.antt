use Rattle.std.proofs.Common.{◌≡◌, ℕ, List, Some, sym, ap, ◌∙◌, subst}
use Rattle.acts.specs.Act.{Call, Inner}
use Rattle.request_reply.specs.request_meaning.Serving.{Serving, Answer}
use Rattle.request_reply.specs.request_meaning.Laws.{shipped}
use Rattle.request_reply.specs.request_phases.Rounds.{world_in}
use Rattle.page_body.specs.ssi_exec.Scenes.{child_seen}
use Rattle.page_body.specs.Pages.{Does, stop_of}
use Rattle.node_turn.specs.Nodes.{answer_seen, captured_act, captured_at, later, page_at, served_act, stage_act, stage_heard}
use Rattle.node_turn.specs.Turns.{Works}
use Rattle.node_turn.specs.declared.node.Stage.{Stage}
use Rattle.node_turn.specs.Served.{is_spent}
use Rattle.node_turn.specs.declared.node.Body.{Body}
use Rattle.node_turn.proofs.Serving as serving
use Rattle.node_turn.proofs.page.done.Goals as goal

pub returns-in-Nothing-clause-acts : goal.returns-in-Nothing-clause-acts
returns-in-Nothing-clause-acts c = λ g p levels patterns path file vars old page has is h over.
    let w = world_in patterns g shipped in
    let site = g.site.now in
    let b = c.args.body.value in
    let answer = answer_seen site p b.answered in
    let new = page_at w site p levels answer page (later b file) in
    subst (λ (s : Stage). Works vars old (stage_act w patterns site p levels path s file)) (sym c.fill.ensures.put)
    (serving.both (serving.reads_work (subst (λ d. Does p.main vars d old new (captured_at w site p levels answer page (later b file))) c.in-Nothing.is h))
    (serving.same_work (sym (ap (λ x. served_act w site p levels answer x (later b file)) has))))

pub returns-in-Writes-clause-acts : goal.returns-in-Writes-clause-acts
returns-in-Writes-clause-acts c = λ g p levels patterns path file vars old page has is h over.
    let w = world_in patterns g shipped in
    let site = g.site.now in
    let b = c.args.body.value in
    let answer = answer_seen site p b.answered in
    let new = page_at w site p levels answer page (later b file) in
    let others = c.with_bytes.ensures.others in
    subst (λ (s : Stage). Works vars old (stage_act w patterns site p levels path s file)) (sym c.fill-in-Writes.ensures.put)
    (serving.both (serving.writes vars c.in-Writes.text old new (subst (λ d. Does p.main vars d old new (captured_at w site p levels answer page (later b file))) c.in-Writes.is h))
    (serving.same_work (sym (serving.body_placed w site p levels c.with_bytes.result.value b.answered b.source (Some page) (others.0, others.1, others.2 ∙ has) file c.in-Writes.text c.with_bytes.ensures.hand))))

pub returns-in-Includes-clause-acts : goal.returns-in-Includes-clause-acts
returns-in-Includes-clause-acts c = λ g p levels patterns path file vars old page has is h over.
    let w = world_in patterns g shipped in
    let site = g.site.now in
    let b = c.args.body.value in
    let answer = answer_seen site p b.answered in
    let new = page_at w site p levels answer page (later b file) in
    let child = child_seen p.main c.in-Includes.child in
    subst (λ (s : Stage). Works vars old (Inner child (stage_act w patterns site p levels path s file))) (sym c.fill-in-Includes.ensures.put)
    (serving.both (serving.reads_work (subst (λ d. Does p.main vars d old new (captured_at w site p levels answer page (later b file))) c.in-Includes.is h))
    (serving.same_work (sym (ap (λ x. Inner child (served_act w site p levels answer x (later b file))) has))))

pub returns-in-Captures-clause-acts : goal.returns-in-Captures-clause-acts
returns-in-Captures-clause-acts c = λ g p levels patterns path file vars old page has is h over.
    let w = world_in patterns g shipped in
    let site = g.site.now in
    let b = c.args.body.value in
    let answer = answer_seen site p b.answered in
    let new = page_at w site p levels answer page (later b file) in
    let name = c.in-Captures.name in
    let child = child_seen p.main c.in-Captures.child in
    subst (λ (s : Stage). Works vars old (Call child (λ reply. stage_heard w patterns site p levels path s file reply.body))) (sym c.fill-in-Captures.ensures.put)
    (serving.both (serving.reads_work (subst (λ d. Does p.main vars d old new (captured_at w site p levels answer page (later b file))) c.in-Captures.is h))
    (serving.same_work (ap (λ (k : List ℕ → Serving Answer). Call child (λ reply. k reply.body))
    (sym (ap (λ x. captured_act w site p levels answer x (later b file) name) has)))))

pub returns-in-NeedsMore-clause-acts : goal.returns-in-NeedsMore-clause-acts
returns-in-NeedsMore-clause-acts c = λ g p levels patterns path file vars old page has is h over.
    let w = world_in patterns g shipped in
    let site = g.site.now in
    let b = c.args.body.value in
    let answer = answer_seen site p b.answered in
    let new = page_at w site p levels answer page (later b file) in
    let same : old ≡ new = subst (λ d. Does p.main vars d old new (captured_at w site p levels answer page (later b file))) c.in-NeedsMore.is h in
    subst (λ (s : Stage). Works vars old (stage_act w patterns site p levels path s file)) (sym c.fill-in-NeedsMore.ensures.put)
    (serving.same_work (same ∙ sym (ap (λ x. served_act w site p levels answer x (later b file)) has)))

pub returns-else-not-is_spent-clause-acts : goal.returns-else-not-is_spent-clause-acts
returns-else-not-is_spent-clause-acts c = λ g p levels patterns path file vars old page has is h over.
    let w = world_in patterns g shipped in
    let site = g.site.now in
    subst (λ (s : Stage). Works vars old (stage_act w patterns site p levels path s file)) (sym c.fill-in-Over.ensures.put)
    (serving.same_work (over (ap stop_of c.in-Over.is) (ap (λ (b : Body). is_spent b.source) (sym c.deref.ensures) ∙ sym c.is_spent.ensures ∙ c.if-not-is_spent.false)))
