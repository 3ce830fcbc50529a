use Rattle.std.proofs.Common.{◌≡◌, ◌+◌, ◌≢◌, suc, length, true, set, slice_get, None, Some, refl, sym, ap, ◌∙◌, subst, arith}
use Rattle.request_meaning.specs.Laws.{shipped}
use Rattle.request_meaning.specs.Replies.{script}
use Rattle.node_line.specs.request_phases.Rounds.{world_in}
use Rattle.postpone_filter.specs.Row.{Row, with_child}
use Rattle.acts.specs.Act.{Inner}
use Rattle.family_order.specs.Items.{doing}
use Rattle.family_order.specs.Items.Stance.{Going}
use Rattle.node_line.specs.ssi_exec.Scenes.{child_seen}
use Rattle.node_line.specs.node_turn.Stages.{is_in_row, main_of, node_act}
use Rattle.subrequests.specs.Families.{IsSound, texts_of}
use Rattle.node_seats.specs.Seats.{is_captured, seen}
use Rattle.node_line.specs.Stances.{Opening}
use Rattle.node_line.specs.node_turn.declared.node.Node.{Node}
use Rattle.node_line.specs.node_turn.declared.node.Place.TheVariants.{Row as InRow}
use Rattle.subrequests.proofs.Members as members
use Rattle.family_nodes.proofs.Sets.{get_set_same, length_set, length_snoc}
use Rattle.subrequests.proofs.Wholes as wholes
use Rattle.subrequests.proofs.family.Family.open_at.Goals as goal

pub returns-clause-opens : goal.returns-clause-opens
returns-clause-opens c = λ ps n is tree texts.
    let f = c.args.self.now in
    let g = c.args.ground.now in
    let site = g.site.now in
    let w = world_in ps g shipped in
    let nodes = f.nodes in
    let at = c.args.at in
    let here = c.node_mut.result.now in
    let new = c.put_child.new.node in
    let there = wholes.not_over nodes at here c.requires.there c.node_mut.ensures.value in
    let same : here ≡ n = wholes.some_same here n (sym there ∙ is) in
    let looked : c.node_at.result.now ≡ here = wholes.some_same c.node_at.result.now here (sym (wholes.not_over nodes at c.node_at.result.now c.requires.there c.node_at.ensures) ∙ there) in
    let pushed = c.in_ok-push_child.ensures new (get_set_same nodes at new here there) in
    let child = child_seen (main_of f.main here) c.args.child in
    let l = pushed.member.left in
    let below = pushed.left in
    let kept = ap (λ (x : Node). x.left) c.put_child.ensures.others in
    let row : here.place ≡ InRow = wholes.row_is here.place (subst (λ (x : Node). is_in_row x.place ≡ true) looked (c.may_open.ensures.row c.if-not-may_open.false)) in
    let free : here.asks ≡ None = subst (λ (x : Node). x.asks ≡ None) looked (c.may_open.ensures.free c.if-not-may_open.false) in
    let some : here.left ≢ 0 = subst (λ (x : Node). x.left ≢ 0) looked (c.may_open.ensures.deep c.if-not-may_open.false) in
    let deep : here.left ≡ suc l = omega (arith, below, kept, some) in
    subst (λ (m : Node). Opening w tree 1 (doing at (Going m.left (Inner (child_seen (main_of f.main m) c.args.child) (node_act w ps site f.main m (texts at)))) (seen w ps site f.main f.order nodes texts)) f.vars
    (seen w ps site f.main c.add_child.new.self c.push_child.new.nodes texts) f.vars) same
    (subst (λ (r : Row). Opening w tree 1 (doing at (Going here.left (Inner child (node_act w ps site f.main here (texts at)))) (seen w ps site f.main f.order nodes texts)) f.vars (seen w ps site f.main r c.push_child.new.nodes texts) f.vars) (sym c.in_ok-id.ensures.row)
    (subst (λ ns. Opening w tree 1 (doing at (Going here.left (Inner child (node_act w ps site f.main here (texts at)))) (seen w ps site f.main f.order nodes texts)) f.vars (seen w ps site f.main (with_child at f.order) ns texts) f.vars) (sym pushed.items)
    (members.opened c.shows_the_same.ensures w ps site f.main f.order nodes texts at here there free tree f.vars (c.requires.whole.going at ∙ c.requires.there) child l new pushed.member deep row
    (ap (λ (x : Node). x.place) c.put_child.ensures.others ∙ row) (ap (λ (x : Node). x.asks) c.put_child.ensures.others ∙ free) kept (ap (λ (x : Node). node_act w ps site f.main x (texts at)) c.put_child.ensures.others) refl pushed.goes pushed.asks
    (λ text. pushed.acts w ps site f.main text ∙ ap (λ (x : Node). script w l (child_seen (main_of f.main x) c.args.child)) c.put_child.ensures.others)
    c.requires.whole.count)))

pub returns-clause-files : goal.returns-clause-files
returns-clause-files c = λ trees j n is reads.
    let f = c.args.self.now in
    let nodes = f.nodes in
    let at = c.args.at in
    let here = c.node_mut.result.now in
    let new = c.put_child.new.node in
    let there = wholes.not_over nodes at here c.requires.there c.node_mut.ensures.value in
    let pushed = c.in_ok-push_child.ensures new (get_set_same nodes at new here there) in
    members.set_texts trees nodes at here new there (members.same_text trees here new (ap (λ (x : Node). x.ask) c.put_child.ensures.others, ap (λ (x : Node). x.start) c.put_child.ensures.others)) j
    ∙ (members.more_files trees (set nodes at new) pushed.member pushed.fresh j n (subst (λ ns. slice_get ns j ≡ Some n) pushed.items is) reads
    ∙ ap (λ ns. texts_of trees ns j) (sym pushed.items))

pub returns-clause-whole : goal.returns-clause-whole
returns-clause-whole c =
    let f = c.args.self.now in
    let nodes = f.nodes in
    let at = c.args.at in
    let here = c.node_mut.result.now in
    let new = c.put_child.new.node in
    let there = wholes.not_over nodes at here c.requires.there c.node_mut.ensures.value in
    let pushed = c.in_ok-push_child.ensures new (get_set_same nodes at new here there) in
    let withheld = members.set_sound f.order f.order nodes at here new there c.requires.whole c.requires.whole.well refl (λ j. refl) (ap (λ (x : Node). x.over) c.put_child.ensures.others) (ap (λ (x : Node). is_captured x.place) c.put_child.ensures.others) (ap (λ (x : Node). x.parent) c.put_child.ensures.others) in
    let size : length (set nodes at new) ≡ length nodes = length_set nodes at new in
    let few = c.may_open.ensures.few c.if-not-may_open.false in
    subst (IsSound c.add_child.new.self) (sym pushed.items)
    (members.open_sound f.order c.add_child.new.self (set nodes at new) pushed.member withheld
    (members.child_well f.order c.add_child.new.self at c.requires.whole.well c.in_ok-id.ensures.row)
    (ap (λ (r : Row). r.nodes) c.in_ok-id.ensures.row ∙ (let e : f.order.nodes + 1 ≡ suc f.order.nodes = omega arith in e)) c.in_ok-id.ensures.opened pushed.over
    (omega (arith, size, few, c.len.ensures)) (λ e. let parent = pushed.parent in let lower = members.there_less nodes at here there in omega (arith, parent, lower, size)))

pub returns-clause-grows : goal.returns-clause-grows
returns-clause-grows c =
    let f = c.args.self.now in
    let nodes = f.nodes in
    let at = c.args.at in
    let new = c.put_child.new.node in
    let here = c.node_mut.result.now in
    let there = wholes.not_over nodes at here c.requires.there c.node_mut.ensures.value in
    let pushed = c.in_ok-push_child.ensures new (get_set_same nodes at new here there) in
    let size : length (set nodes at new) ≡ length nodes = length_set nodes at new in
    let more = ap length pushed.items ∙ length_snoc (set nodes at new) pushed.member in
    omega (arith, size, more)
