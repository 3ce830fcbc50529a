use Rattle.std.proofs.Common.{◌≡◌, ◌-◌, suc, not, slice_get, arith, ℕ, ◌+◌, List, set, refl, sym, ap, ◌∙◌, subst}
use Rattle.ngx_variables.specs.declared.request.Main.{Main}
use Rattle.request_meaning.specs.Laws.{shipped}
use Rattle.node_line.specs.request_phases.Rounds.{world_in}
use Rattle.acts.specs.Act.{Inner}
use Rattle.family_order.specs.Items.{doing}
use Rattle.family_order.specs.Items.Stance.{Going}
use Rattle.request_meaning.specs.Serving.{Answer, Reply, Serving}
use Rattle.node_line.specs.ssi_exec.Scenes.{child_seen}
use Rattle.node_line.specs.Stances.{Opening}
use Rattle.node_line.specs.node_turn.declared.node.Place.TheVariants.{Row as InRow}
use Rattle.subrequests.specs.Moved.{meant}
use Rattle.node_line.specs.node_turn.declared.node.Node.{Node}
use Rattle.node_line.specs.node_turn.Stages.{is_in_row, is_serving, main_of, node_act, node_heard}
use Rattle.node_line.specs.node_turn.Taken.{TakesTo, WaitsBy}
use Rattle.node_seats.specs.Seats.{is_captured, seen}
use Rattle.subrequests.specs.Families.{goes_on_at, texts_of}
use Rattle.subrequests.proofs.Asking as asking
use Rattle.subrequests.proofs.Members as members
use Rattle.family_nodes.proofs.Sets.{get_set_same, length_set}
use Rattle.subrequests.proofs.Taking as taking
use Rattle.subrequests.proofs.Wholes as wholes
use Rattle.subrequests.proofs.family.Family.take_at.Goals as goal

pub returns-in-On-clause-steps : goal.returns-in-On-clause-steps
returns-in-On-clause-steps c = λ ps on.
    let f = c.args.self.now in
    let g = c.args.ground.now in
    let site = g.site.now in
    let w = world_in ps g shipped in
    let nodes = f.nodes in
    let at = c.args.at in
    let old = c.node_mut-node.result.now in
    let new = c.takes.new.node in
    let is = c.in_ok-turn.ensures in
    let there = wholes.here_is is_serving nodes at old c.requires.there c.node_mut-node.ensures.value in
    let goes_on = wholes.open_is is_serving f.order nodes at c.requires.whole c.requires.there in
    wholes.both_ways c.shows_the_same.ensures ps g f _ 0 (wholes.as_many nodes at new)
    (λ tree texts. subst (λ (m : Main). Opening w tree 0 (seen w ps site f.main f.order nodes texts) f.vars (seen w ps site m f.order (set nodes at new) texts) f.vars) (sym is.main)
    (members.worked c.shows_the_same.ensures w ps site f.main f.order nodes texts at old there c.requires.whole goes_on c.requires.seated tree f.vars new is.node is.place
    (subst (TakesTo (main_of f.main old) f.vars (node_act w ps site f.main old (texts at)) (node_act w ps site f.main new (texts at)) (node_heard w ps site f.main new (texts at))) c.in-On.is (is.acts ps (texts at)))))
    (λ trees. members.set_files trees nodes at old new there (λ reads. taking.same_file trees old new is.start is.file))

pub returns-in-On-clause-whole : goal.returns-in-On-clause-whole
returns-in-On-clause-whole c = λ on.
    let f = c.args.self.now in
    members.set_sound f.order f.order f.nodes c.args.at c.node_mut-node.result.now c.takes.new.node
    (wholes.here_is is_serving f.nodes c.args.at c.node_mut-node.result.now c.requires.there c.node_mut-node.ensures.value) c.requires.whole c.requires.whole.well refl (λ j. refl) c.in_ok-turn.ensures.node.over
    (ap is_captured c.in_ok-turn.ensures.place) c.in_ok-turn.ensures.node.parent

-- ---- a subrequest of a node in the row opens

pub returns-then-is_in_row-clause-steps : goal.returns-then-is_in_row-clause-steps
returns-then-is_in_row-clause-steps c = λ ps on.
    let f = c.args.self.now in
    let g = c.args.ground.now in
    let site = g.site.now in
    let w = world_in ps g shipped in
    let nodes = f.nodes in
    let at = c.args.at in
    let old = c.node_mut-node.result.now in
    let new = c.takes.new.node in
    let is = c.in_ok-turn.ensures in
    let there = wholes.here_is is_serving nodes at old c.requires.there c.node_mut-node.ensures.value in
    let goes_on = wholes.open_is is_serving f.order nodes at c.requires.whole c.requires.there in
    let laws = c.shows_the_same.ensures in
    let main = c.takes.new.main in
    let end = c.open_at.new.self in
    let here : new.place ≡ InRow = wholes.row_is new.place (sym c.is_in_row.ensures ∙ c.if-is_in_row.true) in
    let child = c.in-Opens.child in
    let comes : Main → Node → (ℕ → List ℕ) → Serving Answer = λ m n texts. Inner (child_seen (main_of m n) child) (node_act w ps site m n (texts at)) in
    let opens = c.in_ok-open_at-in-Opens.ensures in
    wholes.both_ways laws ps g f end 1 (opens.grows ∙ ap (λ n. n + 1) (length_set nodes at new))
    (λ tree texts.
    let works = subst (TakesTo (main_of f.main old) f.vars (node_act w ps site f.main old (texts at)) (node_act w ps site f.main new (texts at)) (node_heard w ps site f.main new (texts at))) c.in-Opens.is (is.acts ps (texts at)) in
    let act : Serving Answer = Inner (child_seen (main_of f.main old) child) (node_act w ps site f.main new (texts at)) in
    taking.comes_to laws w ps site f.main f.order nodes texts at old there c.requires.whole goes_on c.requires.seated tree f.vars new (sym is.place ∙ here) here act (meant w ps site texts end) end.vars works
    (subst (λ (m : Main). Opening w tree 1 (doing at (Going old.left act) (seen w ps site m f.order (set nodes at new) texts)) f.vars (meant w ps site texts end) end.vars) is.main
    (subst (λ (x : Serving Answer). Opening w tree 1 (doing at (Going old.left x) (seen w ps site main f.order (set nodes at new) texts)) f.vars (meant w ps site texts end) end.vars)
    (ap (λ (m : Main). Inner (child_seen m child) (node_act w ps site main new (texts at))) (ap (λ (m : Main). main_of m new) is.main ∙ is.method) ∙ ap (λ (m : Main). Inner (child_seen (main_of f.main old) child) (node_act w ps site m new (texts at))) is.main)
    (subst (λ l. Opening w tree 1 (doing at (Going l (comes main new texts)) (seen w ps site main f.order (set nodes at new) texts)) f.vars (meant w ps site texts end) end.vars) is.node.left
    (opens.opens ps new (get_set_same nodes at new old there) tree texts)))))
    (λ trees j n e reads. members.set_texts trees nodes at old new there (taking.same_file trees old new is.start is.file) j ∙ opens.files trees j n e reads)

pub open_at-requires-clause-whole : goal.open_at-requires-clause-whole
open_at-requires-clause-whole c =
    let f = c.args.self.now in
    members.set_sound f.order f.order f.nodes c.args.at c.node_mut-node.result.now c.takes.new.node
    (wholes.here_is is_serving f.nodes c.args.at c.node_mut-node.result.now c.requires.there c.node_mut-node.ensures.value) c.requires.whole c.requires.whole.well refl (λ j. refl) c.in_ok-turn.ensures.node.over
    (ap is_captured c.in_ok-turn.ensures.place) c.in_ok-turn.ensures.node.parent

pub open_at-requires-clause-there : goal.open_at-requires-clause-there
open_at-requires-clause-there c =
    let f = c.args.self.now in
    let there = wholes.here_is is_serving f.nodes c.args.at c.node_mut-node.result.now c.requires.there c.node_mut-node.ensures.value in
    ap goes_on_at (get_set_same f.nodes c.args.at c.takes.new.node c.node_mut-node.result.now there) ∙ (ap not c.in_ok-turn.ensures.node.over
    ∙ (ap goes_on_at (sym there) ∙ wholes.going_is is_serving (slice_get f.nodes c.args.at) c.requires.there))

-- ---- a node waits for the bytes of a subrequest

pub returns-in_ok-inner_at-in-Opens-clause-steps : goal.returns-in_ok-inner_at-in-Opens-clause-steps
returns-in_ok-inner_at-in-Opens-clause-steps c = λ ps on.
    let f = c.args.self.now in
    let g = c.args.ground.now in
    let site = g.site.now in
    let w = world_in ps g shipped in
    let nodes = f.nodes in
    let at = c.args.at in
    let old = c.node_mut-node.result.now in
    let new = c.takes.new.node in
    let is = c.in_ok-turn.ensures in
    let there = wholes.here_is is_serving nodes at old c.requires.there c.node_mut-node.ensures.value in
    let goes_on = wholes.open_is is_serving f.order nodes at c.requires.whole c.requires.there in
    let laws = c.shows_the_same.ensures in
    let end = c.inner_at.new.self in
    let child = c.in-Opens.child in
    let between = record f { main = c.takes.new.main; nodes = set nodes at new } in
    let done = c.in_ok-inner_at-in-Opens.ensures in
    let a = done.opens new (get_set_same nodes at new old there) in
    wholes.both_ways laws ps g f end 1 (asking.inner_grows f between end at old new child there is.node is.place refl refl a)
    (λ tree texts.
    let works = subst (TakesTo (main_of f.main old) f.vars (node_act w ps site f.main old (texts at)) (node_act w ps site f.main new (texts at)) (node_heard w ps site f.main new (texts at))) c.in-Opens.is (is.acts ps (texts at)) in
    asking.inner f between end at old new child there is.node is.place refl refl a laws w ps site c.requires.whole goes_on c.requires.seated tree texts (done.same.0 ∙ is.main) done.same.1
    (ap (λ (m : Main). main_of m new) (sym is.main) ∙ (ap (λ (m : Main). main_of m new) is.main ∙ is.method)) done.whole.few works)
    (λ trees. asking.inner_texts f between end at old new child there is.node is.place refl refl a (λ trees. taking.same_file trees old new is.start is.file) trees)

pub inner_at-requires-clause-whole : goal.inner_at-requires-clause-whole
inner_at-requires-clause-whole c =
    let f = c.args.self.now in
    members.set_sound f.order f.order f.nodes c.args.at c.node_mut-node.result.now c.takes.new.node
    (wholes.here_is is_serving f.nodes c.args.at c.node_mut-node.result.now c.requires.there c.node_mut-node.ensures.value) c.requires.whole c.requires.whole.well refl (λ j. refl) c.in_ok-turn.ensures.node.over
    (ap is_captured c.in_ok-turn.ensures.place) c.in_ok-turn.ensures.node.parent

pub inner_at-requires-clause-there : goal.inner_at-requires-clause-there
inner_at-requires-clause-there c =
    let f = c.args.self.now in
    let there = wholes.here_is is_serving f.nodes c.args.at c.node_mut-node.result.now c.requires.there c.node_mut-node.ensures.value in
    ap goes_on_at (get_set_same f.nodes c.args.at c.takes.new.node c.node_mut-node.result.now there) ∙ (ap not c.in_ok-turn.ensures.node.over
    ∙ (ap goes_on_at (sym there) ∙ wholes.going_is is_serving (slice_get f.nodes c.args.at) c.requires.there))

pub returns-in_ok-ask_at-in-Asks-clause-steps : goal.returns-in_ok-ask_at-in-Asks-clause-steps
returns-in_ok-ask_at-in-Asks-clause-steps c = λ ps on.
    let f = c.args.self.now in
    let g = c.args.ground.now in
    let site = g.site.now in
    let w = world_in ps g shipped in
    let nodes = f.nodes in
    let at = c.args.at in
    let old = c.node_mut-node.result.now in
    let new = c.takes.new.node in
    let is = c.in_ok-turn.ensures in
    let there = wholes.here_is is_serving nodes at old c.requires.there c.node_mut-node.ensures.value in
    let goes_on = wholes.open_is is_serving f.order nodes at c.requires.whole c.requires.there in
    let laws = c.shows_the_same.ensures in
    let end = c.ask_at.new.self in
    let child = c.in-Asks.child in
    let between = record f { main = c.takes.new.main; nodes = set nodes at new } in
    let done = c.in_ok-ask_at-in-Asks.ensures in
    let a = done.asks new (get_set_same nodes at new old there) in
    let waits = subst (λ t. WaitsBy t new.stage) c.in-Asks.is is.waits in
    wholes.both_ways laws ps g f end 1 (asking.grows f between end at old new child there is.node is.place refl refl a)
    (λ tree texts.
    let works = subst (TakesTo (main_of f.main old) f.vars (node_act w ps site f.main old (texts at)) (node_act w ps site f.main new (texts at)) (node_heard w ps site f.main new (texts at))) c.in-Asks.is (is.acts ps (texts at)) in
    asking.asked f between end at old new child there is.node is.place refl refl a laws w ps site c.requires.whole goes_on c.requires.seated tree texts (done.same.0 ∙ is.main) done.same.1
    (ap (λ (m : Main). main_of m new) (sym is.main) ∙ (ap (λ (m : Main). main_of m new) is.main ∙ is.method)) waits works)
    (λ trees. asking.same_texts f between end at old new child there is.node is.place refl refl a (λ trees. taking.same_file trees old new is.start is.file) trees)

pub ask_at-requires-clause-whole : goal.ask_at-requires-clause-whole
ask_at-requires-clause-whole c =
    let f = c.args.self.now in
    members.set_sound f.order f.order f.nodes c.args.at c.node_mut-node.result.now c.takes.new.node
    (wholes.here_is is_serving f.nodes c.args.at c.node_mut-node.result.now c.requires.there c.node_mut-node.ensures.value) c.requires.whole c.requires.whole.well refl (λ j. refl) c.in_ok-turn.ensures.node.over
    (ap is_captured c.in_ok-turn.ensures.place) c.in_ok-turn.ensures.node.parent

pub ask_at-requires-clause-there : goal.ask_at-requires-clause-there
ask_at-requires-clause-there c =
    let f = c.args.self.now in
    let there = wholes.here_is is_serving f.nodes c.args.at c.node_mut-node.result.now c.requires.there c.node_mut-node.ensures.value in
    ap goes_on_at (get_set_same f.nodes c.args.at c.takes.new.node c.node_mut-node.result.now there) ∙ (ap not c.in_ok-turn.ensures.node.over
    ∙ (ap goes_on_at (sym there) ∙ wholes.going_is is_serving (slice_get f.nodes c.args.at) c.requires.there))

-- ---- more are asked for than are opened

pub returns-then-len-ge-MOST_NODES-clause-overruns : goal.returns-then-len-ge-MOST_NODES-clause-overruns
returns-then-len-ge-MOST_NODES-clause-overruns c = λ ps off tree trees.
    let f = c.args.self.now in
    let g = c.args.ground.now in
    let site = g.site.now in
    let w = world_in ps g shipped in
    let nodes = f.nodes in
    let at = c.args.at in
    let old = c.node_mut-node.result.now in
    let new = c.takes.new.node in
    let is = c.in_ok-turn.ensures in
    let there = wholes.here_is is_serving nodes at old c.requires.there c.node_mut-node.ensures.value in
    let goes_on = wholes.open_is is_serving f.order nodes at c.requires.whole c.requires.there in
    let texts = texts_of trees nodes in
    let works = subst (TakesTo (main_of f.main old) f.vars (node_act w ps site f.main old (texts at)) (node_act w ps site f.main new (texts at)) (node_heard w ps site f.main new (texts at))) c.in-Opens.is (is.acts ps (texts at)) in
    let l = old.left - 1 in
    let deep : old.left ≡ suc l = wholes.some_left old.left new.left is.node.left c.if-node-eq0.false in
    let o = taking.row_open c.shows_the_same.ensures w ps site f.main f.order nodes texts at old there c.requires.whole goes_on c.requires.seated tree f.vars (sym is.place ∙ wholes.row_is new.place (sym c.is_in_row.ensures ∙ c.if-is_in_row.true)) (child_seen (main_of f.main old) c.in-Opens.child) l (node_act w ps site f.main new (texts at)) deep works in
    record {
      count = 1;
      after = o.after;
      later = f.vars;
      opening = o.opening;
      many = omega (arith, c.if-len-ge-MOST_NODES.true, c.len.ensures, length_set nodes at new, c.requires.whole.few);
    }

pub returns-then-len-ge-MOST_NODES-2-clause-overruns : goal.returns-then-len-ge-MOST_NODES-2-clause-overruns
returns-then-len-ge-MOST_NODES-2-clause-overruns c = λ ps off tree trees.
    let f = c.args.self.now in
    let g = c.args.ground.now in
    let site = g.site.now in
    let w = world_in ps g shipped in
    let nodes = f.nodes in
    let at = c.args.at in
    let old = c.node_mut-node.result.now in
    let new = c.takes.new.node in
    let is = c.in_ok-turn.ensures in
    let there = wholes.here_is is_serving nodes at old c.requires.there c.node_mut-node.ensures.value in
    let goes_on = wholes.open_is is_serving f.order nodes at c.requires.whole c.requires.there in
    let texts = texts_of trees nodes in
    let works = subst (TakesTo (main_of f.main old) f.vars (node_act w ps site f.main old (texts at)) (node_act w ps site f.main new (texts at)) (node_heard w ps site f.main new (texts at))) c.in-Opens.is (is.acts ps (texts at)) in
    let l = old.left - 1 in
    let deep : old.left ≡ suc l = wholes.some_left old.left new.left is.node.left c.if-node-eq0.false in
    let o = taking.line_open c.shows_the_same.ensures w ps site f.main f.order nodes texts at old there c.requires.whole goes_on c.requires.seated tree f.vars (taking.located c.shows_the_same.ensures w ps site f.main f.order nodes texts at old there c.requires.whole goes_on c.requires.seated tree f.vars (sym (ap is_in_row is.place) ∙ sym c.is_in_row.ensures ∙ c.if-is_in_row.false)) (members.asks_none nodes at old there c.requires.seated) (child_seen (main_of f.main old) c.in-Opens.child) l (node_act w ps site f.main new (texts at)) deep works in
    record {
      count = 1;
      after = o.after;
      later = f.vars;
      opening = o.opening;
      many = omega (arith, c.if-len-ge-MOST_NODES-2.true, c.len-in-Opens.ensures, length_set nodes at new, c.requires.whole.few);
    }

pub returns-then-len-ge-MOST_NODES-3-clause-overruns : goal.returns-then-len-ge-MOST_NODES-3-clause-overruns
returns-then-len-ge-MOST_NODES-3-clause-overruns c = λ ps off tree trees.
    let f = c.args.self.now in
    let g = c.args.ground.now in
    let site = g.site.now in
    let w = world_in ps g shipped in
    let nodes = f.nodes in
    let at = c.args.at in
    let old = c.node_mut-node.result.now in
    let new = c.takes.new.node in
    let is = c.in_ok-turn.ensures in
    let there = wholes.here_is is_serving nodes at old c.requires.there c.node_mut-node.ensures.value in
    let goes_on = wholes.open_is is_serving f.order nodes at c.requires.whole c.requires.there in
    let texts = texts_of trees nodes in
    let works = subst (TakesTo (main_of f.main old) f.vars (node_act w ps site f.main old (texts at)) (node_act w ps site f.main new (texts at)) (node_heard w ps site f.main new (texts at))) c.in-Asks.is (is.acts ps (texts at)) in
    let l = old.left - 1 in
    let deep : old.left ≡ suc l = wholes.some_left old.left new.left is.node.left c.if-node-eq0-2.false in
    let o = taking.any_ask c.shows_the_same.ensures w ps site f.main f.order nodes texts at old there c.requires.whole goes_on c.requires.seated tree f.vars (child_seen (main_of f.main old) c.in-Asks.child) l (λ (reply : Reply). node_heard w ps site f.main new (texts at) reply.body) deep works in
    record {
      count = 1;
      after = o.after;
      later = f.vars;
      opening = o.opening;
      many = omega (arith, c.if-len-ge-MOST_NODES-3.true, c.len-in-Asks.ensures, length_set nodes at new, c.requires.whole.few);
    }
