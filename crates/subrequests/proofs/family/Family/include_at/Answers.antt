use Rattle.std.proofs.Common.{◌≡◌, ◌++◌, sym, ap, ◌∙◌, subst, set, arith}
use Rattle.request_meaning.specs.Laws.{shipped}
use Rattle.node_line.specs.request_phases.Rounds.{world_in}
use Rattle.node_line.specs.node_turn.Stages.{is_ending}
use Rattle.node_line.specs.node_turn.declared.node.Node.{Node}
use Rattle.node_seats.specs.Seats.{IsNextInner}
use Rattle.node_seats.proofs.Located.{as_itself}
use Rattle.subrequests.specs.Families.{HasFirst}
use Rattle.subrequests.proofs.Including as including
use Rattle.family_nodes.proofs.Sets.{length_set}
use Rattle.family_nodes.proofs.Sets as sets
use Rattle.subrequests.proofs.Wholes as wholes
use Rattle.subrequests.proofs.family.Family.include_at.Goals as goal

pub returns-in_ok-put_before-in-Some-clause-steps : goal.returns-in_ok-put_before-in-Some-clause-steps
returns-in_ok-put_before-in-Some-clause-steps c = λ ps g.
    let f = c.args.self.now in
    let nodes = f.nodes in
    let at = c.args.at in
    let old = c.node_mut-node.result.now in
    let place = c.taken.new.place in
    let text = c.in_ok-text.text in
    let gone = c.take_before-before.new.node in
    let gone_is : gone ≡ including.gone_so old place = c.take_before-before.ensures.node in
    let there = wholes.here_is is_ending nodes at old c.requires.there c.node_mut-node.ensures.value in
    let b = including.beside_is f.order nodes at old place text there c.requires.whole c.requires.there c.requires.seated c.requires.bare c.requires.inner c.in_ok-text.ensures in
    let p = b.0 in
    let moved : c.in_ok-text-2.text ≡ old.before ++ text = c.in_ok-text-2.ensures ∙ ap (λ t. t ++ text) c.take_before-before.ensures.taken in
    let y = c.in-Some.next in
    let n = c.node_mut.result.now in
    let n' = c.put_before.new.node in
    let next = subst (IsNextInner (set nodes at gone) old.parent at) c.in-Some.is c.next_inner_of.ensures in
    let here = sets.there_some (set nodes at gone) y n (omega (arith, c.if-next-len.false, c.len.ensures)) c.node_mut.ensures.value in
    let is : n' ≡ record n { before = (old.before ++ text) ++ n.before } = c.in_ok-put_before-in-Some.ensures ∙ ap (λ t. record n { before = t ++ n.before }) moved in
    let w = world_in ps g shipped in
    wholes.both_ways c.shows_the_same.ensures ps g f _ 0 (length_set (set nodes at gone) y n' ∙ wholes.as_many nodes at gone)
    (λ tree texts. including.opening f.order nodes at old place p text b.1 gone gone_is c.shows_the_same.ensures w ps g.site.now f.main tree f.vars c.requires.whole texts (set (set nodes at gone) y n') p gone
    (including.ends_next f.order nodes at old place p text b.1 gone gone_is y n n' next here is w ps g.site.now f.main texts) (as_itself p) c.end.new.self c.end.ensures.row c.end.ensures.opened)
    (λ trees. including.texts_next f.order nodes at old place p text b.1 gone gone_is y n n' next here is trees)

pub returns-in_ok-put_before-in-Some-clause-whole : goal.returns-in_ok-put_before-in-Some-clause-whole
returns-in_ok-put_before-in-Some-clause-whole c =
    let f = c.args.self.now in
    let nodes = f.nodes in
    let at = c.args.at in
    let old = c.node_mut-node.result.now in
    let place = c.taken.new.place in
    let text = c.in_ok-text.text in
    let gone = c.take_before-before.new.node in
    let gone_is : gone ≡ including.gone_so old place = c.take_before-before.ensures.node in
    let there = wholes.here_is is_ending nodes at old c.requires.there c.node_mut-node.ensures.value in
    let b = including.beside_is f.order nodes at old place text there c.requires.whole c.requires.there c.requires.seated c.requires.bare c.requires.inner c.in_ok-text.ensures in
    let p = b.0 in
    let moved : c.in_ok-text-2.text ≡ old.before ++ text = c.in_ok-text-2.ensures ∙ ap (λ t. t ++ text) c.take_before-before.ensures.taken in
    let y = c.in-Some.next in
    let n = c.node_mut.result.now in
    let n' = c.put_before.new.node in
    let next = subst (IsNextInner (set nodes at gone) old.parent at) c.in-Some.is c.next_inner_of.ensures in
    let here = sets.there_some (set nodes at gone) y n (omega (arith, c.if-next-len.false, c.len.ensures)) c.node_mut.ensures.value in
    let is : n' ≡ record n { before = (old.before ++ text) ++ n.before } = c.in_ok-put_before-in-Some.ensures ∙ ap (λ t. record n { before = t ++ n.before }) moved in
    including.sound_next f.order nodes at old place p text b.1 gone gone_is y n n' next here is c.end.new.self
    (including.sound_over f.order nodes at old place p text b.1 gone gone_is c.end.new.self c.requires.whole c.requires.child c.end.ensures.row c.end.ensures.opened)

pub returns-in_ok-put_before-in-Some-clause-ended : goal.returns-in_ok-put_before-in-Some-clause-ended
returns-in_ok-put_before-in-Some-clause-ended c =
    let f = c.args.self.now in
    let nodes = f.nodes in
    let at = c.args.at in
    let old = c.node_mut-node.result.now in
    let place = c.taken.new.place in
    let text = c.in_ok-text.text in
    let gone = c.take_before-before.new.node in
    let gone_is : gone ≡ including.gone_so old place = c.take_before-before.ensures.node in
    let there = wholes.here_is is_ending nodes at old c.requires.there c.node_mut-node.ensures.value in
    let b = including.beside_is f.order nodes at old place text there c.requires.whole c.requires.there c.requires.seated c.requires.bare c.requires.inner c.in_ok-text.ensures in
    let p = b.0 in
    let moved : c.in_ok-text-2.text ≡ old.before ++ text = c.in_ok-text-2.ensures ∙ ap (λ t. t ++ text) c.take_before-before.ensures.taken in
    let y = c.in-Some.next in
    let n = c.node_mut.result.now in
    let n' = c.put_before.new.node in
    let next = subst (IsNextInner (set nodes at gone) old.parent at) c.in-Some.is c.next_inner_of.ensures in
    let here = sets.there_some (set nodes at gone) y n (omega (arith, c.if-next-len.false, c.len.ensures)) c.node_mut.ensures.value in
    let is : n' ≡ record n { before = (old.before ++ text) ++ n.before } = c.in_ok-put_before-in-Some.ensures ∙ ap (λ t. record n { before = t ++ n.before }) moved in
    including.over_next f.order nodes at old place p text b.1 gone gone_is y n n' next here is

pub returns-in_ok-put_first-in-None-clause-steps : goal.returns-in_ok-put_first-in-None-clause-steps
returns-in_ok-put_first-in-None-clause-steps c = λ ps g.
    let f = c.args.self.now in
    let nodes = f.nodes in
    let at = c.args.at in
    let old = c.node_mut-node.result.now in
    let place = c.taken.new.place in
    let text = c.in_ok-text.text in
    let gone = c.take_before-before.new.node in
    let gone_is : gone ≡ including.gone_so old place = c.take_before-before.ensures.node in
    let there = wholes.here_is is_ending nodes at old c.requires.there c.node_mut-node.ensures.value in
    let b = including.beside_is f.order nodes at old place text there c.requires.whole c.requires.there c.requires.seated c.requires.bare c.requires.inner c.in_ok-text.ensures in
    let p = b.0 in
    let moved : c.in_ok-text-2.text ≡ old.before ++ text = c.in_ok-text-2.ensures ∙ ap (λ t. t ++ text) c.take_before-before.ensures.taken in
    let q = c.node_mut-in-None.result.now in
    let p' = c.put_first.new.node in
    let none = subst (IsNextInner (set nodes at gone) old.parent at) c.in-None.is c.next_inner_of.ensures in
    let same : q ≡ p = wholes.some_same q p (sym (sets.there_some (set nodes at gone) old.parent q (omega (arith, c.if-parent-len.false, c.len-in-None.ensures)) c.node_mut-in-None.ensures.value) ∙ including.par_there f.order nodes at old place p text b.1 gone gone_is) in
    let first : HasFirst (old.before ++ text) p p' = subst (λ (x : Node). HasFirst (old.before ++ text) x p') same (subst (λ t. HasFirst t q p') moved c.in_ok-put_first-in-None.ensures) in
    let w = world_in ps g shipped in
    wholes.both_ways c.shows_the_same.ensures ps g f _ 0 (length_set (set nodes at gone) old.parent p' ∙ wholes.as_many nodes at gone)
    (λ tree texts. including.opening f.order nodes at old place p text b.1 gone gone_is c.shows_the_same.ensures w ps g.site.now f.main tree f.vars c.requires.whole texts (set (set nodes at gone) old.parent p') p' gone
    (including.ends_first f.order nodes at old place p text b.1 gone gone_is p' first none w ps g.site.now f.main texts) (including.like_first f.order nodes at old place p text b.1 gone gone_is p' first none) c.end.new.self c.end.ensures.row c.end.ensures.opened)
    (λ trees. including.texts_first f.order nodes at old place p text b.1 gone gone_is p' first none trees)

pub returns-in_ok-put_first-in-None-clause-whole : goal.returns-in_ok-put_first-in-None-clause-whole
returns-in_ok-put_first-in-None-clause-whole c =
    let f = c.args.self.now in
    let nodes = f.nodes in
    let at = c.args.at in
    let old = c.node_mut-node.result.now in
    let place = c.taken.new.place in
    let text = c.in_ok-text.text in
    let gone = c.take_before-before.new.node in
    let gone_is : gone ≡ including.gone_so old place = c.take_before-before.ensures.node in
    let there = wholes.here_is is_ending nodes at old c.requires.there c.node_mut-node.ensures.value in
    let b = including.beside_is f.order nodes at old place text there c.requires.whole c.requires.there c.requires.seated c.requires.bare c.requires.inner c.in_ok-text.ensures in
    let p = b.0 in
    let moved : c.in_ok-text-2.text ≡ old.before ++ text = c.in_ok-text-2.ensures ∙ ap (λ t. t ++ text) c.take_before-before.ensures.taken in
    let q = c.node_mut-in-None.result.now in
    let p' = c.put_first.new.node in
    let none = subst (IsNextInner (set nodes at gone) old.parent at) c.in-None.is c.next_inner_of.ensures in
    let same : q ≡ p = wholes.some_same q p (sym (sets.there_some (set nodes at gone) old.parent q (omega (arith, c.if-parent-len.false, c.len-in-None.ensures)) c.node_mut-in-None.ensures.value) ∙ including.par_there f.order nodes at old place p text b.1 gone gone_is) in
    let first : HasFirst (old.before ++ text) p p' = subst (λ (x : Node). HasFirst (old.before ++ text) x p') same (subst (λ t. HasFirst t q p') moved c.in_ok-put_first-in-None.ensures) in
    including.sound_first f.order nodes at old place p text b.1 gone gone_is p' first none c.end.new.self
    (including.sound_over f.order nodes at old place p text b.1 gone gone_is c.end.new.self c.requires.whole c.requires.child c.end.ensures.row c.end.ensures.opened)

pub returns-in_ok-put_first-in-None-clause-ended : goal.returns-in_ok-put_first-in-None-clause-ended
returns-in_ok-put_first-in-None-clause-ended c =
    let f = c.args.self.now in
    let nodes = f.nodes in
    let at = c.args.at in
    let old = c.node_mut-node.result.now in
    let place = c.taken.new.place in
    let text = c.in_ok-text.text in
    let gone = c.take_before-before.new.node in
    let gone_is : gone ≡ including.gone_so old place = c.take_before-before.ensures.node in
    let there = wholes.here_is is_ending nodes at old c.requires.there c.node_mut-node.ensures.value in
    let b = including.beside_is f.order nodes at old place text there c.requires.whole c.requires.there c.requires.seated c.requires.bare c.requires.inner c.in_ok-text.ensures in
    let p = b.0 in
    let moved : c.in_ok-text-2.text ≡ old.before ++ text = c.in_ok-text-2.ensures ∙ ap (λ t. t ++ text) c.take_before-before.ensures.taken in
    let q = c.node_mut-in-None.result.now in
    let p' = c.put_first.new.node in
    let none = subst (IsNextInner (set nodes at gone) old.parent at) c.in-None.is c.next_inner_of.ensures in
    let same : q ≡ p = wholes.some_same q p (sym (sets.there_some (set nodes at gone) old.parent q (omega (arith, c.if-parent-len.false, c.len-in-None.ensures)) c.node_mut-in-None.ensures.value) ∙ including.par_there f.order nodes at old place p text b.1 gone gone_is) in
    let first : HasFirst (old.before ++ text) p p' = subst (λ (x : Node). HasFirst (old.before ++ text) x p') same (subst (λ t. HasFirst t q p') moved c.in_ok-put_first-in-None.ensures) in
    including.over_first f.order nodes at old place p text b.1 gone gone_is p' first none
