use Rattle.std.proofs.Common.{◌≡◌, ℕ, List, true, set, slice_get, refl, sym, ap, ◌∙◌, subst}
use Rattle.subrequests.specs.Families.{texts_of}
use Rattle.node_seats.specs.Seats.{is_captured, is_seated, seen}
use Rattle.subrequests.specs.Moved.{Keeps}
use Rattle.subrequests.proofs.Heard as heard
use Rattle.subrequests.proofs.Members as members
use Rattle.family_nodes.proofs.Sets.{length_set}
use Rattle.subrequests.proofs.Wholes as wholes
use Rattle.subrequests.proofs.family.Family.hear.Goals as goal

pub returns-clause-keeps : goal.returns-clause-keeps
returns-clause-keeps c = λ w patterns site trees from well.
    let f = c.args.self.now in
    let n = c.node_mut-node.result.now in
    let is = c.in_ok-hears.ensures in
    let there = wholes.fits_here f.tree f.nodes c.args.at n c.args.answer c.requires.fits c.node_mut-node.ensures.value in
    let seated = subst (λ ns. is_seated ns c.args.at (slice_get ns c.args.at) ≡ true) c.as_slice.ensures.value (sym c.is_seated.ensures ∙ c.if-not-is_seated.false) in
    let fits = wholes.fits_are f.tree f.nodes c.args.at n c.args.answer c.requires.fits there in
    let seat = λ (texts : ℕ → List ℕ). members.seat_and_open w patterns site f.main f.order f.nodes texts c.args.at n there c.requires.whole (c.requires.whole.going c.args.at ∙ fits.0) seated in
    subst (λ t. Keeps w (trees t) (seen w patterns site f.main f.order f.nodes (texts_of trees f.nodes))
    (seen w patterns site f.main f.order (set f.nodes c.args.at c.hears.new.node) (texts_of trees (set f.nodes c.args.at c.hears.new.node))) f.vars) fits.1
    (heard.keeps c.shows_the_same.ensures w patterns site f.main f.order f.nodes c.args.at n c.hears.new.node there (members.asks_none f.nodes c.args.at n there seated) is.node is.place n.ask c.args.answer (is.acts w patterns site f.main)
    c.quiet_is_exact.ensures c.row_tells_still.ensures trees f.vars
    (seat (texts_of trees f.nodes)).0 (seat (texts_of trees f.nodes)).1 well (wholes.from_here trees f.nodes c.args.at n c.args.answer there from))

pub returns-clause-comes : goal.returns-clause-comes
returns-clause-comes c = λ w patterns site texts.
    let f = c.args.self.now in
    let n = c.node_mut-node.result.now in
    let is = c.in_ok-hears.ensures in
    let there = wholes.fits_here f.tree f.nodes c.args.at n c.args.answer c.requires.fits c.node_mut-node.ensures.value in
    let seated = subst (λ ns. is_seated ns c.args.at (slice_get ns c.args.at) ≡ true) c.as_slice.ensures.value (sym c.is_seated.ensures ∙ c.if-not-is_seated.false) in
    let fits = wholes.fits_are f.tree f.nodes c.args.at n c.args.answer c.requires.fits there in
    let seat = λ (texts : ℕ → List ℕ). members.seat_and_open w patterns site f.main f.order f.nodes texts c.args.at n there c.requires.whole (c.requires.whole.going c.args.at ∙ fits.0) seated in
    let come = heard.comes c.shows_the_same.ensures w patterns site f.main f.order f.nodes c.args.at n c.hears.new.node there (members.asks_none f.nodes c.args.at n there seated) is.node is.place n.ask c.args.answer (is.acts w patterns site f.main)
    f.vars texts seat in
    record { tree = come.0; before = come.1; goes = come.2 }

pub returns-clause-whole : goal.returns-clause-whole
returns-clause-whole c =
    let f = c.args.self.now in
    let n = c.node_mut-node.result.now in
    members.set_sound f.order f.order f.nodes c.args.at n c.hears.new.node
    (wholes.fits_here f.tree f.nodes c.args.at n c.args.answer c.requires.fits c.node_mut-node.ensures.value) c.requires.whole c.requires.whole.well refl (λ j. refl) c.in_ok-hears.ensures.node.over (ap is_captured c.in_ok-hears.ensures.place) c.in_ok-hears.ensures.node.parent

pub returns-clause-size : goal.returns-clause-size
returns-clause-size c = length_set c.args.self.now.nodes c.args.at c.hears.new.node
