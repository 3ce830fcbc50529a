use Rattle.std.proofs.Common.{◌≡◌, ◌==◌, ◌&&◌, ◌-◌, Bool, true, false, sym, ap, ◌∙◌}
use Rattle.node_seats.specs.Joining.{is_answered}
use Rattle.node_seats.specs.Seats.{is_captured}
use Rattle.node_seats.proofs.Above.{false_true}
use Rattle.node_seats.proofs.Asked as asked
use Rattle.node_seats.proofs.Walks as walks
use Rattle.node_seats.proofs.joining.+is_answered.Goals as goal
use Rattle.node_seats.proofs.joining.+is_answered.Goals.{then-is_withheld, else-is_withheld}

both_hold : (a b x : Bool) → a ≡ true → b ≡ true → x ≡ (a && (b && x))
both_hold a b x e f = sym (ap (λ c. c && (b && x)) e ∙ ap (λ c. c && x) f)

not_first : (a b x : Bool) → a ≡ false → false ≡ (a && (b && x))
not_first a b x e = sym (ap (λ c. c && (b && x)) e)

not_second : (a b x : Bool) → a ≡ true → b ≡ false → false ≡ (a && (b && x))
not_second a b x e f = sym (ap (λ c. c && (b && x)) e ∙ ap (λ c. c && x) f)

pub returns-then-levels-eq0 : goal.returns-then-levels-eq0
returns-then-levels-eq0 t c = asked.none_answered c.args.levels c.args.nodes.now c.args.at c.args.node.now c.if-levels-eq0.true

pub returns-in_default : goal.returns-in_default
returns-in_default t c = asked.free_answered c.args.levels c.args.nodes.now c.args.at c.args.node.now c.if-levels-eq0.false c.in_default.is

pub returns-then-child-at : goal.returns-then-child-at
returns-then-child-at t c =
    let nodes = c.args.nodes.now in
    let child = c.in-Some-get.child.now in
    let is = c.in-Some-get.ensures.lookup in
    let below = is_answered (c.args.levels - 1) nodes c.in-Some.asked child in
    let so = asked.child_answered c.args.levels nodes c.args.at c.in-Some.asked c.args.node.now child c.if-levels-eq0.false c.in-Some.is (walks.there_some nodes c.in-Some.asked child is.3.0 is.1) in
    elim c.if-is_withheld.branch [
      | then-is_withheld w ↦ c.is_answered.ensures ∙ both_hold (is_captured child.place) (child.parent == c.args.at) below (sym c.is_withheld.ensures ∙ w.if-is_withheld.true) (sym w.value-is ∙ c.if-child-at.true) ∙ so
      | else-is_withheld w ↦ absurd (false_true (sym w.if-is_withheld.false ∙ sym w.value-is ∙ c.if-child-at.true))
    ]

pub returns-else-child-at : goal.returns-else-child-at
returns-else-child-at t c =
    let nodes = c.args.nodes.now in
    let child = c.in-Some-get.child.now in
    let is = c.in-Some-get.ensures.lookup in
    let below = is_answered (c.args.levels - 1) nodes c.in-Some.asked child in
    let so = asked.child_answered c.args.levels nodes c.args.at c.in-Some.asked c.args.node.now child c.if-levels-eq0.false c.in-Some.is (walks.there_some nodes c.in-Some.asked child is.3.0 is.1) in
    elim c.if-is_withheld.branch [
      | then-is_withheld w ↦ c.if-child-at.false ∙ not_second (is_captured child.place) (child.parent == c.args.at) below (sym c.is_withheld.ensures ∙ w.if-is_withheld.true) (sym w.value-is ∙ c.if-child-at.false) ∙ so
      | else-is_withheld w ↦ c.if-child-at.false ∙ not_first (is_captured child.place) (child.parent == c.args.at) below (sym c.is_withheld.ensures ∙ w.if-is_withheld.false) ∙ so
    ]

pub returns-in-None : goal.returns-in-None
returns-in-None t c =
    asked.nobody_answered c.args.levels c.args.nodes.now c.args.at c.in-Some.asked c.args.node.now c.if-levels-eq0.false c.in-Some.is
    (walks.there_none c.args.nodes.now c.in-Some.asked c.in-None.ensures.lookup.3)
