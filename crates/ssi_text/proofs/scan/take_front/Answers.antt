use Rattle.std.proofs.Common.{◌≡◌, ◌<◌, ◌≤◌, sym, ap, ◌∙◌, arith, length, ◌++◌}
use Rattle.ssi_text.specs.declared.part.Front.TheVariants.{Whole}
use Rattle.ssi_text.specs.Marks.{marks}
use Rattle.ssi_text.specs.Split.{front}
use Rattle.ssi_text.proofs.Decided.{front-within}
use Rattle.ssi_text.proofs.Steps.{split-open, moved-plain, moved-whole, part_is-other}
use Rattle.ssi_text.proofs.scan.take_front.Goals as goal

pub returns-in-Open-clause-open : goal.returns-in-Open-clause-open
returns-in-Open-clause-open c = λ _. split-open c.args.bytes.now c.requires (sym c.in-Open.is ∙ c.in_ok-front_of.ensures)

pub returns-in_ok-push_text-in-Plain-clause-moved : goal.returns-in_ok-push_text-in-Plain-clause-moved
returns-in_ok-push_text-in-Plain-clause-moved c = moved-plain _ _ c.args.bytes.now c.requires (sym c.in-Plain.is ∙ c.in_ok-front_of.ensures) c.in_ok-push_text-in-Plain.ensures

pub returns-in_ok-push_part-in-Whole-clause-within : goal.returns-in_ok-push_part-in-Whole-clause-within
returns-in_ok-push_part-in-Whole-clause-within c = (front-within c.args.bytes.now c.in-Whole.part c.in-Whole.n (sym (sym c.in-Whole.is ∙ c.in_ok-front_of.ensures))).1

pub returns-in_ok-push_part-in-Whole-clause-moved : goal.returns-in_ok-push_part-in-Whole-clause-moved
returns-in_ok-push_part-in-Whole-clause-moved c =
    let f : Whole c.in-Whole.part c.in-Whole.n ≡ front c.args.bytes.now = sym c.in-Whole.is ∙ c.in_ok-front_of.ensures in
    moved-whole _ _ c.args.bytes.now c.in-Whole.part c.in-Whole.n c.requires f (c.in_ok-push_part-in-Whole.ensures ∙ ap (λ z. marks c.args.out.now.items ++ z) (part_is-other c.args.bytes.now c.in-Whole.part c.in-Whole.n f))

pub returns-in_ok-push_part-in-Whole-clause-open : goal.returns-in_ok-push_part-in-Whole-clause-open
returns-in_ok-push_part-in-Whole-clause-open c = λ e.
    let w : (0 < c.in-Whole.n) × (c.in-Whole.n ≤ length c.args.bytes.now) = front-within c.args.bytes.now c.in-Whole.part c.in-Whole.n (sym (sym c.in-Whole.is ∙ c.in_ok-front_of.ensures)) in
    absurd (omega (arith, w.0))
