use Rattle.std.proofs.Common.{◌≡◌, ◌++◌, [], ◌∷◌, eqb, true, false, sym, ap, ◌∙◌, arith, append_assoc}
use Rattle.std.proofs.lemmas.Bool.Decides.{nat_tests}
use Rattle.filter_api.specs.ssi_text.Marks.{Other, marks, part_marks}
use Rattle.filter_api.specs.ssi_text.declared.part.Part.TheVariants.{Before}
use Rattle.addition_filter.specs.Machine.{is_nothing}
use Rattle.addition_filter.specs.Surrounds.{feeds-on, feeds-first}
use Rattle.addition_filter.proofs.filter.AdditionFilterBodyFilter.feed.Goals as goal

pub returns-then-state-ne0-clause-state : goal.returns-then-state-ne0-clause-state
returns-then-state-ne0-clause-state c =
    let e : eqb c.args.state.now.count 0 ≡ false = grind (arith, nat_tests) in
    sym (ap (λ a. a.0) (feeds-on c.args._facts.now c.args.state.now (part_marks c.args.part) e))

pub returns-then-state-ne0-clause-out : goal.returns-then-state-ne0-clause-out
returns-then-state-ne0-clause-out c =
    let e : eqb c.args.state.now.count 0 ≡ false = grind (arith, nat_tests) in
    c.in_ok-push_part.ensures ∙ ap (λ z. marks c.args.out.now.items ++ z) (sym (ap (λ a. a.1) (feeds-on c.args._facts.now c.args.state.now (part_marks c.args.part) e)))

pub returns-clause-state : goal.returns-clause-state
returns-clause-state c =
    let e : eqb c.args.state.now.count 0 ≡ true = grind (arith, nat_tests) in
    let f : is_nothing (part_marks c.args.part) ≡ false = sym c.is_nothing.ensures ∙ c.if-is_nothing.false in
    sym (ap (λ a. a.0) (feeds-first c.args._facts.now c.args.state.now (part_marks c.args.part) e f))

pub returns-clause-out : goal.returns-clause-out
returns-clause-out c =
    let e : eqb c.args.state.now.count 0 ≡ true = grind (arith, nat_tests) in
    let f : is_nothing (part_marks c.args.part) ≡ false = sym c.is_nothing.ensures ∙ c.if-is_nothing.false in
    let o = marks c.args.out.now.items in
    let pm = part_marks c.args.part in
    c.in_ok-push_part-3.ensures ∙ ap (λ z. z ++ pm) c.in_ok-push_part-2.ensures ∙ append_assoc o (Other Before ∷ []) pm ∙ ap (λ z. o ++ z) (sym (ap (λ a. a.1) (feeds-first c.args._facts.now c.args.state.now pm e f)))
