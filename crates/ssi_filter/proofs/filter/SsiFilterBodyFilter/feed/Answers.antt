use Rattle.std.proofs.Common.{◌≡◌, ◌<◌, ◌++◌, eqb, false, length, refl, sym, ap, ◌∙◌, arith}
use Rattle.std.proofs.lemmas.Bool.Decides.{nat_tests}
use Rattle.ssi_text.specs.Marks.{marks, part_marks}
use Rattle.ssi_text.specs.Split.{split}
use Rattle.filter_api.specs.Members.{feeds}
use Rattle.ssi_filter.specs.Machine.{ssi_machine, with_undecided}
use Rattle.ssi_filter.specs.Splits.{text_state, text_out}
use Rattle.ssi_filter.proofs.filter.SsiFilterBodyFilter.feed.Goals as goal

pub returns-in_ok-feed_text-in-Text-clause-state : goal.returns-in_ok-feed_text-in-Text-clause-state
returns-in_ok-feed_text-in-Text-clause-state c =
    let m = ssi_machine c.args._facts.now in
    let s = c.args.state.now in
    let t = c.in-Text.text in
    let some_test : eqb (length t) 0 ≡ false = sym c.is_empty.ensures ∙ c.if-is_empty.false in
    let some : 0 < length t = grind (arith, nat_tests) in
    c.in_ok-feed_text-in-Text.ensures.state ∙ ap (λ z. with_undecided s (split 0 (s.undecided ++ z)).1) c.as_slice.ensures
    ∙ sym (ap (λ p. (feeds m s (part_marks p)).0) c.in-Text.is ∙ text_state c.args._facts.now s t (split 0 (s.undecided ++ t)).1 some refl)

pub returns-in_ok-feed_text-in-Text-clause-out : goal.returns-in_ok-feed_text-in-Text-clause-out
returns-in_ok-feed_text-in-Text-clause-out c =
    let m = ssi_machine c.args._facts.now in
    let s = c.args.state.now in
    let t = c.in-Text.text in
    let o = marks c.args.out.now.items in
    let some_test : eqb (length t) 0 ≡ false = sym c.is_empty.ensures ∙ c.if-is_empty.false in
    let some : 0 < length t = grind (arith, nat_tests) in
    c.in_ok-feed_text-in-Text.ensures.out ∙ ap (λ z. o ++ (split 0 (s.undecided ++ z)).0) c.as_slice.ensures
    ∙ sym (ap (λ p. o ++ (feeds m s (part_marks p)).1) c.in-Text.is ∙ ap (λ z. o ++ z) (text_out c.args._facts.now s t some))
