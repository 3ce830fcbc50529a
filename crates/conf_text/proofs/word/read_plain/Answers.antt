use Rattle.std.proofs.Common.{sym, ap, ◌∙◌}
use Rattle.std.proofs.lemmas.Bool.{OnTrue_at}
use Rattle.conf_text.specs.Words.{Faulty}
use Rattle.conf_text.specs.declared.fault.FaultKind.TheVariants.{TokenTooLong}
use Rattle.conf_text.proofs.WordLaws.{under-faulty, plain-nothing, plain-cut, plain-pair_full, plain-byte_full, plain-ends_there, plain-pair_on, plain-byte_on}
use Rattle.conf_text.proofs.word.read_plain.Goals as goal

pub returns-in_default-first_of : goal.returns-in_default-first_of
returns-in_default-first_of c = under-faulty _ _ _ _ _ _ _ _ _ c.loop-first.invariant (plain-cut _ _ _ _ _ _ c.in-Some.ensures c.if-first-eq92.true c.in_default-first_of.ensures)

pub returns-then-not-branch : goal.returns-then-not-branch
returns-then-not-branch c =
    under-faulty _ _ _ _ _ _ _ _ _ c.loop-first.invariant
    (plain-pair_full _ _ _ _ _ _ _ _ c.in-Some.ensures c.if-first-eq92.true c.in-Some-first_of.ensures (sym c.in_ok-put_escape.ensures.fits ∙ c.if-not-branch.true)
    ∙ ap (λ l. Faulty TokenTooLong l) (sym c.line_after-place.ensures.value))

pub loop-first-preserved-then-first-eq92 : goal.loop-first-preserved-then-first-eq92
loop-first-preserved-then-first-eq92 c =
    plain-pair_on _ _ _ _ _ _ _ _ _ _ _ _ _ c.loop-first.invariant c.in-Some.ensures c.if-first-eq92.true c.in-Some-first_of.ensures c.line_after-place.ensures.value
    (sym c.in_ok-put_escape.ensures.fits ∙ c.if-not-branch.false) (OnTrue_at c.if-not-branch.false c.in_ok-put_escape.ensures.kept)

pub returns-then-ends_word : goal.returns-then-ends_word
returns-then-ends_word c =
    (plain-ends_there _ _ _ _ _ _ _ _ _ _ c.loop-first.invariant c.in-Some.ensures c.if-first-eq92.false (sym c.ends_word.ensures ∙ c.if-ends_word.true), c.loop-first.invariant.passed)

pub returns-then-not-branch-2 : goal.returns-then-not-branch-2
returns-then-not-branch-2 c =
    under-faulty _ _ _ _ _ _ _ _ _ c.loop-first.invariant
    (plain-byte_full _ _ _ _ _ _ c.in-Some.ensures c.if-first-eq92.false (sym c.ends_word.ensures ∙ c.if-ends_word.false) (sym c.in_ok-put.ensures.fits ∙ c.if-not-branch-2.true))

pub loop-first-preserved : goal.loop-first-preserved
loop-first-preserved c =
    plain-byte_on _ _ _ _ _ _ _ _ _ _ c.loop-first.invariant c.in-Some.ensures c.if-first-eq92.false (sym c.ends_word.ensures ∙ c.if-ends_word.false)
    (sym c.in_ok-put.ensures.fits ∙ c.if-not-branch-2.false) (OnTrue_at c.if-not-branch-2.false c.in_ok-put.ensures.kept)

pub returns : goal.returns
returns c = under-faulty _ _ _ _ _ _ _ _ _ c.loop-first.invariant (plain-nothing _ _ _ _ c.in_default.ensures)
