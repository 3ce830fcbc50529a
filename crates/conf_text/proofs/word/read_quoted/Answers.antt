use Rattle.std.proofs.Common.{sym, ap, ◌∙◌, ◌==◌}
use Rattle.std.proofs.lemmas.Bool.{OnTrue_at, ne_eqb}
use Rattle.conf_text.specs.declared.fault.FaultKind.TheVariants.{TokenTooLong}
use Rattle.conf_text.specs.Words.{Faulty}
use Rattle.conf_text.proofs.WordLaws.{under-faulty, quoted-nothing, quoted-cut, quoted-pair_full, quoted-byte_full, quoted-closes_there, quoted-pair_on, quoted-byte_on}
use Rattle.conf_text.proofs.word.read_quoted.Goals as goal

pub returns-in_default-first_of : goal.returns-in_default-first_of
returns-in_default-first_of c = under-faulty _ _ _ _ _ _ _ _ _ c.loop-first.invariant (quoted-cut _ _ _ _ _ _ c.in-Some.ensures c.if-first-eq92.true c.in_default-first_of.ensures)

pub returns-then-not-branch : goal.returns-then-not-branch
returns-then-not-branch c =
    under-faulty _ _ _ _ _ _ _ _ _ c.loop-first.invariant
    (quoted-pair_full _ _ _ _ _ _ _ _ c.in-Some.ensures c.if-first-eq92.true c.in-Some-first_of.ensures (sym c.in_ok-put_escape.ensures.fits ∙ c.if-not-branch.true)
    ∙ ap (λ l. Faulty TokenTooLong l) (sym c.line_after-place.ensures.value))

pub loop-first-preserved-else-not-branch : goal.loop-first-preserved-else-not-branch
loop-first-preserved-else-not-branch c =
    quoted-pair_on _ _ _ _ _ _ _ _ _ _ _ _ _ c.loop-first.invariant c.in-Some.ensures c.if-first-eq92.true c.in-Some-first_of.ensures c.line_after-place.ensures.value
    (sym c.in_ok-put_escape.ensures.fits ∙ c.if-not-branch.false) (OnTrue_at c.if-not-branch.false c.in_ok-put_escape.ensures.kept)

pub returns-then-first-quote : goal.returns-then-first-quote
returns-then-first-quote c =
    quoted-closes_there _ _ _ _ _ _ _ _ _ _ _ c.loop-first.invariant c.in-Some.ensures c.if-first-eq92.false c.if-first-quote.true
    (ap (λ x. x == 10) c.if-first-quote.true ∙ ne_eqb _ 10 c.requires.quote) c.wrong_behind_quote.ensures

pub returns-then-not-branch-2 : goal.returns-then-not-branch-2
returns-then-not-branch-2 c =
    under-faulty _ _ _ _ _ _ _ _ _ c.loop-first.invariant
    (quoted-byte_full _ _ _ _ _ _ c.in-Some.ensures c.if-first-eq92.false c.if-first-quote.false (sym c.in_ok-put.ensures.fits ∙ c.if-not-branch-2.true)
    ∙ ap (λ l. Faulty TokenTooLong l) (sym c.line_after-place-else-first-quote.ensures.value))

pub loop-first-preserved : goal.loop-first-preserved
loop-first-preserved c =
    quoted-byte_on _ _ _ _ _ _ _ _ _ _ _ c.loop-first.invariant c.in-Some.ensures c.if-first-eq92.false c.if-first-quote.false c.line_after-place-else-first-quote.ensures.value
    (sym c.in_ok-put.ensures.fits ∙ c.if-not-branch-2.false) (OnTrue_at c.if-not-branch-2.false c.in_ok-put.ensures.kept)

pub returns : goal.returns
returns c = under-faulty _ _ _ _ _ _ _ _ _ c.loop-first.invariant (quoted-nothing _ _ _ _ c.in_default.ensures)
