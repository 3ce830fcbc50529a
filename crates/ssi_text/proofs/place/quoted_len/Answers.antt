use Rattle.std.proofs.Common.{◌≡◌, ◌∙◌, ◌+◌, ap, arith, drop}
use Rattle.ssi_text.specs.Commands.{quoted}
use Rattle.ssi_text.proofs.Scans.{add}
use Rattle.ssi_text.proofs.Insides.{quoted-close, quoted-skip, quoted-on, quoted-past}
use Rattle.ssi_text.proofs.place.quoted_len.Goals as goal

pub returns-then-byte-quote-clause-value : goal.returns-then-byte-quote-clause-value
returns-then-byte-quote-clause-value c = quoted-close c.args.quote c.args.bytes.now c.loop-at.at c.loop-at-test.true c.if-byte-quote.true ∙ c.loop-at.invariant

pub loop-at-preserved-then-byte-eq92 : goal.loop-at-preserved-then-byte-eq92
loop-at-preserved-then-byte-eq92 c =
    ap (λ n. add n (quoted c.args.quote (drop n c.args.bytes.now))) (let n : c.loop-at.at + 1 + 1 ≡ c.loop-at.at + 2 = omega arith in n)
    ∙ quoted-skip c.args.quote c.args.bytes.now c.loop-at.at c.loop-at-test.true c.if-byte-quote.false c.if-byte-eq92.true ∙ c.loop-at.invariant

pub loop-at-preserved : goal.loop-at-preserved
loop-at-preserved c = quoted-on c.args.quote c.args.bytes.now c.loop-at.at c.loop-at-test.true c.if-byte-quote.false c.if-byte-eq92.false ∙ c.loop-at.invariant

pub returns-clause-value : goal.returns-clause-value
returns-clause-value c = quoted-past c.args.quote c.args.bytes.now c.loop-at.at c.loop-at-test.false ∙ c.loop-at.invariant
