use Rattle.std.proofs.Common.{◌≤◌, ◌+◌, arith, length}
use Rattle.ssi_text.proofs.Steps.{front-elsewhere, text-run}
use Rattle.ssi_text.proofs.scan.text_len_to_opening.Goals as goal

pub text_len_at_end-requires : goal.text_len_at_end-requires
text_len_at_end-requires c = λ k h. front-elsewhere c.args.bytes.now k h (c.in-None.ensures k (omega arith) (omega arith))

pub returns-in-Some-clause-text : goal.returns-in-Some-clause-text
returns-in-Some-clause-text c =
    let fits : c.in-Some.at + 5 ≤ length c.args.bytes.now = c.in-Some.ensures.1.fits in
    text-run c.in-Some.at c.args.bytes.now (λ k h. front-elsewhere c.args.bytes.now k (omega arith) (c.in-Some.ensures.0.before k (omega arith) h)) (omega arith)
