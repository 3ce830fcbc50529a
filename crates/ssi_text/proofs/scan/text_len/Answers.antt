use Rattle.std.proofs.Common.{◌<◌, ◌-◌, arith, length}
use Rattle.ssi_text.proofs.Steps.{front-no_hash, text-run}
use Rattle.ssi_text.proofs.scan.text_len.Goals as goal

pub text_len_at_end-requires : goal.text_len_at_end-requires
text_len_at_end-requires c = λ k h. front-no_hash c.args.bytes.now (length c.args.bytes.now) c.in-None.ensures k (omega arith) h

pub returns-then-ends_opening-clause-text : goal.returns-then-ends_opening-clause-text
returns-then-ends_opening-clause-text c =
    let high : c.in-Some.at < length c.args.bytes.now = c.in-Some.ensures.0.high in
    text-run (c.in-Some.at - 4) c.args.bytes.now (λ k h. front-no_hash c.args.bytes.now c.in-Some.at c.in-Some.ensures.0.before k (omega arith) (omega arith)) (omega arith)
