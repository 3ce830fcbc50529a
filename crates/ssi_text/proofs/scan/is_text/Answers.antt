use Rattle.std.proofs.Common.{◌≡◌, length, arith}
use Rattle.std.proofs.lemmas.Bool.{eqb-true}
use Rattle.ssi_text.proofs.Steps.{all-text}
use Rattle.ssi_text.proofs.scan.is_text.Goals as goal

pub returns : goal.returns
returns c = λ e.
    let same : c.text_len.result ≡ length c.args.bytes.now = eqb-true c.text_len.result (length c.args.bytes.now) e in
    all-text c.args.bytes.now c.text_len.result (omega (arith, same)) c.text_len.ensures.text
