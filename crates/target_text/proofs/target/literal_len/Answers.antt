use Rattle.std.proofs.Common.{arith, sym}
use Rattle.target_text.proofs.Divides as divides
use Rattle.target_text.proofs.target.literal_len.Goals as goal

pub returns-in-Some : goal.returns-in-Some
returns-in-Some c = λ main request vars.
    divides.first_path main request vars c.args.pieces.now c.first-item.result c.in-Some.bytes.now (omega (arith, c.in-len1-up.len_at_least)) c.first-item.is (sym c.in-Some.ensures)
