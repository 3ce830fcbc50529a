use Rattle.std.proofs.Common.{[], refl, sym}
use Rattle.req_head.proofs.MadeLemmas.{empty-more}
use Rattle.req_head.proofs.laws.awaits_first.Goals as goal

pub returns : goal.returns
returns c = sym (empty-more [] refl)
