use Rattle.ngx_outside.proofs.Tracks.{all_is_sent_when_shut}
use Rattle.ngx_outside.proofs.laws.all_is_sent_when_shut.Goals as goal

pub returns : goal.returns
returns c = all_is_sent_when_shut
