use Rattle.ngx_outside.proofs.Tracks.{all_is_logged_when_idle}
use Rattle.ngx_outside.proofs.laws.all_is_logged_when_idle.Goals as goal

pub returns : goal.returns
returns c = all_is_logged_when_idle
