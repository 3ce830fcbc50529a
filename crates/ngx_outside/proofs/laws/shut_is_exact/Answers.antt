use Rattle.ngx_outside.proofs.Tracks.{shut_is_exact}
use Rattle.ngx_outside.proofs.laws.shut_is_exact.Goals as goal

pub returns : goal.returns
returns c = shut_is_exact
