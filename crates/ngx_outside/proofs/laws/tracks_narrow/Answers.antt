use Rattle.ngx_outside.proofs.Tracks.{tracks_narrow}
use Rattle.ngx_outside.proofs.laws.tracks_narrow.Goals as goal

pub returns : goal.returns
returns c = tracks_narrow
