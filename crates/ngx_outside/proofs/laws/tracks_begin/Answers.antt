use Rattle.ngx_outside.proofs.Tracks.{tracks_begin}
use Rattle.ngx_outside.proofs.laws.tracks_begin.Goals as goal

pub returns : goal.returns
returns c = tracks_begin
