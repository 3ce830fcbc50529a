use Rattle.ngx_outside.proofs.Tracks.{stops_keep_track}
use Rattle.ngx_outside.proofs.laws.stops_keep_track.Goals as goal

pub returns : goal.returns
returns c = stops_keep_track
