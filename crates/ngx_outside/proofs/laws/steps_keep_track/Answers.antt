use Rattle.ngx_outside.proofs.Tracks.{steps_keep_track}
use Rattle.ngx_outside.proofs.laws.steps_keep_track.Goals as goal

pub returns : goal.returns
returns c = steps_keep_track
