use Rattle.ssi_text.proofs.Feeds.{pieces-make-no-difference}
use Rattle.ssi_text.proofs.laws.pieces_make_no_difference.Goals as goal

pub returns : goal.returns
returns c = pieces-make-no-difference
