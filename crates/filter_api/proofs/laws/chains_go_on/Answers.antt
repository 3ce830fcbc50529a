use Rattle.filter_api.proofs.Turns.{still-begun, still-append}
use Rattle.filter_api.proofs.laws.chains_go_on.Goals as goal

pub returns : goal.returns
returns c = record { begins = still-begun; goes_on = still-append }
