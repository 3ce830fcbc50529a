use Rattle.request_phases.proofs.Slashes.{last_slash}
use Rattle.request_phases.proofs.content.ends_in_slash.Goals as goal

pub returns-in-len1-up : goal.returns-in-len1-up
returns-in-len1-up c = last_slash c.args.path.now c.in-len1-up.len_at_least
