use Rattle.std.proofs.Common.{◌≡◌, ◌||◌, not, false, map, subst}
use Rattle.site_whole.specs.Whole.{step_seen}
use Rattle.race_meaning.specs.Reads.{is_private_in}
use Rattle.race_check.specs.Names.{has}
use Rattle.race_check.proofs.reads.note_program.Goals as goal

pub returns : goal.returns
returns c = λ patterns site name.
    subst (λ l. has c.note_steps.new.exposed name ≡ (not (is_private_in name false 0 (map (step_seen patterns site) l)) || has c.args.exposed.now name)) c.as_slice.ensures (c.in_ok-note_steps.ensures patterns site name)
