use Rattle.race_check.proofs.Notes.{first_noted}
use Rattle.race_check.proofs.first.names_read.Goals as goal

pub returns : goal.returns
returns c = first_noted c.new-settled.result c.new-names.result c.note_list.new.exposed _ c.new-settled.ensures c.new-names.ensures c.in_ok-note_list.ensures
