use Rattle.std.proofs.Common.{option_map}
use Rattle.ngx_variables.specs.Paths.{text_of}
use Rattle.site_whole.specs.Whole.{tries_seen}
use Rattle.race_meaning.specs.Reads.{in_text, in_tries}
use Rattle.race_check.proofs.Notes.{notes_both, notes_at}
use Rattle.race_check.proofs.values.note_own.Goals as goal

pub returns : goal.returns
returns c =
    let s = c.args.settled.now in
    let start = c.args.exposed.now in
    let one = c.note_text.new.exposed in
    notes_both s start one c.note_tries.new.exposed (λ n. in_text n (text_of c.args.level.now.place)) (λ n. in_tries n (option_map tries_seen c.args.level.now.tries))
    (notes_at s start one in_text _ _ c.place_text.ensures c.in_ok-note_text.ensures) c.in_ok-note_tries.ensures
