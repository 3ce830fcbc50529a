use Rattle.std.proofs.Common.{[], map}
use Rattle.site_whole.specs.Whole.{step_seen}
use Rattle.race_meaning.specs.Reads.{in_directive}
use Rattle.race_places.specs.Places.{lines_of}
use Rattle.race_places.proofs.Among.{gains_by, there_kept}
use Rattle.race_places.proofs.reads.Reads.add_program.Goals as goal

pub returns-clause-gains : goal.returns-clause-gains
returns-clause-gains c = λ patterns.
    gains_by c.args.self.now.index c.add_reading_steps.new.reads (λ name. lines_of (in_directive name) (map (step_seen patterns c.args.site.now) c.args.steps.now) c.args.lines.now) (c.in_ok-add_reading_steps.ensures patterns c.args.site.now)

pub returns-clause-there : goal.returns-clause-there
returns-clause-there c =
    there_kept c.args.site.now c.args.lists.now c.args.self.now.marks.items c.args.self.now.index c.add_reading_steps.new.reads (λ name. lines_of (in_directive name) (map (step_seen [] c.args.site.now) c.args.steps.now) c.args.lines.now)
    (gains_by c.args.self.now.index c.add_reading_steps.new.reads (λ name. lines_of (in_directive name) (map (step_seen [] c.args.site.now) c.args.steps.now) c.args.lines.now) (c.in_ok-add_reading_steps.ensures [] c.args.site.now)) c.requires
