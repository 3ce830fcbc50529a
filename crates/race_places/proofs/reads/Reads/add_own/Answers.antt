use Rattle.race_check.specs.Names.{has}
use Rattle.race_places.specs.Places.{keep_if, line_list}
use Rattle.race_places.proofs.Among.{gains_by, there_kept}
use Rattle.race_places.proofs.reads.Reads.add_own.Goals as goal

pub returns-clause-gains : goal.returns-clause-gains
returns-clause-gains c = gains_by c.args.self.now.index c.add_some.new.self (λ name. keep_if (has c.args.names.now name) (line_list c.args.line)) c.in_ok-add_some.ensures

pub returns-clause-there : goal.returns-clause-there
returns-clause-there c =
    there_kept c.args.site.now c.args.lists.now c.args.self.now.marks.items c.args.self.now.index c.add_some.new.self (λ name. keep_if (has c.args.names.now name) (line_list c.args.line))
    (gains_by c.args.self.now.index c.add_some.new.self (λ name. keep_if (has c.args.names.now name) (line_list c.args.line)) c.in_ok-add_some.ensures) c.requires
