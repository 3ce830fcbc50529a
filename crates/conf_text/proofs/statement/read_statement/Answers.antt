use Rattle.std.proofs.Common.{subst}
use Rattle.conf_text.specs.Places.{ReadsToken}
use Rattle.conf_text.proofs.StatementLaws.{statement-bare, statement-led}
use Rattle.conf_text.proofs.statement.read_statement.Goals as goal

pub returns-in_ok-statement-in-Word : goal.returns-in_ok-statement-in-Word
returns-in_ok-statement-in-Word c =
    statement-led _ _ _ _ _ _ c.in_ok-statement-in-Word.statement c.read_args.new.place.line c.read_args.new.place.rest.now
    (subst (λ t. ReadsToken t c.args.place.now.line c.args.place.now.rest.now c.read_token.new.place.line c.read_token.new.place.rest.now) c.in-Word.is c.in_ok-line.ensures)
    c.in_ok-statement-in-Word.ensures

pub returns-in-Mark : goal.returns-in-Mark
returns-in-Mark c =
    statement-bare _ _ _ _ _ _
    (subst (λ t. ReadsToken t c.args.place.now.line c.args.place.now.rest.now c.read_token.new.place.line c.read_token.new.place.rest.now) c.in-Mark.is c.in_ok-line.ensures)
