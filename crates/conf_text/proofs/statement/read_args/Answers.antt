use Rattle.std.proofs.Common.{subst}
use Rattle.conf_text.specs.Places.{ReadsToken}
use Rattle.conf_text.proofs.StatementLaws.{gathered-word, gathered-mark_kept}
use Rattle.conf_text.proofs.statement.read_args.Goals as goal

pub loop-args-preserved : goal.loop-args-preserved
loop-args-preserved c = (
  c.loop-args.invariant.0,
  gathered-word _ _ _ _ _ _ _ _ _ _ _ _ c.loop-args.invariant.1 c.in_ok-push-in-Word.ensures.ok
      (subst (λ t. ReadsToken t c.loop-args.place.line c.loop-args.place.rest.now c.read_token.new.place.line c.read_token.new.place.rest.now) c.in-Word.is c.in_ok-text.ensures),
)

pub returns-in-Mark : goal.returns-in-Mark
returns-in-Mark c = gathered-mark_kept _ _ _ _ _ _ _ _ _ _ _ _ _ c.loop-args.invariant.0 c.loop-args.invariant.1 c.in-Mark.is c.in_ok-text.ensures
