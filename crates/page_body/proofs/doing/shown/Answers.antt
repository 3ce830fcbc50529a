use Rattle.std.proofs.Common.{eqb, length, false, not, ◌&&◌, sym, ap, ◌∙◌}
use Rattle.page_body.specs.Reading.ReadsTo.{Rests}
use Rattle.ssi_exec.specs.Scenes.{bytes_then}
use Rattle.page_body.proofs.Bodies.{some_is_written, nothing_is_written}
use Rattle.page_body.proofs.doing.shown.Goals as goal
use Rattle.page_body.proofs.doing.shown.Goals.{else-live-via-then-live+else-not-is_empty, else-live-via-else-live}

pub returns-then-not-is_empty-clause-does : goal.returns-then-not-is_empty-clause-does
returns-then-not-is_empty-clause-does c = λ main vars act captures. (
  bytes_then c.args.live c.args.text act,
  Rests,
  some_is_written c.args.live c.args.text act c.if-live.true (sym c.is_empty.ensures ∙ c.if-not-is_empty.true),
)

pub returns-else-live-clause-does : goal.returns-else-live-clause-does
returns-else-live-clause-does c = λ main vars act captures.
    elim c.else-live.branch [
      | else-live-via-then-live+else-not-is_empty w ↦ nothing_is_written vars c.args.live c.args.text act
          (ap (λ b. c.args.live && not b) (sym w.is_empty.ensures ∙ w.if-not-is_empty.false) ∙ ap (λ l. l && false) w.if-live.true)
      | else-live-via-else-live w ↦ nothing_is_written vars c.args.live c.args.text act (ap (λ l. l && not (eqb (length c.args.text) 0)) w.if-live.false)
    ]
