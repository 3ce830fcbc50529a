use Rattle.std.proofs.Common.{refl}
use Rattle.ngx_outside.specs.declared.event.Event.TheVariants.{Arrived}
use Rattle.replay_run.proofs.serve.offer.Goals as goal

pub returns-in-Done-clause-offers : goal.returns-in-Done-clause-offers
returns-in-Done-clause-offers g c = record {
  event = Arrived c.args.lane.now.conn c.front.result;
  arrival = (refl, c.front.ensures);
  gives = record { steps = c.in-Done.ensures.steps; moment = c.in-Done.ensures.now; ended = c.in-Done.ensures.ended };
}

pub returns-in-Skipped-clause-offers : goal.returns-in-Skipped-clause-offers
returns-in-Skipped-clause-offers g c = record {
  event = Arrived c.args.lane.now.conn c.front.result;
  arrival = (refl, c.front.ensures);
  gives = record { steps = c.step-answer.ensures.steps; moment = c.step-answer.ensures.now; ended = c.step-answer.ensures.ended };
}

pub returns-in-OutOfMemory-clause-offers : goal.returns-in-OutOfMemory-clause-offers
returns-in-OutOfMemory-clause-offers g c = record {
  event = Arrived c.args.lane.now.conn c.front.result;
  arrival = (refl, c.front.ensures);
  gives = record { steps = c.step-answer.ensures.steps; moment = c.step-answer.ensures.now; ended = c.step-answer.ensures.ended };
}
