use Rattle.std.proofs.Common.{None, sym, subst}
use Rattle.response_flow.specs.Flights.{FlightFits, TailIn}
use Rattle.response_flow.proofs.Goes.{fits_alone}
use Rattle.response_flow.proofs.Tails.{alone_tail}
use Rattle.response_flow.proofs.run.alone.Goals as goal

pub returns-clause-fits : goal.returns-clause-fits
returns-clause-fits c = λ size count h opened few. subst (λ f. FlightFits f size) (sym c.alone_flight.ensures) (fits_alone c.args.onward.flow size count h opened few)

pub returns-clause-tail : goal.returns-clause-tail
returns-clause-tail c = λ out. subst (λ f. TailIn None f 0 out) (sym c.alone_flight.ensures) (alone_tail c.args.onward.flow out)
