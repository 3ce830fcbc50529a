use Rattle.http_connection.proofs.Kept.{few_fits, few_lower}
use Rattle.http_connection.proofs.Tails.{plain_tail}
use Rattle.http_connection.proofs.open.refuse.Goals as goal

pub returns-clause-fits : goal.returns-clause-fits
returns-clause-fits c = few_fits c.put_refusal.new.out c.args.out.now c.requires c.in_ok-size.ensures.fits

pub returns-clause-lowers : goal.returns-clause-lowers
returns-clause-lowers c = few_lower c.put_refusal.new.out c.args.out.now c.requires c.in_ok-size.ensures.fits

pub returns-clause-tail : goal.returns-clause-tail
returns-clause-tail c = plain_tail c.put_refusal.new.out
