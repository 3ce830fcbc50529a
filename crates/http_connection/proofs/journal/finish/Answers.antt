use Rattle.std.proofs.Common.{ap, ◌∙◌, length, map, sym, subst, ◌++◌}
use Rattle.std.specs.Prelude.{not, is_some}
use Rattle.ngx_outside.specs.Views.{start_of}
use Rattle.response_flow.specs.request_flow.Rests.{logged_by}
use Rattle.http_connection.specs.Steps.{logged_in, IsLogged}
use Rattle.http_connection.proofs.Moves.{finished_starts, finished_count, finished_logged, finished_logs}
use Rattle.http_connection.proofs.journal.finish.Goals as goal

pub returns-clause-starts : goal.returns-clause-starts
returns-clause-starts c = ap (map start_of) c.finish.ensures.past ∙ finished_starts c.args.journal.now.past.entries c.args.log

pub returns-clause-count : goal.returns-clause-count
returns-clause-count c = ap length c.finish.ensures.past ∙ finished_count c.args.journal.now.past.entries c.args.log

pub returns-clause-logged : goal.returns-clause-logged
returns-clause-logged c = subst (IsLogged (not (is_some c.args.log))) (sym c.finish.ensures.past) (finished_logged c.args.journal.now.past.entries c.args.log c.requires)

pub returns-clause-log : goal.returns-clause-log
returns-clause-log c = ap logged_in c.finish.ensures.past ∙ finished_logs c.args.journal.now.past.entries c.args.log c.requires
