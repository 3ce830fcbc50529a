use Rattle.std.proofs.Common.{◌≡◌, ◌++◌, take}
use Rattle.std.specs.Prelude.{map, flat_map}
use Rattle.replay_run.specs.Scene.{stage}
use Rattle.site_service.specs.connection_core.Core.{view_at, now_at, journal_at}
use Rattle.report_text.specs.Report.{conn_text}
use Rattle.ngx_cli.specs.Running.{report_in}
use Rattle.ngx_cli.proofs.script.put_run.Given as goal

abbrev pub invariant-loop-conn : goal.invariant-loop-conn
invariant-loop-conn l =
    l.out ≡ l.initial.out ++ flat_map conn_text (map (report_in (stage (view_at l.hub) (now_at l.hub) l.player.lanes.items) (journal_at l.hub)) (take l.conn-index l.conn-items))
