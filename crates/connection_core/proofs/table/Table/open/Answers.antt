use Rattle.std.proofs.Common.{◌≡◌, length, subst, sym, ap, ◌∙◌, arith}
use Rattle.std.specs.List.{insert}
use Rattle.ngx_outside.specs.Views.{StepsOwn, OneSteps}
use Rattle.ngx_outside.specs.declared.event.Event.TheVariants as ev
use Rattle.ngx_outside.specs.declared.event.StepAnswer.TheVariants.{Done}
use Rattle.http_connection.specs.Conn.{fresh_course}
use Rattle.http_connection.specs.Rests.{Serves}
use Rattle.connection_core.specs.Table.{serves_with, view_in}
use Rattle.connection_core.proofs.Held.{stands_in, belongs_in}
use Rattle.connection_core.proofs.Ends.{gap_at, put_steps, put_left, put_known, opens_full, opens_deaf, opens_held, opens_free}
use Rattle.connection_core.proofs.Reached.{put_reached}
use Rattle.connection_core.proofs.table.Table.open.Goals as goal
use Rattle.connection_core.proofs.table.Table.open.Goals.{then-len-ge-MOST-via-then-len-ge-MOST, then-len-ge-MOST-via-else-len-ge-MOST+then-not-is_listening}

pub returns-then-len-ge-MOST-clause-opens : goal.returns-then-len-ge-MOST-clause-opens
returns-then-len-ge-MOST-clause-opens c = λ patterns.
    let t = c.args.self.now in
    elim c.then-len-ge-MOST.branch [
      | then-len-ge-MOST-via-then-len-ge-MOST w ↦ opens_full patterns t.served.site t.ids.items c.args.conn c.args.local (omega (arith, w.if-len-ge-MOST.true, c.len.ensures, t.ids.ok.0))
      | then-len-ge-MOST-via-else-len-ge-MOST+then-not-is_listening w ↦ opens_deaf patterns t.served.site t.ids.items c.args.conn c.args.local (sym (w.is_listening.ensures patterns) ∙ w.if-not-is_listening.true)
    ]

pub returns-in-Ok-clause-opens : goal.returns-in-Ok-clause-opens
returns-in-Ok-clause-opens c = λ patterns.
    let t = c.args.self.now in
    opens_held patterns t.served.site t.ids.items c.args.conn c.in-Ok.field-0 c.args.local (stands_in c.args.conn c.in-Ok.field-0 c.as_slice.result.now t.ids.items c.as_slice.ensures.value c.in-Ok.ensures)

pub returns-in-Ok-make-clause-steps : goal.returns-in-Ok-make-clause-steps
returns-in-Ok-make-clause-steps c = λ patterns now.
    let t = c.args.self.now in
    let x : Serves = serves_with patterns t.served in
    let n = c.put.new.self in
    let even : length t.conns.items ≡ length t.ids.items = omega (arith, t.paired, t.ids.ok.0, t.conns.ok.0) in
    let g = gap_at c.args.conn c.in-Err.at t.ids.items t.conns.items (belongs_in c.args.conn c.in-Err.at c.as_slice.result.now t.ids.items c.as_slice.ensures.value c.in-Err.ensures) even in
    let ids : n.ids.items ≡ insert t.ids.items c.in-Err.at c.args.conn = c.put.ensures.ids ∙ ap (λ l. insert l c.in-Err.at c.args.conn) c.make.ensures.ids in
    let conns : n.conns.items ≡ insert t.conns.items c.in-Err.at c.in-Ok-make.fresh = c.put.ensures.conns ∙ ap (λ l. insert l c.in-Err.at c.in-Ok-make.fresh) c.make.ensures.conns in
    subst (λ s. OneSteps c.args.conn (StepsOwn (fresh_course t.served.raceless patterns t.served.site c.args.local c.args.peer) now (ev.Opened c.args.conn c.args.local c.args.peer) (Done 0)) (view_in x t.ids.items t.conns.items) (view_in (serves_with patterns s) n.ids.items n.conns.items)) (sym (c.put.ensures.served ∙ c.make.ensures.served))
    (put_steps x c.args.conn c.in-Err.at t.ids.items n.ids.items t.conns.items n.conns.items c.in-Ok-make.fresh g ids conns c.args.local c.args.peer (c.in-Ok-make.ensures.fresh x) now 0)

pub returns-in-Ok-make-clause-opens : goal.returns-in-Ok-make-clause-opens
returns-in-Ok-make-clause-opens c = λ patterns.
    let t = c.args.self.now in
    opens_free patterns t.served.site t.ids.items c.args.conn c.in-Err.at c.args.local (belongs_in c.args.conn c.in-Err.at c.as_slice.result.now t.ids.items c.as_slice.ensures.value c.in-Err.ensures) (omega (arith, c.if-len-ge-MOST.false, c.len.ensures, t.ids.ok.0)) (sym (c.is_listening.ensures patterns) ∙ c.if-not-is_listening.false)

pub returns-in-Ok-make-clause-left : goal.returns-in-Ok-make-clause-left
returns-in-Ok-make-clause-left c =
    let t = c.args.self.now in
    let n = c.put.new.self in
    let even : length t.conns.items ≡ length t.ids.items = omega (arith, t.paired, t.ids.ok.0, t.conns.ok.0) in
    let g = gap_at c.args.conn c.in-Err.at t.ids.items t.conns.items (belongs_in c.args.conn c.in-Err.at c.as_slice.result.now t.ids.items c.as_slice.ensures.value c.in-Err.ensures) even in
    let conns : n.conns.items ≡ insert t.conns.items c.in-Err.at c.in-Ok-make.fresh = c.put.ensures.conns ∙ ap (λ l. insert l c.in-Err.at c.in-Ok-make.fresh) c.make.ensures.conns in
    put_left c.args.conn c.in-Err.at t.ids.items t.conns.items n.conns.items c.in-Ok-make.fresh g conns c.in-Ok-make.ensures.left

pub returns-in-Err-make-clause-opens : goal.returns-in-Err-make-clause-opens
returns-in-Err-make-clause-opens c = λ patterns.
    let t = c.args.self.now in
    opens_free patterns t.served.site t.ids.items c.args.conn c.in-Err.at c.args.local (belongs_in c.args.conn c.in-Err.at c.as_slice.result.now t.ids.items c.as_slice.ensures.value c.in-Err.ensures) (omega (arith, c.if-len-ge-MOST.false, c.len.ensures, t.ids.ok.0)) (sym (c.is_listening.ensures patterns) ∙ c.if-not-is_listening.false)

pub returns-in-Ok-make-clause-known : goal.returns-in-Ok-make-clause-known
returns-in-Ok-make-clause-known c = λ tree known.
    let t = c.args.self.now in
    let n = c.put.new.self in
    let even : length t.conns.items ≡ length t.ids.items = omega (arith, t.paired, t.ids.ok.0, t.conns.ok.0) in
    let g = gap_at c.args.conn c.in-Err.at t.ids.items t.conns.items (belongs_in c.args.conn c.in-Err.at c.as_slice.result.now t.ids.items c.as_slice.ensures.value c.in-Err.ensures) even in
    let conns : n.conns.items ≡ insert t.conns.items c.in-Err.at c.in-Ok-make.fresh = c.put.ensures.conns ∙ ap (λ l. insert l c.in-Err.at c.in-Ok-make.fresh) c.make.ensures.conns in
    put_known tree c.args.conn c.in-Err.at t.ids.items t.conns.items n.conns.items c.in-Ok-make.fresh g conns c.in-Ok-make.ensures.asked known

pub returns-in-Ok-make-clause-reached : goal.returns-in-Ok-make-clause-reached
returns-in-Ok-make-clause-reached c = λ x led.
    let t = c.args.self.now in
    let n = c.put.new.self in
    let even : length t.conns.items ≡ length t.ids.items = omega (arith, t.paired, t.ids.ok.0, t.conns.ok.0) in
    let g = gap_at c.args.conn c.in-Err.at t.ids.items t.conns.items (belongs_in c.args.conn c.in-Err.at c.as_slice.result.now t.ids.items c.as_slice.ensures.value c.in-Err.ensures) even in
    let conns : n.conns.items ≡ insert t.conns.items c.in-Err.at c.in-Ok-make.fresh = c.put.ensures.conns ∙ ap (λ l. insert l c.in-Err.at c.in-Ok-make.fresh) c.make.ensures.conns in
    put_reached x c.args.conn c.in-Err.at t.ids.items t.conns.items n.conns.items c.in-Ok-make.fresh g conns c.in-Ok-make.ensures.flight led
