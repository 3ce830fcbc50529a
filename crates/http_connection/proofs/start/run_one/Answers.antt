use Rattle.std.proofs.Common.{None, refl, sym, subst, ap, ◌∙◌, length, arith}
use Rattle.std.specs.Prelude.{is_some, not, ◌||◌}
use Rattle.response_flow.specs.Flights.{TailFits, flight_tree}
use Rattle.response_flow.specs.declared.flight.Onward.{Onward}
use Rattle.http_connection.specs.Rests.{ReachedIn, Serves, service_in, rest_in, values_at}
use Rattle.http_connection.specs.Steps.{Opened, RanOne, RanOver, is_heavy, start_in}
use Rattle.http_connection.specs.Times.{LevelFor}
use Rattle.answers_meaning.specs.Answers.{response_at}
use Rattle.req_head.specs.declared.head.HeadStep.TheVariants.{Head}
use Rattle.http_connection.proofs.Bodies.{head_drops}
use Rattle.http_connection.proofs.Begins.{opened_on, opened_over, ran_head, ran_over_head, ran_bad}
use Rattle.http_connection.proofs.Going.{on_by}
use Rattle.http_connection.proofs.start.run_one.Goals as goal

pub returns-in-Ok-On-clause-ran : goal.returns-in-Ok-On-clause-ran
returns-in-Ok-On-clause-ran c =
    let x : Serves = record { patterns = c.args.space.now.patterns; served = c.args.setting.served.now } in
    let m = c.args.setting.meeting in
    let service = service_in x m.local m.peer in
    let d = c.drop_body-dropped.result in
    let o = c.in-Ok-On.opened in
    subst (λ (o : Onward). RanOne x service (start_in m) (length c.args.journal.now.past.entries) c.args.next.now c.args.buffered.now c.used.new.self d.body o.flight c.args.out.now c.open.new.out o.closing o.log) (sym c.with_broken-onward.ensures)
    (subst (λ k. RanOne x service (start_in m) k c.args.next.now c.args.buffered.now c.used.new.self d.body o.flight c.args.out.now c.open.new.out (o.closing || d.broken) o.log) (c.len.ensures ∙ ap length c.make_room.ensures.past)
    (ran_head x m c.len.result c.in-Head.head c.in-Head.size c.args.next.now c.args.buffered.now c.used.new.self d.body o.flight c.args.out.now c.open.new.out o.closing d.broken o.log o.level c.in-Head.is
    (λ raceless trees. subst (λ h. Opened x trees m c.len.result h o.flight c.args.out.now c.open.new.out o.closing o.log o.level) (c.take_head-head.ensures.head c.in-Head.head c.in-Head.size refl) (opened_on x m c.len.result c.take_head-head.result c.args.out.now c.open.new.out c.in-Ok-On.field-0 o c.in-Ok-On.field-0-is c.in-Ok-On.ensures.opens raceless trees)) (on_by _ c.in-Ok-On.field-0 o c.in-Ok-On.field-0-is c.in-Ok-On.ensures.over)
    (head_drops c.in-Head.head.body c.new.result c.behind.result.now c.args.buffered.now c.used.new.self c.in-Head.size d.used d.body d.broken c.new.ensures c.behind.ensures c.used.ensures c.drop_body-dropped.ensures.drops)))

pub returns-in-Ok-TooMany-clause-ran : goal.returns-in-Ok-TooMany-clause-ran
returns-in-Ok-TooMany-clause-ran c =
    let x : Serves = record { patterns = c.args.space.now.patterns; served = c.args.setting.served.now } in
    let m = c.args.setting.meeting in
    let service = service_in x m.local m.peer in
    subst (λ k. RanOver x service (start_in m) k c.args.next.now) (c.len.ensures ∙ ap length c.make_room.ensures.past)
    (ran_over_head x m c.len.result c.in-Head.head c.in-Head.size c.args.next.now c.in-Head.is
    (λ raceless trees. ap (λ h. is_heavy (response_at service trees c.len.result (start_in m) h)) (sym (c.take_head-head.ensures.head c.in-Head.head c.in-Head.size refl)) ∙ opened_over x m c.len.result c.take_head-head.result c.args.out.now c.open.new.out c.in-Ok-TooMany.field-0 c.in-Ok-TooMany.field-0-is c.in-Ok-TooMany.ensures.opens raceless trees))

pub returns-in-Ok-On-clause-level : goal.returns-in-Ok-On-clause-level
returns-in-Ok-On-clause-level c = λ raceless.
    let x : Serves = record { patterns = c.args.space.now.patterns; served = c.args.setting.served.now } in
    let m = c.args.setting.meeting in
    let o = c.in-Ok-On.opened in
    subst (λ n. LevelFor (service_in x m.local m.peer) (start_in m) n (λ trees. (rest_in x c.with_broken-onward.result.flight trees).values) (values_at c.args.setting.served.now c.with_broken-onward.result.level)) (sym c.in-Head.is)
    (subst (λ (o : Onward). LevelFor (service_in x m.local m.peer) (start_in m) (Head c.in-Head.head c.in-Head.size) (λ trees. (rest_in x o.flight trees).values) (values_at c.args.setting.served.now o.level)) (sym c.with_broken-onward.ensures)
    (λ trees. (subst (λ h. Opened x trees m c.len.result h o.flight c.args.out.now c.open.new.out o.closing o.log o.level) (c.take_head-head.ensures.head c.in-Head.head c.in-Head.size refl) (opened_on x m c.len.result c.take_head-head.result c.args.out.now c.open.new.out c.in-Ok-On.field-0 o c.in-Ok-On.field-0-is c.in-Ok-On.ensures.opens raceless trees)).level))

pub returns-in_ok-onward-in-Bad-clause-ran : goal.returns-in_ok-onward-in-Bad-clause-ran
returns-in_ok-onward-in-Bad-clause-ran c =
    let x : Serves = record { patterns = c.args.space.now.patterns; served = c.args.setting.served.now } in
    let m = c.args.setting.meeting in
    let o = c.in_ok-onward-in-Bad.onward in
    ran_bad x (service_in x m.local m.peer) (start_in m) (length c.args.journal.now.past.entries) c.in-Bad.code c.in-Bad.no_body c.args.next.now c.args.buffered.now o.flight c.args.out.now c.refuse.new.out o.closing o.log
    c.in-Bad.is (c.in_ok-onward-in-Bad.ensures.refuses (start_in m) refl)

pub returns-in_ok-onward-in-Bad-clause-level : goal.returns-in_ok-onward-in-Bad-clause-level
returns-in_ok-onward-in-Bad-clause-level c = λ raceless.
    let x : Serves = record { patterns = c.args.space.now.patterns; served = c.args.setting.served.now } in
    let m = c.args.setting.meeting in
    let o = c.in_ok-onward-in-Bad.onward in
    subst (λ n. LevelFor (service_in x m.local m.peer) (start_in m) n (λ trees. (rest_in x o.flight trees).values) (values_at c.args.setting.served.now o.level)) (sym c.in-Bad.is)
    (ap (values_at c.args.setting.served.now) c.in_ok-onward-in-Bad.ensures.level ∙ c.own_level-level.ensures c.args.space.now.patterns)

pub returns-in_ok-onward-in-Bad-clause-reached : goal.returns-in_ok-onward-in-Bad-clause-reached
returns-in_ok-onward-in-Bad-clause-reached c =
    let r = c.in_ok-onward-in-Bad.ensures.refuses (start_in c.args.setting.meeting) refl in
    let x : Serves = record { patterns = c.args.space.now.patterns; served = c.args.setting.served.now } in
    subst (ReachedIn x) (sym r.over) tt

pub returns-in_ok-onward-in-Bad-clause-over : goal.returns-in_ok-onward-in-Bad-clause-over
returns-in_ok-onward-in-Bad-clause-over c =
    let r = c.in_ok-onward-in-Bad.ensures.refuses (start_in c.args.setting.meeting) refl in
    ap is_some r.logged ∙ ap (λ f. not (is_some f)) (sym r.over)

pub returns-in_ok-onward-in-Bad-clause-asked : goal.returns-in_ok-onward-in-Bad-clause-asked
returns-in_ok-onward-in-Bad-clause-asked c =
    let r = c.in_ok-onward-in-Bad.ensures.refuses (start_in c.args.setting.meeting) refl in
    let e = ap flight_tree r.over in
    omega (arith, e)

pub returns-in-Ok-On-clause-tail : goal.returns-in-Ok-On-clause-tail
returns-in-Ok-On-clause-tail c =
    let o = c.in-Ok-On.opened in
    subst (λ (o : Onward). TailFits None o.flight o.tail c.open.new.out) (sym c.with_broken-onward.ensures) (on_by _ c.in-Ok-On.field-0 o c.in-Ok-On.field-0-is c.in-Ok-On.ensures.tail)
