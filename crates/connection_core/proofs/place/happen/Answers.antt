use Rattle.std.proofs.Common.{refl, sym, subst}
use Rattle.ngx_outside.specs.Views.{Start}
use Rattle.http_connection.specs.Conn.{StepsConn, TimesConn}
use Rattle.http_connection.specs.Rests.{Serves}
use Rattle.connection_core.proofs.place.happen.Goals as goal

pub returns-in-Arrived-clause-steps : goal.returns-in-Arrived-clause-steps
returns-in-Arrived-clause-steps c = λ h.
    let x : Serves = record { patterns = c.args.space.now.patterns; served = c.args.served.now } in
    let now : Start = record { moment = c.args.moment; tree = c.args.tree } in
    subst (λ e. StepsConn x now e c.arrived.result c.args.conn.now c.arrived.new.self) (sym c.in-Arrived.is) (c.arrived.ensures.steps x now _)

pub returns-in-Ended-clause-steps : goal.returns-in-Ended-clause-steps
returns-in-Ended-clause-steps c = λ h.
    let x : Serves = record { patterns = c.args.space.now.patterns; served = c.args.served.now } in
    let now : Start = record { moment = c.args.moment; tree = c.args.tree } in
    subst (λ e. StepsConn x now e c.input_ended.result c.args.conn.now c.input_ended.new.self) (sym c.in-Ended.is) (c.input_ended.ensures.steps x now _)

pub returns-in-Wrote-clause-steps : goal.returns-in-Wrote-clause-steps
returns-in-Wrote-clause-steps c = λ h.
    let x : Serves = record { patterns = c.args.space.now.patterns; served = c.args.served.now } in
    let now : Start = record { moment = c.args.moment; tree = c.args.tree } in
    subst (λ e. StepsConn x now e c.wrote.result c.args.conn.now c.wrote.new.self) (sym c.in-Wrote.is) (c.wrote.ensures.steps x now _)

pub returns-in-LinkFailed-clause-steps : goal.returns-in-LinkFailed-clause-steps
returns-in-LinkFailed-clause-steps c = λ h.
    let x : Serves = record { patterns = c.args.space.now.patterns; served = c.args.served.now } in
    let now : Start = record { moment = c.args.moment; tree = c.args.tree } in
    subst (λ e. StepsConn x now e c.link_failed.result c.args.conn.now c.link_failed.new.self) (sym c.in-LinkFailed.is) (c.link_failed.ensures.steps x now _)

pub returns-in-Run-clause-steps : goal.returns-in-Run-clause-steps
returns-in-Run-clause-steps c = λ h.
    let x : Serves = record { patterns = c.args.space.now.patterns; served = c.args.served.now } in
    let now : Start = record { moment = c.args.moment; tree = c.args.tree } in
    subst (λ e. StepsConn x now e c.runs.result c.args.conn.now c.runs.new.self) (sym c.in-Run.is) (c.runs.ensures.steps _)

pub returns-in-FileDone-clause-steps : goal.returns-in-FileDone-clause-steps
returns-in-FileDone-clause-steps c = λ h.
    let x : Serves = record { patterns = c.args.space.now.patterns; served = c.args.served.now } in
    let now : Start = record { moment = c.args.moment; tree = c.args.tree } in
    subst (λ e. StepsConn x now e c.file_done.result c.args.conn.now c.file_done.new.self) (sym c.in-FileDone.is) (c.file_done.ensures.steps x now _)

pub returns-in-JobFailed-clause-steps : goal.returns-in-JobFailed-clause-steps
returns-in-JobFailed-clause-steps c = λ h.
    let x : Serves = record { patterns = c.args.space.now.patterns; served = c.args.served.now } in
    let now : Start = record { moment = c.args.moment; tree = c.args.tree } in
    subst (λ e. StepsConn x now e c.job_failed.result c.args.conn.now c.job_failed.new.self) (sym c.in-JobFailed.is) (c.job_failed.ensures.steps x now _)

pub returns-in-Arrived-clause-times : goal.returns-in-Arrived-clause-times
returns-in-Arrived-clause-times c = λ h.
    let x : Serves = record { patterns = c.args.space.now.patterns; served = c.args.served.now } in
    let now : Start = record { moment = c.args.moment; tree = c.args.tree } in
    subst (λ e. TimesConn x now e c.arrived.result c.args.conn.now c.arrived.new.self) (sym c.in-Arrived.is) (c.arrived.ensures.times x now _ refl)

pub returns-in-Ended-clause-times : goal.returns-in-Ended-clause-times
returns-in-Ended-clause-times c = λ h.
    let x : Serves = record { patterns = c.args.space.now.patterns; served = c.args.served.now } in
    let now : Start = record { moment = c.args.moment; tree = c.args.tree } in
    subst (λ e. TimesConn x now e c.input_ended.result c.args.conn.now c.input_ended.new.self) (sym c.in-Ended.is) (c.input_ended.ensures.times x now _)

pub returns-in-Wrote-clause-times : goal.returns-in-Wrote-clause-times
returns-in-Wrote-clause-times c = λ h.
    let x : Serves = record { patterns = c.args.space.now.patterns; served = c.args.served.now } in
    let now : Start = record { moment = c.args.moment; tree = c.args.tree } in
    subst (λ e. TimesConn x now e c.wrote.result c.args.conn.now c.wrote.new.self) (sym c.in-Wrote.is) (c.wrote.ensures.times x now _ refl)

pub returns-in-LinkFailed-clause-times : goal.returns-in-LinkFailed-clause-times
returns-in-LinkFailed-clause-times c = λ h.
    let x : Serves = record { patterns = c.args.space.now.patterns; served = c.args.served.now } in
    let now : Start = record { moment = c.args.moment; tree = c.args.tree } in
    subst (λ e. TimesConn x now e c.link_failed.result c.args.conn.now c.link_failed.new.self) (sym c.in-LinkFailed.is) (c.link_failed.ensures.times x now _)

pub returns-in-Run-clause-times : goal.returns-in-Run-clause-times
returns-in-Run-clause-times c = λ h.
    let x : Serves = record { patterns = c.args.space.now.patterns; served = c.args.served.now } in
    let now : Start = record { moment = c.args.moment; tree = c.args.tree } in
    subst (λ e. TimesConn x now e c.runs.result c.args.conn.now c.runs.new.self) (sym c.in-Run.is) (c.runs.ensures.times _)

pub returns-in-FileDone-clause-times : goal.returns-in-FileDone-clause-times
returns-in-FileDone-clause-times c = λ h.
    let x : Serves = record { patterns = c.args.space.now.patterns; served = c.args.served.now } in
    let now : Start = record { moment = c.args.moment; tree = c.args.tree } in
    subst (λ e. TimesConn x now e c.file_done.result c.args.conn.now c.file_done.new.self) (sym c.in-FileDone.is) (c.file_done.ensures.times x now _ refl)

pub returns-in-JobFailed-clause-times : goal.returns-in-JobFailed-clause-times
returns-in-JobFailed-clause-times c = λ h.
    let x : Serves = record { patterns = c.args.space.now.patterns; served = c.args.served.now } in
    let now : Start = record { moment = c.args.moment; tree = c.args.tree } in
    subst (λ e. TimesConn x now e c.job_failed.result c.args.conn.now c.job_failed.new.self) (sym c.in-JobFailed.is) (c.job_failed.ensures.times x now _)
