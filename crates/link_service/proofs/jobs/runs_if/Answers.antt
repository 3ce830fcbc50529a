use Rattle.std.proofs.Common.{◌∙◌, refl, arith}
use Rattle.ngx_outside.specs.Records.{Run as RunGiven}
use Rattle.link_service.proofs.BesideLemmas.{stand_event}
use Rattle.link_service.proofs.KeptLemmas.{kept_ran, grown_same}
use Rattle.link_service.proofs.jobs.runs_if.Goals as goal

pub returns-clause-served : goal.returns-clause-served
returns-clause-served g c = λ files.
    let e = g.E.EventCore in
    record {
      kept = λ links tells files_tell marks whole ticks.
          kept_ran marks whole (e.seen c.args.core.now) (e.seen c.ran_if.new.core) links files ticks c.args.conn
          (record { terms = c.ran_if.ensures.steady.0; now = c.ran_if.ensures.steady.1; counts = c.ran_if.ensures.counts; views = c.ran_if.ensures.others; wires = λ d ne. refl; used = λ d. refl; opens = λ d ne. refl; faults = λ d. omega arith; store = grown_same files; crowd = λ x. c.ran_if.ensures.steady.2 ∙ x })
          c.ran_if.ensures.ended c.ran_if.ensures.passed;
      beside = λ links clock. stand_event (RunGiven c.args.conn c.args.node) _ _ links links files.answers clock c.ran_if.ensures.given refl refl refl refl;
    }

pub returns-clause-spares : goal.returns-clause-spares
returns-clause-spares g c = λ files. record { views = c.ran_if.ensures.others; terms = c.ran_if.ensures.steady.0; now = c.ran_if.ensures.steady.1; grown = omega arith; versions = refl; tells = refl }
