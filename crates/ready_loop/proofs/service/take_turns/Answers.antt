use Rattle.std.proofs.Common.{◌≡◌, ◌∙◌, ℕ, ◌+◌, ◌-◌, ◌^◌, refl, sym, ap, arith, rules}
use Rattle.std.specs.Prelude.{min}
use Rattle.link_service.specs.Tellings.{moments_told}
use Rattle.link_service.proofs.BesideLemmas.{stand_none, stand_then}
use Rattle.ready_loop.specs.Turns.{tick_at}
use Rattle.link_service.proofs.KeptLemmas.{rose_after}
use Rattle.ready_loop.proofs.ThroughLemmas.{through_turn, through_none}
use Rattle.ready_loop.proofs.EndLemmas.{ended_turns, never_listened, is_ended, is_failed, counted_one, ok_is}
use Rattle.ready_loop.proofs.service.take_turns.Goals as goal

pub returns-in-Some-clause-kept : goal.returns-in-Some-clause-kept
returns-in-Some-clause-kept g c =
    let e = g.E.EventCore in
    let f = g.F.Files in
    let k = g.L.Links in
    let t = g.C.Clock in
    let i = c.loop-turn.invariant in
    let s = c.in_ok-taken.ensures in
    through_turn (e.seen c.args.core.now) (e.seen c.loop-turn.core) (e.seen c.take_turn.new.core) (k.seen c.args.links.now) (k.seen c.loop-turn.links) (k.seen c.take_turn.new.links)
    (f.seen c.args.files.now) (f.seen c.loop-turn.files) (f.seen c.take_turn.new.files) (t.seen c.args.clock.now) (t.seen c.loop-turn.clock) (t.seen c.take_turn.new.clock)
    (tick_at c.in_ok-taken.taken.told) i.tells i.files i.clock s.moments s.versions s.kept i.kept

pub returns-in-Some-clause-turns : goal.returns-in-Some-clause-turns
returns-in-Some-clause-turns g c = λ tl small.
    let i = c.loop-turn.invariant in
    let s = c.in_ok-taken.ensures in
    let k = g.L.Links in
    ended_turns c.in_ok-taken.taken.heard c.in-Some.ending c.args.turns c.loop-turn._turn (k.seen c.args.links.now).notices (k.seen c.loop-turn.links).notices (k.seen c.take_turn.new.links).notices
    (sym c.ending_by.ensures ∙ c.in-Some.is) (omega (arith, c.loop-turn-test.true)) small (i.notices tl small) (s.notices (i.tells ∙ tl))

pub returns-in-Some-clause-listened : goal.returns-in-Some-clause-listened
returns-in-Some-clause-listened g c = never_listened c.in_ok-taken.taken.heard c.in-Some.ending (sym c.ending_by.ensures ∙ c.in-Some.is)

pub returns-in-Some-clause-ended : goal.returns-in-Some-clause-ended
returns-in-Some-clause-ended g c = λ e. c.in_ok-taken.ensures.ended (is_ended c.in_ok-taken.taken.heard c.in-Some.ending (sym c.ending_by.ensures ∙ c.in-Some.is) (ok_is e))

pub returns-in-Some-clause-failed : goal.returns-in-Some-clause-failed
returns-in-Some-clause-failed g c = λ e.
    let i = c.loop-turn.invariant in
    let k = g.L.Links in
    let later = i.later in
    let rose = c.in_ok-taken.ensures.failed (is_failed c.in_ok-taken.taken.heard c.in-Some.ending (sym c.ending_by.ensures ∙ c.in-Some.is) (ok_is e)) in
    rose_after (k.seen c.args.links.now).faults (k.seen c.loop-turn.links).faults (k.seen c.take_turn.new.links).faults later rose

pub returns-clause-turns : goal.returns-clause-turns
returns-clause-turns g c = λ tl small.
    let n = c.loop-turn.invariant.notices tl small in
    let over : c.loop-turn._turn ≡ c.args.turns = omega (arith, c.loop-turn-test.false) in
    n ∙ ap (λ (x : ℕ). min ((g.L.Links.seen c.args.links.now).notices + x) (2 ^ 64 - 1)) over

pub loop-turn-preserved : goal.loop-turn-preserved
loop-turn-preserved g c =
    let e = g.E.EventCore in
    let f = g.F.Files in
    let k = g.L.Links in
    let t = g.C.Clock in
    let i = c.loop-turn.invariant in
    let s = c.in_ok-taken.ensures in
    record {
      kept = through_turn (e.seen c.args.core.now) (e.seen c.loop-turn.core) (e.seen c.take_turn.new.core) (k.seen c.args.links.now) (k.seen c.loop-turn.links) (k.seen c.take_turn.new.links)
          (f.seen c.args.files.now) (f.seen c.loop-turn.files) (f.seen c.take_turn.new.files) (t.seen c.args.clock.now) (t.seen c.loop-turn.clock) (t.seen c.take_turn.new.clock)
          (tick_at c.in_ok-taken.taken.told) i.tells i.files i.clock s.moments s.versions s.kept i.kept;
      matched = s.matched;
      heard = λ tl heard. s.heard (i.tells ∙ tl) (i.heard tl heard);
      known = s.known.1;
      last = s.known.0;
      beside = stand_then i.beside s.beside;
      terms = s.steady ∙ i.terms;
      tells = s.tells.0.0 ∙ i.tells;
      listens = s.tells.0.1 ∙ i.listens;
      files = s.tells.0.2 ∙ i.files;
      clock = s.tells.1 ∙ i.clock;
      notices = λ tl small. (let a = s.notices (i.tells ∙ tl) in let b = i.notices tl small in counted_one c.in_ok-taken.taken.heard c.loop-turn._turn (k.seen c.args.links.now).notices (k.seen c.loop-turn.links).notices (k.seen c.take_turn.new.links).notices (sym c.ending_by.ensures ∙ c.in_default.is) b a);
      grown = (let a = s.grown in let b = i.grown in omega (arith, a, b));
      later = (let a = s.later in let b = i.later in omega (arith, a, b));
      over = λ o. s.stays_over (i.over o);
    }

pub returns-in-Some-clause-beside : goal.returns-in-Some-clause-beside
returns-in-Some-clause-beside g c = stand_then c.loop-turn.invariant.beside c.in_ok-taken.ensures.beside

pub loop-turn-init : goal.loop-turn-init
loop-turn-init g c =
    let t = g.C.Clock in
    record {
      kept = through_none (g.E.EventCore.seen c.args.core.now) (g.L.Links.seen c.args.links.now) (g.F.Files.seen c.args.files.now) (t.seen c.args.clock.now);
      matched = c.requires.matched;
      heard = λ tl heard. heard;
      known = c.requires.known;
      last = search rules;
      beside = stand_none (g.E.EventCore.seen c.args.core.now).events (g.L.Links.seen c.args.links.now).answers (g.F.Files.seen c.args.files.now).answers (moments_told (t.seen c.args.clock.now).tells (t.seen c.args.clock.now).told);
      terms = refl;
      tells = refl;
      listens = refl;
      files = refl;
      clock = refl;
      notices = λ tl small. omega arith;
      grown = omega arith;
      later = omega arith;
      over = λ o. o;
    }
