use Rattle.std.proofs.Common.{◌≡◌, ◌∙◌, true, false, refl, sym, ap, arith}
use Rattle.ngx_outside.specs.Views.{Start}
use Rattle.ngx_outside.specs.Wants.{wants_at}
use Rattle.link_service.proofs.WantLemmas.{is_wanted, first_there, first_can, none_can}
use Rattle.link_service.proofs.BesideLemmas.{stand_none, stand_then}
use Rattle.link_service.proofs.wants.drain.Goals as goal

pub served_first-first-requires : goal.served_first-first-requires
served_first-first-requires g c =
    let v = (g.E.EventCore.seen c.loop-want.core).view c.args.conn in
    record {
      wanted = is_wanted c.args.conn v c.in-Some.want
          (first_there c.loop-want.ready.due c.loop-want.ready.full (wants_at c.args.conn v) c.in-Some.want (sym c.next_want.ensures.want ∙ c.in-Some.is));
    }

pub serve_want-requires-clause-wanted : goal.serve_want-requires-clause-wanted
serve_want-requires-clause-wanted g c = c.served_first-first.ensures.wanted

pub serve_want-requires-clause-doable : goal.serve_want-requires-clause-doable
serve_want-requires-clause-doable g c =
    c.served_first-first.ensures.doable c.loop-want.ready.due
    (first_can c.loop-want.ready.due c.loop-want.ready.full (wants_at c.args.conn ((g.E.EventCore.seen c.loop-want.core).view c.args.conn)) c.in-Some.want
    (sym c.next_want.ensures.want ∙ c.in-Some.is))

pub loop-want-preserved : goal.loop-want-preserved
loop-want-preserved g c =
    let i = c.loop-want.invariant in
    let s = c.in_ok-ready.ensures in
    record {
      kept = λ tl tf marks whole ticks k. s.kept (i.tells ∙ tl) (i.files ∙ tf) marks whole ticks (i.kept tl tf marks whole ticks k);
      views = λ d ne. s.views d ne ∙ i.views d ne;
      links = λ tl d ne. s.links (i.tells ∙ tl) d ne ∙ i.links tl d ne;
      opens = λ d ne. s.opens d ne ∙ i.opens d ne;
      matched = s.matched;
      due = λ tl due. s.due (i.tells ∙ tl) (i.due tl due);
      full = λ tl. s.full (i.tells ∙ tl) (i.full tl);
      beside = λ clock. stand_then (i.beside clock) (s.beside clock);
      terms = s.steady.0 ∙ i.terms;
      now = s.steady.1 ∙ i.now;
      notices = λ tl. s.notices (i.tells ∙ tl) ∙ i.notices tl;
      versions = s.versions ∙ i.versions;
      tells = s.tells.0 ∙ i.tells;
      listens = s.tells.1 ∙ i.listens;
      files = s.tells.2 ∙ i.files;
      later = (let a = i.later in let b = s.later in omega (arith, a, b));
      over = λ o. s.stays_over (i.over o);
      grown = (let a = i.grown in let b = s.grown in omega (arith, a, b));
      known = (let a = i.known in let b = s.grown in let e : (g.E.EventCore.seen c.serve_want.new.core).now.tree ≡ (g.E.EventCore.seen c.loop-want.core).now.tree = ap (λ (x : Start). x.tree) s.steady.1 in omega (arith, a, b, e));
    }

pub returns-clause-rests : goal.returns-clause-rests
returns-clause-rests g c = record {
  full = c.loop-want.ready.full;
  told = c.loop-want.invariant.full;
  none = none_can c.loop-want.ready.due c.loop-want.ready.full (wants_at c.args.conn ((g.E.EventCore.seen c.loop-want.core).view c.args.conn)) (sym c.next_want.ensures.want ∙ c.in_default.is);
}

pub loop-want-init : goal.loop-want-init
loop-want-init g c = record {
  kept = λ tl tf marks whole ticks k. k;
  views = λ d ne. refl;
  links = λ tl d ne. refl;
  opens = λ d ne. refl;
  matched = c.requires.matched;
  due = λ tl due. due;
  full = λ tl is. absurd (let q : false ≡ true = is in cc);
  beside = stand_none (g.E.EventCore.seen c.args.core.now).events (g.L.Links.seen c.args.links.now).answers (g.F.Files.seen c.args.files.now).answers;
  terms = refl;
  now = refl;
  notices = λ tl. refl;
  versions = refl;
  tells = refl;
  listens = refl;
  files = refl;
  later = omega arith;
  over = λ o. o;
  grown = omega arith;
  known = c.requires.known;
}
