use Rattle.std.proofs.Common.{◌≡◌, ◌≢◌, ℕ, true, false, [], ◌++◌, length, flat_map, sym, ap, ◌∙◌, subst, arith}
use Rattle.ngx_outside.specs.Causes.{Rose}
use Rattle.ngx_outside.specs.Seen.{Terms, CoreSeen, LinksSeen, FilesSeen}
use Rattle.ngx_outside.specs.Views.{ConnView, Start}
use Rattle.link_service.specs.Seen.{last_start}
use Rattle.link_service.specs.Standing.{Kept, Stands}
use Rattle.ready_loop.specs.Laws.{marks_of}
use Rattle.ready_loop.specs.declared.service.Ending.TheVariants as ending
use Rattle.site_model.specs.declared.site.Site.{Site}
use Rattle.connection_core.specs.Core.{view_at, now_at, seen_at, site_terms, IsRacelessSite}
use Rattle.site_service.specs.Ends.{each_once}
use Rattle.site_service.specs.Serving.{Outside}
use Rattle.site_service.proofs.Becoming.{became, at_rest, listened}
use Rattle.site_service.proofs.service.serve_site.Goals as goal

-- a core begins before any tick
begun : (now : Start) → now ≡ record { moment = 0; tree = 0 } → now ≡ last_start []
unfolding last_start
begun now e = e

pub serve-requires : goal.serve-requires
serve-requires g c = record {
  matched = λ id. ap (λ (v : ConnView). v.held) (c.new-hub.ensures.empty id) ∙ sym (c.requires.links.shut id);
  known = (let e : (now_at c.new-hub.result).tree ≡ 0 = ap (λ (s : Start). s.tree) c.new-hub.ensures.now in omega (arith, e));
}

-- the site says that no variable is named only where none is
pub new-hub-requires : goal.new-hub-requires
new-hub-requires g c = record {
  quiet =
      subst (λ (s : Site). c.in_ok-served.served.raceless ≡ true → IsRacelessSite c.args.checked.patterns s) (sym c.in_ok-served.ensures.site)
      (λ r. c.requires.quiet (sym c.in_ok-served.ensures.raceless ∙ r));
}

pub returns-clause-serving : goal.returns-clause-serving
returns-clause-serving g c =
    let f = g.F.Files in
    let k = g.L.Links in
    let t = g.C.Clock in
    let patterns = c.args.checked.patterns in
    let site = c.args.checked.site in
    let raceless = c.args.checked.raceless in
    let hub = c.new-hub.result in
    let end = c.serve.new.core in
    let s = c.in_ok-ending.ensures in
    let core : CoreSeen = seen_at hub in
    let links : LinksSeen = k.seen c.args.links.now in
    let files : FilesSeen = f.seen c.args.files.now in
    let links' : LinksSeen = k.seen c.serve.new.links in
    let files' : FilesSeen = f.seen c.serve.new.files in
    let o : Outside = record { files = files; files' = files'; links = links; links' = links'; clock = t.seen c.args.clock.now; clock' = t.seen c.serve.new.clock } in
    let none : (id : ℕ) → (view_at hub id).held ≡ false = λ id. ap (λ (v : ConnView). v.held) (c.new-hub.ensures.empty id) in
    let served = c.in_ok-served.served in
    let terms : core.terms ≡ site_terms raceless false patterns site = c.new-hub.ensures.terms ∙ ap (λ r. site_terms r false patterns served.site) c.in_ok-served.ensures.raceless ∙ ap (site_terms raceless false patterns) c.in_ok-served.ensures.site in
    let few : links.tells ≡ true → length core.conns ≡ links.crowd = λ tl. ap length c.new-hub.ensures.none ∙ sym (c.requires.links.nobody tl) in
    let begins : links.tells ≡ true → Kept (marks_of core links files) (λ id. core.terms.fresh) core links files [] =
    λ tl. c.kept_begins.ensures core links files none c.requires.links.shut c.requires.links.unused (few tl) (begun core.now c.new-hub.ensures.now) in
    record {
      ticks = s.kept.since;
      told = s.kept.told;
      links = λ tl tf id used.
          let kept = s.kept.kept tl tf (marks_of core links files) (λ q. core.terms.fresh) [] (begins tl) in
          became c.all_is_sent_when_idle.ensures c.shut_is_exact.ensures c.closed_unstopped_sent_all.ensures c.closed_unended_sent_all.ensures raceless patterns site o (c.in_ok-ending.ending ≢ ending.ListenFault) s.kept.since core.refused id (view_at end id)
          (c.cores_are_sound.ensures end id).sound
          (λ ne held. at_rest (links.tells ≡ true) (links.tells ≡ true) (view_at end id) (links'.link id) tl tl (s.rests ne id held))
          used
          (subst (λ r. Stands (Rose (links.link_faults id) (links'.link_faults id)) (Rose files.faults files'.faults) (Rose core.refused r) (site_terms raceless false patterns site) (site_terms raceless false patterns site).fresh files' s.kept.since (view_at end id) (links'.link id) (links'.used id) (links'.is_open id)) (sym s.refused)
          (subst (λ (m : Terms). Stands (Rose (links.link_faults id) (links'.link_faults id)) (Rose files.faults files'.faults) (Rose core.refused (seen_at end).refused) m m.fresh files' s.kept.since (view_at end id) (links'.link id) (links'.used id) (links'.is_open id)) terms (kept.all id)));
      listens = λ ne. s.listens ne ∙ ap (λ a. links.listening ++ a) (c.as_slice-2.ensures.value ∙ c.in_ok-addrs.ensures ∙ ap (λ rs. each_once (flat_map (λ r. r.listens) rs)) c.as_slice.ensures.value ∙ listened patterns site);
      notices = s.turns;
    }

pub returns-clause-grown : goal.returns-clause-grown
returns-clause-grown g c = c.in_ok-ending.ensures.grown
