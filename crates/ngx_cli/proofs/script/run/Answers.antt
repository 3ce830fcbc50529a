use Rattle.std.proofs.Common.{◌≡◌, true, [], refl, sym, ap, ◌∙◌, subst}
use Rattle.std.specs.Prelude.{map}
use Rattle.ngx_outside.specs.Views.{Start}
use Rattle.replay_run.specs.Told.{Told, told_of, told_first, told_in}
use Rattle.replay_run.specs.Scene.{Stage, stage}
use Rattle.replay_run.specs.Plays.{Plays, sent_in}
use Rattle.replay_run.specs.Standing.{AllStanding}
use Rattle.ngx_outside.specs.Seen.{Terms}
use Rattle.site_service.specs.http_connection.Conn.{fresh_course}
use Rattle.site_model.specs.declared.site.Site.{Site}
use Rattle.site_service.specs.connection_core.Core.{view_at, now_at, fresh_at, terms_at, site_terms, journal_at, conns_held, IsRacelessSite}
use Rattle.report_text.specs.Report.{run_text}
use Rattle.ngx_cli.specs.Running.{IsNew, report_in}
use Rattle.ngx_cli.proofs.Answering.{answered, begins_standing, opened_by_lines}
use Rattle.ngx_cli.proofs.script.run.Goals as goal

pub returns : goal.returns
returns c =
    let site = c.args.built in
    let raceless = c.args.raceless in
    let events = c.args.events.now in
    let hub = c.new-hub.result in
    let terms : terms_at hub ≡ site_terms raceless true site.patterns site.site =
    c.new-hub.ensures.terms ∙ ap (λ r. site_terms r true site.patterns c.in_ok-served.served.site) c.in_ok-served.ensures.raceless ∙ ap (site_terms raceless true site.patterns) c.in_ok-served.ensures.site in
    let files = c.in_ok-files.files in
    let told : told_of files ≡ told_first c.args.tree.now = c.in_ok-files.ensures.told in
    let end = c.run_lines.new.core in
    let counts = c.in_ok-counts.counts in
    let first : Stage = stage (view_at hub) (now_at hub) c.new-player.result.lanes.items in
    let last : Stage = stage (view_at end) (now_at end) c.run_lines.new.player.lanes.items in
    let new : IsNew first = record { view = c.new-hub.ensures.empty; now = c.new-hub.ensures.now; lanes = c.new-player.ensures } in (
      run_text (map (report_in last (journal_at end)) (conns_held end)) counts.skipped counts.refused,
      c.in_ok-put_run.ensures.text,
      record {
        first = first;
        last = last;
        skipped = counts.skipped;
        refused = counts.refused;
        begins = new;
        plays = subst (λ t. Plays (site_terms raceless true site.patterns site.site) events t first 0 0 last counts.skipped counts.refused) told
            (subst (λ (m : Terms). Plays m events (told_of files) first 0 0 last counts.skipped counts.refused) terms c.in_ok-counts.ensures.plays);
        conns = conns_held end;
        held = c.put_run.ensures.held;
        journals = journal_at end;
        started = λ q. (c.cores_are_sound.ensures end q).started;
        logged = λ q. (c.cores_are_sound.ensures end q).logged;
        opened = opened_by_lines events first last.lanes new c.in_ok-counts.ensures.opened;
        printed = refl;
        answered = λ q among. answered c.all_is_sent_when_idle.ensures c.all_is_sent_when_shut.ensures c.shut_is_exact.ensures c.all_is_logged_when_idle.ensures raceless site (told_in events (told_first c.args.tree.now)) (last.view q) (last.lanes q) (sent_in events q) ((c.put_run.ensures.held.held q).0 among) (c.cores_are_sound.ensures end q).sound (c.cores_are_sound.ensures end q).exact
            (subst (λ t. AllStanding (fresh_course raceless site.patterns site.site) (told_in events t) last (λ k. sent_in events k)) told
            (subst (λ (m : Terms). AllStanding m.fresh (told_in events (told_of files)) last (λ k. sent_in events k)) terms (c.in_ok-counts.ensures.stands (λ k. []) (begins_standing (fresh_at hub) (told_of files) first new))) q);
      },
    )

-- the site says that no variable is named only where none is
pub new-hub-requires : goal.new-hub-requires
new-hub-requires c = record {
  quiet =
      subst (λ (s : Site). c.in_ok-served.served.raceless ≡ true → IsRacelessSite c.args.built.patterns s) (sym c.in_ok-served.ensures.site)
      (λ r. c.requires.quiet (sym c.in_ok-served.ensures.raceless ∙ r));
}

pub run_lines-requires-clause-newest : goal.run_lines-requires-clause-newest
run_lines-requires-clause-newest c = ap (λ (t : Told). t.newest) c.in_ok-files.ensures.told ∙ sym (ap (λ (s : Start). s.tree) c.new-hub.ensures.now)

-- the core of a replay keeps the requests
pub put_run-requires : goal.put_run-requires
put_run-requires c =
    let site = c.args.built in
    let terms : terms_at c.new-hub.result ≡ site_terms c.args.raceless true site.patterns site.site =
    c.new-hub.ensures.terms ∙ ap (λ r. site_terms r true site.patterns c.in_ok-served.served.site) c.in_ok-served.ensures.raceless ∙ ap (site_terms c.args.raceless true site.patterns) c.in_ok-served.ensures.site in
    ap (λ (m : Terms). m.keeps) (c.in_ok-counts.ensures.steady ∙ terms)
