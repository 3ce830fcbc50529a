use Rattle.std.proofs.Common.{◌≡◌, ◌<◌, ◌≤◌, length, arith, sym, ap, ◌∙◌}
use Rattle.site_whole.specs.Whole.{whole, server_whole}
use Rattle.pattern_search.specs.Found.{patterns_seen}
use Rattle.server_choice.specs.Listening.{server_at}
use Rattle.served_site.proofs.Zips.{number_within, number_beyond}
use Rattle.served_site.proofs.served.ServedSite.known.Goals as goal

pub returns-then-number-as_slice-clause-server : goal.returns-then-number-as_slice-clause-server
unfolding whole
returns-then-number-as_slice-clause-server c = λ patterns.
    let s = c.args.self.now in
    let t = c.if-number-as_slice.true in
    let a = ap length c.as_slice.ensures.value in
    number_within (server_whole (patterns_seen patterns) s.site) s.site.servers.items s.spare c.in-Some.number (omega (arith, t, a))
    ∙ ap (server_at (whole (patterns_seen patterns) s.site)) (sym c.in-Some.is)

pub returns-else-number-as_slice-clause-server : goal.returns-else-number-as_slice-clause-server
unfolding whole
returns-else-number-as_slice-clause-server c = λ patterns.
    let s = c.args.self.now in
    let t = c.if-number-as_slice.false in
    let a = ap length c.as_slice.ensures.value in
    number_beyond (server_whole (patterns_seen patterns) s.site) s.site.servers.items c.in-Some.number (omega (arith, t, a))
    ∙ ap (server_at (whole (patterns_seen patterns) s.site)) (sym c.in-Some.is)

pub returns-then-number-as_slice-clause-within : goal.returns-then-number-as_slice-clause-within
returns-then-number-as_slice-clause-within c =
    let t = c.if-number-as_slice.true in
    let a = ap length c.as_slice.ensures.value in
    omega (arith, t, a)
