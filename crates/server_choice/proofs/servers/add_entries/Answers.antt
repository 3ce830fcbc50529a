use Rattle.std.proofs.Common.{◌||◌, take, sym, ap, ◌∙◌}
use Rattle.std.specs.List.{list_any}
use Rattle.std.proofs.lemmas.List.{take_more}
use Rattle.site_views.specs.Choice.{is_exactly}
use Rattle.server_choice.specs.Listening.{has_entry}
use Rattle.server_choice.proofs.Adding.{cover-more}
use Rattle.server_choice.proofs.servers.add_entries.Goals as goal

pub loop-addr-preserved : goal.loop-addr-preserved
loop-addr-preserved c =
    let addrs = c.args.addrs.now in
    let i = c.loop-addr.addr-index in
    let old = c.args.entries.now.items in
    record {
      entries = λ are. c.in_ok-add_entry.ensures.entries (c.loop-addr.invariant.entries are);
      cover = λ local on hit.
          cover-more old c.loop-addr.entries.items c.add_entry.new.entries.items c.args.servers.now (take i addrs) _ local
          (c.loop-addr.invariant.cover local) c.in_ok-add_entry.ensures.there (c.in_ok-add_entry.ensures.kept local) on
          (ap (λ l. has_entry old local || list_any (is_exactly local) l) (sym (take_more addrs i _ c.loop-addr-test.true)) ∙ hit);
    }
