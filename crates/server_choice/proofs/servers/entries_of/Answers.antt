use Rattle.std.proofs.Common.{◌||◌, sym, ap, ◌∙◌, subst}
use Rattle.std.specs.List.{list_any}
use Rattle.server_choice.specs.Listening.{listens, AreEntriesOf, has_entry}
use Rattle.server_choice.proofs.Adding.{entries-none}
use Rattle.server_choice.proofs.servers.entries_of.Goals as goal

pub loop-server-init : goal.loop-server-init
loop-server-init c = record {
  entries = subst (λ es. AreEntriesOf es c.args.servers.now) (sym c.new-entries.ensures.items) (entries-none c.args.servers.now);
  cover = λ local on. ap (λ es. has_entry es local || list_any (listens local) c.args.servers.now) c.new-entries.ensures.items ∙ on;
}
