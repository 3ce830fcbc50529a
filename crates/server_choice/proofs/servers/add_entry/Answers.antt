use Rattle.std.proofs.Common.{◌≡◌, Some, sym, ap, ◌∙◌, subst, rules}
use Rattle.server_choice.specs.Listening.{AreEntriesOf}
use Rattle.server_choice.specs.declared.servers.Entry.{Entry}
use Rattle.server_choice.proofs.Adding.{entries-more, entry-there, none-listens}
use Rattle.server_choice.proofs.servers.add_entry.Goals as goal

pub returns-in_default-clause-there : goal.returns-in_default-clause-there
returns-in_default-clause-there c = λ some. none-listens c.args.addr c.args.servers.now c.in_default.ensures some

pub returns-clause-entries : goal.returns-clause-entries
returns-clause-entries c = λ are.
    let es = c.args.entries.now.items in
    let ss = c.args.servers.now in
    let e : Entry = record { addr = c.args.addr; names = c.in_ok-names.names } in
    let number : c.in-Ok.first ≡ c.in-Some.first = search rules in
    subst (λ l. AreEntriesOf l ss) (sym c.in_ok-push.ensures.items)
    (entries-more es e ss are (record {
      names = c.in_ok-names.ensures.names;
      first = ap Some (c.in_ok-names.ensures.first ∙ number) ∙ c.in-Some.ensures;
    }))

pub returns-clause-there : goal.returns-clause-there
returns-clause-there c = λ some.
    entry-there c.args.entries.now.items c.push.new.self.items (record { addr = c.args.addr; names = c.in_ok-names.names }) c.in_ok-push.ensures.items
