use Rattle.std.proofs.Common.{sym, ap, ◌∙◌}
use Rattle.server_choice.specs.Listening.{entry_of}
use Rattle.server_choice.proofs.Covered.{chosen-in, chosen-none}
use Rattle.server_choice.proofs.servers.Servers.choose.Goals as goal

pub returns-in-Some-clause-chosen : goal.returns-in-Some-clause-chosen
returns-in-Some-clause-chosen c = λ site of.
    chosen-in c.args.patterns.now site c.args.self.now of c.args.local c.args.host.now c.in-Some.entry.now c.choose.result
    (sym (c.in-Some.ensures ∙ ap (λ l. entry_of l c.args.local) c.deref.ensures.value)) c.choose.ensures.chosen

pub returns-in-None-clause-chosen : goal.returns-in-None-clause-chosen
returns-in-None-clause-chosen c = λ site of.
    chosen-none c.args.patterns.now site c.args.self.now of c.args.local c.args.host.now
    (sym (c.in-None.ensures ∙ ap (λ l. entry_of l c.args.local) c.deref.ensures.value))
