use Rattle.std.proofs.Common.{Some, sym, ap, ◌∙◌}
use Rattle.site_whole.specs.Whole.{whole}
use Rattle.pattern_search.specs.Found.{patterns_seen}
use Rattle.server_choice.specs.Listening.{entry_of, server_at}
use Rattle.server_choice.proofs.Covered.{default-in, default-none}
use Rattle.server_choice.proofs.servers.Servers.default_at.Goals as goal

pub returns-in-Some : goal.returns-in-Some
returns-in-Some c = λ patterns site of.
    ap (λ n. server_at (whole (patterns_seen patterns) site) (Some n)) c.unwrap_or.ensures
    ∙ default-in patterns site c.args.self.now of c.args.local c.in-Some.entry.now
    (sym (c.in-Some.ensures ∙ ap (λ l. entry_of l c.args.local) c.deref.ensures.value))

pub returns-in-None : goal.returns-in-None
returns-in-None c = λ patterns site of.
    default-none patterns site c.args.self.now of c.args.local (sym (c.in-None.ensures ∙ ap (λ l. entry_of l c.args.local) c.deref.ensures.value))
