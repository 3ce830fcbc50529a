use Rattle.std.proofs.Common.{◌≡◌, ◌<◌, ◌≤◌, ◌∙◌, Some, None, length, ap, bytes_eq, if◌then◌else◌, arith, rules}
use Rattle.site_views.specs.Choice.{or_else}
use Rattle.server_choice.specs.Names.{number_of}
use Rattle.server_choice.proofs.names.NameMap.add.Goals as goal

pub returns-clause-ok : goal.returns-clause-ok
returns-clause-ok c = λ other.
    let same : c.in_ok-key.key.items ≡ c.args.text.now = search rules in
    c.in_ok-put_number.ensures.ok other
    ∙ ap (λ t. or_else (number_of c.args.self.now other) (if bytes_eq t other then Some c.args.number else None)) same

pub invariant_of-self : goal.invariant_of-self
invariant_of-self c =
    let same : c.in_ok-key.key.items ≡ c.args.text.now = search rules in
    let within : length c.in_ok-key.key.items ≤ c.max-self.result = omega (arith, ap length same, c.max-self.ensures) in
    record {
      short = c.put_number.ensures.short c.max-self.result within
          (λ t beyond. c.args.self.now.short t (let more : c.args.self.now.longest < length t = omega (arith, c.max-self.ensures, beyond) in more));
    }
