use Rattle.std.proofs.Common.{[], ◌++◌, drop, unwrap_or, sym, ◌∙◌, ap}
use Rattle.ngx_variables.specs.Grammar.{reference_at}
use Rattle.request_meaning.specs.Documents.{name_onto, tokens}
use Rattle.ssi_values.specs.Known.{known_seen, read_value}
use Rattle.ssi_values.proofs.Reading as reading
use Rattle.ssi_values.proofs.values.append_named.Goals as goal

pub returns-in_ok-append_value-in-Some-clause-read : goal.returns-in_ok-append_value-in-Some-clause-read
returns-in_ok-append_value-in-Some-clause-read c =
    let k = known_seen c.args.sight.now in
    let text = c.args.text.now in
    let named = c.in-Some.named in
    reading.goes_on_by k c.args.out.now c.append_value.new.out _ (drop named.size text) (read_value k (name_onto text (reference_at text) (λ n. tokens n text)))
    (c.in_ok-append_value-in-Some.ensures ∙ ap (λ v. c.args.out.now ++ unwrap_or v []) c.in_ok-value-in-Some.ensures)
    (reading.one_name k text (reference_at text) named.name.now named.size (sym c.in-Some.ensures.value))

pub returns-in-None-clause-read : goal.returns-in-None-clause-read
returns-in-None-clause-read c = reading.no_name (known_seen c.args.sight.now) c.args.text.now (reference_at c.args.text.now) (sym c.in-None.ensures.value)
