use Rattle.std.proofs.Common.{◌≡◌, eqb, false, MatchOption, [], ◌∷◌, drop, None, subst, sym, ◌∙◌, ap, rules}
use Rattle.ssi_values.specs.Known.{known_seen, rest_value, behind}
use Rattle.ssi_values.proofs.Reading as reading
use Rattle.ssi_values.proofs.values.append_token.Goals as goal

pub returns-then-is_escape-clause-read : goal.returns-then-is_escape-clause-read
returns-then-is_escape-clause-read c =
    let k = known_seen c.args.sight.now in
    let text = c.args.text.now in
    reading.goes_on_by k c.args.out.now c.push.new.self (36 ∷ []) (drop 1 text) (rest_value k (c.args.first ∷ text)) c.in_ok-push.ensures.ok
    (reading.escape_read k c.args.first text (sym c.is_escape.ensures ∙ c.if-is_escape.true))

pub returns-then-first-eq36-clause-read : goal.returns-then-first-eq36-clause-read
returns-then-first-eq36-clause-read c =
    let k = known_seen c.args.sight.now in
    let text = c.args.text.now in
    subst (λ o. MatchOption c.in_ok-size.size (o ≡ None) (λ size. behind c.append_named.new.out (rest_value k (drop size text)) ≡ behind c.args.out.now o))
    (sym (ap (λ b. rest_value k (b ∷ text)) c.if-first-eq36.true ∙ reading.dollar_read k text)) c.in_ok-size.ensures.read

pub returns-clause-read : goal.returns-clause-read
returns-clause-read c =
    let k = known_seen c.args.sight.now in
    let text = c.args.text.now in
    let other : eqb c.args.first 36 ≡ false = search rules in
    reading.goes_on_by k c.args.out.now c.push-2.new.self (c.args.first ∷ []) text (rest_value k (c.args.first ∷ text)) c.in_ok-push-2.ensures.ok
    (reading.plain_read k c.args.first text (sym c.is_escape.ensures ∙ c.if-is_escape.false) other)
