use Rattle.std.proofs.Common.{◌+◌, take, sym, ◌∙◌, ap}
use Rattle.std.proofs.lemmas.List.{take_rest}
use Rattle.request_meaning.specs.Documents.{is_full}
use Rattle.ssi_values.specs.Known.{known_seen, filled_text, sides_truth}
use Rattle.ssi_values.proofs.Sides as sides
use Rattle.ssi_values.proofs.conditions.condition.Goals as goal

pub returns-in_ok-truth-in-Some : goal.returns-in_ok-truth-in-Some
returns-in_ok-truth-in-Some c =
    let k = known_seen c.args.sight.now in
    let text = c.args.text.now in
    let at = c.in-Some.at in
    c.in_ok-truth-in-Some.ensures
    ∙ (ap (λ right. sides_truth k (take at text) right) (take_rest text (at + 1)) ∙ sym (sides.sides_at k text at c.in-Some.ensures))

pub returns-in_ok-text-in-None : goal.returns-in_ok-text-in-None
returns-in_ok-text-in-None c =
    let k = known_seen c.args.sight.now in
    c.is_full.ensures
    ∙ (ap is_full (c.in_ok-text-in-None.ensures ∙ ap (λ t. filled_text k t) c.trimmed.ensures)
    ∙ sym (sides.no_sides k c.args.text.now c.in-None.ensures))
