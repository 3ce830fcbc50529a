use Rattle.std.proofs.Common.{◌≡◌, true, false, sym, ◌∙◌}
use Rattle.page_body.proofs.Unfiltered.{is_written}
use Rattle.page_body.proofs.plain.is_plain.Goals as goal

apart : false ≡ true → ⊥
apart e = cc

pub returns-then-not-is_split : goal.returns-then-not-is_split
returns-then-not-is_split c = λ so w left ssi answer members.
    is_written w left ssi answer c.args.facts.now c.args.text.now members (sym c.is_empty.ensures ∙ c.if-is_empty.false) (sym c.is_added.ensures ∙ c.if-is_added.false)
    (λ split. absurd (apart (sym c.if-not-is_split.true ∙ (c.is_split.ensures ∙ split))))

pub returns-else-not-is_split : goal.returns-else-not-is_split
returns-else-not-is_split c = λ so w left ssi answer members.
    is_written w left ssi answer c.args.facts.now c.args.text.now members (sym c.is_empty.ensures ∙ c.if-is_empty.false) (sym c.is_added.ensures ∙ c.if-is_added.false)
    (λ split. c.is_text.ensures so)
