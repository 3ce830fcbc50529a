use Rattle.std.proofs.Common.{◌≡◌, ◌∙◌, ◌+◌, ap, sym, length, Some, None, List, ℕ, take, drop, ◌-◌, get_or}
use Rattle.std.proofs.lemmas.List.{take_rest}
use Rattle.ssi_text.specs.declared.part.Param.{Param}
use Rattle.ssi_text.specs.Commands.{quoted, unescaped, lowercase}
use Rattle.ssi_text.proofs.Insides.{assigned-short, assigned-not, assigned-is}
use Rattle.ssi_text.proofs.command.assigned.Goals as goal

pub returns-in_default-clause-value : goal.returns-in_default-clause-value
returns-in_default-clause-value c = assigned-short c.args.name.now (length c.args.name.now) c.args.bytes.now c.in_default.len_below

pub returns-then-not-begins_value-clause-value : goal.returns-then-not-begins_value-clause-value
returns-then-not-begins_value-clause-value c = assigned-not c.args.name.now (length c.args.name.now) c.args.bytes.now c.in-len2-up.len_at_least (sym c.begins_value.ensures ∙ c.if-not-begins_value.true)

pub returns-in_ok-name_text-in-Some-clause-value : goal.returns-in_ok-name_text-in-Some-clause-value
returns-in_ok-name_text-in-Some-clause-value c =
    let n = length c.args.name.now + (2 + c.in-Some.len) in
    let rest : take (length c.args.bytes.now - 2) (drop 2 c.args.bytes.now) ≡ drop 2 c.args.bytes.now = take_rest c.args.bytes.now 2 in
    ap (λ (z : List ℕ). let p : Param = record { name = z; value = c.in_ok-value-in-Some.value } in Some (p, n)) c.in_ok-name_text-in-Some.ensures
    ∙ ap (λ (z : List ℕ). let p : Param = record { name = lowercase c.args.name.now; value = z } in Some (p, n)) (c.in_ok-value-in-Some.ensures ∙ ap (λ z. unescaped (take (c.in-Some.len - 1) z)) rest)
    ∙ assigned-is c.args.name.now (length c.args.name.now) c.args.bytes.now (Some c.in-Some.len) c.in-len2-up.len_at_least (sym c.begins_value.ensures ∙ c.if-not-begins_value.false) (c.in-Some.ensures.value ∙ ap (quoted (get_or c.args.bytes.now 1 0)) rest)

pub returns-in-None-clause-value : goal.returns-in-None-clause-value
returns-in-None-clause-value c =
    assigned-is c.args.name.now (length c.args.name.now) c.args.bytes.now None c.in-len2-up.len_at_least (sym c.begins_value.ensures ∙ c.if-not-begins_value.false) (c.in-None.ensures.value ∙ ap (quoted (get_or c.args.bytes.now 1 0)) (take_rest c.args.bytes.now 2))
