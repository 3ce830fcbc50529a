use Rattle.std.proofs.Common.{◌+◌, ◌*◌, ap, sym, ◌∙◌, arith, cond, get_or, drop, Err}
use Rattle.std.specs.Char.{digit_value}
use Rattle.replay_words.specs.declared.faults.FaultKind.TheVariants.{Escape}
use Rattle.replay_words.specs.Escapes.{with_byte, unescaped}
use Rattle.replay_words.proofs.EscapeLaws.{behind_short, behind_pair}
use Rattle.replay_words.proofs.escapes.escaped_byte.Goals as goal

pub returns-then-text-lt2-clause-value : goal.returns-then-text-lt2-clause-value
returns-then-text-lt2-clause-value c = behind_short _ (grind arith)

pub returns-in-None-clause-value : goal.returns-in-None-clause-value
returns-in-None-clause-value c =
    let text = c.args.text.now in
    behind_pair text (omega arith)
    ∙ ap (λ t. cond t (with_byte (16 * digit_value (get_or text 0 0) + digit_value (get_or text 1 0)) (unescaped (drop 2 text))) (Err Escape)) c.in-None.ensures

pub returns-in-Some-clause-value : goal.returns-in-Some-clause-value
returns-in-Some-clause-value c =
    let text = c.args.text.now in
    behind_pair text (omega arith)
    ∙ ap (λ t. cond t (with_byte (16 * digit_value (get_or text 0 0) + digit_value (get_or text 1 0)) (unescaped (drop 2 text))) (Err Escape)) c.in-Some.ensures.0
    ∙ (λ i. with_byte (sym c.in-Some.ensures.1 i) (unescaped (sym c.bytes_from.ensures.rest i)))
