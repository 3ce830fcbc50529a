use Rattle.std.proofs.Common.{◌≡◌, ℕ, List, [], ◌∷◌, length, arith, sym, ap, ◌∙◌, refl}
use Rattle.replay_words.specs.Lines.{lines_of}
use Rattle.replay_words.proofs.LineLaws.{lines_empty, lines_cut, lines_whole}
use Rattle.replay_words.proofs.cuts.next_line.Goals as goal

nothing_has_length : (bs : List ℕ) → length bs ≡ 0 → bs ≡ []
nothing_has_length [] e = refl
nothing_has_length (b ∷ bs) e = absurd (omega arith)

pub returns-then-is_empty-clause-lines : goal.returns-then-is_empty-clause-lines
returns-then-is_empty-clause-lines c =
    ap lines_of (nothing_has_length _ (grind arith)) ∙ lines_empty

pub returns-then-at-bytes-clause-lines : goal.returns-then-at-bytes-clause-lines
returns-then-at-bytes-clause-lines c =
    let rest : c.bytes_from.result.now ≡ [] = nothing_has_length _ (omega arith) in
    lines_whole _ (grind arith) (grind arith) ∙ ap (λ bs. c.args.bytes.now ∷ bs) (sym (ap lines_of rest ∙ lines_empty))

pub returns-clause-lines : goal.returns-clause-lines
returns-clause-lines c =
    lines_cut c.args.bytes.now c.length_before-at.result c.length_before-at.ensures.place (omega arith)
    ∙ (λ i. sym c.bytes_to.ensures.front i ∷ lines_of (sym c.bytes_from-2.ensures.rest i))
