use Rattle.std.proofs.Common.{◌++◌, ◌∷◌, [], ap, sym, ◌∙◌}
use Rattle.chunk_out.proofs.SizeLemmas.{one_digit, two_digits, three_digits}
use Rattle.chunk_out.proofs.write.write_size.Goals as goal

pub returns-then-size-lt16-clause-items : goal.returns-then-size-lt16-clause-items
returns-then-size-lt16-clause-items c =
    let out = c.args.out.now.items in
    c.append.ensures.items ∙ ap (λ d. out ++ d ∷ []) c.glyph-low.ensures ∙ ap (λ t. out ++ t) (sym (one_digit c.args.size c.if-size-lt16.true))

pub returns-then-size-lt256-clause-items : goal.returns-then-size-lt256-clause-items
returns-then-size-lt256-clause-items c =
    let out = c.args.out.now.items in
    c.append-then-size-lt256.ensures.items
    ∙ (λ i. out ++ c.glyph-middle.ensures i ∷ c.glyph-low.ensures i ∷ [])
    ∙ ap (λ t. out ++ t) (sym (two_digits c.args.size c.if-size-lt16.false c.if-size-lt256.true))

pub returns-clause-items : goal.returns-clause-items
returns-clause-items c =
    let out = c.args.out.now.items in
    c.append-2.ensures.items
    ∙ (λ i. out ++ c.glyph-high.ensures i ∷ c.glyph-middle.ensures i ∷ c.glyph-low.ensures i ∷ [])
    ∙ ap (λ t. out ++ t) (sym (three_digits c.args.size c.if-size-lt256.false c.requires.small))
