use Rattle.std.proofs.Common.{◌≡◌, ◌∷◌, [], ◌++◌, Ok, take, ap, sym, ◌∙◌, arith}
use Rattle.std.proofs.Math.Seq.{take-length}
use Rattle.replay_words.specs.Escapes.{onto, unescaped, behind_percent, with_byte}
use Rattle.replay_words.proofs.EscapeLaws.{unescaped_whole, unescaped_cut_at, onto-onto, onto-with_byte}
use Rattle.replay_words.proofs.escapes.unescape_onto.Goals as goal

pub returns-then-at-rest : goal.returns-then-at-rest
returns-then-at-rest c =
    let rest = c.escapes.rest.now in
    let front : c.bytes_to.result.now ≡ rest = c.bytes_to.ensures.front ∙ ap (λ n. take n rest) c.if-at-rest.true ∙ take-length rest in
    sym c.escapes.invariant
    ∙ ap (onto c.escapes.out.items) (unescaped_whole rest (sym c.length_before-at.ensures.place ∙ c.if-at-rest.true))
    ∙ ap (λ bs. Ok (c.escapes.out.items ++ bs)) (sym front)
    ∙ ap Ok (sym c.in_ok-extend_from_slice.ensures.items)

pub returns-in_default : goal.returns-in_default
returns-in_default c =
    let rest = c.escapes.rest.now in
    let at = c.length_before-at.result in
    sym c.escapes.invariant
    ∙ ap (onto c.escapes.out.items) (unescaped_cut_at rest at c.length_before-at.ensures.place (omega arith)
    ∙ ap (onto (take at rest)) (ap behind_percent (sym c.bytes_from.ensures.rest) ∙ c.in_default.ensures.value))

pub escapes-preserved : goal.escapes-preserved
escapes-preserved c =
    let rest = c.escapes.rest.now in
    let at = c.length_before-at.result in
    let out = c.escapes.out.items in
    let byte = c.in-Some.byte in
    let tail = unescaped c.in-Some.behind.now in
    let cut = unescaped_cut_at rest at c.length_before-at.ensures.place (omega arith)
    ∙ ap (onto (take at rest)) (ap behind_percent (sym c.bytes_from.ensures.rest) ∙ c.in-Some.ensures.value) in
    let front = c.in_ok-extend_from_slice.ensures.items ∙ ap (λ bs. out ++ bs) c.bytes_to.ensures.front in
    ap (λ bs. onto bs tail) (c.in_ok-push.ensures.items ∙ ap (λ bs. bs ++ byte ∷ []) front)
    ∙ sym (onto-with_byte (out ++ take at rest) byte tail)
    ∙ sym (onto-onto out (take at rest) (with_byte byte tail))
    ∙ sym (ap (onto out) cut)
    ∙ c.escapes.invariant
