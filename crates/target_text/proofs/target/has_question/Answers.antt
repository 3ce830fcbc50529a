use Rattle.std.proofs.Common.{◌≡◌, ◌+◌, ◌||◌, true, false, is_some, drop, sym, ◌∙◌, ap}
use Rattle.std.proofs.Math.ListN.{drop_of_length-le}
use Rattle.request_meaning.specs.Cuts.{cut}
use Rattle.target_text.specs.Settled.{before_question}
use Rattle.target_text.proofs.Divides as divides
use Rattle.target_text.proofs.target.has_question.Goals as goal

pub returns-then-is_some : goal.returns-then-is_some
returns-then-is_some c =
    let pieces = c.args.pieces.now in
    let i = c.loop-piece.piece-index in
    let found : is_some (before_question c.piece-item.result) ≡ true = ap is_some (sym c.before_question.ensures) ∙ divides.some_map _ _ ∙ sym c.is_some.ensures ∙ c.if-is_some.true in
    let step = divides.question_step pieces i c.piece-item.result c.loop-piece-test.true c.piece-item.is in
    sym (sym c.loop-piece.invariant ∙ step ∙ ap (λ b. b || is_some (cut (drop (i + 1) pieces)).args) found)

pub loop-piece-preserved : goal.loop-piece-preserved
loop-piece-preserved c =
    let pieces = c.args.pieces.now in
    let i = c.loop-piece.piece-index in
    let missing : is_some (before_question c.piece-item.result) ≡ false = ap is_some (sym c.before_question.ensures) ∙ divides.some_map _ _ ∙ sym c.is_some.ensures ∙ c.if-is_some.false in
    let step = divides.question_step pieces i c.piece-item.result c.loop-piece-test.true c.piece-item.is in
    sym (step ∙ ap (λ b. b || is_some (cut (drop (i + 1) pieces)).args) missing) ∙ c.loop-piece.invariant

pub returns : goal.returns
returns c =
    sym divides.cut_end ∙ ap (λ t. is_some (cut t).args) (sym (drop_of_length-le c.args.pieces.now c.loop-piece-test.false)) ∙ c.loop-piece.invariant
