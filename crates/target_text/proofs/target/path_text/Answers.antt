use Rattle.std.proofs.Common.{◌≡◌, ◌+◌, None, Some, List, ◌∷◌, [], ◌++◌, drop, sym, ◌∙◌, ap, append_assoc, append-nil}
use Rattle.std.proofs.Math.ListN.{drop_of_length-le}
use Rattle.ngx_variables.specs.declared.value.Piece.TheVariants.{Literal}
use Rattle.request_meaning.specs.Cuts.{cut}
use Rattle.target_text.specs.Settled.{before_question}
use Rattle.target_text.proofs.Divides as divides
use Rattle.target_text.proofs.target.path_text.Goals as goal

pub returns-in-Some : goal.returns-in-Some
returns-in-Some c =
    let pieces = c.args.pieces.now in
    let before = c.loop-piece.path.items in
    let here : before_question c.piece-item.result ≡ Some c.in-Some.bytes.now = sym c.in-Some.ensures in
    let last = divides.path_step_here pieces c.loop-piece.piece-index c.piece-item.result c.loop-piece-test.true c.piece-item.is c.in-Some.bytes.now here in
    c.from_pieces.ensures
    ∙ (c.in_ok-push-in-Some.ensures.items
    ∙ (ap (λ b. before ++ Literal b ∷ []) c.in_ok-from_slice-in-Some.ensures ∙ (ap (λ t. before ++ t) (sym last) ∙ c.loop-piece.invariant)))

pub loop-piece-preserved : goal.loop-piece-preserved
loop-piece-preserved c =
    let pieces = c.args.pieces.now in
    let before = c.loop-piece.path.items in
    let later = (cut (drop (c.loop-piece.piece-index + 1) pieces)).path in
    let none : before_question c.piece-item.result ≡ None = sym c.in-None.ensures in
    let next = divides.path_step_later pieces c.loop-piece.piece-index c.piece-item.result c.loop-piece-test.true c.piece-item.is none in
    ap (λ t. t ++ later) (c.in_ok-push-in-None.ensures.items ∙ ap (λ p. before ++ p ∷ []) c.in_ok-copy-in-None.ensures)
    ∙ (append_assoc before (c.piece-item.result ∷ []) later ∙ (ap (λ t. before ++ t) (sym next) ∙ c.loop-piece.invariant))

pub returns : goal.returns
returns c =
    c.from_pieces-2.ensures
    ∙ (sym (append-nil c.loop-piece.path.items)
    ∙ (ap (λ t. c.loop-piece.path.items ++ t) (sym divides.path_end ∙ ap (λ t. (cut t).path) (sym (drop_of_length-le c.args.pieces.now c.loop-piece-test.false)))
    ∙ c.loop-piece.invariant))
