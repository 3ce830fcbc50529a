use Rattle.std.proofs.Common.{◌∷◌, arith, sym, ◌∙◌}
use Rattle.replay_words.specs.Lines.{pieces_of}
use Rattle.replay_words.proofs.LineLaws.{pieces_cut_at, pieces_whole}
use Rattle.replay_words.proofs.words.cut.Goals as goal

pub returns-then-at-text-clause-pieces : goal.returns-then-at-text-clause-pieces
returns-then-at-text-clause-pieces c = pieces_whole _ (grind arith)

pub returns-clause-pieces : goal.returns-clause-pieces
returns-clause-pieces c =
    pieces_cut_at c.args.text.now c.length_before-at.result c.length_before-at.ensures.place (omega arith)
    ∙ (λ i. sym c.bytes_to.ensures.front i ∷ pieces_of (sym c.bytes_from.ensures.rest i))
