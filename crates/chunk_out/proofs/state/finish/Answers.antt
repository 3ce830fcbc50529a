use Rattle.std.proofs.Common.{◌++◌, ap, sym, ◌∙◌, arith}
use Rattle.std.proofs.lemmas.Bool.{eqb-true, eqb-false}
use Rattle.std.proofs.lemmas.List.{nil_from_length}
use Rattle.chunk_out.specs.Chunks.{chunk}
use Rattle.chunk_out.proofs.BlockLemmas.{end_none, end_some}
use Rattle.chunk_out.proofs.state.finish.Goals as goal

pub returns-then-is_empty-clause-items : goal.returns-then-is_empty-clause-items
returns-then-is_empty-clause-items c =
    let none = eqb-true _ 0 (sym c.is_empty.ensures ∙ c.if-is_empty.true) in
    end_none _ c.args.block.now.items _ c.write_last.ensures.items (nil_from_length c.args.block.now.items (omega (arith, none)))

pub returns-clause-items : goal.returns-clause-items
returns-clause-items c =
    let out = c.args.out.now.items in
    let some = eqb-false _ 0 (sym c.is_empty.ensures ∙ c.if-is_empty.false) in
    end_some out c.args.block.now.items _ _ (c.write_rest.ensures.items ∙ ap (λ t. out ++ chunk t) c.as_slice.ensures.value) c.write_last-2.ensures.items (omega (arith, some)) (omega (arith, c.requires.waits))
