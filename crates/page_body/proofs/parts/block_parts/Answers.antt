use Rattle.std.proofs.Common.{◌≡◌, ◌<◌, ◌++◌, eqb, false, length, sym, ap, ◌∙◌, arith}
use Rattle.std.proofs.lemmas.Bool.Decides.{nat_tests}
use Rattle.ssi_text.specs.Marks.{marks}
use Rattle.ssi_text.specs.Split.{split}
use Rattle.page_body.specs.Stages.{split_stage}
use Rattle.page_body.proofs.Chains.{block_splits}
use Rattle.page_body.proofs.parts.block_parts.Goals as goal

pub returns-then-is_split-clause-undecided : goal.returns-then-is_split-clause-undecided
returns-then-is_split-clause-undecided c = λ facts.
    let block = c.args.block in
    let on = c.args.is_split in
    let some_test : eqb (length block) 0 ≡ false = sym c.is_empty.ensures ∙ c.if-is_empty.false in
    let some : 0 < length block = grind (arith, nat_tests) in
    ap (λ undecided. split_stage on undecided) c.in_ok-feed_text.ensures.undecided
    ∙ sym (ap (λ r. r.0) (block_splits facts on c.args.split.now block c.if-is_split.true some))

pub returns-then-is_split-clause-out : goal.returns-then-is_split-clause-out
returns-then-is_split-clause-out c = λ facts.
    let block = c.args.block in
    let some_test : eqb (length block) 0 ≡ false = sym c.is_empty.ensures ∙ c.if-is_empty.false in
    let some : 0 < length block = grind (arith, nat_tests) in
    c.in_ok-feed_text.ensures.out
    ∙ ap (λ ps. marks ps ++ (split 0 (c.args.split.now ++ block)).0) c.reserve.ensures.items
    ∙ ap (λ xs. marks c.args.out.now.items ++ xs) (sym (ap (λ r. r.1) (block_splits facts c.args.is_split c.args.split.now block c.if-is_split.true some)))
