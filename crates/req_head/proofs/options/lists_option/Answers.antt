use Rattle.std.proofs.Common.{◌||◌, ap, ◌∙◌, sym}
use Rattle.req_head.specs.Options.{lists_option}
use Rattle.req_head.proofs.CodeLemmas.{lists_more, lists_last}
use Rattle.req_head.proofs.options.lists_option.Goals as goal

pub returns-then-is_option : goal.returns-then-is_option
returns-then-is_option c =
    let word = c.args.word.now in
    let first = c.in-Some.first.now in
    let behind = c.in-Some.behind.now in
    let more = lists_more word c.loop-first.rest.now (first, behind) c.in-Some.ensures.cut in
    sym (ap (λ t. t || lists_option word behind) (sym c.is_option.ensures ∙ c.if-is_option.true)) ∙ sym more ∙ c.loop-first.invariant

pub loop-first-preserved : goal.loop-first-preserved
loop-first-preserved c =
    let word = c.args.word.now in
    let first = c.in-Some.first.now in
    let behind = c.in-Some.behind.now in
    let more = lists_more word c.loop-first.rest.now (first, behind) c.in-Some.ensures.cut in
    sym (ap (λ t. t || lists_option word behind) (sym c.is_option.ensures ∙ c.if-is_option.false)) ∙ sym more ∙ c.loop-first.invariant

pub returns : goal.returns
returns c =
    c.is_option-2.ensures ∙ sym (lists_last c.args.word.now c.loop-first.rest.now c.in_default.ensures.cut) ∙ c.loop-first.invariant
