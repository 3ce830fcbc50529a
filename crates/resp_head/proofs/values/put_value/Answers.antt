use Rattle.std.proofs.Common.{◌++◌, List, ℕ, ap, sym, ◌∙◌}
use Rattle.resp_head.proofs.ValueLemmas.{value_text_same, value_more, value_done}
use Rattle.resp_head.proofs.values.put_value.Goals as goal

pub returns-then-are_printable : goal.returns-then-are_printable
returns-then-are_printable c =
    c.in_ok-extend.ensures.ok ∙ ap (λ (v : List ℕ). c.args.out.now ++ v) (sym (value_text_same c.args.bytes.now (sym c.are_printable.ensures ∙ c.if-are_printable.true)))

pub loop-byte-preserved : goal.loop-byte-preserved
loop-byte-preserved c =
    value_more c.args.bytes.now c.loop-byte.out c.put_value_byte.new.out c.loop-byte.byte-index 0 c.loop-byte-test.true c.in_ok-put_value_byte.ensures ∙ c.loop-byte.invariant

pub returns : goal.returns
returns c = value_done c.args.bytes.now c.loop-byte.out c.loop-byte.byte-index c.loop-byte-test.false ∙ c.loop-byte.invariant
