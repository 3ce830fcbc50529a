use Rattle.std.proofs.Common.{◌++◌, List, ℕ, ap, sym, ◌∙◌}
use Rattle.resp_head.proofs.ValueLemmas.{location_text_same, location_more, location_done}
use Rattle.resp_head.proofs.values.put_location.Goals as goal

pub returns-then-are_visible : goal.returns-then-are_visible
returns-then-are_visible c =
    c.in_ok-extend.ensures.ok ∙ ap (λ (v : List ℕ). c.args.out.now ++ v) (sym (location_text_same c.args.bytes.now (sym c.are_visible.ensures ∙ c.if-are_visible.true)))

pub loop-byte-preserved : goal.loop-byte-preserved
loop-byte-preserved c =
    location_more c.args.bytes.now c.loop-byte.out c.put_location_byte.new.out c.loop-byte.byte-index 0 c.loop-byte-test.true c.in_ok-put_location_byte.ensures ∙ c.loop-byte.invariant

pub returns : goal.returns
returns c = location_done c.args.bytes.now c.loop-byte.out c.loop-byte.byte-index c.loop-byte-test.false ∙ c.loop-byte.invariant
