use Rattle.std.proofs.Common.{◌+◌, get_or, [], map, take}
use Rattle.httparse.specs.Spans.{header_bytes}
use Rattle.httparse.specs.declared.spans.HeaderSpan.{HeaderSpan}
use Rattle.req_head.specs.Fields.{with_fields}
use Rattle.req_head.proofs.KnownLemmas.{fields_more, none_known, no_fields, shown_known}
use Rattle.req_head.proofs.known.known_of.Goals as goal

pub loop-span-init : goal.loop-span-init
loop-span-init c = none_known (with_fields [] (map (header_bytes c.args.text.now) (take 0 c.args.spans.now))) (no_fields c.args.text.now c.args.spans.now)

pub loop-span-preserved : goal.loop-span-preserved
loop-span-preserved c =
    let text = c.args.text.now in
    let spans = c.args.spans.now in
    let i = c.loop-span.span-index in
    let none : HeaderSpan = record { name = record { start = 0; end = 0 }; value = record { start = 0; end = 0 } } in
    let before = with_fields [] (map (header_bytes text) (take i spans)) in
    let f = header_bytes text (get_or spans i none) in
    shown_known before c.of.result.now c.of-in-loop-span.result.now f (with_fields [] (map (header_bytes text) (take (i + 1) spans))) c.add_field-known.result c.of.ensures c.of-in-loop-span.ensures
    (fields_more text spans i none c.loop-span-test.true) (c.add_field-known.ensures before c.loop-span.invariant)
