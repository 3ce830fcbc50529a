use Rattle.std.proofs.Common.{◌≤◌, ◌∙◌, sym, refl, [], length, map, take, arith}
use Rattle.std.proofs.lemmas.List.{length-take}
use Rattle.httparse.specs.Spans.{header_bytes}
use Rattle.req_head.specs.Fields.{with_fields}
use Rattle.req_head.proofs.Taken.{taken}
use Rattle.req_head.proofs.MadeLemmas.{refused_is, passed_is, spans_within, fields_within, map_known}
use Rattle.req_head.proofs.head.test_head.Goals as goal

pub of_spans-requires-clause-taken : goal.of_spans-requires-clause-taken
of_spans-requires-clause-taken c =
    let text = c.args.text.now in
    let len = c.args.spans.now.len in
    let shown = take c.args.spans.now.headers c.args.slots.now in
    let h = c.requires.of.0 in
    let at = c.requires.of.1 in
    let short : length (take len text) ≤ 8192 = omega (arith, c.requires.short, length-take len text) in
    taken (take len text) shown h.fields short (spans_within text len shown c.requires.within.section.headers_fit ∙ at.fields) at.reads.0.fields

pub make_head-requires-clause-known : goal.make_head-requires-clause-known
make_head-requires-clause-known c =
    map_known c.args.text.now c.args.spans.now.len (take c.args.spans.now.headers c.args.slots.now) c.in_ok-fields-in-None.fields c.known_of-known.result c.requires.within.section.headers_fit
    c.in_ok-fields-in-None.ensures c.known_of-known.ensures

pub make_head-requires-clause-passes : goal.make_head-requires-clause-passes
make_head-requires-clause-passes c =
    let known =
    map_known c.args.text.now c.args.spans.now.len (take c.args.spans.now.headers c.args.slots.now) c.in_ok-fields-in-None.fields c.known_of-known.result c.requires.within.section.headers_fit
    c.in_ok-fields-in-None.ensures c.known_of-known.ensures in
    sym (c.find_fault.ensures c.in_ok-fields-in-None.fields known) ∙ c.in-None.is

pub returns-in-Some : goal.returns-in-Some
returns-in-Some c =
    let fields = with_fields [] (map (header_bytes c.args.text.now) (take c.args.spans.now.headers c.args.slots.now)) in
    refused_is c.args.seen.now c.args.text.now c.args.slots.now c.args.spans.now c.of-target.result.now fields c.find_fault.result c.in-Some.code c.asks_head.result
    c.requires.within c.requires.few c.of-target.ensures refl (c.find_fault.ensures fields c.known_of-known.ensures) c.in-Some.is c.asks_head.ensures

pub returns-in_ok-head-in-None : goal.returns-in_ok-head-in-None
returns-in_ok-head-in-None c =
    let shown = take c.args.spans.now.headers c.args.slots.now in
    let fields = c.in_ok-fields-in-None.fields in
    let all = c.requires.within.section.headers_fit in
    let known = map_known c.args.text.now c.args.spans.now.len shown fields c.known_of-known.result all c.in_ok-fields-in-None.ensures c.known_of-known.ensures in
    passed_is c.args.seen.now c.args.text.now c.args.slots.now c.args.spans.now c.of-method.result.now c.of-target.result.now fields c.find_fault.result c.in_ok-head-in-None.head
    c.requires.within c.requires.few c.of-method.ensures c.of-target.ensures (fields_within c.args.text.now c.args.spans.now.len shown fields all c.in_ok-fields-in-None.ensures)
    (c.find_fault.ensures fields known) c.in-None.is c.in_ok-head-in-None.ensures

pub find_fault-requires : goal.find_fault-requires
find_fault-requires c = c.host_bytes-bytes.ensures

pub make_head-requires-clause-bytes : goal.make_head-requires-clause-bytes
make_head-requires-clause-bytes c = c.host_bytes-bytes.ensures
