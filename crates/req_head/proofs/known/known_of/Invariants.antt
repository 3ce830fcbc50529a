use Rattle.std.proofs.Common.{[], take, map}
use Rattle.httparse.specs.Spans.{header_bytes}
use Rattle.req_head.specs.Fields.{with_fields}
use Rattle.req_head.specs.Known.{IsKnown}
use Rattle.req_head.proofs.known.known_of.Given as goal

abbrev pub invariant-loop-span : goal.invariant-loop-span
invariant-loop-span l = IsKnown (with_fields [] (map (header_bytes l.text) (take l.span-index l.spans))) l.known
