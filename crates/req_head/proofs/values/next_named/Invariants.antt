use Rattle.std.proofs.Common.{◌≡◌, ◌≤◌, length, map, All}
use Rattle.httparse.specs.Spans.{IsHeaderWithin, header_bytes}
use Rattle.http_header.specs.Token.{lowercase}
use Rattle.req_head.specs.Fields.{values_named}
use Rattle.req_head.proofs.values.next_named.Given as goal

abbrev pub invariant-loop-rest : goal.invariant-loop-rest
invariant-loop-rest l =
    All (IsHeaderWithin (length l.text)) l.rest
    × (values_named (lowercase l.name) (map (header_bytes l.text) l.rest) ≡ values_named (lowercase l.name) (map (header_bytes l.text) l.spans))
    × (length l.rest ≤ length l.spans)

abbrev pub decreases-loop-rest : goal.decreases-loop-rest
decreases-loop-rest l = length l.rest
