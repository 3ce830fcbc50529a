use Rattle.std.proofs.Common.{length, ap, ◌∙◌, Err}
use Rattle.httparse.specs.Spans.{IsRequestOf, IsRequestWithin, RequestExceeds, RequestOverflows}
use Rattle.httparse.specs.Grammar.{HasNoRequest, NeverHasRequest, MayBecomeRequest}
use Rattle.req_head.proofs.HeadLemmas.{request-found}
use Rattle.req_head.proofs.ScanLemmas.{short_from, wrong_from, complete_at, partial_at, invalid_at}
use Rattle.std.proofs.Common.{drop}
use Rattle.req_head.proofs.find.find_head.Goals as goal

pub returns-in-Ok-Complete : goal.returns-in-Ok-Complete
returns-in-Ok-Complete c =
    let text = c.args.text.now in
    let slots = c.parse_request.new.headers in
    let s = c.in-Ok-Complete.spans in
    let w : IsRequestWithin text slots s = complete_at c.parse_request.result (IsRequestWithin text slots) c.in-Ok-Complete.field-0 s c.in-Ok-Complete.is c.in-Ok-Complete.field-0-is c.parse_request.ensures.within in
    let of : IsRequestOf text slots s = complete_at c.parse_request.result (IsRequestOf text slots) c.in-Ok-Complete.field-0 s c.in-Ok-Complete.is c.in-Ok-Complete.field-0-is c.parse_request.ensures.complete in
    (w, (of.0, of.1, request-found text of.0 (drop s.len text) of.1.reads))

pub returns-in-Ok-Partial : goal.returns-in-Ok-Partial
returns-in-Ok-Partial c =
    let text = c.args.text.now in
    let none : HasNoRequest text = partial_at c.parse_request.result (HasNoRequest text) c.in-Ok-Partial.field-0 c.in-Ok-Partial.is c.in-Ok-Partial.field-0-is c.parse_request.ensures.partial in
    let may : MayBecomeRequest text = partial_at c.parse_request.result (MayBecomeRequest text) c.in-Ok-Partial.field-0 c.in-Ok-Partial.is c.in-Ok-Partial.field-0-is c.parse_request.ensures.unfinished in
    short_from text c.requires.lines none may

pub returns-in-TooManyHeaders : goal.returns-in-TooManyHeaders
returns-in-TooManyHeaders c =
    let text = c.args.text.now in
    let room = length c.args.slots.now in
    let is = c.in-Err.is ∙ ap (λ z. Err z) c.in-TooManyHeaders.is in
    let over : RequestExceeds room text = c.parse_request.ensures.too_many is in
    let all : RequestOverflows room text = c.in-Err.ensures.no_room in
    (all, over)

pub returns-in_default : goal.returns-in_default
returns-in_default c =
    let text = c.args.text.now in
    let never : NeverHasRequest text = invalid_at c.parse_request.result (NeverHasRequest text) c.in-Err.error c.in-Err.is c.in_default.not-TooManyHeaders c.parse_request.ensures.invalid in
    wrong_from text c.requires.lines never
