-- The response: the head of a reply, and its body, framed (RFC 9112, sections 6 and 7.1).
use Rattle.std.specs.Prelude.{ℕ, ◌+◌, ◌==◌, ◌&&◌, ◌||◌, nat_lt, Bool, true, false, not, List, [], ◌++◌, length, if◌then◌else◌}
use Rattle.http_types.specs.declared.words.Version.{Version}
use Rattle.http_types.specs.declared.words.Version.TheVariants.{V10, V11}
use Rattle.error_page.specs.resp_head.declared.head.ReplyHead.{ReplyHead}
use Rattle.error_page.specs.resp_head.Head.{head_of}
use Rattle.chunk_out.specs.Chunks.{framed}
use Rattle.site_views.specs.Values.{Values}
use Rattle.request_meaning.specs.Serving.{Answer, Reply}

-- how the end of a body is found: by its length, by the last chunk, or by the connection's close
pub data Framing : Type 0 where
  ByLength ByChunks ByClose : Framing

abbrev pub unknown_framing : Version → Framing
unknown_framing V10 = ByClose
unknown_framing V11 = ByChunks

abbrev pub framing : (known : Bool) → Version → Framing
framing known version = if known then ByLength else unknown_framing version

abbrev pub is_chunked : Framing → Bool
is_chunked ByLength = false
is_chunked ByChunks = true
is_chunked ByClose = false

-- a body whose end is the connection's close leaves no connection open
abbrev pub may_stay : Framing → Bool
may_stay ByLength = true
may_stay ByChunks = true
may_stay ByClose = false

abbrev pub framed_body : Framing → List ℕ → List ℕ
framed_body ByLength body = body
framed_body ByChunks body = framed body
framed_body ByClose body = body

-- the head of a response; the chunked coding isn't named where no body is sent
unfoldable pub reply_head : Answer → (moment : ℕ) → Version → (no_body keep : Bool) → ReplyHead
reply_head a moment version no_body keep =
    record {
      status = a.status;
      moment = moment;
      kind = a.kind;
      length = a.length;
      modified = a.modified;
      location = a.location;
      chunked = is_chunked (framing a.known version) && not no_body;
      keep = keep;
    }

abbrev pub content_sent : Answer → Version → (no_body : Bool) → List ℕ → List ℕ
content_sent a version no_body body = if no_body then [] else framed_body (framing a.known version) body

-- The response to a request; a connection that is closed at once has none.
unfoldable pub response : Reply → (moment : ℕ) → Version → (no_body keep : Bool) → List ℕ
response r moment version no_body keep =
    if r.answer.gone then [] else head_of (reply_head r.answer moment version no_body keep) ++ content_sent r.answer version no_body r.body

-- what is logged of it: its status, and how many bytes of the body are sent, before they are framed
abbrev pub log_of : Reply → (no_body : Bool) → ℕ × ℕ
log_of r no_body = (r.answer.status, if no_body then 0 else length r.body)

-- the values of a level let the connection stay open after a request that k others came before
abbrev pub stays_by : (k : ℕ) → Values → Bool
stays_by k values = nat_lt (k + 1) values.requests && not (values.idle == 0)

-- Whether the connection stays open after the response: where the request's head allows it, the level does, no error closes
-- it, and the end of the body is told.
unfoldable pub keeps : (k : ℕ) → (head_keeps : Bool) → Version → Answer → Bool
keeps k head_keeps version a =
    head_keeps && stays_by k a.values && not (a.closes || a.gone) && may_stay (framing a.known version)
