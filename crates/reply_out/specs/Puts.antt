-- What is put for a reply: its head, and its body where that isn't a file.
use Rattle.std.specs.Prelude.{ℕ, ◌+◌, ◌==◌, ◌&&◌, ◌||◌, nat_lt, Bool, false, not, List, [], ◌++◌, option_map, if◌then◌else◌}
use Rattle.error_page.specs.Page.{page_of}
use Rattle.resp_head.specs.declared.head.ReplyHead.{ReplyHead}
use Rattle.resp_head.specs.Head.{head_of}
use Rattle.site_model.specs.declared.site.Level.{Level}
use Rattle.request_reply.specs.request_meaning.Responses.{framing, may_stay}
use Rattle.request_reply.specs.declared.reply.Body.{Body}
use Rattle.request_reply.specs.declared.reply.Body.TheVariants as bodies
use Rattle.request_reply.specs.declared.reply.Reply.{Reply}
use Rattle.reply_out.specs.declared.terms.Terms.{Terms}

-- the head of the response
abbrev pub head_with : Reply → Terms → (chunked keep : Bool) → ReplyHead
head_with r t chunked keep =
    record {
      status = r.status;
      moment = t.moment;
      kind = option_map (λ k. k.now) r.kind;
      length = r.length;
      modified = r.modified;
      location = r.location;
      chunked = chunked;
      keep = keep;
    }

-- where the end of the body is told by its length, or it isn't sent
abbrev pub head_seen : Reply → Terms → (keep : Bool) → ReplyHead
head_seen r t keep = head_with r t false keep

-- what of the body is put with the head: all, but for a file
abbrev pub sent_now : Body → List ℕ
sent_now bodies.Nothing = []
sent_now (bodies.Page code) = page_of code
sent_now (bodies.Text text) = text
sent_now bodies.File = []

-- the body of a reply, but for a file; none to a HEAD
abbrev pub content_now : Reply → Terms → List ℕ
content_now r t = if t.no_body then [] else sent_now r.body

unfoldable pub put_now : Reply → Terms → (keep : Bool) → List ℕ
put_now r t keep = if r.gone then [] else head_of (head_seen r t keep) ++ content_now r t

-- Whether the connection stays open after a reply: where the request's head allows it, the level does, no error closes it, and
-- the end of the body is told.
abbrev pub stays_seen : Terms → Level → Reply → Bool
stays_seen t level r =
    t.head_keeps && (nat_lt (t.before + 1) level.requests && not (level.idle == 0))
    && not (r.closes || r.gone) && may_stay (framing r.known t.version)
