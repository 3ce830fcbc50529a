-- A response is put.
use Rattle.std.proofs.Common.{◌≡◌, ℕ, Bool, false, cond, List, [], ◌++◌, length, Option, None, Some, option_map, refl, sym, ap, ◌∙◌}
use Rattle.std.specs.Prelude.{codes}
use Rattle.resp_head.specs.declared.head.ReplyHead.{ReplyHead}
use Rattle.resp_head.specs.Head.{head_of}
use Rattle.error_page.specs.Page.{page_of}
use Rattle.ngx_outside.specs.Views.{Start}
use Rattle.answers_meaning.specs.Answers.{refusal, refusal_head}
use Rattle.request_reply.specs.declared.reply.Reply.{Reply}
use Rattle.reply_out.specs.declared.terms.Terms.{Terms}
use Rattle.reply_out.specs.Puts.{content_now, put_now}

-- ---- what is refused

refused_head : (code moment : ℕ) (start : Start) (kind : List ℕ) (len : ℕ) → start.moment ≡ moment → kind ≡ codes "text/html" → len ≡ length (page_of code) →
    Path ReplyHead (record { status = code; moment = moment; kind = Some kind; length = Some len; modified = None; location = None; chunked = false; keep = false }) (refusal_head code start)
unfolding refusal_head
refused_head code moment start kind len m k l = rw (sym m) (rw k (rw l refl))

pub refused : (code moment : ℕ) (start : Start) (no_body : Bool) (kind page text body : List ℕ) (len : ℕ) → start.moment ≡ moment → kind ≡ codes "text/html" → page ≡ page_of code → len ≡ length page →
    text ≡ head_of (record { status = code; moment = moment; kind = Some kind; length = Some len; modified = None; location = None; chunked = false; keep = false }) →
    body ≡ cond no_body [] page → text ++ body ≡ (refusal code start no_body).bytes
unfolding refusal
refused code moment start no_body kind page text body len m k p l t b =
    ap (λ x. x ++ body) (t ∙ ap head_of (refused_head code moment start kind len m k (l ∙ ap length p)))
    ∙ ap (λ x. head_of (refusal_head code start) ++ x) (b ∙ ap (λ x. cond no_body [] x) p)

pub put_is : (t : Terms) (reply : Reply) (keep : Bool) (kind : Option (List ℕ)) (text body : List ℕ) → reply.gone ≡ false → kind ≡ option_map (λ k. k.now) reply.kind →
    text ≡ head_of (record {
      status = reply.status;
      moment = t.moment;
      kind = kind;
      length = reply.length;
      modified = reply.modified;
      location = reply.location;
      chunked = false;
      keep = keep;
    }) → body ≡ content_now reply t → text ++ body ≡ put_now reply t keep
unfolding put_now
put_is t reply keep kind text body g k e b = rw g (rw e (rw k (rw b refl)))
