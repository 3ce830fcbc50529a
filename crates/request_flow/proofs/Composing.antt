-- The head of a page is made.
use Rattle.std.proofs.Common.{◌≡◌, ℕ, Bool, true, false, not, ◌&&◌, ◌||◌, cond, List, [], ◌∷◌, ◌++◌, length, None, Some, refl, sym, ap, ◌∙◌, subst}
use Rattle.acts.specs.Vars.{Vars, look, set}
use Rattle.acts.specs.Act.{Done, Get, Put, Stat, Call, Write, Inner, ◌>>=◌}
use Rattle.file_tree.specs.Tree.{Tree}
use Rattle.ngx_pattern.specs.Pattern.{Pattern as SetPattern}
use Rattle.resp_head.specs.Head.{head_of}
use Rattle.site_model.specs.Levels.{raw_level}
use Rattle.site_model.specs.declared.site.Level.{Level}
use Rattle.site_model.specs.declared.site.Site.{Site}
use Rattle.reply_out.specs.site_whole.Whole.{values_seen}
use Rattle.request_meaning.specs.Bodies.{written}
use Rattle.request_meaning.specs.Replies.{Came, most_depth, reply, run}
use Rattle.request_meaning.specs.Responses.{content_sent, framed_body, framing, is_chunked, reply_head, response}
use Rattle.request_meaning.specs.Responses.{Framing as framings}
use Rattle.request_meaning.specs.Serving.{World, Serving, Child, Answer, Prepared}
use Rattle.family_meaning.specs.Flight.{stays_after}
use Rattle.family_meaning.specs.Left.{act_subs}
use Rattle.reply_out.specs.request_phases.declared.state.Conclusion.{Conclusion}
use Rattle.reply_out.specs.request_phases.declared.state.Conclusion.TheVariants as outcomes
use Rattle.reply_out.specs.request_reply.Replies.{IsReply}
use Rattle.reply_out.specs.request_reply.declared.reply.Reply.{Reply}
use Rattle.reply_out.specs.declared.terms.Terms.{Terms}
use Rattle.request_flow.specs.declared.page.PageHead.{PageHead}
use Rattle.request_flow.specs.Terms.{terms_seen}
use Rattle.request_flow.specs.Pages.{framed_if, page_by}
use Rattle.request_flow.specs.Rests.{Follows, act_rest, came_rest, finished}
use Rattle.reply_out.specs.Puts.{head_with, stays_seen}
use Rattle.request_flow.specs.Sents.{with_length}
use Rattle.reply_out.specs.request_phases.Rounds.{asked_in, prepared_as}
use Rattle.reply_out.specs.request_phases.declared.state.Step.TheVariants as steps
use Rattle.reply_out.specs.rewrite_code.Places.{standing_seen}
use Rattle.request_flow.specs.Padded.{padded}
use Rattle.request_flow.specs.Pages.{page_act}
use Rattle.request_flow.specs.Reached.{Settles, StepReached}
use Rattle.request_flow.specs.Sents.{known_len}
use Rattle.reply_out.specs.declared.terms.InPhases.{InPhases}
use Rattle.request_flow.specs.declared.steps.Known.{Known}
use Rattle.request_flow.proofs.Puts.{kept_or, same_outcome, stays_as}

-- ---- what a page comes to

ends_so : {A : Type 0} (tree : Tree) (inner : Child → Vars → Came Answer) (m : Serving A) (answer : Answer) (vars : Vars) →
    (run tree inner (m >>= λ _. Done answer) vars).result ≡ answer
unfolding run ◌>>=◌
ends_so tree inner (Done a) answer vars = refl
ends_so tree inner (Get name k) answer vars = ends_so tree inner (k (look vars name)) answer vars
ends_so tree inner (Put name value m) answer vars = ends_so tree inner m answer (set name value vars)
ends_so tree inner (Stat path k) answer vars = ends_so tree inner (k (tree path)) answer vars
ends_so tree inner (Call child k) answer vars =
    ends_so tree inner (k (record { answer = (inner child vars).result; body = (inner child vars).body })) answer (inner child vars).vars
ends_so tree inner (Write bytes m) answer vars = ends_so tree inner m answer vars
ends_so tree inner (Inner child m) answer vars = ends_so tree inner m answer (inner child vars).vars

-- its answer is the one that was prepared
pub ends_as : (w : World) (tree : Tree) (p : Prepared) (vars : Vars) → (run tree (reply w tree most_depth) (finished w (Done p)) vars).result ≡ p.answer
unfolding finished ◌>>=◌
ends_as w tree p vars = ends_so tree (reply w tree most_depth) (written w most_depth [] p.answer p.body) p.answer vars

-- ---- how long a file was told to be

pub told_once : (len : ℕ) (o : Conclusion) → with_length len (with_length len o) ≡ with_length len o
told_once len (outcomes.Text code text) = refl
told_once len (outcomes.File told date) = refl
told_once len (outcomes.Page code) = refl
told_once len (outcomes.Redirect code to) = refl
told_once len outcomes.Close = refl

-- ---- its head

framed_as : (f : framings) (body : List ℕ) → framed_if (is_chunked f) body ≡ framed_body f body
framed_as framings.ByLength body = refl
framed_as framings.ByChunks body = refl
framed_as framings.ByClose body = refl

sent_both : (gone no_body : Bool) (head body : List ℕ) → (not no_body && not gone) ≡ true → head ++ body ≡ cond gone [] (head ++ cond no_body [] body)
sent_both false false head body e = refl
sent_both false true head body e = cc
sent_both true false head body e = cc
sent_both true true head body e = cc

chunked_as : (chunks no_body gone : Bool) → (not no_body && not gone) ≡ true → chunks ≡ (chunks && not no_body)
chunked_as true false gone e = refl
chunked_as false false gone e = refl
chunked_as chunks true gone e = cc

logged_as : (status len : ℕ) (no_body gone : Bool) → (not no_body && not gone) ≡ true → Path (ℕ × ℕ) (status, len) (status, cond no_body 0 len)
logged_as status len false gone e = refl
logged_as status len true gone e = cc

module _ (site : Site) (number : ℕ) (t : Terms) (l : Level) (reply : Reply) (bytes : List ℕ) (p : Prepared) (is : IsReply reply bytes p) (came : Came Answer) (subs : ℕ) (page : PageHead)
    (ends : came.result ≡ p.answer) (el : l ≡ raw_level site number) (ev : p.answer.values ≡ values_seen site (raw_level site number)) (sent : (not t.no_body && not reply.gone) ≡ true)
    (closing closing' keep : Bool) (kept : keep ≡ stays_seen t l reply) (closed : closing' ≡ (closing || not keep))
    (head : page.head ≡ head_of (head_with reply t page.chunked keep)) (chunks : page.chunked ≡ is_chunked (framing reply.known t.version)) (status : page.status ≡ reply.status) where
  stays : keep ≡ stays_after (terms_seen t) p.answer
  stays = kept ∙ stays_as t reply p.answer site l (raw_level site number) is.closes is.gone is.known el ev

  known_as : page.chunked ≡ is_chunked (framing p.answer.known t.version)
  known_as = chunks ∙ ap (λ k. is_chunked (framing k t.version)) is.known

  head_as : head_with reply t page.chunked keep ≡ reply_head p.answer t.moment t.version t.no_body keep
  unfolding reply_head
  head_as =
      ap (λ c. head_with reply t c keep) (known_as ∙ chunked_as (is_chunked (framing p.answer.known t.version)) t.no_body reply.gone sent)
      ∙ rw (sym is.status) (rw (sym is.kind) (rw (sym is.len) (rw (sym is.modified) (rw (sym is.location) refl))))

  put : page.head ++ framed_if page.chunked came.body ≡ response (record { answer = p.answer; body = came.body }) t.moment t.version t.no_body (stays_after (terms_seen t) p.answer)
  unfolding response
  put =
      ap (λ h. h ++ framed_if page.chunked came.body) (head ∙ ap head_of head_as)
      ∙ (ap (λ c. head_of (reply_head p.answer t.moment t.version t.no_body keep) ++ framed_if c came.body) known_as
      ∙ (ap (λ b. head_of (reply_head p.answer t.moment t.version t.no_body keep) ++ b) (framed_as (framing p.answer.known t.version) came.body)
      ∙ (sent_both reply.gone t.no_body (head_of (reply_head p.answer t.moment t.version t.no_body keep)) (framed_body (framing p.answer.known t.version) came.body) sent
      ∙ (ap (λ g. cond g [] (head_of (reply_head p.answer t.moment t.version t.no_body keep) ++ content_sent p.answer t.version t.no_body came.body)) is.gone
      ∙ ap (λ k. cond p.answer.gone [] (head_of (reply_head p.answer t.moment t.version t.no_body k) ++ content_sent p.answer t.version t.no_body came.body)) stays))))

  -- as much is still to come as before
  pub page_follows : (out : List ℕ) → Follows site (came_rest (terms_seen t) came subs) (page_by page came subs) out out closing closing' None (Some number)
  page_follows out = record {
    bytes = ap (λ b. out ++ b) (put ∙ ap (λ (x : Answer). response (record { answer = x; body = came.body }) t.moment t.version t.no_body (stays_after (terms_seen t) x)) (sym ends));
    closes = closed ∙ kept_or closing keep (stays_after (terms_seen t) came.result) (stays ∙ ap (stays_after (terms_seen t)) (sym ends));
    logged =
        ap (λ s. (s, length came.body) ∷ []) (status ∙ (is.status ∙ ap (λ (x : Answer). x.status) (sym ends)))
        ∙ ap (λ e. e ∷ []) (logged_as came.result.status (length came.body) t.no_body reply.gone sent);
    level = ap (λ v. Some v) (sym ev ∙ ap (λ (x : Answer). x.values) (sym ends));
    subs = refl;
  }

-- ---- the acts that are left of it

act_is : (w : World) (tree : Tree) (t : _) (p : Prepared) (vars : Vars) →
    act_rest w tree t (Done p) vars ≡ came_rest t (run tree (reply w tree most_depth) (finished w (Done p)) vars) (act_subs w tree most_depth (finished w (Done p)) vars)
unfolding act_rest
act_is w tree t p vars = refl

abbrev pub came_of : World → Tree → Prepared → Vars → Came Answer
came_of w tree p vars = run tree (reply w tree most_depth) (finished w (Done p)) vars

abbrev pub subs_of : World → Tree → Prepared → Vars → ℕ
subs_of w tree p vars = act_subs w tree most_depth (finished w (Done p)) vars

pub composed : (site : Site) (w : World) (tree : Tree) (t : _) (p q : Prepared) (vars : Vars) (page : PageHead) (out : List ℕ) (closing closing' : Bool) (number : ℕ) → q ≡ p →
    Follows site (came_rest t (came_of w tree p vars) (subs_of w tree p vars)) (page_by page (came_of w tree p vars) (subs_of w tree p vars)) out out closing closing' None (Some number) →
    Follows site (act_rest w tree t (Done p) vars) (page_by page (came_of w tree q vars) (subs_of w tree q vars)) out out closing closing' None (Some number)
composed site w tree t p q vars page out closing closing' number e f =
    subst (λ (x : Prepared). Follows site (act_rest w tree t (Done p) vars) (page_by page (came_of w tree x vars) (subs_of w tree x vars)) out out closing closing' None (Some number)) (sym e)
    (subst (λ r. Follows site r (page_by page (came_of w tree p vars) (subs_of w tree p vars)) out out closing closing' None (Some number)) (sym (act_is w tree t p vars)) f)

-- ---- what led to it

pub page_reached : (w : World) (patterns : List SetPattern) (site : Site) (request : InPhases) (outcome : Conclusion) (known : Known) (page : PageHead) →
    page.known ≡ known → page.outcome ≡ with_length (known_len known) outcome → StepReached w patterns site request (steps.Answers outcome) (known_len known) →
    (text : List ℕ) → Settles w (page_act w patterns site request page (padded (known_len page.known) text)) request.vars
page_reached w patterns site request outcome known page ek eo h text =
    let a = asked_in request.phases in
    let s = standing_seen site request.phases.at in
    let bytes = padded (known_len known) text in
    subst (λ k. Settles w (page_act w patterns site request page (padded (known_len k) text)) request.vars) (sym ek)
    (subst (λ (x : Prepared). Settles w (finished w (Done x)) request.vars) (sym (ap (prepared_as w a s bytes) eo ∙ same_outcome w a s bytes (known_len known) outcome)) (h text))
