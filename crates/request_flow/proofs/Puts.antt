-- A response is put.
use Rattle.std.proofs.Common.{◌≡◌, ◌==◌, ◌≤◌, ℕ, suc, ◌+◌, ◌-◌, Bool, true, false, not, ◌&&◌, ◌||◌, cond, List, [], ◌∷◌, ◌++◌, length, drop, Option, None, Some, option_map, refl, sym, ap, ◌∙◌, subst, append_assoc, arith}
use Rattle.std.specs.Prelude.{is_none}
use Rattle.std.proofs.lemmas.Bool.{eqb-true}
use Rattle.std.proofs.lemmas.List.{append-nil}
use Rattle.acts.specs.Vars.{Vars}
use Rattle.file_tree.specs.Tree.{AFile, Item, Trees, known_text, text_of}
use Rattle.filter_api.specs.declared.facts.Facts.{Facts}
use Rattle.ngx_pattern.specs.Pattern.{Pattern as SetPattern}
use Rattle.resp_head.specs.Head.{head_of}
use Rattle.site_model.specs.Levels.{raw_level}
use Rattle.site_model.specs.declared.site.Level.{Level}
use Rattle.site_model.specs.declared.site.Site.{Site}
use Rattle.site_views.specs.Values.{Values}
use Rattle.reply_out.specs.site_whole.Whole.{values_seen}
use Rattle.request_meaning.specs.Serving.{World, Answer, Asked, Standing, Prepared, Body as MeantBody}
use Rattle.request_meaning.specs.Serving.Body.{NoBody}
use Rattle.request_meaning.specs.Answering.{sent, page, page_to, moved, answer_with, page_answer, closed_answer}
use Rattle.request_meaning.specs.Responses.{response, reply_head, content_sent, keeps, stays_by, framing, may_stay, framed_body, is_chunked}
use Rattle.http_types.specs.declared.words.Version.{Version}
use Rattle.http_types.specs.declared.words.Version.TheVariants as versions
use Rattle.family_meaning.specs.Flight.{stays_after}
use Rattle.request_meaning.specs.Laws.{shipped}
use Rattle.reply_out.specs.rewrite_code.Places.{standing_seen}
use Rattle.reply_out.specs.request_phases.Rounds.{prepared_as, asked_in, world_in}
use Rattle.reply_out.specs.request_phases.declared.ground.Ground.{Ground}
use Rattle.reply_out.specs.request_phases.declared.state.Phases.{Phases}
use Rattle.reply_out.specs.request_phases.declared.state.Conclusion.{Conclusion}
use Rattle.reply_out.specs.request_phases.declared.state.Conclusion.TheVariants as outcomes
use Rattle.reply_out.specs.request_reply.Replies.{IsReply, body_seen, FitsFile}
use Rattle.reply_out.specs.request_reply.declared.reply.Body.{Body}
use Rattle.reply_out.specs.request_reply.declared.reply.Body.TheVariants as bodies
use Rattle.reply_out.specs.request_reply.declared.reply.Reply.{Reply}
use Rattle.reply_out.specs.declared.terms.Terms.{Terms}
use Rattle.request_flow.specs.declared.steps.FileAt.{FileAt}
use Rattle.request_flow.specs.declared.steps.Known.{Known}
use Rattle.request_flow.specs.declared.steps.Known.TheVariants.{Nothing, Told}
use Rattle.request_flow.specs.Terms.{terms_seen}
use Rattle.request_flow.specs.Padded.{padded}
use Rattle.request_flow.proofs.Padding.{padded_length, padded_whole}
use Rattle.request_flow.specs.Rests.{Rest, no_rest, Follows}
use Rattle.request_flow.specs.Flows.{file_rest}
use Rattle.reply_out.specs.Puts.{head_seen, sent_now, content_now, put_now, stays_seen}
use Rattle.request_flow.specs.Sents.{is_plain, is_file, sends_file, file_known, known_bytes, known_len, with_length, plain_bytes, prepared_rest}

-- ---- what an outcome prepares

-- how long the file was said to be before makes no difference
pub same_outcome : (w : World) (a : Asked) (s : Standing) (bytes : List ℕ) (len : ℕ) (o : Conclusion) →
    prepared_as w a s bytes (with_length len o) ≡ prepared_as w a s bytes o
same_outcome w a s bytes len (outcomes.Text code text) = refl
same_outcome w a s bytes len (outcomes.File told date) = refl
same_outcome w a s bytes len (outcomes.Page code) = refl
same_outcome w a s bytes len (outcomes.Redirect code to) = refl
same_outcome w a s bytes len outcomes.Close = refl

pub fits_told : (bytes : List ℕ) (len : ℕ) (o : Conclusion) → length bytes ≡ len → FitsFile (with_length len o) bytes
fits_told bytes len (outcomes.Text code text) e = tt
fits_told bytes len (outcomes.File told date) e = e
fits_told bytes len (outcomes.Page code) e = tt
fits_told bytes len (outcomes.Redirect code to) e = tt
fits_told bytes len outcomes.Close e = tt

-- the values are those of the level where the request is
pub values_are : (w : World) (a : Asked) (s : Standing) (bytes : List ℕ) (o : Conclusion) → (prepared_as w a s bytes o).answer.values ≡ s.values
unfolding sent answer_with page page_to page_answer moved closed_answer
values_are w a s bytes (outcomes.Text code text) = refl
values_are w a s bytes (outcomes.File told date) = refl
values_are w a s bytes (outcomes.Page code) = refl
values_are w a s bytes (outcomes.Redirect code to) = refl
values_are w a s bytes outcomes.Close = refl

-- a connection that is closed at once is sent no body
pub gone_bare : (w : World) (a : Asked) (s : Standing) (bytes : List ℕ) (o : Conclusion) → (prepared_as w a s bytes o).answer.gone ≡ true →
    (prepared_as w a s bytes o).body ≡ NoBody
unfolding sent answer_with page page_to page_answer moved closed_answer
gone_bare w a s bytes (outcomes.Text code text) e = cc
gone_bare w a s bytes (outcomes.File told date) e = cc
gone_bare w a s bytes (outcomes.Page code) e = cc
gone_bare w a s bytes (outcomes.Redirect code to) e = cc
gone_bare w a s bytes outcomes.Close e = refl

-- ---- its head

and_true : (b : Bool) → (b && true) ≡ b
and_true true = refl
and_true false = refl

-- a body of known length, or none that is sent, isn't in chunks
not_chunked : (known no_body : Bool) (version : Version) → (known || no_body) ≡ true → (is_chunked (framing known version) && not no_body) ≡ false
not_chunked true true version e = refl
not_chunked true false version e = refl
not_chunked false true versions.V10 e = refl
not_chunked false true versions.V11 e = refl
not_chunked false false version e = cc

unframed : (known no_body : Bool) (version : Version) (body : List ℕ) → (known || no_body) ≡ true → cond no_body [] (framed_body (framing known version) body) ≡ cond no_body [] body
unframed true no_body version body e = refl
unframed false true version body e = refl
unframed false false version body e = cc

-- whether the connection stays open
pub stays_as : (t : Terms) (reply : Reply) (a : Answer) (site : Site) (l raw : Level) → reply.closes ≡ a.closes → reply.gone ≡ a.gone → reply.known ≡ a.known → l ≡ raw →
    a.values ≡ values_seen site raw → stays_seen t l reply ≡ stays_after (terms_seen t) a
unfolding keeps values_seen
stays_as t reply a site l raw ec eg ek el ev =
    rw el (rw ec (rw eg (rw ek
    (ap (λ (v : Values). (t.head_keeps && stays_by t.before v && not (a.closes || a.gone)) && may_stay (framing a.known t.version)) (sym ev)))))

-- a reply on whose body no filter acts
pub record IsPlain (t : Terms) (reply : Reply) (bytes : List ℕ) (p : Prepared) : Type 0 where
  pub status : reply.status ≡ p.answer.status
  pub kind : option_map (λ k. k.now) reply.kind ≡ p.answer.kind
  pub len : reply.length ≡ p.answer.length
  pub known : reply.known ≡ p.answer.known
  pub framed : (p.answer.known || t.no_body) ≡ true
  pub modified : reply.modified ≡ p.answer.modified
  pub location : reply.location ≡ p.answer.location
  pub closes : reply.closes ≡ p.answer.closes
  pub gone : reply.gone ≡ p.answer.gone
  pub body : body_seen bytes None reply.body ≡ p.body

both_plain : (told : Bool) (facts : Option Facts) → (told && is_none facts) ≡ true → (told ≡ true) × (facts ≡ None)
both_plain true None e = (refl, refl)
both_plain true (Some f) e = cc
both_plain false facts e = cc

pub plain_is : (t : Terms) (reply : Reply) (bytes : List ℕ) (p : Prepared) → is_plain t reply ≡ true → IsReply reply bytes p → IsPlain t reply bytes p
plain_is t reply bytes p e h =
    let b = both_plain (reply.known || t.no_body) reply.facts e in
    record {
      status = h.status;
      kind = h.kind;
      len = h.len;
      known = h.known;
      framed = ap (λ k. k || t.no_body) (sym h.known) ∙ b.0;
      modified = h.modified;
      location = h.location;
      closes = h.closes;
      gone = h.gone;
      body = ap (λ f. body_seen bytes f reply.body) (sym b.1) ∙ h.body;
    }

module _ (t : Terms) (reply : Reply) (bytes : List ℕ) (p : Prepared) (is : IsPlain t reply bytes p) where
  head_is : (keep : Bool) → head_seen reply t keep ≡ reply_head p.answer t.moment t.version t.no_body keep
  unfolding reply_head
  head_is keep =
      rw (sym is.status) (rw (sym is.kind) (rw (sym is.len) (rw (sym is.modified) (rw (sym is.location) (rw (not_chunked p.answer.known t.no_body t.version is.framed) refl)))))

  -- what is put with the head, where the rest of the body is this
  content_is : (later : List ℕ) → cond t.no_body [] (plain_bytes p.body) ≡ content_now reply t ++ later →
      content_sent p.answer t.version t.no_body (plain_bytes p.body) ≡ content_now reply t ++ later
  content_is later e = unframed p.answer.known t.no_body t.version (plain_bytes p.body) is.framed ∙ e

  abbrev whole : (gone keep : Bool) → List ℕ
  whole gone keep = cond gone [] (head_of (reply_head p.answer t.moment t.version t.no_body keep) ++ content_sent p.answer t.version t.no_body (plain_bytes p.body))

  put_by : (gone keep : Bool) (later : List ℕ) → cond t.no_body [] (plain_bytes p.body) ≡ content_now reply t ++ later → (gone ≡ true → later ≡ []) →
      cond gone [] (head_of (head_seen reply t keep) ++ content_now reply t) ++ later ≡ whole gone keep
  put_by true keep later e none = none refl
  put_by false keep later e none =
      append_assoc (head_of (head_seen reply t keep)) (content_now reply t) later
      ∙ (ap (λ h. head_of h ++ (content_now reply t ++ later)) (head_is keep)
      ∙ ap (λ c. head_of (reply_head p.answer t.moment t.version t.no_body keep) ++ c) (sym (content_is later e)))

  response_is : (keep : Bool) (later : List ℕ) → cond t.no_body [] (plain_bytes p.body) ≡ content_now reply t ++ later → (p.answer.gone ≡ true → later ≡ []) →
      put_now reply t keep ++ later ≡ response (record { answer = p.answer; body = plain_bytes p.body }) t.moment t.version t.no_body keep
  unfolding put_now response
  response_is keep later e none =
      ap (λ b. cond b [] (head_of (head_seen reply t keep) ++ content_now reply t) ++ later) is.gone ∙ put_by p.answer.gone keep later e none

-- ---- a file is sent, or none is

content_by : (no_body gone : Bool) (body : Body) (known : Known) (trees : Trees) (meant : MeantBody) → body_seen (known_bytes known trees) None body ≡ meant → (gone ≡ true → meant ≡ NoBody) →
    file_known (is_file body && not no_body && not gone) known ≡ None → cond no_body [] (plain_bytes meant) ≡ cond no_body [] (sent_now body)
content_by true gone body known trees meant e g f = refl
content_by false gone bodies.Nothing known trees meant e g f = ap plain_bytes (sym e)
content_by false gone (bodies.Page code) known trees meant e g f = ap plain_bytes (sym e)
content_by false gone (bodies.Text text) known trees meant e g f = ap plain_bytes (sym e)
content_by false gone bodies.File (Nothing of) trees meant e g f = ap plain_bytes (sym e)
content_by false true bodies.File (Told file) trees meant e g f = ap plain_bytes (g refl)
content_by false false bodies.File (Told file) trees meant e g f = cc

pub no_file : (t : Terms) (reply : Reply) (p : Prepared) (known : Known) (trees : Trees) → IsPlain t reply (known_bytes known trees) p → (p.answer.gone ≡ true → p.body ≡ NoBody) →
    file_known (sends_file t reply) known ≡ None → cond t.no_body [] (plain_bytes p.body) ≡ content_now reply t
no_file t reply p known trees is bare e = content_by t.no_body reply.gone reply.body known trees p.body is.body (λ g. bare (sym is.gone ∙ g)) e

pub record FileSent (no_body gone : Bool) (body : Body) (known : Known) (file : FileAt) : Type 0 where
  pub sent : no_body ≡ false
  pub there : gone ≡ false
  pub is : body ≡ bodies.File
  pub told : known ≡ Told file

sent_by : (no_body gone : Bool) (body : Body) (known : Known) (file : FileAt) → file_known (is_file body && not no_body && not gone) known ≡ Some file → FileSent no_body gone body known file
sent_by no_body gone body (Nothing of) file e = cc
sent_by true gone bodies.File (Told f) file e = cc
sent_by false true bodies.File (Told f) file e = cc
sent_by false false bodies.File (Told f) file e = record { sent = refl; there = refl; is = refl; told = ap Told (let s : f ≡ file = cc in s) }
sent_by no_body gone bodies.Nothing (Told f) file e = cc
sent_by no_body gone (bodies.Page code) (Told f) file e = cc
sent_by no_body gone (bodies.Text text) (Told f) file e = cc

pub file_sent : (t : Terms) (reply : Reply) (known : Known) (file : FileAt) → file_known (sends_file t reply) known ≡ Some file → FileSent t.no_body reply.gone reply.body known file
file_sent t reply known file e = sent_by t.no_body reply.gone reply.body known file e

-- ---- what is still to come then

-- whether the connection closes after a reply
pub kept_or : (closing keep stays : Bool) → keep ≡ stays → (closing || not keep) ≡ cond stays closing true
kept_or true true stays e = ap (λ b. cond b true true) e
kept_or false true stays e = ap (λ b. cond b false true) e
kept_or true false stays e = ap (λ b. cond b true true) e
kept_or false false stays e = ap (λ b. cond b false true) e

module _ (site : Site) (number : ℕ) (t : Terms) (l : Level) (reply : Reply) (bytes : List ℕ) (p : Prepared) (vars : Vars) (is : IsPlain t reply bytes p)
    (el : l ≡ raw_level site number) (ev : p.answer.values ≡ values_seen site (raw_level site number)) (out out' : List ℕ) (closing closing' keep : Bool) (size : ℕ)
    (kept : keep ≡ stays_seen t l reply) (closed : closing' ≡ (closing || not keep)) (puts : out' ≡ out ++ put_now reply t keep) (sized : size ≡ length (content_now reply t)) where
  before : Rest
  before = prepared_rest (terms_seen t) p vars

  stays : keep ≡ stays_after (terms_seen t) p.answer
  stays = kept ∙ stays_as t reply p.answer site l (raw_level site number) is.closes is.gone is.known el ev

  -- all of the response is put
  pub over_follows : cond t.no_body [] (plain_bytes p.body) ≡ content_now reply t →
      Follows site (prepared_rest (terms_seen t) p vars) no_rest out out' closing closing' (Some (reply.status, size)) (Some number)
  over_follows content = record {
    bytes =
        append-nil out' ∙ (puts
        ∙ (ap (λ b. out ++ b) (sym (append-nil (put_now reply t keep)) ∙ response_is t reply bytes p is keep [] (content ∙ sym (append-nil (content_now reply t))) (λ g. refl))
        ∙ ap (λ k. out ++ response (record { answer = p.answer; body = plain_bytes p.body }) t.moment t.version t.no_body k) stays));
    closes = closed ∙ kept_or closing keep (stays_after (terms_seen t) p.answer) stays;
    logged = rw is.status (rw sized (rw (sym content) (logs t.no_body)));
    level = ap (λ v. Some v) (sym ev);
    subs = refl;
  }
    where
      logs : (b : Bool) → Path (List (ℕ × ℕ)) ((p.answer.status, length (cond b [] (plain_bytes p.body))) ∷ []) ((p.answer.status, cond b 0 (length (plain_bytes p.body))) ∷ [])
      logs true = refl
      logs false = refl

  none_gone : (len : ℕ) (text : List ℕ) → drop (len - len) text ≡ text
  none_gone len text = ap (λ n. drop n text) (let z : len - len ≡ 0 = omega arith in z)

  -- its head is put, and a file is read from then on
  pub file_follows : (len : ℕ) (item : Item) → t.no_body ≡ false → p.answer.gone ≡ false → content_now reply t ≡ [] →
      plain_bytes p.body ≡ padded len (text_of item) → length (plain_bytes p.body) ≡ len →
      Follows site (prepared_rest (terms_seen t) p vars) (file_rest (record { status = reply.status; len = len }) len item) out out' closing closing' None (Some number)
  file_follows len item body there bare text long =
      let later : padded len (drop (len - len) (text_of item)) ≡ plain_bytes p.body = ap (padded len) (none_gone len (text_of item)) ∙ sym text in
      record {
        bytes =
            ap (λ b. out' ++ b) later
            ∙ (ap (λ o. o ++ plain_bytes p.body) puts
            ∙ (append_assoc out (put_now reply t keep) (plain_bytes p.body)
            ∙ (ap (λ b. out ++ b) (response_is t reply bytes p is keep (plain_bytes p.body)
            (ap (λ b. cond b [] (plain_bytes p.body)) body ∙ sym (ap (λ c. c ++ plain_bytes p.body) bare))
            (λ g. absurd (true_false (sym g ∙ there))))
            ∙ ap (λ k. out ++ response (record { answer = p.answer; body = plain_bytes p.body }) t.moment t.version t.no_body k) stays)));
        closes = closed ∙ kept_or closing keep (stays_after (terms_seen t) p.answer) stays;
        logged = rw is.status (rw (sym long) (ap (λ b. (p.answer.status, cond b 0 (length (plain_bytes p.body))) ∷ []) (sym body)));
        level = ap (λ v. Some v) (sym ev);
        subs = refl;
      }
    where
      true_false : true ≡ false → ⊥
      true_false e = cc

  -- its head is put, and all of a file after it
  pub whole_follows : (len : ℕ) (text after : List ℕ) → t.no_body ≡ false → p.answer.gone ≡ false → content_now reply t ≡ [] →
      plain_bytes p.body ≡ text → length text ≡ len → after ≡ out' ++ text →
      Follows site (prepared_rest (terms_seen t) p vars) no_rest out after closing closing' (Some (reply.status, len)) (Some number)
  whole_follows len text after body there bare is_text long put =
      let f = file_follows len (AFile text 0) body there bare (is_text ∙ (sym (padded_whole text) ∙ ap (λ n. padded n text) long)) (ap length is_text ∙ long) in
      record {
        bytes =
            append-nil after ∙ (put ∙ (ap (λ b. out' ++ b) (sym (padded_whole text) ∙ (ap (λ n. padded n text) long ∙ ap (padded len) (sym (none_gone len text)))) ∙ f.bytes));
        closes = f.closes;
        logged = f.logged;
        level = f.level;
        subs = f.subs;
      }

-- the same, said of what is equal
pub moved_follows : (site : Site) (q q' r r' : Rest) (out out' : List ℕ) (closing c c' : Bool) (log log' : Option (ℕ × ℕ)) (number number' : Option ℕ) → q' ≡ q → r' ≡ r → c' ≡ c → log' ≡ log → number' ≡ number →
    Follows site q r out out' closing c log number → Follows site q' r' out out' closing c' log' number'
moved_follows site q q' r r' out out' closing c c' log log' number number' eq er ec el en f = rw eq (rw er (rw ec (rw el (rw en f))))

-- ---- what is known of a file

pub unknown : (known text : List ℕ) → (length known == 0) ≡ true → known_text known text ≡ text
unknown [] text e = refl
unknown (b ∷ known) text e = no_more (length known) (eqb-true (length (b ∷ known)) 0 e)
  where
    no_more : {A : Type 0} (n : ℕ) → suc n ≡ 0 → A
    no_more n e = cc

pub whole_known : (known : List ℕ) (len : ℕ) (text : List ℕ) → (length known == 0) ≡ false → length known ≡ len → padded len (known_text known text) ≡ known
whole_known [] len text some e = cc
whole_known (b ∷ known) len text some e = ap (λ n. padded n (b ∷ known)) (sym e) ∙ padded_whole (b ∷ known)

-- ---- a reply is what was prepared

pub known_length : (known : Known) (trees : Trees) → length (known_bytes known trees) ≡ known_len known
known_length (Nothing of) trees = refl
known_length (Told f) trees = padded_length f.len _

pub reply_is : (patterns : List SetPattern) (g : Ground) (p : Phases) (known : Known) (trees : Trees) (len : ℕ) (o told : Conclusion) (reply : Reply) →
    len ≡ known_len known → told ≡ with_length len o →
    ((w : World) (bytes : List ℕ) → w.members ≡ shipped → FitsFile told bytes → IsReply reply bytes (prepared_as w (asked_in p) (standing_seen g.site.now p.at) bytes told)) →
    IsReply reply (known_bytes known trees) (prepared_as (world_in patterns g shipped) (asked_in p) (standing_seen g.site.now p.at) (known_bytes known trees) o)
reply_is patterns g p known trees len o told reply en et h =
    let b = known_bytes known trees in
    let w = world_in patterns g shipped in
    let fits : FitsFile told b = subst (λ x. FitsFile x b) (sym et) (fits_told b len o (known_length known trees ∙ sym en)) in
    subst (IsReply reply b) (ap (prepared_as w (asked_in p) (standing_seen g.site.now p.at) b) et ∙ same_outcome w (asked_in p) (standing_seen g.site.now p.at) b len o)
    (h w b refl fits)

pub replied : (patterns : List SetPattern) (g : Ground) (p : Phases) (known : Known) (trees : Trees) (len : ℕ) (o told : Conclusion) (t : Terms) (reply : Reply) →
    is_plain t reply ≡ true → len ≡ known_len known → told ≡ with_length len o →
    ((w : World) (bytes : List ℕ) → w.members ≡ shipped → FitsFile told bytes → IsReply reply bytes (prepared_as w (asked_in p) (standing_seen g.site.now p.at) bytes told)) →
    IsPlain t reply (known_bytes known trees) (prepared_as (world_in patterns g shipped) (asked_in p) (standing_seen g.site.now p.at) (known_bytes known trees) o)
replied patterns g p known trees len o told t reply plain en et h =
    let b = known_bytes known trees in
    let w = world_in patterns g shipped in
    plain_is t reply b (prepared_as w (asked_in p) (standing_seen g.site.now p.at) b o) plain (reply_is patterns g p known trees len o told reply en et h)

-- ---- how many bytes are put

pub put_first : (old new : List ℕ) → old ≡ [] → length new ≤ length old + 65536 → length new ≤ 65536
put_first old new e h = subst (λ (o : List ℕ). length new ≤ length o + 65536) e h
