-- Texts and files as they are sent.
use Rattle.std.proofs.Common.{◌≡◌, ℕ, Bool, true, false, not, ◌&&◌, ◌||◌, ◌==◌, cond, List, length, Option, None, Some, option_map, is_some, refl, sym, ◌∙◌, ap, subst}
use Rattle.std.specs.List.{list_any}
use Rattle.request_meaning.specs.addition_filter.Machine.{is_added}
use Rattle.filter_api.specs.declared.facts.Facts.{Facts}
use Rattle.filter_api.specs.Members.{Member}
use Rattle.request_meaning.specs.ssi_filter.Machine.{is_split}
use Rattle.file_type.specs.Types.{type_of}
use Rattle.resp_head.specs.Head.{is_bodiless}
use Rattle.request_phases.specs.site_model.Levels.{raw_level, types_at}
use Rattle.request_phases.specs.site_model.declared.site.Site.{Site}
use Rattle.request_phases.specs.site_model.declared.site.Level.{Level}
use Rattle.request_meaning.specs.site_views.Values.{Values}
use Rattle.request_phases.specs.site_whole.Whole.{values_seen, media_at}
use Rattle.request_meaning.specs.Serving as meaning
use Rattle.request_meaning.specs.Serving.{World, Asked, Standing, Prepared, is_main_role}
use Rattle.request_meaning.specs.Answering.{has_no_body, facts_of, is_among, is_filtered, is_unmodified, shown_status, shown_date, answer_with, body_sent, read_of, prepared, sent, page_to, moved, redirect_target, page}
use Rattle.request_meaning.specs.Laws.{shipped}
use Rattle.request_phases.specs.rewrite_code.Places.{standing_seen}
use Rattle.request_phases.specs.Rounds.{asked_in, handled_seen}
use Rattle.request_phases.specs.declared.state.Phases.{Phases}
use Rattle.request_reply.specs.Replies.{IsReply, acts_on, names_filters, body_seen, is_sent, status_in}
use Rattle.request_reply.specs.declared.reply.Body.{Body}
use Rattle.request_reply.specs.declared.reply.Body.TheVariants.{Nothing, Page, Text, File}
use Rattle.request_reply.specs.declared.reply.Reply.{Reply}

or_false : (b : Bool) → (b || false) ≡ b
or_false true = refl
or_false false = refl

-- whether one of the filters acts that a server has
filtered_is : (w : World) → w.members ≡ shipped → (facts : Facts) → is_filtered w facts ≡ acts_on facts
filtered_is w e facts = ap (λ ms. list_any (λ (m : Member). (m.machine facts).on) ms) e ∙ ap (λ b. is_split facts || b) (or_false (is_added facts))

-- what the filters are told
pub told_is : (site : Site) (p : Phases) (l : Level) (status : ℕ) (kind : List ℕ) → l ≡ raw_level site p.at.level → (ssi_type before after addition_type main : Bool) →
    ssi_type ≡ is_among (media_at site l.ssi_types) kind → before ≡ is_some l.before → after ≡ is_some l.after → addition_type ≡ is_among (media_at site l.addition_types) kind →
    main ≡ is_main_role p.at.request.role →
    Path Facts (record { ssi = l.ssi; ssi_type = ssi_type; before = before; after = after; addition_type = addition_type; status = status; main = main }) (facts_of (standing_seen site p.at) status kind)
unfolding facts_of values_seen
told_is site p l status kind e ssi_type before after addition_type main s b a t m =
    rw s (rw b (rw a (rw t (rw m (ap (λ (l : Level). record {
      ssi = l.ssi;
      ssi_type = is_among (media_at site l.ssi_types) kind;
      before = is_some l.before;
      after = is_some l.after;
      addition_type = is_among (media_at site l.addition_types) kind;
      status = status;
      main = is_main_role p.at.request.role;
    }) e)))))

and_false : (b : Bool) → (b && false) ≡ false
and_false true = refl
and_false false = refl

off_by : (ssi : Bool) (before after : Option (List ℕ)) → (ssi || is_some before || is_some after) ≡ false → (ssi ≡ false) × ((is_some before ≡ false) × (is_some after ≡ false))
off_by true before after e = cc
off_by false None None e = (refl, (refl, refl))
off_by false None (Some a) e = cc
off_by false (Some b) after e = cc

none_acts : (facts : Facts) → facts.ssi ≡ false → facts.before ≡ false → facts.after ≡ false → acts_on facts ≡ false
none_acts facts s b a =
    ap (λ x. (x && facts.ssi_type) || is_added facts) s
    ∙ (ap (λ x. facts.main && ((facts.status == 200) && (facts.addition_type && (x || facts.after)))) b
    ∙ (ap (λ x. facts.main && ((facts.status == 200) && (facts.addition_type && x))) a
    ∙ (ap (λ x. facts.main && ((facts.status == 200) && x)) (and_false facts.addition_type)
    ∙ (ap (λ x. facts.main && x) (and_false (facts.status == 200)) ∙ and_false facts.main))))

-- where a level names no filter, none acts
pub unnamed : (site : Site) (p : Phases) (l : Level) (status : ℕ) (kind : List ℕ) → l ≡ raw_level site p.at.level → names_filters l ≡ false →
    (let facts = facts_of (standing_seen site p.at) status kind in None ≡ cond (acts_on facts) (Some facts) None)
unfolding facts_of values_seen
unnamed site p l status kind e off =
    let facts = facts_of (standing_seen site p.at) status kind in
    let h = off_by l.ssi l.before l.after off in
    ap (λ b. cond b (Some facts) None)
    (sym (none_acts facts (ap (λ (l : Level). l.ssi) (sym e) ∙ h.0) (ap (λ (l : Level). is_some l.before) (sym e) ∙ h.1.0) (ap (λ (l : Level). is_some l.after) (sym e) ∙ h.1.1)))

pub types_are : (site : Site) (p : Phases) → types_at site (raw_level site p.at.level).types ≡ (standing_seen site p.at).values.types
unfolding values_seen
types_are site p = refl

abbrev facts_by : Bool → Facts → Option Facts
facts_by f facts = cond f (Some facts) None

seen_as : (bytes content : List ℕ) (facts : Facts) (f : Bool) (body : Body) → is_sent body ≡ true → body_seen bytes None body ≡ meaning.Body.Plain content →
    body_seen bytes (facts_by f facts) body ≡ cond f (meaning.Body.Filtered facts content) (meaning.Body.Plain content)
seen_as bytes content facts false body s e = e
seen_as bytes content facts true Nothing s e = no_false s
  where
    no_false : {A : Type 0} → false ≡ true → A
    no_false e = cc
seen_as bytes content facts true (Page code) s e = no_false s
  where
    no_false : {A : Type 0} → false ≡ true → A
    no_false e = cc
seen_as bytes content facts true (Text text) s e = ap (meaning.Body.Filtered facts) (is_same e)
  where
    is_same : meaning.Body.Plain text ≡ meaning.Body.Plain content → text ≡ content
    is_same e = cc
seen_as bytes content facts true File s e = ap (meaning.Body.Filtered facts) (is_same e)
  where
    is_same : meaning.Body.Plain bytes ≡ meaning.Body.Plain content → bytes ≡ content
    is_same e = cc

body_of : (bytes content : List ℕ) (facts : Facts) (f nothing : Bool) (body : Body) → is_sent body ≡ true → body_seen bytes None body ≡ meaning.Body.Plain content →
    body_seen bytes (cond nothing None (facts_by f facts)) (cond nothing Nothing body) ≡ body_sent nothing f facts content
body_of bytes content facts f true body s e = refl
body_of bytes content facts f false body s e = seen_as bytes content facts f body s e

module _ (w : World) (site : Site) (p : Phases) (own : ℕ) (date : Option ℕ) (bytes content : List ℕ) (members : w.members ≡ shipped) where
  abbrev here : Standing
  here = standing_seen site p.at

  abbrev pub shown : ℕ
  shown = shown_status (handled_seen p.error) own

  abbrev pub kind : List ℕ
  kind = type_of here.values.types p.at.request.path

  abbrev pub facts : Facts
  facts = facts_of here shown kind

  abbrev pub status : ℕ
  status = status_in p shown (acts_on facts) date

  abbrev plain : Prepared
  plain = prepared (asked_in p) here status kind (acts_on facts) facts content date

  sent_plain : sent w (asked_in p) here own content date ≡ plain
  unfolding sent
  sent_plain = ap (λ f. prepared (asked_in p) here (cond (is_unmodified p.main p.at.request shown f date) 304 shown) kind f facts content date) (filtered_is w members facts)

  pub sent_reply : (reply : Reply) (body : Body) (len : ℕ) → body_seen bytes None body ≡ meaning.Body.Plain content → length content ≡ len → is_sent body ≡ true →
      reply.status ≡ status →
      option_map (λ k. k.now) reply.kind ≡ cond (is_bodiless status) None (Some kind) →
      reply.length ≡ cond (is_bodiless status || acts_on facts) None (Some len) → reply.known ≡ (is_bodiless status || not (acts_on facts)) →
      reply.modified ≡ shown_date status (acts_on facts) date → reply.location ≡ None →
      reply.closes ≡ p.closes → reply.gone ≡ false → reply.read ≡ read_of (is_bodiless status || has_no_body p.main p.at.request) date content → reply.facts ≡ cond (is_bodiless status || has_no_body p.main p.at.request) None (facts_by (acts_on facts) facts) →
      reply.body ≡ cond (is_bodiless status || has_no_body p.main p.at.request) Nothing body →
      IsReply reply bytes (sent w (asked_in p) here own content date)
  unfolding answer_with
  sent_reply reply body len b l v s k n kn m lo c g re fa bo =
      let bodiless = is_bodiless status in
      let nothing = bodiless || has_no_body p.main p.at.request in
      subst (IsReply reply bytes) (sym sent_plain) (record {
        status = s;
        kind = k;
        len = n ∙ ap (λ m. cond (bodiless || acts_on facts) None (Some m)) (sym l);
        known = kn;
        modified = m;
        location = lo;
        closes = c;
        gone = g;
        read = re;
        body = ap (λ f. body_seen bytes f reply.body) fa ∙ (ap (body_seen bytes (cond nothing None (facts_by (acts_on facts) facts))) bo ∙ body_of bytes content facts (acts_on facts) nothing body v b);
      })

  some_by : (b : Bool) (f : Facts) → is_some (facts_by b f) ≡ b
  some_by true f = refl
  some_by false f = refl

  -- by what the steps of the code come to
  pub sent_all : (reply : Reply) (body : Body) (len : ℕ) (k : List ℕ) (n st : ℕ) (fs : Option Facts) (filtered bodiless nothing : Bool) →
      body_seen bytes None body ≡ meaning.Body.Plain content → length content ≡ len → is_sent body ≡ true →
      k ≡ kind → n ≡ shown → fs ≡ facts_by (acts_on (facts_of here n k)) (facts_of here n k) → filtered ≡ is_some fs → st ≡ status_in p n filtered date →
      bodiless ≡ is_bodiless st → nothing ≡ (is_bodiless st || has_no_body p.main p.at.request) →
      reply.status ≡ st → option_map (λ k. k.now) reply.kind ≡ cond bodiless None (Some k) → reply.length ≡ cond (bodiless || filtered) None (Some len) →
      reply.known ≡ (bodiless || not filtered) → reply.modified ≡ shown_date st filtered date → reply.location ≡ None → reply.closes ≡ p.closes → reply.gone ≡ false →
      reply.read ≡ read_of nothing date content → reply.facts ≡ cond nothing None fs → reply.body ≡ cond nothing Nothing body →
      IsReply reply bytes (sent w (asked_in p) here own content date)
  sent_all reply body len k n st fs filtered bodiless nothing b l v ek en ef efi est eb eno rs rk rl rkn rm rlo rc rg rr rf rb =
      let ef' : fs ≡ facts_by (acts_on facts) facts = ef ∙ (ap (λ x. facts_by (acts_on (facts_of here x k)) (facts_of here x k)) en ∙ ap (λ y. facts_by (acts_on (facts_of here shown y)) (facts_of here shown y)) ek) in
      let efi' : filtered ≡ acts_on facts = efi ∙ (ap is_some ef' ∙ some_by (acts_on facts) facts) in
      let est' : st ≡ status = est ∙ (ap (λ x. status_in p x filtered date) en ∙ ap (λ f. status_in p shown f date) efi') in
      let eb' : bodiless ≡ is_bodiless status = eb ∙ ap is_bodiless est' in
      let eno' : nothing ≡ (is_bodiless status || has_no_body p.main p.at.request) = eno ∙ ap (λ s. is_bodiless s || has_no_body p.main p.at.request) est' in
      sent_reply reply body len b l v (rs ∙ est')
      (rk ∙ (ap (λ d. cond d None (Some k)) eb' ∙ ap (λ x. cond (is_bodiless status) None (Some x)) ek))
      (rl ∙ (ap (λ d. cond (d || filtered) None (Some len)) eb' ∙ ap (λ f. cond (is_bodiless status || f) None (Some len)) efi'))
      (rkn ∙ (ap (λ d. d || not filtered) eb' ∙ ap (λ f. is_bodiless status || not f) efi'))
      (rm ∙ (ap (λ s. shown_date s filtered date) est' ∙ ap (λ f. shown_date status f date) efi')) rlo rc rg
      (rr ∙ ap (λ d. read_of d date content) eno')
      (rf ∙ (ap (λ d. cond d None fs) eno' ∙ ap (cond (is_bodiless status || has_no_body p.main p.at.request) None) ef'))
      (rb ∙ ap (λ d. cond d Nothing body) eno')

-- what is answered, by what was decided
pub by_outcome : (w : World) (site : Site) (p : Phases) (reply : Reply) (bytes : List ℕ) (q r : Prepared) → q ≡ r → IsReply reply bytes q → IsReply reply bytes r
by_outcome w site p reply bytes q r e h = subst (IsReply reply bytes) e h

pub moves : (site : Site) (p : Phases) (code : ℕ) (to target : Option (List ℕ)) (l : Level) → l ≡ raw_level site p.at.level →
    ((values : Values) → values.with_server_name ≡ l.with_server_name → values.with_port ≡ l.with_port → values.absolute ≡ l.absolute → target ≡ redirect_target values p.main to) →
    page_to (asked_in p) (standing_seen site p.at) code target ≡ moved (asked_in p) (standing_seen site p.at) code to
unfolding moved values_seen
moves site p code to target l e targets =
    ap (λ t. page_to (asked_in p) (standing_seen site p.at) code t)
    (targets (standing_seen site p.at).values (ap (λ (l : Level). l.with_server_name) (sym e)) (ap (λ (l : Level). l.with_port) (sym e)) (ap (λ (l : Level). l.absolute) (sym e)))

pub pages : (site : Site) (p : Phases) (code : ℕ) → page_to (asked_in p) (standing_seen site p.at) code None ≡ page (asked_in p) (standing_seen site p.at) code
unfolding page
pages site p code = refl
