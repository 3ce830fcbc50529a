-- When a connection rests, and that it goes on resting.
use Rattle.std.proofs.Common.{◌≡◌, ◌≢◌, ℕ, ◌+◌, ◌<◌, ◌≤◌, ◌⊎◌, inl, inr, Bool, true, false, not, cond, ◌||◌, List, [], ◌∷◌, ◌++◌, map, length, take, get_or, Option, None, Some, refl, sym, ap, ◌∙◌, subst, arith}
use Rattle.std.specs.Prelude.{nat_eq, nat_le}
use Rattle.std.specs.List.{All, Contains, list_any}
use Rattle.std.proofs.lemmas.Bool.{cases_eq}
use Rattle.std.proofs.lemmas.Bool.Decides.{nat_tests}
use Rattle.std.proofs.lemmas.List.Elements.{All-nil, All-cons, All-head, All-tail, All-contains}
use Rattle.std.proofs.lemmas.List.Folds.{list_any_more, list_any_at}
use Rattle.ngx_outside.specs.Linked.{LinkView}
use Rattle.ngx_outside.specs.Views.{ConnView, Job, Ticked, GivesUp, Waits, kept_moment, no_bytes}
use Rattle.ngx_outside.specs.Wants.{wants_at, read_want, doable}
use Rattle.ngx_outside.specs.declared.event.Want.{Want}
use Rattle.ngx_outside.specs.declared.event.Want.TheVariants as want
use Rattle.ready_loop.specs.Ids.{has}
use Rattle.ready_loop.specs.declared.ids.Ids.{Ids}
use Rattle.link_service.specs.Rests.{IsRested}
use Rattle.ready_loop.specs.Turns.{AtRest, IsHeard, IsHeardBut, IsQuiet, AllRest, RestsBut, ChangedAs}
use Rattle.link_service.specs.Seen.{Elsewhere}
use Rattle.link_service.specs.Standing.{IsMatched}
use Rattle.ready_loop.specs.declared.hear.Heard.{Heard}
use Rattle.ready_loop.specs.declared.hear.Heard.TheVariants as heard

all_left : (P : Want → Type 0) (xs ys : List Want) → All P (xs ++ ys) → All P xs
all_left P [] ys all = All-nil P
all_left P (x ∷ xs) ys all = All-cons P x xs (All-head P x (xs ++ ys) all) (all_left P xs ys (All-tail P x (xs ++ ys) all))

all_right : (P : Want → Type 0) (xs ys : List Want) → All P (xs ++ ys) → All P ys
all_right P [] ys all = all
all_right P (x ∷ xs) ys all = all_right P xs ys (All-tail P x (xs ++ ys) all)

-- the parts of a connection's wants
pub record Parts (P : Want → Type 0) (c : ℕ) (v : ConnView) : Type 0 where
  pub reads : All P (read_want c v.room)
  pub runs : All P (map (λ node. want.Run c node) v.ready)
  pub jobs : All P (map (λ (job : Job). want.Job c job.node) v.jobs)
  pub writes : All P (cond (no_bytes v.pending) [] (want.Write c ∷ []))
  pub closes : All P (cond v.shut (want.Close c ∷ []) [])

parts : (P : Want → Type 0) (c : ℕ) (v : ConnView) → All P (wants_at c v) → Parts P c v
unfolding wants_at
parts P c v all =
    let a1 = all_left P (read_want c v.room ++ map (λ node. want.Run c node) v.ready ++ map (λ (job : Job). want.Job c job.node) v.jobs ++ cond (no_bytes v.pending) [] (want.Write c ∷ [])) (cond v.shut (want.Close c ∷ []) []) all in
    let a2 = all_left P (read_want c v.room ++ map (λ node. want.Run c node) v.ready ++ map (λ (job : Job). want.Job c job.node) v.jobs) (cond (no_bytes v.pending) [] (want.Write c ∷ [])) a1 in
    let a3 = all_left P (read_want c v.room ++ map (λ node. want.Run c node) v.ready) (map (λ (job : Job). want.Job c job.node) v.jobs) a2 in
    record {
      reads = all_left P (read_want c v.room) (map (λ node. want.Run c node) v.ready) a3;
      runs = all_right P (read_want c v.room) (map (λ node. want.Run c node) v.ready) a3;
      jobs = all_right P (read_want c v.room ++ map (λ node. want.Run c node) v.ready) (map (λ (job : Job). want.Job c job.node) v.jobs) a2;
      writes = all_right P (read_want c v.room ++ map (λ node. want.Run c node) v.ready ++ map (λ (job : Job). want.Job c job.node) v.jobs) (cond (no_bytes v.pending) [] (want.Write c ∷ [])) a1;
      closes = all_right P (read_want c v.room ++ map (λ node. want.Run c node) v.ready ++ map (λ (job : Job). want.Job c job.node) v.jobs ++ cond (no_bytes v.pending) [] (want.Write c ∷ [])) (cond v.shut (want.Close c ∷ []) []) all;
    }

-- where no want can be served there is nothing to do
pub at_rest : (heard tells : Type 0) (due : Bool) (c : ℕ) (v : ConnView) (l : LinkView) → IsRested tells due c v l → (heard → l.due ≡ true → due ≡ true) → AtRest heard tells v l
at_rest heard tells due c v l r h = record {
  ready = no_runs v.ready p.runs;
  jobs = no_jobs v.jobs p.jobs;
  shut = no_close v.shut p.closes;
  read = λ k some. no_read v.room some p.reads l.due refl (h k);
  written = λ t some. r.told t (no_write v.pending some p.writes r.full refl);
}
  where
    P : Want → Type 0
    P w = doable due r.full w ≡ false

    p : Parts P c v
    p = parts P c v r.none

    no_runs : (nodes : List ℕ) → All P (map (λ node. want.Run c node) nodes) → nodes ≡ []
    no_runs [] all = refl
    no_runs (n ∷ nodes) all = absurd (let e : true ≡ false = All-head P (want.Run c n) (map (λ node. want.Run c node) nodes) all in cc)

    no_jobs : (jobs : List Job) → All P (map (λ (job : Job). want.Job c job.node) jobs) → jobs ≡ []
    no_jobs [] all = refl
    no_jobs (j ∷ jobs) all = absurd (let e : true ≡ false = All-head P (want.Job c j.node) (map (λ (job : Job). want.Job c job.node) jobs) all in cc)

    no_close : (t : Bool) → All P (cond t (want.Close c ∷ []) []) → t ≡ false
    no_close true all = absurd (let e : true ≡ false = All-head P (want.Close c) [] all in cc)
    no_close false all = refl

    no_read : (room : Option ℕ) → room ≢ None → All P (read_want c room) → (t : Bool) → l.due ≡ t → (l.due ≡ true → due ≡ true) → l.due ≡ false
    no_read None some all t e k = absurd (some refl)
    no_read (Some most) some all true e k = absurd (let f : due ≡ false = All-head P (want.Read c most) [] all in let g : due ≡ true = k e in let q : true ≡ false = sym g ∙ f in cc)
    no_read (Some most) some all false e k = e

    no_write : (pending : List ℕ) → pending ≢ [] → All P (cond (no_bytes pending) [] (want.Write c ∷ [])) → (t : Bool) → r.full ≡ t → r.full ≡ true
    no_write [] some all t e = absurd (some refl)
    no_write (b ∷ bytes) some all true e = e
    no_write (b ∷ bytes) some all false e = absurd (let f : not r.full ≡ false = All-head P (want.Write c) [] all in let g : not false ≡ false = ap not (sym e) ∙ f in cc)

-- it rests as long as neither it nor its link changes
pub rest_same : (heard heard' tells tells' : Type 0) (v v' : ConnView) (l l' : LinkView) → (heard' → heard) → (tells' → tells) → v' ≡ v → (heard' → l'.due ≡ l.due) → (tells' → l'.full ≡ l.full) → AtRest heard tells v l → AtRest heard' tells' v' l'
rest_same heard heard' tells tells' v v' l l' h t e d f r = record {
  ready = ap (λ (x : ConnView). x.ready) e ∙ r.ready;
  jobs = ap (λ (x : ConnView). x.jobs) e ∙ r.jobs;
  shut = ap (λ (x : ConnView). x.shut) e ∙ r.shut;
  read = λ k some. d k ∙ r.read (h k) (λ q. some (ap (λ (x : ConnView). x.room) e ∙ q));
  written = λ k some. f k ∙ r.written (t k) (λ q. some (ap (λ (x : ConnView). x.pending) e ∙ q));
}

-- one more connection was served
pub listed_more : (c : ℕ) (conns : List ℕ) (i : ℕ) → i < length conns → list_any (nat_eq c) (take (i + 1) conns) ≡ true → (list_any (nat_eq c) (take i conns) ≡ true) ⊎ (c ≡ get_or conns i 0)
listed_more c conns i h e = go (list_any (nat_eq c) (take i conns)) refl (sym (list_any_more (nat_eq c) conns i 0 h) ∙ e)
  where
    go : (t : Bool) → list_any (nat_eq c) (take i conns) ≡ t → (list_any (nat_eq c) (take i conns) || nat_eq c (get_or conns i 0)) ≡ true → (list_any (nat_eq c) (take i conns) ≡ true) ⊎ (c ≡ get_or conns i 0)
    go true f k = inl f
    go false f k = inr (let q : nat_eq c (get_or conns i 0) ≡ true = sym (ap (λ t. t || nat_eq c (get_or conns i 0)) f) ∙ k in grind (arith, nat_tests))

-- a connection is served, and it is remembered whether its link is still to be read
pub heard_on : (conn : ℕ) (due due' : Bool) (is_open is_open' : ℕ → Bool) (link link' : ℕ → LinkView) (unread unread' : Ids) → ((d : ℕ) → d ≢ conn → is_open' d ≡ is_open d) → ((d : ℕ) → d ≢ conn → link' d ≡ link d) →
    (is_open' conn ≡ true → (link' conn).due ≡ true → due' ≡ true) → (due' ≡ true → has unread' conn ≡ true) → ((d : ℕ) → d ≢ conn → has unread' d ≡ has unread d) → IsHeardBut conn due is_open link unread → IsHeard is_open' link' unread'
heard_on conn due due' is_open is_open' link link' unread unread' opens links known own others h c is_o is = go (cases_eq c conn)
  where
    go : (c ≡ conn) ⊎ (c ≡ conn → ⊥) → has unread' c ≡ true
    go (inl e) = subst (λ x. has unread' x ≡ true) (sym e) (own (known (subst (λ x. is_open' x ≡ true) e is_o) (subst (λ x. (link' x).due ≡ true) e is)))
    go (inr ne) = others c ne ∙ other (h c (sym (opens c ne) ∙ is_o) (ap (λ (x : LinkView). x.due) (sym (links c ne)) ∙ is))
      where
        other : (has unread c ≡ true) ⊎ ((c ≡ conn) × (due ≡ true)) → has unread c ≡ true
        other (inl k) = k
        other (inr k) = absurd (ne k.0)

-- what is known of the connection itself
pub heard_own : (conn : ℕ) (due : Bool) (is_open : ℕ → Bool) (link : ℕ → LinkView) (unread : Ids) → IsHeardBut conn due is_open link unread → is_open conn ≡ true → (link conn).due ≡ true → (due || has unread conn) ≡ true
heard_own conn due is_open link unread h is_o is = go due (has unread conn) (h conn is_o is)
  where
    go : (a b : Bool) → (b ≡ true) ⊎ ((conn ≡ conn) × (a ≡ true)) → (a || b) ≡ true
    go true b k = refl
    go false b (inl e) = e
    go false b (inr k) = absurd (let q : false ≡ true = k.1 in cc)

pub heard_all : (conn : ℕ) (is_open : ℕ → Bool) (link : ℕ → LinkView) (unread : Ids) → IsHeard is_open link unread → IsHeardBut conn false is_open link unread
heard_all conn is_open link unread h c is_o is = inl (h c is_o is)

-- those that were served rest, and go on resting while another is served
pub rest_served : (heard heard1 tells tells1 : Type 0) (conns : List ℕ) (i : ℕ) (view view' : ℕ → ConnView) (link link' : ℕ → LinkView) → i < length conns → (heard → heard1) → (heard → tells) → (tells → tells1) →
    ((d : ℕ) → d ≢ get_or conns i 0 → view' d ≡ view d) → (tells1 → (d : ℕ) → d ≢ get_or conns i 0 → link' d ≡ link d) →
    ((view' (get_or conns i 0)).held ≡ true → AtRest heard1 tells1 (view' (get_or conns i 0)) (link' (get_or conns i 0))) →
    ((c : ℕ) → list_any (nat_eq c) (take i conns) ≡ true → (view c).held ≡ true → AtRest heard tells (view c) (link c)) →
    (c : ℕ) → list_any (nat_eq c) (take (i + 1) conns) ≡ true → (view' c).held ≡ true → AtRest heard tells (view' c) (link' c)
rest_served heard heard1 tells tells1 conns i view view' link link' h hh ht tt1 views links own before c listed held = go (cases_eq c (get_or conns i 0))
  where
    go : (c ≡ get_or conns i 0) ⊎ (c ≡ get_or conns i 0 → ⊥) → AtRest heard tells (view' c) (link' c)
    go (inl e) =
        subst (λ x. AtRest heard tells (view' x) (link' x)) (sym e)
        (rest_same heard1 heard tells1 tells (view' (get_or conns i 0)) (view' (get_or conns i 0)) (link' (get_or conns i 0)) (link' (get_or conns i 0)) hh tt1 refl (λ k. refl) (λ k. refl) (own (subst (λ x. (view' x).held ≡ true) e held)))
    go (inr ne) = other (listed_more c conns i h listed)
      where
        other : (list_any (nat_eq c) (take i conns) ≡ true) ⊎ (c ≡ get_or conns i 0) → AtRest heard tells (view' c) (link' c)
        other (inl was) =
            rest_same heard heard tells tells (view c) (view' c) (link c) (link' c) (λ k. k) (λ k. k) (views c ne) (λ k. ap (λ (x : LinkView). x.due) (links (tt1 (ht k)) c ne)) (λ k. ap (λ (x : LinkView). x.full) (links (tt1 k) c ne))
            (before c was (ap (λ (x : ConnView). x.held) (sym (views c ne)) ∙ held))
        other (inr e) = absurd (ne e)

-- one that isn't among the others
pub apart_at : (c : ℕ) (conns : List ℕ) (i : ℕ) → i < length conns → list_any (nat_eq c) conns ≡ false → c ≢ get_or conns i 0
apart_at c conns i h none e = let k : list_any (nat_eq c) conns ≡ true = list_any_at (nat_eq c) conns i 0 h (let q = e in grind (arith, nat_tests)) in let q : true ≡ false = sym k ∙ none in cc

-- a connection that is among others is found there
listed : (c : ℕ) (conns : List ℕ) → Contains conns c → list_any (nat_eq c) conns ≡ true
listed c conns has = list_any_at (nat_eq c) conns has.0 c has.1 (let e : get_or conns has.0 c ≡ c = has.2 in grind (arith, nat_tests))

-- all that are held rest: those that were held were served, and no others are held
pub rest_listed : (heard tells : Type 0) (conns : List ℕ) (view view' : ℕ → ConnView) (link : ℕ → LinkView) (c : ℕ) → ((view c).held ≡ true → Contains conns c) →
    (list_any (nat_eq c) conns ≡ true → AtRest heard tells (view' c) (link c)) → (list_any (nat_eq c) conns ≡ false → view' c ≡ view c) → (view' c).held ≡ true → AtRest heard tells (view' c) (link c)
rest_listed heard tells conns view view' link c has served same is = go (list_any (nat_eq c) conns) refl
  where
    go : (t : Bool) → list_any (nat_eq c) conns ≡ t → AtRest heard tells (view' c) (link c)
    go true f = served f
    go false f = absurd (let k : list_any (nat_eq c) conns ≡ true = listed c conns (has (ap (λ (x : ConnView). x.held) (sym (same f)) ∙ is)) in let q : true ≡ false = sym k ∙ f in cc)

-- one more id
pub has_more : (conn : ℕ) (old new : Ids) → has new conn ≡ true → ((d : ℕ) → d ≢ conn → has new d ≡ has old d) → (c : ℕ) → has old c ≡ true → has new c ≡ true
has_more conn old new own others c h = go (cases_eq c conn)
  where
    go : (c ≡ conn) ⊎ (c ≡ conn → ⊥) → has new c ≡ true
    go (inl e) = subst (λ x. has new x ≡ true) (sym e) own
    go (inr ne) = others c ne ∙ h

-- it goes on resting as long as neither it nor its link changes
rest_still : (heard tells tells' : Type 0) (v v' : ConnView) (l l' : LinkView) → v' ≡ v → (heard → tells) → (tells' → tells) → (tells → l' ≡ l) → AtRest heard tells v l → AtRest heard tells' v' l'
rest_still heard tells tells' v v' l l' e ht tt1 le r = rest_same heard heard tells tells' v v' l l' (λ k. k) tt1 e (λ k. ap (λ (x : LinkView). x.due) (le (ht k))) (λ k. ap (λ (x : LinkView). x.full) (le (tt1 k))) r

rests_still : (heard tells tells' : Type 0) (view view' : ℕ → ConnView) (link link' : ℕ → LinkView) → (heard → tells) → (tells' → tells) → ((c : ℕ) → view' c ≡ view c) → (tells → (c : ℕ) → link' c ≡ link c) → AllRest heard tells view link → AllRest heard tells' view' link'
rests_still h t t' view view' link link' ht tl views links all c held = rest_still h t t' (view c) (view' c) (link c) (link' c) (views c) ht tl (λ k. links k c) (all c (ap (λ (x : ConnView). x.held) (sym (views c)) ∙ held))

-- a connection was served, and the others rest
pub rests_one : (heard heard1 tells tells1 : Type 0) (conn : ℕ) (view view' : ℕ → ConnView) (link link' : ℕ → LinkView) → (heard → heard1) → (heard → tells) → (tells → tells1) → Elsewhere conn view view' → (tells1 → Elsewhere conn link link') →
    ((view' conn).held ≡ true → AtRest heard1 tells1 (view' conn) (link' conn)) → ((c : ℕ) → c ≢ conn → (view c).held ≡ true → AtRest heard tells (view c) (link c)) → AllRest heard tells view' link'
rests_one heard heard1 tells tells1 conn view view' link link' hh ht tt1 views links own others c held = go (cases_eq c conn)
  where
    go : (c ≡ conn) ⊎ (c ≡ conn → ⊥) → AtRest heard tells (view' c) (link' c)
    go (inl e) =
        subst (λ x. AtRest heard tells (view' x) (link' x)) (sym e)
        (rest_same heard1 heard tells1 tells (view' conn) (view' conn) (link' conn) (link' conn) hh tt1 refl (λ k. refl) (λ k. refl) (own (subst (λ x. (view' x).held ≡ true) e held)))
    go (inr ne) = rest_still heard tells tells (view c) (view' c) (link c) (link' c) (views c ne) ht (λ k. k) (λ k. links (tt1 k) c ne) (others c ne (ap (λ (x : ConnView). x.held) (sym (views c ne)) ∙ held))

-- all were served
pub rests_all : (heard heard1 tells tells1 : Type 0) (view : ℕ → ConnView) (link : ℕ → LinkView) → (heard → heard1) → (tells → tells1) → ((c : ℕ) → (view c).held ≡ true → AtRest heard1 tells1 (view c) (link c)) → AllRest heard tells view link
rests_all heard heard1 tells tells1 view link hh tt1 all c held = rest_same heard1 heard tells1 tells (view c) (view c) (link c) (link c) hh tt1 refl (λ k. refl) (λ k. refl) (all c held)

-- what is known where the links tell is known where they still do
pub rests_told : (heard tells tells' : Type 0) (view : ℕ → ConnView) (link : ℕ → LinkView) → (tells' → tells) → AllRest heard tells view link → AllRest heard tells' view link
rests_told heard tells tells' view link t all = rests_all heard heard tells' tells view link (λ k. k) t all

-- something was heard
pub rests_heard : (notice : Heard) (heard tells tells' : Type 0) (view view' : ℕ → ConnView) (link link' : ℕ → LinkView) → (heard → tells) → (tells' → tells) → ChangedAs notice view view' → (tells → ChangedAs notice link link') → AllRest heard tells view link → RestsBut notice heard tells' view' link'
rests_heard (heard.At conn due) h t t' view view' link link' ht tl views links all =
    λ c ne held. rest_still h t t' (view c) (view' c) (link c) (link' c) (views c ne) ht tl (λ k. links k c ne) (all c (ap (λ (x : ConnView). x.held) (sym (views c ne)) ∙ held))
rests_heard heard.Nothing h t t' view view' link link' ht tl views links all = rests_still h t t' view view' link link' ht tl views links all
rests_heard heard.Ended h t t' view view' link link' ht tl views links all = rests_still h t t' view view' link link' ht tl views links all
rests_heard heard.Failed h t t' view view' link link' ht tl views links all = rests_still h t t' view view' link link' ht tl views links all

-- none is given up by a moment before all deadlines
quiet_tick : (until moment : ℕ) (v v' : ConnView) → moment < until → ((due : ℕ) → v.deadline ≡ Some due → until ≤ due) → Ticked (kept_moment moment) v v' → v' ≡ v
unfolding kept_moment
quiet_tick until moment v v' before quiet (GivesUp due timed is past s) = absurd (let a = quiet due is in omega (arith, before, a, past))
quiet_tick until moment v v' before quiet (Waits not same) = same

-- a moment before all deadlines was told
pub rests_ticked : (heard tells : Type 0) (until moment : ℕ) (view view' : ℕ → ConnView) (link : ℕ → LinkView) → moment < until → IsQuiet until view → ((c : ℕ) → Ticked (kept_moment moment) (view c) (view' c)) → AllRest heard tells view link → AllRest heard tells view' link
rests_ticked h t until moment view view' link before quiet ticked all c held =
    let same : view' c ≡ view c = quiet_tick until moment (view c) (view' c) before (quiet c) (ticked c) in
    subst (λ v. AtRest h t v (link c)) (sym same) (all c (ap (λ (x : ConnView). x.held) (sym same) ∙ held))

-- all that are held are remembered
pub heard_at_start : (view : ℕ → ConnView) (is_open : ℕ → Bool) (link : ℕ → LinkView) (unread : Ids) (conns : List ℕ) → ((c : ℕ) → (view c).held ≡ true → Contains conns c) → IsMatched view is_open →
    All (λ c. has unread c ≡ true) conns → IsHeard is_open link unread
heard_at_start view is_open link unread conns has_conn matched all c is_o is = All-contains (λ d. has unread d ≡ true) conns c all (has_conn c (matched c ∙ is_o))

pub before_all : (until moment : ℕ) → nat_le until moment ≡ false → moment < until
before_all until moment e = grind (arith, nat_tests)
