-- The entry of a local end, and what is chosen there, as the meaning has it.
use Rattle.std.proofs.Common.{◌≡◌, ℕ, Bool, true, false, ◌&&◌, ◌||◌, List, [], ◌∷◌, map, filter, find, Option, Some, None, is_some, option_and_then, slice_get, unwrap_or, cond, ⊎_elim, refl, sym, ap, ap₂, ◌∙◌, subst, arith}
use Rattle.std.specs.List.{list_any}
use Rattle.std.proofs.lemmas.Bool.{cases_Bool}
use Rattle.http_types.specs.declared.words.Addr.{Addr}
use Rattle.ngx_pattern.specs.Pattern.{Pattern as SetPattern}
use Rattle.site_model.specs.declared.site.Server.{Server}
use Rattle.site_model.specs.declared.site.Site.{Site}
use Rattle.site_views.specs.Views.{ServerView, ListenView}
use Rattle.site_views.specs.Choice.{or_else, is_exactly, is_wildcard, listens_at, test_for, is_default, choice, server_of, default_server, greatest}
use Rattle.site_whole.specs.Whole.{whole}
use Rattle.pattern_search.specs.Found.{patterns_seen, found}
use Rattle.server_choice.specs.Choice.{IsChosen}
use Rattle.server_choice.specs.Listening.{listens, first_from, IsEntryOf, AreEntriesOf, has_entry, entry_of, AreOf, server_at}
use Rattle.server_choice.specs.declared.servers.Entry.{Entry}
use Rattle.server_choice.specs.declared.servers.Servers.{Servers}
use Rattle.server_choice.proofs.Addresses.{not_both, any_as, any_map, exactly-same, wildcard-same, exactly-refl, listens-same}
use Rattle.server_choice.proofs.Firsts.{first-any, keep-none, no_some}
use Rattle.server_choice.proofs.Chosen.{see, listens-view, chosen-found, default-chosen}

-- ---- what is found

pub found-in : (p : Entry → Bool) (es : List Entry) (ss : List Server) (e : Entry) → AreEntriesOf es ss → find p es ≡ Some e → IsEntryOf e ss × (p e ≡ true)
unfolding AreEntriesOf
found-in p [] ss e are h = absurd (no_some (sym h))
found-in p (x ∷ es) ss e are h = by-test (p x) refl (found-in p es ss e are.1)
  where
    by-test : (b : Bool) → p x ≡ b → (find p es ≡ Some e → IsEntryOf e ss × (p e ≡ true)) → IsEntryOf e ss × (p e ≡ true)
    by-test true hit others =
        let is : x ≡ e = grind (arith, sym (ap (λ b. cond b (Some x) (find p es)) hit) ∙ h) in
        (subst (λ y. IsEntryOf y ss) is are.0, ap p (sym is) ∙ hit)
    by-test false miss others = others (sym (ap (λ b. cond b (Some x) (find p es)) miss) ∙ h)

pub found-none : (p : Entry → Bool) (es : List Entry) → find p es ≡ None → list_any p es ≡ false
found-none p [] h = refl
found-none p (x ∷ es) h = by-test (p x) refl (found-none p es)
  where
    by-test : (b : Bool) → p x ≡ b → (find p es ≡ None → list_any p es ≡ false) → list_any p (x ∷ es) ≡ false
    by-test true hit others = absurd (no_some (sym (ap (λ b. cond b (Some x) (find p es)) hit) ∙ h))
    by-test false miss others = ap (λ b. b || list_any p es) miss ∙ others (sym (ap (λ b. cond b (Some x) (find p es)) miss) ∙ h)

-- one that passes a test
pub record Passes {X : Type 0} (p : X → Bool) (xs : List X) : Type 0 where
  pub one : X
  pub passes : p one ≡ true
  pub among : (q : X → Bool) → q one ≡ true → list_any q xs ≡ true

pub passing : {X : Type 0} (p : X → Bool) (xs : List X) → list_any p xs ≡ true → Passes p xs
passing p [] h = absurd (grind (arith, h))
passing p (x ∷ xs) h = ⊎_elim
    (λ (hit : p x ≡ true). record { one = x; passes = hit; among = λ q e. ap (λ b. b || list_any q xs) e })
    (λ (miss : p x ≡ false).
    let later = passing p xs (sym (ap (λ b. b || list_any p xs) miss) ∙ h) in
    record { one = later.one; passes = later.passes; among = λ q e. either (q x) (list_any q xs) (later.among q e) })
    (cases_Bool (p x))
  where
    either : (a b : Bool) → b ≡ true → (a || b) ≡ true
    either true b h = refl
    either false b h = h

some-any : {X : Type 0} (p : X → Bool) (xs : List X) (n : ℕ) → Some n ≡ first_from p 0 xs → list_any p xs ≡ true
some-any p xs n h = sym (first-any p 0 xs) ∙ ap is_some (sym h)

pub any-and : {X : Type 0} (a b : X → Bool) (xs : List X) → list_any a xs ≡ false → list_any (λ x. a x && b x) xs ≡ false
any-and a b [] h = refl
any-and a b (x ∷ xs) h = ⊎_elim
    (λ (hit : a x ≡ true). absurd (grind (arith, sym (ap (λ c. c || list_any a xs) hit) ∙ h)))
    (λ (miss : a x ≡ false). ap (λ c. (c && b x) || list_any (λ x. a x && b x) xs) miss ∙ any-and a b xs (sym (ap (λ c. c || list_any a xs) miss) ∙ h))
    (cases_Bool (a x))

none-kept : {Y : Type 0} (test p : Y → Bool) → ((y : Y) → test y ≡ false → p y ≡ false) → (ys : List Y) → filter test ys ≡ [] → find p ys ≡ None
none-kept test p misses [] h = refl
none-kept test p misses (y ∷ ys) h = by-test (test y) refl (none-kept test p misses ys)
  where
    by-test : (b : Bool) → test y ≡ b → (filter test ys ≡ [] → find p ys ≡ None) → find p (y ∷ ys) ≡ None
    by-test true hit others = absurd (grind (arith, sym (ap (λ b. cond b (y ∷ filter test ys) (filter test ys)) hit) ∙ h))
    by-test false miss others = ap (λ b. cond b (Some y) (find p ys)) (misses y miss) ∙ others (sym (ap (λ b. cond b (y ∷ filter test ys) (filter test ys)) miss) ∙ h)

-- ---- the entry of a local end

module _ (ps : List SetPattern) (site : Site) (servers : Servers) (of : AreOf servers site) (local : Addr) where
  abbrev es : List Entry
  es = servers.entries.items

  abbrev ss : List Server
  ss = site.servers.items

  abbrev views : List ServerView
  views = map (see ps site) ss

  views-are : (whole (patterns_seen ps) site).servers ≡ views
  unfolding whole
  views-are = refl

  test-is : test_for views local ≡ cond (list_any (listens local) ss) (is_exactly local) (is_wildcard local)
  unfolding test_for
  test-is = ap (λ b. cond b (is_exactly local) (is_wildcard local))
      (any_map (listens_at (is_exactly local)) (see ps site) ss ∙ any_as (λ s. listens_at (is_exactly local) (see ps site s)) (listens local) (listens-view ps site (is_exactly local)) ss)

  on-exact : list_any (listens local) ss ≡ true → test_for views local ≡ is_exactly local
  on-exact h = test-is ∙ ap (λ b. cond b (is_exactly local) (is_wildcard local)) h

  on-all : has_entry es local ≡ false → test_for views local ≡ is_wildcard local
  on-all h = test-is ∙ ap (λ b. cond b (is_exactly local) (is_wildcard local)) (⊎_elim
      (λ (some : list_any (listens local) ss ≡ true). not_both _ (of.cover local some) h)
      (λ (none : list_any (listens local) ss ≡ false). none)
      (cases_Bool (list_any (listens local) ss)))

  -- what the entry's servers are tested by
  pub record Meets (e : Entry) : Type 0 where
    pub entry : IsEntryOf e ss
    pub alike : (l : Addr) → test_for views local l ≡ is_exactly e.addr l

  pub meets : (e : Entry) → entry_of es local ≡ Some e → Meets e
  meets e h = by-find (find (λ (x : Entry). is_exactly local x.addr) es) refl
    where
      by-find : (o : Option Entry) → find (λ (x : Entry). is_exactly local x.addr) es ≡ o → Meets e
      by-find (Some x) is =
          let same : x ≡ e = grind (arith, sym (ap (λ o. or_else o (find (λ (y : Entry). is_wildcard local y.addr) es)) is) ∙ h) in
          let at = found-in (λ (y : Entry). is_exactly local y.addr) es ss e of.entries (is ∙ ap Some same) in
          let listened : list_any (listens local) ss ≡ true = any_as (listens local) (listens e.addr) (listens-same local e.addr at.1) ss
          ∙ some-any (listens e.addr) ss e.names.first at.0.first in
          record { entry = at.0; alike = λ l. ap (λ t. t l) (on-exact listened) ∙ exactly-same local e.addr at.1 l }
      by-find None is =
          let wild : find (λ (y : Entry). is_wildcard local y.addr) es ≡ Some e = sym (ap (λ o. or_else o (find (λ (y : Entry). is_wildcard local y.addr) es)) is) ∙ h in
          let at = found-in (λ (y : Entry). is_wildcard local y.addr) es ss e of.entries wild in
          let none = found-none (λ (y : Entry). is_exactly local y.addr) es is in
          record { entry = at.0; alike = λ l. ap (λ t. t l) (on-all none) ∙ wildcard-same local e.addr at.1 l }

  -- where there is no entry no server listens
  pub unlistened : entry_of es local ≡ None → filter (listens_at (test_for views local)) views ≡ []
  unlistened h = by-find (find (λ (x : Entry). is_exactly local x.addr) es) refl
    where
      no-wild : find (λ (y : Entry). is_wildcard local y.addr) es ≡ None → has_entry es local ≡ false → list_any (λ s. list_any (is_wildcard local) s.listens) ss ≡ false
      no-wild none apart = ⊎_elim
          (λ (some : list_any (λ s. list_any (is_wildcard local) s.listens) ss ≡ true).
          let s = passing (λ s. list_any (is_wildcard local) s.listens) ss some in
          let l = passing (is_wildcard local) s.one.listens s.passes in
          let covered = of.cover l.one (s.among (listens l.one) (l.among (is_exactly l.one) (exactly-refl l.one))) in
          let e = passing (λ (x : Entry). is_exactly l.one x.addr) es covered in
          not_both _ (e.among (λ (y : Entry). is_wildcard local y.addr) (wildcard-same local l.one l.passes e.one.addr ∙ e.passes))
          (found-none (λ (y : Entry). is_wildcard local y.addr) es none))
          (λ (none : list_any (λ s. list_any (is_wildcard local) s.listens) ss ≡ false). none)
          (cases_Bool (list_any (λ s. list_any (is_wildcard local) s.listens) ss))

      by-find : (o : Option Entry) → find (λ (x : Entry). is_exactly local x.addr) es ≡ o → filter (listens_at (test_for views local)) views ≡ []
      by-find (Some x) is = absurd (no_some (sym (ap (λ o. or_else o (find (λ (y : Entry). is_wildcard local y.addr) es)) is) ∙ h))
      by-find None is =
          let wild : find (λ (y : Entry). is_wildcard local y.addr) es ≡ None = sym (ap (λ o. or_else o (find (λ (y : Entry). is_wildcard local y.addr) es)) is) ∙ h in
          let apart = found-none (λ (y : Entry). is_exactly local y.addr) es is in
          ap (λ t. filter (listens_at t) views) (on-all apart)
          ∙ keep-none (listens_at (is_wildcard local)) views
          (any_map (listens_at (is_wildcard local)) (see ps site) ss
          ∙ any_as (λ s. listens_at (is_wildcard local) (see ps site s)) (λ s. list_any (is_wildcard local) s.listens) (listens-view ps site (is_wildcard local)) ss
          ∙ no-wild wild apart)

  server-is : (host : List ℕ) → server_of found (whole (patterns_seen ps) site).servers local host
      ≡ choice found (test_for views local) host (filter (listens_at (test_for views local)) views)
  unfolding server_of
  server-is host = ap (λ vs. choice found (test_for vs local) host (filter (listens_at (test_for vs local)) vs)) views-are

  at-views : (o : Option ℕ) → server_at (whole (patterns_seen ps) site) o ≡ option_and_then (slice_get views) o
  at-views o = ap (λ vs. option_and_then (slice_get vs) o) views-are

  pub chosen-in : (host : List ℕ) (e : Entry) (n : ℕ) → entry_of es local ≡ Some e → IsChosen e.names ps host n →
      server_at (whole (patterns_seen ps) site) (Some n) ≡ server_of found (whole (patterns_seen ps) site).servers local host
  chosen-in host e n h chosen =
      let m = meets e h in
      at-views (Some n) ∙ chosen-found ps site e.addr (test_for views local) m.alike ss e.names m.entry.names m.entry.first host n chosen ∙ sym (server-is host)

  nothing-chosen : (host : List ℕ) → choice found (test_for views local) host [] ≡ None
  unfolding choice greatest
  nothing-chosen host = refl

  pub chosen-none : (host : List ℕ) → entry_of es local ≡ None →
      server_at (whole (patterns_seen ps) site) None ≡ server_of found (whole (patterns_seen ps) site).servers local host
  chosen-none host h = sym (server-is host ∙ ap (choice found (test_for views local) host) (unlistened h) ∙ nothing-chosen host)

  default-is : default_server (whole (patterns_seen ps) site).servers local
      ≡ or_else (find (is_default (test_for views local)) views) (find (listens_at (test_for views local)) views)
  unfolding default_server
  default-is = ap (λ vs. or_else (find (is_default (test_for vs local)) vs) (find (listens_at (test_for vs local)) vs)) views-are

  pub default-in : (e : Entry) → entry_of es local ≡ Some e →
      server_at (whole (patterns_seen ps) site) (Some (unwrap_or e.names.default e.names.first)) ≡ default_server (whole (patterns_seen ps) site).servers local
  default-in e h =
      let m = meets e h in
      at-views (Some (unwrap_or e.names.default e.names.first))
      ∙ default-chosen ps site e.addr (test_for views local) m.alike ss e.names m.entry.names m.entry.first ∙ sym default-is

  pub default-none : entry_of es local ≡ None → server_at (whole (patterns_seen ps) site) None ≡ default_server (whole (patterns_seen ps) site).servers local
  default-none h = sym (default-is ∙ ap₂ or_else
      (none-found (is_default (test_for views local)) (λ v miss. is-default-listens (test_for views local) v miss))
      (none-found (listens_at (test_for views local)) (λ v miss. miss)))
    where
      is-default-listens : (T : Addr → Bool) (v : ServerView) → listens_at T v ≡ false → is_default T v ≡ false
      is-default-listens T v miss = any-and (λ (l : ListenView). T l.addr) (λ (l : ListenView). l.default) v.listens miss

      none-found : (p : ServerView → Bool) → ((v : ServerView) → listens_at (test_for views local) v ≡ false → p v ≡ false) → find p views ≡ None
      none-found p misses = none-kept (listens_at (test_for views local)) p misses views (unlistened h)
