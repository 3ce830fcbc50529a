-- The server that is chosen among those that listen on an address, as the meaning has it.
use Rattle.std.proofs.Common.{◌≡◌, ℕ, ◌+◌, ◌-◌, ◌<◌, nat_eq, Bool, true, false, ◌&&◌, ◌||◌, List, [], ◌∷◌, ◌++◌, map, filter, find, length, take, drop, Option, Some, None, is_some, option_map, option_and_then, slice_get, unwrap_or, bytes_eq, cond, inl, inr, ⊎_elim, refl, sym, ap, ap₂, ◌∙◌, arith}
use Rattle.std.specs.List.{list_any}
use Rattle.std.proofs.lemmas.Bool.{cases_Bool}
use Rattle.std.proofs.lemmas.Slice.Eq.{bytes_eq-Decides}
use Rattle.http_types.specs.declared.words.Addr.{Addr}
use Rattle.ngx_pattern.specs.Pattern.{Pattern as SetPattern}
use Rattle.site_model.specs.declared.site.ServerName.{ServerName as CodeName}
use Rattle.site_model.specs.declared.site.ServerName.TheVariants as names
use Rattle.site_model.specs.declared.site.Server.{Server}
use Rattle.site_model.specs.declared.site.Site.{Site}
use Rattle.site_model.specs.Listens as of_model
use Rattle.site_views.specs.Pattern.{Pattern}
use Rattle.site_views.specs.Views.{ServerView, ServerName, ListenView}
use Rattle.site_views.specs.Choice.{or_else, same_ip, is_exactly, listens_at, is_default, is_host, ending_size, beginning_size, is_like, has_name, size_at, longest_name, greatest, choice}
use Rattle.site_whole.specs.Whole.{name_seen, listen_seen, server_whole}
use Rattle.pattern_search.specs.Found.{patterns_seen, found, found_at}
use Rattle.std.specs.declared.net.ip_addr.IpAddr.{IpAddr}
use Rattle.std.specs.declared.net.ip_addr.IpAddr.TheVariants.{V4, V6}
use Rattle.server_choice.specs.Names.{number_of, is_ending, is_beginning, IsLongestOf}
use Rattle.server_choice.specs.Choice.{first_like, server_or, IsElse, IsLast, IsByBeginning, IsChosen}
use Rattle.server_choice.specs.Listening.{listens, is_default_at, host_of, ending_of, beginning_of, like_in, is_text, has_text, likes_in, first_from, first_at, first_named, likes_from, number_if, AreNamesAt}
use Rattle.server_choice.specs.declared.choice.Like.{Like}
use Rattle.server_choice.specs.declared.choice.ServerNames.{ServerNames}
use Rattle.server_choice.proofs.Stars.{ending-is, beginning-is}
use Rattle.server_choice.proofs.Addresses.{any_as, any_map}
use Rattle.server_choice.proofs.Firsts.{first-as, first-any, first-there, find-is, else-at, keep-all}
use Rattle.server_choice.proofs.Best.{SizeIs, BestIs, IsBest, HasNone, best-is, best-leads}

longest-as : (fits : List ℕ → Bool) (f g : List ℕ → Option ℕ) → ((text : List ℕ) → f text ≡ g text) → (r : Option ℕ) → IsLongestOf fits f r → IsLongestOf fits g r
longest-as fits f g same None h = λ text begins. sym (same text) ∙ h text begins
longest-as fits f g same (Some n) h = record {
  text = h.text;
  text_fits = h.text_fits;
  has = sym (same h.text) ∙ h.has;
  longest = λ other begins more. sym (same other) ∙ h.longest other begins more;
}

-- ---- the names of one server

same-own : (own other : List ℕ) → bytes_eq own other ≡ true → own ≡ other
same-own own other h = (bytes_eq-Decides own other).0 h

-- a name, by the text that it is known by
abbrev sized_text : (List ℕ → Bool) → Option (List ℕ) → Option ℕ
sized_text fits None = None
sized_text fits (Some text) = cond (fits text) (Some (length text)) None

module _ (patterns : List Pattern) (fits : List ℕ → Bool) (text_of : CodeName → Option (List ℕ)) (size : ServerName → Option ℕ)
    (size_is : (n : CodeName) → size (name_seen patterns n) ≡ sized_text fits (text_of n)) where
  abbrev NameIs : CodeName → Type 0
  NameIs n = SizeIs (name_seen patterns) (λ y. true) (λ n. true) (λ n. refl) size fits (λ text m. is_text text (text_of m)) n

  name-is : (n : CodeName) (o : Option (List ℕ)) → text_of n ≡ o → NameIs n
  name-is n None e = inl (size_is n ∙ ap (sized_text fits) e, λ text h. ap (is_text text) e)
  name-is n (Some own) e = ⊎_elim
      (λ (hit : fits own ≡ true). inr (record {
        text = own;
        begins = hit;
        size_is = size_is n ∙ ap (sized_text fits) e ∙ ap (λ b. cond b (Some (length own)) None) hit;
        has_it = ap (is_text own) e ∙ (bytes_eq-Decides own own).1 refl;
        longest = λ other h lt. ap (is_text other) e ∙ apart own other lt;
      }))
      (λ (miss : fits own ≡ false). inl (
        size_is n ∙ ap (sized_text fits) e ∙ ap (λ b. cond b (Some (length own)) None) miss,
        λ text h. ap (is_text text) e ∙ ⊎_elim
            (λ (same : bytes_eq own text ≡ true). absurd (grind (arith, sym h ∙ ap fits (sym (same-own own text same)) ∙ miss)))
            (λ (other : bytes_eq own text ≡ false). other)
            (cases_Bool (bytes_eq own text)),
      ))
      (cases_Bool (fits own))
    where
      apart : (a b : List ℕ) → length a < length b → bytes_eq a b ≡ false
      apart a b lt = ⊎_elim
          (λ (h : bytes_eq a b ≡ true). absurd (omega (arith, lt, ap length (same-own a b h))))
          (λ (h : bytes_eq a b ≡ false). h)
          (cases_Bool (bytes_eq a b))

  -- what the names of a server say of its longest
  module _ (ns : List CodeName) where
    abbrev own_best : Option ServerName
    own_best = greatest size (map (name_seen patterns) ns)

    abbrev NamesAre : Type 0
    NamesAre = BestIs (name_seen patterns) (λ y. true) (λ n. true) (λ n. refl) size fits (λ text m. is_text text (text_of m)) ns

    names-are : NamesAre
    names-are = best-is (name_seen patterns) (λ y. true) (λ n. true) (λ n. refl) size fits (λ text m. is_text text (text_of m)) (λ n h. name-is n (text_of n) refl) ns

    all-kept : greatest size (filter (λ y. true) (map (name_seen patterns) ns)) ≡ own_best
    all-kept = ap (greatest size) (keep-all (map (name_seen patterns) ns))

    -- a text has no number exactly where none of the names has it
    none-has : (text : List ℕ) → first_from (λ n. true && is_text text (text_of n)) 0 ns ≡ None → has_text text_of text ns ≡ false
    none-has text e = sym (first-any (λ n. is_text text (text_of n)) 0 ns) ∙ ap is_some e

    some-has : (text : List ℕ) (n : ℕ) → first_from (λ n. true && is_text text (text_of n)) 0 ns ≡ Some n → has_text text_of text ns ≡ true
    some-has text n e = sym (first-any (λ n. is_text text (text_of n)) 0 ns) ∙ ap is_some e

  server-is : (see : Server → ServerView) (names_is : (s : Server) → (see s).names ≡ map (name_seen patterns) s.names.items)
      (test : ServerView → Bool) (own : Server → Bool) (tests : (s : Server) → test (see s) ≡ own s) (s : Server) →
      SizeIs see test own tests (longest_name size) fits (λ text s. has_text text_of text s.names.items) s
  server-is see names_is test own tests s = ⊎_elim
      (λ (none : HasNone (name_seen patterns) (λ y. true) (λ n. true) (λ n. refl) size fits (λ text m. is_text text (text_of m)) s.names.items).
      inl (longest-is s ∙ ap (λ o. size_at o size) none.0, λ text h. none-has s.names.items text (none.1 text h)))
      (λ (q : IsBest (name_seen patterns) (λ y. true) (λ n. true) (λ n. refl) size fits (λ text m. is_text text (text_of m)) s.names.items).
      inr (record {
        text = q.text;
        begins = q.begins;
        size_is = longest-is s ∙ ap (λ o. size_at o size) q.is ∙ q.size_is;
        has_it = some-has s.names.items q.text q.number q.leads;
        longest = λ other h lt. none-has s.names.items other (q.longest other h lt);
      }))
      (names-are s.names.items)
    where
      longest-is : (s : Server) → longest_name size (see s) ≡ size_at (greatest size (filter (λ y. true) (map (name_seen patterns) s.names.items))) size
      longest-is s = ap (λ ns. size_at (greatest size ns) size) (names_is s) ∙ ap (λ o. size_at o size) (sym (all-kept s.names.items))

-- ---- the servers

module _ (ps : List SetPattern) (site : Site) where
  abbrev pub see : Server → ServerView
  see s = server_whole (patterns_seen ps) site s

  names-seen : (s : Server) → (see s).names ≡ map (name_seen (patterns_seen ps)) s.names.items
  unfolding server_whole
  names-seen s = refl

  listens-seen : (s : Server) → (see s).listens ≡ map (listen_seen s.defaults) s.listens
  unfolding server_whole
  listens-seen s = refl

  pub listens-view : (T : Addr → Bool) (s : Server) → listens_at T (see s) ≡ list_any T s.listens
  listens-view T s = ap (list_any (λ (l : ListenView). T l.addr)) (listens-seen s) ∙ any_map (λ (l : ListenView). T l.addr) (listen_seen s.defaults) s.listens

  host-same : (host : List ℕ) (s : Server) → has_name (is_host host) (see s) ≡ has_text host_of host s.names.items
  host-same host s = ap (list_any (is_host host)) (names-seen s) ∙ any_map (is_host host) (name_seen (patterns_seen ps)) s.names.items
      ∙ any_as (λ n. is_host host (name_seen (patterns_seen ps) n)) (λ n. is_text host (host_of n)) one s.names.items
    where
      one : (n : CodeName) → is_host host (name_seen (patterns_seen ps) n) ≡ is_text host (host_of n)
      one (names.Whole name) = refl
      one (names.Ending text) = refl
      one (names.Beginning text) = refl
      one (names.WithSubdomains text) = refl
      one (names.Like pattern) = refl

  -- ---- patterns

  abbrev hits : List ℕ → CodeName → Bool
  hits host n = is_like found host (name_seen (patterns_seen ps) n)

  like-same : (host : List ℕ) (s : Server) → has_name (is_like found host) (see s) ≡ list_any (hits host) s.names.items
  like-same host s = ap (list_any (is_like found host)) (names-seen s) ∙ any_map (is_like found host) (name_seen (patterns_seen ps)) s.names.items

  abbrev is_hit : List ℕ → Like → Bool
  is_hit host l = is_some (found_at ps l.pattern host)

  abbrev server_in : List ℕ → List Like → Option ℕ
  server_in host ls = option_map (λ (l : Like). l.server) (find (is_hit host) ls)

  in-both : (host : List ℕ) (xs ys : List Like) → server_in host (xs ++ ys) ≡ or_else (server_in host xs) (server_in host ys)
  in-both host [] ys = refl
  in-both host (x ∷ xs) ys =
      elim (is_hit host x) as (λ b. option_map (λ (l : Like). l.server) (cond b (Some x) (find (is_hit host) (xs ++ ys)))
      ≡ or_else (option_map (λ (l : Like). l.server) (cond b (Some x) (find (is_hit host) xs))) (server_in host ys))
      [ true ↦ refl | false ↦ in-both host xs ys ]

  like-one : (host : List ℕ) (n : CodeName) (number : ℕ) → server_in host (like_in n number) ≡ number_if (hits host n) number
  like-one host (names.Whole name) number = refl
  like-one host (names.Ending text) number = refl
  like-one host (names.Beginning text) number = refl
  like-one host (names.WithSubdomains text) number = refl
  like-one host (names.Like pattern) number =
      elim (is_some (found_at ps pattern host)) as (λ b. option_map (λ (l : Like). l.server) (cond b (Some (record { pattern = pattern; server = number })) None) ≡ number_if b number)
      [ true ↦ refl | false ↦ refl ]

  either : (a b : Bool) (n : ℕ) → or_else (number_if a n) (number_if b n) ≡ number_if (a || b) n
  either true b n = refl
  either false b n = refl

  like-names : (host : List ℕ) (ns : List CodeName) (number : ℕ) → server_in host (likes_in ns number) ≡ number_if (list_any (hits host) ns) number
  unfolding likes_in
  like-names host [] number = refl
  like-names host (n ∷ ns) number = in-both host (like_in n number) (likes_in ns number)
      ∙ ap₂ (λ a b. or_else a b) (like-one host n number) (like-names host ns number) ∙ either (hits host n) (list_any (hits host) ns) number

  like-servers : (addr : Addr) (host : List ℕ) (number : ℕ) (ss : List Server) →
      server_in host (likes_from addr number ss) ≡ first_at addr (λ s. list_any (hits host) s.names.items) number ss
  unfolding likes_from first_from
  like-servers addr host number [] = refl
  like-servers addr host number (s ∷ ss) =
      in-both host (cond (listens addr s) (likes_in s.names.items number) []) (likes_from addr (number + 1) ss)
      ∙ ap₂ (λ a b. or_else a b) (if-listens (listens addr s)) (like-servers addr host (number + 1) ss)
      ∙ both (listens addr s && list_any (hits host) s.names.items) (first_at addr (λ s. list_any (hits host) s.names.items) (number + 1) ss)
    where
      if-listens : (b : Bool) → server_in host (cond b (likes_in s.names.items number) []) ≡ number_if (b && list_any (hits host) s.names.items) number
      if-listens true = like-names host s.names.items number
      if-listens false = refl

      both : (b : Bool) (o : Option ℕ) → or_else (number_if b number) o ≡ cond b (Some number) o
      both true o = refl
      both false o = refl

  -- ---- one address

  module _ (addr : Addr) (T : Addr → Bool) (alike : (l : Addr) → T l ≡ is_exactly addr l) (ss : List Server) where
    abbrev views : List ServerView
    views = map see ss

    abbrev listening : List ServerView
    listening = filter (listens_at T) views

    tests : (s : Server) → listens_at T (see s) ≡ listens addr s
    tests s = listens-view T s ∙ any_as T (is_exactly addr) alike s.listens

    ip-model : (a b : IpAddr) → of_model.same_ip a b ≡ same_ip a b
    ip-model (V4 a) (V4 b) = refl
    ip-model (V6 a) (V6 b) = refl
    ip-model (V4 a) (V6 b) = refl
    ip-model (V6 a) (V4 b) = refl

    defaults-are : (ds : List Addr) (l : Addr) → of_model.listens_exactly ds l ≡ list_any (is_exactly l) ds
    defaults-are [] l = refl
    defaults-are (d ∷ ds) l = ap₂ (λ a b. a || b) (ap (λ b. nat_eq d.port l.port && b) (ip-model d.ip l.ip)) (defaults-are ds l)

    default-same : (s : Server) → is_default T (see s) ≡ is_default_at addr s
    default-same s = ap (list_any (λ (l : ListenView). T l.addr && l.default)) (listens-seen s)
        ∙ any_map (λ (l : ListenView). T l.addr && l.default) (listen_seen s.defaults) s.listens
        ∙ any_as (λ l. T l && of_model.listens_exactly s.defaults l) (λ l. is_exactly addr l && list_any (is_exactly l) s.defaults)
        (λ l. ap₂ (λ a b. a && b) (alike l) (defaults-are s.defaults l)) s.listens

    abbrev get : Option ℕ → Option ServerView
    get o = option_and_then (slice_get views) o

    abbrev There : Option ℕ → Type 0
    There o = (n : ℕ) → o ≡ Some n → is_some (slice_get views n) ≡ true

    -- one kind of names
    longest-found : (text_of : CodeName → Option (List ℕ)) (fits : List ℕ → Bool) (size : ServerName → Option ℕ) →
        ((n : CodeName) → size (name_seen (patterns_seen ps) n) ≡ sized_text fits (text_of n)) →
        ((a b : List ℕ) → fits a ≡ true → fits b ≡ true → length a ≡ length b → a ≡ b) → (r : Option ℕ) →
        IsLongestOf fits (λ text. first_named addr text_of text 0 ss) r → (greatest (longest_name size) listening ≡ get r) × There r
    longest-found text_of fits size size_is one r h =
        let has : List ℕ → Server → Bool = λ text s. has_text text_of text s.names.items in
        best-leads see (listens_at T) (listens addr) tests (longest_name size) fits has ss one
        (best-is see (listens_at T) (listens addr) tests (longest_name size) fits has
        (λ s mine. server-is (patterns_seen ps) fits text_of size size_is see names-seen (listens_at T) (listens addr) tests s) ss)
        r h

    ending-size : (host : List ℕ) (n : CodeName) → ending_size host (name_seen (patterns_seen ps) n) ≡ sized_text (is_ending host) (ending_of n)
    ending-size host (names.Whole name) = refl
    ending-size host (names.Ending text) = refl
    ending-size host (names.Beginning text) = refl
    ending-size host (names.WithSubdomains text) = refl
    ending-size host (names.Like pattern) = refl

    beginning-size : (host : List ℕ) (n : CodeName) → beginning_size host (name_seen (patterns_seen ps) n) ≡ sized_text (is_beginning host) (beginning_of n)
    beginning-size host (names.Whole name) = refl
    beginning-size host (names.Ending text) = refl
    beginning-size host (names.Beginning text) = refl
    beginning-size host (names.WithSubdomains text) = refl
    beginning-size host (names.Like pattern) = refl

    endings-same : (host a b : List ℕ) → is_ending host a ≡ true → is_ending host b ≡ true → length a ≡ length b → a ≡ b
    endings-same host a b h g e = (ending-is host a h).0 ∙ ap (λ n. drop (length host - n) host) e ∙ sym (ending-is host b g).0

    beginnings-same : (host a b : List ℕ) → is_beginning host a ≡ true → is_beginning host b ≡ true → length a ≡ length b → a ≡ b
    beginnings-same host a b h g e = (beginning-is host a h).0 ∙ ap (λ n. take n host) e ∙ sym (beginning-is host b g).0

    always : (b : Bool) → (b && true) ≡ b
    always true = refl
    always false = refl

    module _ (e : ServerNames) (are : AreNamesAt e addr ss) (first_is : Some e.first ≡ first_from (listens addr) 0 ss) (host : List ℕ) where
      -- where there is one, it is the server; else what comes later
      step : (o : Option ℕ) (found rest : Option ServerView) (n : ℕ) (Rest : Type 0) → found ≡ get o → There o → IsElse o n Rest → (Rest → rest ≡ get (Some n)) →
          or_else found rest ≡ get (Some n)
      step None found rest n Rest is there h later = ap (λ o. or_else o rest) is ∙ later h
      step (Some m) found rest n Rest is there h later = ap (λ o. or_else o rest) is ∙ stays (slice_get views m) (there m refl) ∙ ap (slice_get views) (sym h)
        where
          stays : (o : Option ServerView) → is_some o ≡ true → or_else o rest ≡ o
          stays None h = absurd (grind (arith, h))
          stays (Some s) h = refl

      exact-found : find (has_name (is_host host)) listening ≡ get (number_of e.exact host)
      exact-found = find-is see (listens_at T) (has_name (is_host host)) (listens addr) (λ s. has_text host_of host s.names.items) tests (host-same host) ss
          ∙ ap get (sym (are.exact host))

      exact-there : There (number_of e.exact host)
      exact-there n h = first-there see (λ s. listens addr s && has_text host_of host s.names.items) ss n (sym (are.exact host) ∙ h)

      like-found : find (has_name (is_like found host)) listening ≡ get (first_like ps e.likes.items host)
      like-found = find-is see (listens_at T) (has_name (is_like found host)) (listens addr) (λ s. list_any (hits host) s.names.items) tests (like-same host) ss
          ∙ ap get (sym (ap (server_in host) are.likes ∙ like-servers addr host 0 ss))

      like-there : There (first_like ps e.likes.items host)
      like-there n h = first-there see (λ s. listens addr s && list_any (hits host) s.names.items) ss n
          (sym (ap (server_in host) are.likes ∙ like-servers addr host 0 ss) ∙ h)

      default-found : find (is_default T) listening ≡ get e.default
      default-found = find-is see (listens_at T) (is_default T) (listens addr) (is_default_at addr) tests default-same ss ∙ ap get (sym are.default)

      default-there : There e.default
      default-there n h = first-there see (λ s. listens addr s && is_default_at addr s) ss n (sym are.default ∙ h)

      first-found : find (λ s. true) listening ≡ get (Some e.first)
      first-found = find-is see (listens_at T) (λ s. true) (listens addr) (λ s. true) tests (λ s. refl) ss
          ∙ ap get (first-as (λ s. listens addr s && true) (listens addr) (λ s. always (listens addr s)) 0 ss ∙ sym first_is)

      last-of : (o d : Option ℕ) (f : ℕ) → or_else o (or_else d (Some f)) ≡ Some (server_or (or_else o d) f)
      last-of None None f = refl
      last-of None (Some d) f = refl
      last-of (Some n) d f = refl

      abbrev last : Option ServerView
      last = or_else (find (has_name (is_like found host)) listening) (or_else (find (is_default T) listening) (find (λ s. true) listening))

      last-found : (n : ℕ) → IsLast e ps host n → last ≡ get (Some n)
      last-found n h =
          ap₂ or_else like-found (ap₂ or_else default-found first-found ∙ else-at views e.default (Some e.first) default-there)
          ∙ else-at views (first_like ps e.likes.items host) (or_else e.default (Some e.first)) like-there
          ∙ ap get (last-of (first_like ps e.likes.items host) e.default e.first ∙ ap Some (sym h))

      pub beginning-found : (n : ℕ) → IsByBeginning e ps host n → or_else (greatest (longest_name (beginning_size host)) listening) last ≡ get (Some n)
      beginning-found n h =
          let found = longest-found beginning_of (is_beginning host) (beginning_size host) (beginning-size host) (beginnings-same host) h.0
          (longest-as (is_beginning host) (number_of e.beginnings) (λ text. first_named addr beginning_of text 0 ss) are.beginnings h.0 h.1) in
          step h.0 (greatest (longest_name (beginning_size host)) listening) last n (IsLast e ps host n) found.0 found.1 h.2 (last-found n)

      pub chosen-found : (n : ℕ) → IsChosen e ps host n → get (Some n) ≡ choice found T host listening
      unfolding choice
      chosen-found n h = sym (step (number_of e.exact host) (find (has_name (is_host host)) listening) _ n _ exact-found exact-there h (by-ending n))
        where
          by-ending : (n : ℕ) → (ending : Option ℕ) × IsLongestOf (is_ending host) (number_of e.endings) ending × IsElse ending n (IsByBeginning e ps host n) →
              or_else (greatest (longest_name (ending_size host)) listening) (or_else (greatest (longest_name (beginning_size host)) listening) last) ≡ get (Some n)
          by-ending n h =
              let found = longest-found ending_of (is_ending host) (ending_size host) (ending-size host) (endings-same host) h.0
              (longest-as (is_ending host) (number_of e.endings) (λ text. first_named addr ending_of text 0 ss) are.endings h.0 h.1) in
              step h.0 (greatest (longest_name (ending_size host)) listening) _ n (IsByBeginning e ps host n) found.0 found.1 h.2 (beginning-found n)

    -- ---- where no host is known

    default-listens : (a b : Addr → Bool) (ls : List Addr) → list_any (λ l. a l && b l) ls ≡ (list_any a ls && list_any (λ l. a l && b l) ls)
    default-listens a b [] = refl
    default-listens a b (l ∷ ls) = by-tests (a l) (b l) (default-listens a b ls)
      where
        by-tests : (x y : Bool) → list_any (λ l. a l && b l) ls ≡ (list_any a ls && list_any (λ l. a l && b l) ls) →
            ((x && y) || list_any (λ l. a l && b l) ls) ≡ ((x || list_any a ls) && ((x && y) || list_any (λ l. a l && b l) ls))
        by-tests true true h = refl
        by-tests true false h = refl
        by-tests false y h = h

    found-any : (p : ServerView → Bool) (q : Server → Bool) → ((s : Server) → p (see s) ≡ q s) → find p views ≡ get (first_from q 0 ss)
    found-any p q same = ap (find p) (sym (keep-all views)) ∙ find-is see (λ y. true) p (λ s. true) q (λ s. refl) same ss

    pub default-chosen : (e : ServerNames) → AreNamesAt e addr ss → Some e.first ≡ first_from (listens addr) 0 ss →
        get (Some (unwrap_or e.default e.first)) ≡ or_else (find (is_default T) views) (find (listens_at T) views)
    default-chosen e are first_is =
        let all : find (is_default T) views ≡ get e.default
        = found-any (is_default T) (is_default_at addr) default-same
        ∙ ap get (first-as (is_default_at addr) (λ s. listens addr s && is_default_at addr s)
        (λ s. default-listens (is_exactly addr) (λ l. list_any (is_exactly l) s.defaults) s.listens) 0 ss ∙ sym are.default) in
        let first : find (listens_at T) views ≡ get (Some e.first) = found-any (listens_at T) (listens addr) tests ∙ ap get (sym first_is) in
        sym (ap₂ or_else all first
        ∙ else-at views e.default (Some e.first) (λ n h. first-there see (λ s. listens addr s && is_default_at addr s) ss n (sym are.default ∙ h))
        ∙ ap get (or_first e.default e.first))
      where
        or_first : (d : Option ℕ) (f : ℕ) → or_else d (Some f) ≡ Some (unwrap_or d f)
        or_first None f = refl
        or_first (Some n) f = refl
