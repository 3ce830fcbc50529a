-- Names that are given to servers, and entries of addresses.
use Rattle.std.proofs.Common.{◌≡◌, ℕ, ◌+◌, ◌<◌, ◌≤◌, Bool, true, false, ◌&&◌, ◌||◌, List, [], ◌∷◌, ◌++◌, length, take, drop, get_or, Option, Some, None, is_some, cond, bytes_eq, refl, sym, ap, ap₂, ◌∙◌, subst, arith}
use Rattle.std.specs.List.{list_any}
use Rattle.std.proofs.lemmas.List.{append-nil, append_assoc, drop_more, drop_all, take_more}
use Rattle.std.proofs.lemmas.List.Folds.{list_any-append}
use Rattle.http_types.specs.declared.words.Addr.{Addr}
use Rattle.site_model.specs.declared.site.ServerName.{ServerName as CodeName}
use Rattle.site_model.specs.declared.site.ServerName.TheVariants as names
use Rattle.site_model.specs.declared.site.Server.{Server}
use Rattle.site_views.specs.Choice.{or_else, is_exactly}
use Rattle.server_choice.specs.Names.{number_of, GetsNumber}
use Rattle.server_choice.specs.Choice.{HasSameButHosts, HasSameButEndings, HasSameButBeginnings, HasSameButLikes}
use Rattle.server_choice.specs.Listening.{listens, is_default_at, host_of, ending_of, beginning_of, like_in, is_text, has_text, likes_in, first_from, first_at, first_named, likes_from, number_if, HasMore, HasServer, AreNamesWith, AreNamesAt, IsEntryOf, AreEntriesOf, has_entry}
use Rattle.server_choice.specs.declared.names.NameMap.{NameMap}
use Rattle.server_choice.specs.declared.choice.Like.{Like}
use Rattle.server_choice.specs.declared.choice.ServerNames.{ServerNames}
use Rattle.server_choice.specs.declared.servers.Entry.{Entry}
use Rattle.server_choice.proofs.Addresses.{any_as, exactly-refl, listens-same, entry-same}
use Rattle.server_choice.proofs.Firsts.{else-else, else-none, first-step, first-none, first-any}

either : (a b : Bool) (n : ℕ) → or_else (number_if a n) (number_if b n) ≡ number_if (a || b) n
either true b n = refl
either false b n = refl

-- ---- one name

gets : (old new : NameMap) (name : List ℕ) (n : ℕ) → GetsNumber old new name n → (text : List ℕ) →
    number_of new text ≡ or_else (number_of old text) (number_if (bytes_eq name text || false) n)
gets old new name n h text = h text ∙ ap (or_else (number_of old text)) (one (bytes_eq name text))
  where
    one : (b : Bool) → cond b (Some n) None ≡ number_if (b || false) n
    one true = refl
    one false = refl

stays : (old new : NameMap) (n : ℕ) → new ≡ old → (text : List ℕ) → number_of new text ≡ or_else (number_of old text) (number_if false n)
stays old new n e text = ap (λ m. number_of m text) e ∙ sym (else-none (number_of old text))

likes-stay : (xs ys : List Like) → ys ≡ xs → ys ≡ xs ++ []
likes-stay xs ys e = e ∙ sym (append-nil xs)

likes-none : (n : CodeName) (number : ℕ) → likes_in (n ∷ []) number ≡ like_in n number
unfolding likes_in
likes-none n number = append-nil (like_in n number)

pub more-host : (old new : ServerNames) (name : List ℕ) (n : ℕ) → GetsNumber old.exact new.exact name n → HasSameButHosts old new → HasMore old new (names.Whole name ∷ []) n
more-host old new name n got same = record {
  names = record {
    exact = gets old.exact new.exact name n got;
    endings = stays old.endings new.endings n same.endings;
    beginnings = stays old.beginnings new.beginnings n same.beginnings;
    likes = likes-stay old.likes.items new.likes.items (ap (λ l. l.items) same.likes) ∙ ap (λ l. old.likes.items ++ l) (sym (likes-none (names.Whole name) n));
    first = same.first;
  };
  default = same.default;
}

pub more-ending : (old new : ServerNames) (name : List ℕ) (n : ℕ) → GetsNumber old.endings new.endings name n → HasSameButEndings old new → HasMore old new (names.Ending name ∷ []) n
more-ending old new name n got same = record {
  names = record {
    exact = stays old.exact new.exact n same.exact;
    endings = gets old.endings new.endings name n got;
    beginnings = stays old.beginnings new.beginnings n same.beginnings;
    likes = likes-stay old.likes.items new.likes.items (ap (λ l. l.items) same.likes) ∙ ap (λ l. old.likes.items ++ l) (sym (likes-none (names.Ending name) n));
    first = same.first;
  };
  default = same.default;
}

pub more-beginning : (old new : ServerNames) (name : List ℕ) (n : ℕ) → GetsNumber old.beginnings new.beginnings name n → HasSameButBeginnings old new →
    HasMore old new (names.Beginning name ∷ []) n
more-beginning old new name n got same = record {
  names = record {
    exact = stays old.exact new.exact n same.exact;
    endings = stays old.endings new.endings n same.endings;
    beginnings = gets old.beginnings new.beginnings name n got;
    likes = likes-stay old.likes.items new.likes.items (ap (λ l. l.items) same.likes) ∙ ap (λ l. old.likes.items ++ l) (sym (likes-none (names.Beginning name) n));
    first = same.first;
  };
  default = same.default;
}

pub more-like : (old new : ServerNames) (pattern n : ℕ) → new.likes.items ≡ old.likes.items ++ record { pattern = pattern; server = n } ∷ [] → HasSameButLikes old new →
    HasMore old new (names.Like pattern ∷ []) n
more-like old new pattern n got same = record {
  names = record {
    exact = stays old.exact new.exact n same.exact;
    endings = stays old.endings new.endings n same.endings;
    beginnings = stays old.beginnings new.beginnings n same.beginnings;
    likes = got ∙ ap (λ l. old.likes.items ++ l) (sym (likes-none (names.Like pattern) n));
    first = same.first;
  };
  default = same.default;
}

-- `.x` is `x` and `*.x`
pub more-both : (old mid new : ServerNames) (text : List ℕ) (n : ℕ) → GetsNumber old.exact mid.exact (drop 1 text) n → HasSameButHosts old mid →
    GetsNumber mid.endings new.endings text n → HasSameButEndings mid new → HasMore old new (names.WithSubdomains text ∷ []) n
more-both old mid new text n host same ending others = record {
  names = record {
    exact = λ t. ap (λ m. number_of m t) others.exact ∙ gets old.exact mid.exact (drop 1 text) n host t;
    endings = λ t. gets mid.endings new.endings text n ending t ∙ ap (λ m. or_else (number_of m t) (number_if (bytes_eq text t || false) n)) same.endings;
    beginnings = stays old.beginnings new.beginnings n (others.beginnings ∙ same.beginnings);
    likes = likes-stay old.likes.items new.likes.items (ap (λ l. l.items) (others.likes ∙ same.likes))
        ∙ ap (λ l. old.likes.items ++ l) (sym (likes-none (names.WithSubdomains text) n));
    first = others.first ∙ same.first;
  };
  default = others.default ∙ same.default;
}

-- ---- the names of a server

likes-append : (xs ys : List CodeName) (n : ℕ) → likes_in (xs ++ ys) n ≡ likes_in xs n ++ likes_in ys n
unfolding likes_in
likes-append [] ys n = refl
likes-append (x ∷ xs) ys n = ap (λ l. like_in x n ++ l) (likes-append xs ys n) ∙ sym (append_assoc (like_in x n) (likes_in xs n) (likes_in ys n))

pub more-none : (old new : ServerNames) (n : ℕ) → new ≡ old → HasMore old new [] n
unfolding likes_in
more-none old new n e = record {
  names = record {
    exact = stays old.exact new.exact n (ap (λ (s : ServerNames). s.exact) e);
    endings = stays old.endings new.endings n (ap (λ (s : ServerNames). s.endings) e);
    beginnings = stays old.beginnings new.beginnings n (ap (λ (s : ServerNames). s.beginnings) e);
    likes = likes-stay old.likes.items new.likes.items (ap (λ (s : ServerNames). s.likes.items) e);
    first = ap (λ (s : ServerNames). s.first) e;
  };
  default = ap (λ (s : ServerNames). s.default) e;
}

joined : (a b c : NameMap) (text_of : CodeName → Option (List ℕ)) (xs ys : List CodeName) (n : ℕ) (text : List ℕ) →
    number_of b text ≡ or_else (number_of a text) (number_if (has_text text_of text xs) n) →
    number_of c text ≡ or_else (number_of b text) (number_if (has_text text_of text ys) n) →
    number_of c text ≡ or_else (number_of a text) (number_if (has_text text_of text (xs ++ ys)) n)
joined a b c text_of xs ys n text h g =
    g ∙ ap (λ o. or_else o (number_if (has_text text_of text ys) n)) h
    ∙ else-else (number_of a text) (number_if (has_text text_of text xs) n) (number_if (has_text text_of text ys) n)
    ∙ ap (or_else (number_of a text)) (either (has_text text_of text xs) (has_text text_of text ys) n
    ∙ ap (λ q. number_if q n) (sym (list_any-append (λ m. is_text text (text_of m)) xs ys)))

pub more-then : (a b c : ServerNames) (xs ys : List CodeName) (n : ℕ) → HasMore a b xs n → HasMore b c ys n → HasMore a c (xs ++ ys) n
more-then a b c xs ys n h g = record {
  names = record {
    exact = λ text. joined a.exact b.exact c.exact host_of xs ys n text (h.names.exact text) (g.names.exact text);
    endings = λ text. joined a.endings b.endings c.endings ending_of xs ys n text (h.names.endings text) (g.names.endings text);
    beginnings = λ text. joined a.beginnings b.beginnings c.beginnings beginning_of xs ys n text (h.names.beginnings text) (g.names.beginnings text);
    likes = g.names.likes ∙ ap (λ l. l ++ likes_in ys n) h.names.likes ∙ append_assoc a.likes.items (likes_in xs n) (likes_in ys n)
        ∙ ap (λ l. a.likes.items ++ l) (sym (likes-append xs ys n));
    first = g.names.first ∙ h.names.first;
  };
  default = g.default ∙ h.default;
}

-- the server is the default, or isn't
pub server-default : (old mid new : ServerNames) (addr : Addr) (s : Server) (n : ℕ) → HasMore old mid s.names.items n →
    new ≡ record mid { default = or_else mid.default (Some n) } → is_default_at addr s ≡ true → HasServer old new addr s n
server-default old mid new addr s n more is default =
    subst (λ (x : ServerNames). HasServer old x addr s n) (sym is) (record {
      names = record { exact = more.names.exact; endings = more.names.endings; beginnings = more.names.beginnings; likes = more.names.likes; first = more.names.first };
      default = ap (λ o. or_else o (Some n)) more.default ∙ ap (λ b. or_else old.default (number_if b n)) (sym default);
    })

pub server-other : (old new : ServerNames) (addr : Addr) (s : Server) (n : ℕ) → HasMore old new s.names.items n → is_default_at addr s ≡ false → HasServer old new addr s n
server-other old new addr s n more other = record {
  names = more.names;
  default = more.default ∙ sym (else-none old.default) ∙ ap (λ b. or_else old.default (number_if b n)) (sym other);
}

-- ---- the servers of an address

with-one : (p : Server → Bool) (k : ℕ) (s : Server) (rest : List Server) (o now all : Option ℕ) → now ≡ or_else o (number_if (p s) k) →
    or_else o (first_from p k (s ∷ rest)) ≡ all → or_else now (first_from p (k + 1) rest) ≡ all
with-one p k s rest o now all e h =
    ap (λ z. or_else z (first_from p (k + 1) rest)) e ∙ else-else o (number_if (p s) k) (first_from p (k + 1) rest)
    ∙ ap (or_else o) (sym (first-step p k s rest)) ∙ h

module _ (addr : Addr) (servers : List Server) where
  pub with-start : (names : ServerNames) → ((text : List ℕ) → number_of names.exact text ≡ None) → ((text : List ℕ) → number_of names.endings text ≡ None) →
      ((text : List ℕ) → number_of names.beginnings text ≡ None) → names.likes.items ≡ [] → names.default ≡ None → AreNamesWith names addr 0 servers servers
  with-start names e n b l d = record {
    exact = λ text. ap (λ o. or_else o (first_named addr host_of text 0 servers)) (e text);
    endings = λ text. ap (λ o. or_else o (first_named addr ending_of text 0 servers)) (n text);
    beginnings = λ text. ap (λ o. or_else o (first_named addr beginning_of text 0 servers)) (b text);
    likes = ap (λ xs. xs ++ likes_from addr 0 servers) l;
    default = ap (λ o. or_else o (first_at addr (is_default_at addr) 0 servers)) d;
  }

  likes-one : (k : ℕ) (s : Server) (rest : List Server) → likes_from addr k (s ∷ rest) ≡ cond (listens addr s) (likes_in s.names.items k) [] ++ likes_from addr (k + 1) rest
  unfolding likes_from
  likes-one k s rest = refl

  module _ (k : ℕ) (s : Server) (rest : List Server) where
    pub with-server : (old new : ServerNames) → listens addr s ≡ true → HasServer old new addr s k → AreNamesWith old addr k (s ∷ rest) servers → AreNamesWith new addr (k + 1) rest servers
    with-server old new on has h =
        let counts : (b : Bool) → number_if b k ≡ number_if (listens addr s && b) k = λ b. ap (λ a. number_if (a && b) k) (sym on) in
        record {
          exact = λ text. with-one (λ s. listens addr s && has_text host_of text s.names.items) k s rest (number_of old.exact text) (number_of new.exact text) _
              (has.names.exact text ∙ ap (or_else (number_of old.exact text)) (counts (has_text host_of text s.names.items))) (h.exact text);
          endings = λ text. with-one (λ s. listens addr s && has_text ending_of text s.names.items) k s rest (number_of old.endings text) (number_of new.endings text) _
              (has.names.endings text ∙ ap (or_else (number_of old.endings text)) (counts (has_text ending_of text s.names.items))) (h.endings text);
          beginnings = λ text. with-one (λ s. listens addr s && has_text beginning_of text s.names.items) k s rest (number_of old.beginnings text) (number_of new.beginnings text) _
              (has.names.beginnings text ∙ ap (or_else (number_of old.beginnings text)) (counts (has_text beginning_of text s.names.items))) (h.beginnings text);
          likes = ap (λ l. l ++ likes_from addr (k + 1) rest) has.names.likes ∙ append_assoc old.likes.items (likes_in s.names.items k) (likes_from addr (k + 1) rest)
              ∙ ap (λ l. old.likes.items ++ l) (ap (λ b. cond b (likes_in s.names.items k) [] ++ likes_from addr (k + 1) rest) (sym on) ∙ sym (likes-one k s rest)) ∙ h.likes;
          default = with-one (λ s. listens addr s && is_default_at addr s) k s rest old.default new.default _
              (has.default ∙ ap (or_else old.default) (counts (is_default_at addr s))) h.default;
        }

    pub with-other : (names : ServerNames) → listens addr s ≡ false → AreNamesWith names addr k (s ∷ rest) servers → AreNamesWith names addr (k + 1) rest servers
    with-other names off h =
        let nothing : (b : Bool) (o : Option ℕ) → o ≡ or_else o (number_if (listens addr s && b) k) = λ b o. sym (else-none o) ∙ ap (λ a. or_else o (number_if (a && b) k)) (sym off) in
        record {
          exact = λ text. with-one (λ s. listens addr s && has_text host_of text s.names.items) k s rest (number_of names.exact text) (number_of names.exact text) _
              (nothing (has_text host_of text s.names.items) (number_of names.exact text)) (h.exact text);
          endings = λ text. with-one (λ s. listens addr s && has_text ending_of text s.names.items) k s rest (number_of names.endings text) (number_of names.endings text) _
              (nothing (has_text ending_of text s.names.items) (number_of names.endings text)) (h.endings text);
          beginnings = λ text. with-one (λ s. listens addr s && has_text beginning_of text s.names.items) k s rest (number_of names.beginnings text) (number_of names.beginnings text) _
              (nothing (has_text beginning_of text s.names.items) (number_of names.beginnings text)) (h.beginnings text);
          likes = ap (λ l. names.likes.items ++ l) (ap (λ b. cond b (likes_in s.names.items k) [] ++ likes_from addr (k + 1) rest) (sym off) ∙ sym (likes-one k s rest)) ∙ h.likes;
          default = with-one (λ s. listens addr s && is_default_at addr s) k s rest names.default names.default _
              (nothing (is_default_at addr s) names.default) h.default;
        }

  likes-end : (k : ℕ) → likes_from addr k [] ≡ []
  unfolding likes_from
  likes-end k = refl

  pub with-all : (names : ServerNames) (k : ℕ) (rest : List Server) → rest ≡ [] → AreNamesWith names addr k rest servers → AreNamesAt names addr servers
  with-all names k rest is h =
      let end : (p : Server → Bool) (o : Option ℕ) → o ≡ or_else o (first_from p k rest) = λ p o. sym (ap (or_else o) (ap (first_from p k) is ∙ first-none p k) ∙ else-none o) in
      record {
        exact = λ text. end (λ s. listens addr s && has_text host_of text s.names.items) (number_of names.exact text) ∙ h.exact text;
        endings = λ text. end (λ s. listens addr s && has_text ending_of text s.names.items) (number_of names.endings text) ∙ h.endings text;
        beginnings = λ text. end (λ s. listens addr s && has_text beginning_of text s.names.items) (number_of names.beginnings text) ∙ h.beginnings text;
        likes = sym (ap (λ l. names.likes.items ++ l) (ap (likes_from addr k) is ∙ likes-end k) ∙ append-nil names.likes.items) ∙ h.likes;
        default = end (λ s. listens addr s && is_default_at addr s) names.default ∙ h.default;
      }

-- ---- entries

pub entries-none : (ss : List Server) → AreEntriesOf [] ss
unfolding AreEntriesOf
entries-none ss = tt

pub entries-more : (es : List Entry) (e : Entry) (ss : List Server) → AreEntriesOf es ss → IsEntryOf e ss → AreEntriesOf (es ++ e ∷ []) ss
unfolding AreEntriesOf
entries-more [] e ss are is = (is, tt)
entries-more (x ∷ es) e ss are is = (are.0, entries-more es e ss are.1 is)

or-true : (a b : Bool) → b ≡ true → (a || b) ≡ true
or-true true b h = refl
or-true false b h = h

pub entry-there : (es new : List Entry) (e : Entry) → new ≡ es ++ e ∷ [] → has_entry new e.addr ≡ true
entry-there es new e is = ap (λ l. has_entry l e.addr) is ∙ list_any-append (λ (x : Entry). is_exactly e.addr x.addr) es (e ∷ [])
    ∙ or-true (has_entry es e.addr) (is_exactly e.addr e.addr || false) (ap (λ b. b || false) (exactly-refl e.addr))

pub entry-kept : (es new : List Entry) (e : Entry) → new ≡ es ++ e ∷ [] → (local : Addr) → has_entry es local ≡ true → has_entry new local ≡ true
entry-kept es new e is local h = ap (λ l. has_entry l local) is ∙ list_any-append (λ (x : Entry). is_exactly local x.addr) es (e ∷ [])
    ∙ ap (λ b. b || has_entry (e ∷ []) local) h

-- an address on which none listens
pub none-listens : {A : Type 0} (addr : Addr) (ss : List Server) → None ≡ first_from (listens addr) 0 ss → list_any (listens addr) ss ≡ true → A
none-listens addr ss h some = absurd (grind (arith, sym some ∙ sym (first-any (listens addr) 0 ss) ∙ ap is_some (sym h)))

-- one address more of a server's
pub cover-more : (old now new : List Entry) (ss : List Server) (addrs : List Addr) (a : Addr) (local : Addr) →
    (list_any (listens local) ss ≡ true → (has_entry old local || list_any (is_exactly local) addrs) ≡ true → has_entry now local ≡ true) →
    (list_any (listens a) ss ≡ true → has_entry new a ≡ true) → (has_entry now local ≡ true → has_entry new local ≡ true) →
    list_any (listens local) ss ≡ true → (has_entry old local || list_any (is_exactly local) (addrs ++ a ∷ [])) ≡ true → has_entry new local ≡ true
cover-more old now new ss addrs a local before there kept on hit =
    by-parts (has_entry old local) (list_any (is_exactly local) addrs) (is_exactly local a) refl refl refl
    (sym (ap (λ b. has_entry old local || b) (list_any-append (is_exactly local) addrs (a ∷ []))) ∙ hit)
  where
    by-parts : (x y z : Bool) → has_entry old local ≡ x → list_any (is_exactly local) addrs ≡ y → is_exactly local a ≡ z → (has_entry old local || (list_any (is_exactly local) addrs || (is_exactly local a || false))) ≡ true →
        has_entry new local ≡ true
    by-parts true y z p q r h = kept (before on (ap (λ b. b || list_any (is_exactly local) addrs) p))
    by-parts false true z p q r h = kept (before on (ap₂ (λ a b. a || b) p q))
    by-parts false false true p q r h = entry-same local a r new
        ∙ there (any_as (listens a) (listens local) (λ s. sym (listens-same local a r s)) ss ∙ on)
    by-parts false false false p q r h = absurd (grind (arith, sym h ∙ ap₂ (λ a b. a || b) p (ap₂ (λ a b. a || (b || false)) q r)))

-- one server more
pub cover-server : (now new : List Entry) (s : Server) (rest ss : List Server) (local : Addr) →
    ((has_entry now local || list_any (is_exactly local) s.listens) ≡ true → has_entry new local ≡ true) →
    (has_entry now local || list_any (listens local) (s ∷ rest)) ≡ true → (has_entry new local || list_any (listens local) rest) ≡ true
cover-server now new s rest ss local covers hit =
    by-parts (has_entry now local) (listens local s) refl refl hit
  where
    by-parts : (x y : Bool) → has_entry now local ≡ x → listens local s ≡ y → (has_entry now local || (listens local s || list_any (listens local) rest)) ≡ true →
        (has_entry new local || list_any (listens local) rest) ≡ true
    by-parts true y p q h = ap (λ b. b || list_any (listens local) rest) (covers (ap (λ b. b || listens local s) p))
    by-parts false true p q h = ap (λ b. b || list_any (listens local) rest) (covers (ap₂ (λ a b. a || b) p q))
    by-parts false false p q h = or-true (has_entry new local) (list_any (listens local) rest) (sym (ap₂ (λ a b. a || (b || list_any (listens local) rest)) p q) ∙ h)

-- ---- a place in a list

pub here-is : {X : Type 0} (xs : List X) (i : ℕ) (x : X) → i < length xs → x ≡ get_or xs i x → drop i xs ≡ x ∷ drop (i + 1) xs
here-is xs i x lt e = drop_more xs i x lt ∙ ap (λ y. y ∷ drop (i + 1) xs) (sym e)

pub taken-is : {X : Type 0} (xs : List X) (i : ℕ) (x : X) → i < length xs → x ≡ get_or xs i x → take (i + 1) xs ≡ take i xs ++ x ∷ []
taken-is xs i x lt e = take_more xs i x lt ∙ ap (λ y. take i xs ++ y ∷ []) (sym e)

pub first-hit : (p : Server → Bool) (n : ℕ) (s : Server) (rest : List Server) → p s ≡ true → Some n ≡ first_from p n (s ∷ rest)
first-hit p n s rest hit = sym (first-step p n s rest ∙ ap (λ b. or_else (number_if b n) (first_from p (n + 1) rest)) hit)

pub first-miss : (p : Server → Bool) (n : ℕ) (s : Server) (rest : List Server) → p s ≡ false → first_from p (n + 1) rest ≡ first_from p n (s ∷ rest)
first-miss p n s rest miss = sym (first-step p n s rest ∙ ap (λ b. or_else (number_if b n) (first_from p (n + 1) rest)) miss)

pub first-past : (p : Server → Bool) (n : ℕ) (ss : List Server) → length ss ≤ n → None ≡ first_from p n (drop n ss)
first-past p n ss le = sym (ap (first_from p n) (drop_all n ss le) ∙ first-none p n)
