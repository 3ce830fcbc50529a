-- The servers of a site that listen on an address, each by its number in the order of the text, and their names.
use Rattle.std.specs.Prelude.{◌≡◌, ℕ, ◌+◌, Bool, true, false, ◌&&◌, List, [], ◌∷◌, ◌++◌, drop, Option, Some, None, option_and_then, slice_get, bytes_eq, find, if◌then◌else◌}
use Rattle.std.specs.List.{list_any}
use Rattle.http_types.specs.declared.words.Addr.{Addr}
use Rattle.site_model.specs.declared.site.ServerName.{ServerName}
use Rattle.site_model.specs.declared.site.ServerName.TheVariants as names
use Rattle.site_model.specs.declared.site.Server.{Server}
use Rattle.site_model.specs.declared.site.Site.{Site}
use Rattle.site_views.specs.Choice.{is_exactly, is_wildcard, or_else}
use Rattle.site_views.specs.Views.{ServerView, SiteView}
use Rattle.server_choice.specs.Names.{number_of}
use Rattle.server_choice.specs.declared.choice.Like.{Like}
use Rattle.server_choice.specs.declared.choice.ServerNames.{ServerNames}
use Rattle.server_choice.specs.declared.servers.Entry.{Entry}
use Rattle.server_choice.specs.declared.servers.Servers.{Servers}

-- it listens on this very address
abbrev pub listens : Addr → Server → Bool
listens addr s = list_any (is_exactly addr) s.listens

-- it is the default server of this address
abbrev pub is_default_at : Addr → Server → Bool
is_default_at addr s = list_any (λ l. is_exactly addr l && list_any (is_exactly l) s.defaults) s.listens

-- ---- what a name is known by

abbrev pub host_of : ServerName → Option (List ℕ)
host_of (names.Whole name) = Some name
host_of (names.WithSubdomains text) = Some (drop 1 text)
host_of (names.Ending text) = None
host_of (names.Beginning text) = None
host_of (names.Like pattern) = None

abbrev pub ending_of : ServerName → Option (List ℕ)
ending_of (names.Whole name) = None
ending_of (names.WithSubdomains text) = Some text
ending_of (names.Ending text) = Some text
ending_of (names.Beginning text) = None
ending_of (names.Like pattern) = None

abbrev pub beginning_of : ServerName → Option (List ℕ)
beginning_of (names.Whole name) = None
beginning_of (names.WithSubdomains text) = None
beginning_of (names.Ending text) = None
beginning_of (names.Beginning text) = Some text
beginning_of (names.Like pattern) = None

abbrev pub like_in : ServerName → ℕ → List Like
like_in (names.Whole name) number = []
like_in (names.WithSubdomains text) number = []
like_in (names.Ending text) number = []
like_in (names.Beginning text) number = []
like_in (names.Like pattern) number = record { pattern = pattern; server = number } ∷ []

abbrev pub is_text : List ℕ → Option (List ℕ) → Bool
is_text text None = false
is_text text (Some own) = bytes_eq own text

-- one of the names is known by this text
abbrev pub has_text : (ServerName → Option (List ℕ)) → List ℕ → List ServerName → Bool
has_text text_of text ns = list_any (λ n. is_text text (text_of n)) ns

-- the patterns among the names of the server with this number
unfoldable pub likes_in : List ServerName → ℕ → List Like
likes_in [] number = []
likes_in (n ∷ ns) number = like_in n number ++ likes_in ns number

-- ---- the first of the servers

-- the number of the first with this, where the first of all has this number
unfoldable pub first_from : {X : Type 0} → (X → Bool) → ℕ → List X → Option ℕ
first_from test number [] = None
first_from test number (x ∷ xs) = if test x then Some number else first_from test (number + 1) xs

-- of those that listen on this address, the first with this
abbrev pub first_at : Addr → (Server → Bool) → ℕ → List Server → Option ℕ
first_at addr test number ss = first_from (λ s. listens addr s && test s) number ss

-- of those that listen on this address, the first that has this text
abbrev pub first_named : Addr → (ServerName → Option (List ℕ)) → List ℕ → ℕ → List Server → Option ℕ
first_named addr text_of text number ss = first_at addr (λ s. has_text text_of text s.names.items) number ss

unfoldable pub likes_from : Addr → ℕ → List Server → List Like
likes_from addr number [] = []
likes_from addr number (s ∷ ss) = (if listens addr s then likes_in s.names.items number else []) ++ likes_from addr (number + 1) ss

-- ---- what is kept of an address

abbrev pub number_if : Bool → ℕ → Option ℕ
number_if true number = Some number
number_if false number = None

-- the names were given to this server, where no other had them
pub record HasNames (old new : ServerNames) (ns : List ServerName) (number : ℕ) : Type 0 where
  pub exact : (text : List ℕ) → number_of new.exact text ≡ or_else (number_of old.exact text) (number_if (has_text host_of text ns) number)
  pub endings : (text : List ℕ) → number_of new.endings text ≡ or_else (number_of old.endings text) (number_if (has_text ending_of text ns) number)
  pub beginnings : (text : List ℕ) → number_of new.beginnings text ≡ or_else (number_of old.beginnings text) (number_if (has_text beginning_of text ns) number)
  pub likes : new.likes.items ≡ old.likes.items ++ likes_in ns number
  pub first : new.first ≡ old.first

-- and nothing else changed
pub record HasMore (old new : ServerNames) (ns : List ServerName) (number : ℕ) : Type 0 where
  pub names : HasNames old new ns number
  pub default : new.default ≡ old.default

-- and the server was made the default where it is this address's
pub record HasServer (old new : ServerNames) (addr : Addr) (s : Server) (number : ℕ) : Type 0 where
  pub names : HasNames old new s.names.items number
  pub default : new.default ≡ or_else old.default (number_if (is_default_at addr s) number)

-- these, and then those of the servers from this number on, are the names of the servers that listen on an address
pub record AreNamesWith (names : ServerNames) (addr : Addr) (number : ℕ) (rest servers : List Server) : Type 0 where
  pub exact : (text : List ℕ) → or_else (number_of names.exact text) (first_named addr host_of text number rest) ≡ first_named addr host_of text 0 servers
  pub endings : (text : List ℕ) → or_else (number_of names.endings text) (first_named addr ending_of text number rest) ≡ first_named addr ending_of text 0 servers
  pub beginnings : (text : List ℕ) → or_else (number_of names.beginnings text) (first_named addr beginning_of text number rest) ≡ first_named addr beginning_of text 0 servers
  pub likes : names.likes.items ++ likes_from addr number rest ≡ likes_from addr 0 servers
  pub default : or_else names.default (first_at addr (is_default_at addr) number rest) ≡ first_at addr (is_default_at addr) 0 servers

-- these are the names of the servers that listen on an address
pub record AreNamesAt (names : ServerNames) (addr : Addr) (servers : List Server) : Type 0 where
  pub exact : (text : List ℕ) → number_of names.exact text ≡ first_named addr host_of text 0 servers
  pub endings : (text : List ℕ) → number_of names.endings text ≡ first_named addr ending_of text 0 servers
  pub beginnings : (text : List ℕ) → number_of names.beginnings text ≡ first_named addr beginning_of text 0 servers
  pub likes : names.likes.items ≡ likes_from addr 0 servers
  pub default : names.default ≡ first_at addr (is_default_at addr) 0 servers

pub record IsEntryOf (e : Entry) (servers : List Server) : Type 0 where
  pub names : AreNamesAt e.names e.addr servers
  pub first : Some e.names.first ≡ first_from (listens e.addr) 0 servers

unfoldable pub AreEntriesOf : List Entry → List Server → Type 0
AreEntriesOf [] servers = Unit {0}
AreEntriesOf (e ∷ es) servers = IsEntryOf e servers × AreEntriesOf es servers

-- one of the entries is of this address
abbrev pub has_entry : List Entry → Addr → Bool
has_entry es local = list_any (λ e. is_exactly local e.addr) es

-- each address that one of these listens on has an entry
abbrev pub CoverAll : List Entry → List Server → Type 0
CoverAll es servers = (local : Addr) → list_any (listens local) servers ≡ true → has_entry es local ≡ true

-- the entry of a local end: by the very address where there is one, else by its wildcard
abbrev pub entry_of : List Entry → Addr → Option Entry
entry_of es local = or_else (find (λ e. is_exactly local e.addr) es) (find (λ e. is_wildcard local e.addr) es)

-- they were made of the servers of this site
pub record AreOf (servers : Servers) (site : Site) : Type 0 where
  pub entries : AreEntriesOf servers.entries.items site.servers.items
  pub cover : CoverAll servers.entries.items site.servers.items

-- the server with this number
abbrev pub server_at : SiteView → Option ℕ → Option ServerView
server_at site number = option_and_then (slice_get site.servers) number
