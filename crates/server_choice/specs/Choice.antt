-- The server that answers a host at an address (https://nginx.org/en/docs/http/server_names.html).
use Rattle.std.specs.Prelude.{◌≡◌, ℕ, List, Option, Some, None, is_some, option_map}
use Rattle.std.specs.List.{find}
use Rattle.ngx_pattern.specs.Pattern.{Pattern}
use Rattle.pattern_search.specs.Found.{found_at}
use Rattle.site_views.specs.Choice.{or_else}
use Rattle.server_choice.specs.Names.{number_of, is_ending, is_beginning, IsLongestOf}
use Rattle.server_choice.specs.declared.choice.Like.{Like}
use Rattle.server_choice.specs.declared.choice.ServerNames.{ServerNames}

-- the server of the first pattern that matches the host
abbrev pub first_like : List Pattern → List Like → List ℕ → Option ℕ
first_like patterns likes host = option_map (λ l. l.server) (find (λ l. is_some (found_at patterns l.pattern host)) likes)

abbrev pub server_or : Option ℕ → ℕ → ℕ
server_or None other = other
server_or (Some server) other = server

-- where there is one, it is the server; else the rest holds
abbrev pub IsElse : Option ℕ → ℕ → Type 0 → Type 0
IsElse None server rest = rest
IsElse (Some found) server rest = server ≡ found

-- the first pattern that matches, else the default server, else the first
abbrev pub IsLast : ServerNames → List Pattern → List ℕ → ℕ → Type 0
IsLast names patterns host server =
    server ≡ server_or (or_else (first_like patterns names.likes.items host) names.default) names.first

-- the longest name `x.*`, else what is last
abbrev pub IsByBeginning : ServerNames → List Pattern → List ℕ → ℕ → Type 0
IsByBeginning names patterns host server =
    (beginning : Option ℕ) × IsLongestOf (is_beginning host) (number_of names.beginnings) beginning
    × IsElse beginning server (IsLast names patterns host server)

-- The server by the name that is the host, else by the longest name `*.x`, else by the longest name `x.*`, else by the first
-- pattern that matches, else the default server, else the first.
abbrev pub IsChosen : ServerNames → List Pattern → List ℕ → ℕ → Type 0
IsChosen names patterns host server =
    IsElse (number_of names.exact host) server
    ((ending : Option ℕ) × IsLongestOf (is_ending host) (number_of names.endings) ending
    × IsElse ending server (IsByBeginning names patterns host server))

-- all is as it was but the names that are whole hosts, `*.x` or `x.*`
pub record HasSameButHosts (old new : ServerNames) : Type 0 where
  pub endings : new.endings ≡ old.endings
  pub beginnings : new.beginnings ≡ old.beginnings
  pub likes : new.likes ≡ old.likes
  pub default : new.default ≡ old.default
  pub first : new.first ≡ old.first

pub record HasSameButEndings (old new : ServerNames) : Type 0 where
  pub exact : new.exact ≡ old.exact
  pub beginnings : new.beginnings ≡ old.beginnings
  pub likes : new.likes ≡ old.likes
  pub default : new.default ≡ old.default
  pub first : new.first ≡ old.first

pub record HasSameButBeginnings (old new : ServerNames) : Type 0 where
  pub exact : new.exact ≡ old.exact
  pub endings : new.endings ≡ old.endings
  pub likes : new.likes ≡ old.likes
  pub default : new.default ≡ old.default
  pub first : new.first ≡ old.first

pub record HasSameButLikes (old new : ServerNames) : Type 0 where
  pub exact : new.exact ≡ old.exact
  pub endings : new.endings ≡ old.endings
  pub beginnings : new.beginnings ≡ old.beginnings
  pub default : new.default ≡ old.default
  pub first : new.first ≡ old.first
