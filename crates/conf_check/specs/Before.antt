-- What is kept of the directives before one in its level.
use Rattle.std.specs.Prelude.{◌≡◌, ℕ, List, [], ◌∷◌, ◌++◌, Bool, true, false, not, Option, None, Some, bytes_eq}
use Rattle.std.specs.List.{list_any}
use Rattle.std.specs.BTreeSet.{BTreeSet}
use Rattle.conf_text.specs.declared.directive.Directive.{Directive}
use Rattle.http_types.specs.declared.words.Addr.{Addr}
use Rattle.conf_table.specs.declared.rule.DirectiveRule.{DirectiveRule}
use Rattle.conf_table.specs.Table.{entry_of}
use Rattle.conf_check.specs.Ends.{same_addr}
use Rattle.conf_block.specs.Listening.{listens_of}
use Rattle.conf_check.specs.Ends.{Key, has_end}
use Rattle.conf_block.specs.declared.location.Kind.{Kind}
use Rattle.conf_check.specs.declared.locations.LocationSet.{LocationSet}
use Rattle.conf_check.specs.Keys.{same_key, keys_of}
use Rattle.conf_check.specs.LocationSet.{has_location}
use Rattle.conf_check.specs.Faults.{is_named}

-- a level may have one alone of such a directive
abbrev pub stands_once : Option DirectiveRule → Bool
stands_once None = false
stands_once (Some rule) = not rule.many

-- a name after the others, where it is kept
abbrev pub with_name : Bool → List (List ℕ) → List ℕ → List (List ℕ)
with_name true names name = names ++ name ∷ []
with_name false names name = names

-- These names tell which of the directives are there that may be there once alone, these are the addresses that are
-- listened on, and these are what the locations are found by.
pub record Remembers (names : List (List ℕ)) (addrs : BTreeSet Key) (locations : LocationSet) (earlier : List Directive) : Type 0 where
  pub once : (name : List ℕ) → stands_once (entry_of name) ≡ true → list_any (λ n. bytes_eq n name) names ≡ is_named name earlier
  pub listens : (addr : Addr) → has_end addrs addr ≡ list_any (λ a. same_addr a addr) (listens_of earlier)
  pub located : (kind : Kind) (text : List ℕ) → has_location locations kind text ≡ list_any (same_key kind text) (keys_of earlier)
