-- The words of directives that are lists of values (nginx's modules core, index, rewrite, access, ssi and addition).
use Rattle.std.specs.Prelude.{ℕ, zero, suc, List, [], ◌∷◌, length, drop, ◌==◌, Bool, true, false, not, ◌&&◌, ◌||◌, nat_le, Option, None, Some, is_some, codes, bytes_eq, if◌then◌else◌}
use Rattle.conf_table.specs.declared.role.Listing.{Listing}
use Rattle.conf_table.specs.declared.role.Listing.TheVariants as listings
use Rattle.conf_values.specs.Words.{begins_with}
use Rattle.conf_values.specs.Hosts.{is_server_name}
use Rattle.conf_values.specs.Sources.{source_of}
use Rattle.conf_values.specs.Variables.{variable_in, is_known_name}
use Rattle.conf_values.specs.Returning.{code_of}
use Rattle.conf_values.specs.Texts.{is_text}

abbrev pub has_code : (ℕ → Bool) → Option ℕ → Bool
has_code test None = false
has_code test (Some code) = test code

-- a name of `index`: the last alone, with none after it, may be a path of the site
abbrev pub is_index_name : (known : List ℕ → Bool) → (left : ℕ) → List ℕ → Bool
is_index_name known left word = is_text known word && ((left == 0) || not (begins_with 47 word))

-- a code that `try_files` may end with: of a redirect, or of an error
unfoldable pub is_try_code : ℕ → Bool
is_try_code code =
    (code == 301) || ((code == 302) || ((code == 303) || ((code == 307) || ((code == 308) || (nat_le 400 code && not (code == 444))))))

-- what `try_files` comes to where it finds none of its names: `=CODE`, `@NAME` or a path
abbrev pub is_last_try : (known : List ℕ → Bool) → List ℕ → Bool
is_last_try known word = if begins_with 61 word then has_code is_try_code (code_of (drop 1 word)) else (begins_with 64 word || is_text known word)

abbrev pub is_try : (known : List ℕ → Bool) → (left : ℕ) → List ℕ → Bool
is_try known left word = if left == 0 then is_last_try known word else is_text known word

-- a code that `error_page` may name
unfoldable pub is_page_code : ℕ → Bool
is_page_code code = nat_le 300 code && not (code == 499)

-- `=` or `=CODE`
unfoldable pub is_shown_code : ℕ → Bool
is_shown_code code = not (code == 444)

abbrev pub is_shown : List ℕ → Bool
is_shown word = bytes_eq word (codes "=") || has_code is_shown_code (code_of (drop 1 word))

-- the page of an error: `@NAME`, a path or an address
abbrev pub is_target : (known : List ℕ → Bool) → List ℕ → Bool
is_target known word = begins_with 64 word || is_text known word

-- A word of `error_page`, by whether it is the first and by how many are after it: codes, at least one; `=` or `=CODE`, or not;
-- and the page.
abbrev pub is_page_word : (known : List ℕ → Bool) → (first : Bool) → (left : ℕ) → List ℕ → Bool
is_page_word known first left word =
    if left == 0 then not first && is_target known word
    else (if (left == 1) && begins_with 61 word then not first && is_shown word else has_code is_page_code (code_of word))

-- what follows a `rewrite` that matched
abbrev pub is_flag : List ℕ → Bool
is_flag word = bytes_eq word (codes "last") || (bytes_eq word (codes "break") || (bytes_eq word (codes "redirect") || bytes_eq word (codes "permanent")))

-- a word of `rewrite`: a pattern, which isn't looked at yet; a text; and a flag, or none
abbrev pub is_rewrite_word : (known : List ℕ → Bool) → (at : ℕ) → List ℕ → Bool
is_rewrite_word known zero word = true
is_rewrite_word known (suc zero) word = is_text known word
is_rewrite_word known (suc (suc at)) word = is_flag word

-- a word of a list, by how many are before it and after it
abbrev pub is_listed : (known : List ℕ → Bool) → Listing → (at left : ℕ) → List ℕ → Bool
is_listed known listings.Index at left word = is_index_name known left word
is_listed known listings.TryFiles at left word = is_try known left word
is_listed known listings.ErrorPage at left word = is_page_word known (at == 0) left word
is_listed known listings.Rewrite at left word = is_rewrite_word known at word
is_listed known listings.ServerName at left word = is_server_name word
is_listed known listings.Allow at left word = is_some (source_of word)
is_listed known listings.Deny at left word = is_some (source_of word)
is_listed known listings.SsiVisible at left word = is_known_name known (variable_in word)
is_listed known listings.SsiTypes at left word = true
is_listed known listings.AdditionTypes at left word = true

-- all words from a place on
unfoldable pub are_listed_from : (known : List ℕ → Bool) → Listing → (at : ℕ) → List (List ℕ) → Bool
are_listed_from known listing at [] = true
are_listed_from known listing at (word ∷ words) = is_listed known listing at (length words) word && are_listed_from known listing (suc at) words

-- the words are values of the directive, where the known names are those of the variables that are set
abbrev pub are_listed : (known : List ℕ → Bool) → Listing → List (List ℕ) → Bool
are_listed known listing words = are_listed_from known listing 0 words
