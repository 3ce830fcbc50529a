-- What definitions answer, row by row. Each is computed by the check.
use Rattle.std.specs.Prelude.{◌≡◌, ℕ, Bool, true, false, List, [], ◌∷◌, codes, refl}
use Rattle.std.specs.Str.{chars, is_utf8}
use Rattle.ngx_pattern.specs.Pattern.{is_match, match_of, expression_of, pattern_at}
use Rattle.file_tree.specs.declared.job.Node.TheVariants.{File, Folder, Locked, Missing}
use Rattle.site_views.specs.Values.{PageRule}
use Rattle.site_views.specs.Values.Shown.{OwnCode}
use Rattle.site_views.specs.Values.PageTarget.{AtLocation}
use Rattle.error_pages.specs.Pages.{has_no_page}
use Rattle.try_index.specs.Searches.{is_found}

-- an error of a code, with this many changes left
abbrev none : (code left : ℕ) → (used recursive : Bool) → Bool
none code left used recursive = has_no_page (record { codes = 302 ∷ 404 ∷ []; shown = OwnCode; target = AtLocation (codes "e") } ∷ []) code left used recursive

page-1 : none 404 10 false false ≡ false
page-1 = refl

page-2 : none 404 1 true true ≡ false
page-2 = refl

-- no change is left; an error was handled; below 400; no rule names it
page-3 : none 404 0 false true ≡ true
page-3 = refl

page-4 : none 404 9 true false ≡ true
page-4 = refl

page-5 : none 302 9 false false ≡ true
page-5 = refl

page-6 : none 405 9 false false ≡ true
page-6 = refl

-- a name that ends in a slash needs a folder, another a file
found-1 : is_found (codes "/a/") Folder ≡ true
found-1 = refl

found-2 : is_found (codes "/a/") (File 1 0) ≡ false
found-2 = refl

found-3 : is_found (codes "/a") Locked ≡ true
found-3 = refl

found-4 : is_found (codes "/a") Folder ≡ false
found-4 = refl

found-5 : is_found (codes "/") Missing ≡ false
found-5 = refl

-- a number that no pattern has matches nothing
pattern-1 : is_match (pattern_at [] 0) (codes "a") ≡ false
unfolding match_of expression_of is_utf8 chars
pattern-1 = refl
