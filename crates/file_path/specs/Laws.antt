-- No path leads out of its root.
use Rattle.std.specs.Prelude.{◌≡◌, ℕ, false, List, [], ◌++◌}
use Rattle.ngx_variables.specs.declared.request.FileRoot.{FileRoot}
use Rattle.ngx_variables.specs.declared.request.FileRoot.TheVariants.{Root, Rest, Whole}
use Rattle.ngx_variables.specs.Paths.{without_last_slash, merged, start, without_prefix}
use Rattle.file_path.specs.Located.{has_dots, has_nul, located}
use Rattle.file_path.specs.Located.Located.{At}

-- the text of `root` or `alias` with the folder where a relative one starts, before what a URI adds
abbrev pub given : FileRoot → List ℕ → List ℕ → List ℕ
given (Root value) text folder = start folder text ++ without_last_slash text
given (Rest value prefix) text folder = start folder text ++ text
given (Whole value) text folder = start folder text ++ text

-- what a URI adds
abbrev pub added : FileRoot → List ℕ → List ℕ
added (Root value) uri = uri
added (Rest value prefix) uri = without_prefix prefix uri
added (Whole value) uri = []

-- the root: its slashes that are neighbours are one, and a last one is dropped
unfoldable pub root_of : FileRoot → List ℕ → List ℕ → List ℕ
root_of place text folder = without_last_slash (merged (given place text folder))

-- the path is the root, or goes on after it
pub record StaysIn (root path : List ℕ) : Type 0 where
  pub rest : List ℕ
  pub behind : path ≡ root ++ rest
  pub no_dots : has_dots path ≡ false
  pub no_nul : has_nul path ≡ false

-- a path that is found begins with its root and has no segment that leads out of it
abbrev pub PathsStayInRoot : Type 0
PathsStayInRoot = (place : FileRoot) (text uri folder path : List ℕ) → located place text uri folder ≡ At path → StaysIn (root_of place text folder) path
