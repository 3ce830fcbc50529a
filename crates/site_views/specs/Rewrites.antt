-- Rewrite programs as they are read (https://nginx.org/en/docs/http/ngx_http_rewrite_module.html).
use Rattle.std.specs.Prelude.{ℕ, Bool, List, Option}
use Rattle.ngx_variables.specs.declared.value.Piece.{Piece}
use Rattle.site_views.specs.Pattern.{Pattern}
use Rattle.site_views.specs.Values.{Text, Values}

-- `-f`, `-d`, `-e`
pub data FileTest : Type 0 where
  IsFile IsFolder IsThere : FileTest

-- the condition of an `if`, without its `!`
pub data Test : Type 0 where
  IsSet : (variable : Piece) → Test
  Equals : (variable : Piece) → (text : Text) → Test
  Matches : (variable : Piece) → (pattern : Pattern) → Test
  OnFile : (test : FileTest) → (path : Text) → Test

-- what follows a `rewrite` that matched
pub data Flag : Type 0 where
  NoFlag Last Break Redirect Permanent : Flag

-- A program is the list of its directives. The directives of an `if` block come right after their `if`, which says how many they are;
-- in a location the block is a level whose values hold from there on.
pub data Directive : Type 0 where
  Set : (name : List ℕ) → (text : Text) → Directive
  If : (test : Test) → (negated : Bool) → (block : ℕ) → (values : Option Values) → Directive
  Rewrite : (pattern : Pattern) → (to : Text) → (is_url : Bool) → (flag : Flag) → Directive
  Return : (code : ℕ) → (text : Option Text) → Directive
  Stop : Directive

abbrev pub Program : Type 0
Program = List Directive
