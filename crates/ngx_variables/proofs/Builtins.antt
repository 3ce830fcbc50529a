-- A name stands for a set variable exactly where it is no built-in variable's.
use Rattle.std.proofs.Common.{◌≡◌, ℕ, ◌||◌, not, List, Option, Some, None, is_some, refl}
use Rattle.std.specs.Option.{option_map_or}
use Rattle.std.specs.Prelude.{codes}
use Rattle.ngx_variables.specs.declared.variable.Variable.{Variable}
use Rattle.ngx_variables.specs.declared.value.Piece.TheVariants.{Group, Builtin, Argument, Field, Cookie, Set}
use Rattle.ngx_variables.specs.Names.{variable_named, group_numbered, behind, is_builtin}
use Rattle.ngx_variables.specs.Grammar.{dashed, piece_named, is_set, BuiltinIsNotSet}

first_found : (v : Option Variable) (g : Option ℕ) (a h c : Option (List ℕ)) (name : List ℕ) → ((((is_some v || is_some g) || is_some a) || is_some h) || is_some c) ≡ not (is_set (option_map_or Builtin v (option_map_or Group g (option_map_or Argument a (option_map_or (λ field. Field (dashed field)) h (option_map_or Cookie c (Set name)))))))
first_found (Some v) g a h c name = refl
first_found None (Some g) a h c name = refl
first_found None None (Some a) h c name = refl
first_found None None None (Some h) c name = refl
first_found None None None None (Some c) name = refl
first_found None None None None None name = refl

pub builtin_is_not_set : BuiltinIsNotSet
unfolding is_builtin piece_named
builtin_is_not_set name = first_found (variable_named name) (group_numbered name) (behind (codes "arg_") name) (behind (codes "http_") name) (behind (codes "cookie_") name) name
