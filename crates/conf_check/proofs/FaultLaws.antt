-- What is wrong with the values of a directive, by what is known of them.
use Rattle.std.proofs.Common.{◌≡◌, ℕ, Bool, ◌&&◌, ◌||◌, cond, List, Option, Some, None, sym, ap, ◌∙◌}
use Rattle.std.specs.List.{list_any}
use Rattle.conf_text.specs.declared.fault.FaultKind.TheVariants.{Duplicate, BadValue}
use Rattle.http_types.specs.declared.words.Addr.{Addr}
use Rattle.conf_values.specs.Listening.{is_marked, has_known_parameters}
use Rattle.conf_check.specs.Ends.{same_addr}
use Rattle.conf_check.specs.Faults.{listen_fault}

pub listen-known : (marked : Addr → Bool) (o : Option Addr) (addr : Addr) (earlier : List Addr) (args : List (List ℕ)) (taken known : Bool)
    → o ≡ Some addr → taken ≡ (list_any (λ a. same_addr a addr) earlier || (is_marked args && marked addr)) → known ≡ has_known_parameters args
    → cond taken (Some Duplicate) (cond known None (Some BadValue)) ≡ listen_fault marked o earlier args
listen-known marked o addr earlier args taken known e t k =
    (λ i. cond (t i) (Some Duplicate) (cond (k i) None (Some BadValue))) ∙ ap (λ o. listen_fault marked o earlier args) (sym e)
