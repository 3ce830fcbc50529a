use Rattle.std.proofs.Common.{◌≡◌, ◌∙◌, List, [], ◌∷◌, length, refl, false, arith}
use Rattle.std.specs.Prelude.{nat_eq}
use Rattle.std.proofs.lemmas.Bool.Decides.{nat_tests}
use Rattle.ngx_outside.specs.declared.event.Entry.{Entry}
use Rattle.http_connection.specs.Conn.{no_entries}
use Rattle.http_connection.proofs.sending.is_fresh.Goals as goal

none_entered : (entries : List Entry) → nat_eq (length entries) 0 ≡ no_entries entries
none_entered [] = refl
none_entered (entry ∷ entries) = let some : nat_eq (length (entry ∷ entries)) 0 ≡ false = grind (arith, nat_tests) in some

pub returns : goal.returns
returns c = c.is_empty.ensures ∙ none_entered c.args.journal.now.past.entries
