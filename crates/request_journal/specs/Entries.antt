-- The requests of a connection, as a proof keeps them.
use Rattle.std.specs.Prelude.{ℕ, List, Option}
use Rattle.std.specs.Coded.{Coded, coded_ℕ, coded×, coded_option, coded_list, code_by}
use Rattle.std.proofs.Common.{refl}
use Rattle.ngx_outside.specs.declared.event.Entry.{Entry}

abbrev Parts : Type 0
Parts = ℕ × (ℕ × Option (ℕ × ℕ))

abbrev to_parts : Entry → Parts
to_parts entry = (entry.moment, (entry.tree, entry.log))

abbrev from_parts : Parts → Entry
from_parts parts = record { moment = parts.0; tree = parts.1.0; log = parts.1.1 }

-- how the logic stores a list of requests
abbrev pub entries_code : Coded (List Entry)
entries_code = coded_list (code_by Parts
    (coded× coded_ℕ (coded× coded_ℕ (coded_option (coded× coded_ℕ coded_ℕ))))
    to_parts from_parts (λ entry. refl))
