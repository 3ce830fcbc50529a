use Rattle.std.proofs.Common.{◌≡◌, drop}
use Rattle.std.specs.List.{list_all}
use Rattle.site_model.specs.ngx_variables.Grammar.{is_name_byte}
use Rattle.conf_values.proofs.variable.are_name_bytes.Given as goal

-- the bytes that are left decide
abbrev pub invariant-loop-byte : goal.invariant-loop-byte
invariant-loop-byte l = list_all is_name_byte (drop l.byte-index l.bytes) ≡ list_all is_name_byte l.bytes
