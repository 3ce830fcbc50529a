-- The first fault of a configuration.
use Rattle.std.specs.Prelude.{List, [], false, None, is_some, Result, Ok, Err, codes, if◌then◌else◌}
use Rattle.conf_text.specs.declared.directive.Directive.{Directive}
use Rattle.conf_text.specs.declared.fault.FaultKind.TheVariants.{NoServer}
use Rattle.conf_text.specs.declared.fault.ConfFault.{ConfFault}
use Rattle.conf_table.specs.declared.rule.Context.TheVariants as places
use Rattle.conf_block.specs.declared.role.Content.TheVariants.{Directives}
use Rattle.conf_block.specs.Forest.{Forest, forest_of}
use Rattle.conf_block.specs.Blocks.{block_of, http_in}
use Rattle.conf_check.specs.Gives.{◌>>◌, sound}
use Rattle.conf_check.specs.Names.{is_set_in}
use Rattle.conf_check.specs.Checked.{checked}

-- a configuration without a server: at the beginning of the main file
abbrev pub no_server : ConfFault
no_server = record { kind = NoServer; file = 0; line = 1; word = None }

abbrev pub some_server : Forest → Result (Unit {0}) ConfFault
some_server http = if is_some (block_of (codes "server") http) then sound else Err no_server

-- the value of what follows is not asked for
abbrev pub only : {A : Type 0} → Result A ConfFault → Result (Unit {0}) ConfFault
only (Ok a) = sound
only (Err fault) = Err fault

-- the first fault of the directives alone, where no address has a default server before
unfoldable pub no_fault : Forest → Result (Unit {0}) ConfFault
no_fault top = only (checked (is_set_in (Directives places.Top) top) (λ addr. false) (Directives places.Top) [] top)

-- A configuration is right; or the first fault of its directives; or that there is no server.
unfoldable pub faultless : List Directive → Result (Unit {0}) ConfFault
faultless ds = do
  no_fault (forest_of ds)
  some_server (http_in (forest_of ds))
