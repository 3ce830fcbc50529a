-- Where what a check tells of a variable is found, and how many bytes of a file are kept, row by row. Each is computed by the check.
use Rattle.std.specs.Prelude.{◌≡◌, ℕ, Bool, [], ◌∷◌, map, true, false, codes, refl}
use Rattle.file_tree.specs.declared.job.Ask.TheVariants as ask
use Rattle.source_lines.specs.declared.line.Line.{Line}
use Rattle.conf_text.specs.declared.directive.Directive.{Directive}
use Rattle.conf_block.specs.Forest.{End, forest_of, inside, outside}
use Rattle.conf_block.specs.Blocks.{blocks_of, block_with}
use Rattle.ngx_cli.specs.conf_races.Origins.{Outer, nowhere, outer_over}
use Rattle.ngx_cli.specs.conf_races.Races.{behind}
use Rattle.ngx_cli.specs.request_flow.declared.flow.Stage.TheVariants.{Reading}
use Rattle.ngx_cli.specs.request_flow.Flows.{block_most, placed_most, stage_fits}

abbrev at_line : ℕ → Line
at_line line = record { file = 0; line = line }

-- `index` in line 3 and `error_page` in line 4, around a level that states neither
abbrev around : Outer
around = record nowhere { index = at_line 3 ∷ []; pages = at_line 4 ∷ [] }

outer-1 : outer_over End around ≡ around
unfolding blocks_of
outer-1 = refl

-- two servers, in lines 1 and 3
abbrev server : ℕ → Directive
server line = record { name = codes "server"; args = []; file = 0; line = line; depth = 0; block = true }

abbrev listen : ℕ → Directive
listen line = record { name = codes "listen"; args = codes "80" ∷ []; file = 0; line = line; depth = 1; block = false }

servers-1 : behind (blocks_of (codes "server") (forest_of (server 1 ∷ listen 2 ∷ server 3 ∷ []))) ≡ block_with (server 3) End ∷ []
unfolding blocks_of forest_of inside outside
servers-1 = refl

-- the second half of a file of 32768 bytes is asked for while this many bytes are kept for the peer
abbrev fits : ℕ → Bool
fits size = stage_fits (ask.Read (codes "/w/a") 16384 16384 0) (Reading (record { status = 200; len = 32768 }) 16384) size

fits-1 : map fits (98304 ∷ 98305 ∷ []) ≡ true ∷ false ∷ []
unfolding placed_most block_most
fits-1 = refl
