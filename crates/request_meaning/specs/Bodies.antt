-- The body of an answer: the parts that the filters make of it, one after another, with subrequests in their places
-- (https://nginx.org/en/docs/dev/development_guide.html#http_body_filters; ngx_http_addition_module.html).
use Rattle.std.specs.Prelude.{ℕ, zero, suc, false, List, [], ◌∷◌, map, Option, None, Some, if◌then◌else◌}
use Rattle.acts.specs.Vars.{Vars}
use Rattle.acts.specs.Act.{Done, Write, ◌>>=◌, ◌>>◌}
use Rattle.addition_filter.specs.filter_api.declared.facts.Facts.{Facts}
use Rattle.addition_filter.specs.filter_api.Members.{Member, Machine, turned}
use Rattle.file_path.specs.ngx_variables.declared.request.Role.TheVariants.{Content}
use Rattle.ssi_filter.specs.ssi_text.declared.part.Param.{Param}
use Rattle.ssi_filter.specs.ssi_text.declared.part.Part.{Part}
use Rattle.ssi_filter.specs.ssi_text.declared.part.Part.TheVariants as parts
use Rattle.ssi_filter.specs.ssi_text.Marks.{Mark, Byte, Other}
use Rattle.request_meaning.specs.Serving.{World, Serving, Answer, Body, Child, writes, inner}
use Rattle.request_meaning.specs.Serving.Body.{NoBody, Plain, Filtered}
use Rattle.request_meaning.specs.Documents.{Doc, is_live, begun, error_text, oops, live_oops}
use Rattle.request_meaning.specs.Commands.{command, block_command, block_grown}

-- ---- parts

-- text in a block is kept for it
unfoldable pub text_part : Doc → List ℕ → Option (List ℕ × List ℕ) → Serving Doc
text_part doc text (Some (name, bytes)) = Done (block_grown doc name bytes text)
text_part doc text None = if is_live doc.branch then (do
  writes text
  Done doc) else Done doc

unfoldable pub bad_part : Doc → Option (List ℕ × List ℕ) → Serving Doc
bad_part doc (Some (name, bytes)) = Done (block_grown doc name bytes (error_text doc))
bad_part doc None = live_oops doc

unfoldable pub command_part : World → Doc → List ℕ → List Param → Option (List ℕ × List ℕ) → Serving Doc
command_part w doc name ps (Some (block, bytes)) = block_command doc block bytes name ps
command_part w doc name ps None = command w doc name ps

abbrev pub added : Doc → List ℕ → Child
added doc path = record { main = doc.main; role = Content; path = path; args = []; ssi = doc.ssi; stub = None; waited = false }

-- a subrequest of an addition, which as any other isn't opened where no level is left
unfoldable pub added_at : Doc → (left : ℕ) → Child → Serving Doc
added_at doc zero child = oops doc
added_at doc (suc left) child = do
  inner child
  Done doc

-- the body of `add_before_body` or `add_after_body` (ngx_http_addition_module, #add_before_body)
unfoldable pub added_part : Doc → Option (List ℕ) → Serving Doc
added_part doc None = Done doc
added_part doc (Some path) = added_at doc doc.left (added doc path)

unfoldable pub part : World → Doc → Part → Serving Doc
part w doc (parts.Text text) = text_part doc text doc.block
part w doc (parts.Command name ps) = command_part w doc name ps doc.block
part w doc parts.Bad = bad_part doc doc.block
part w doc parts.Before = added_part doc doc.values.before
part w doc parts.After = added_part doc doc.values.after

unfoldable pub mark : World → Doc → Mark → Serving Doc
mark w doc (Byte b) = text_part doc (b ∷ []) doc.block
mark w doc (Other p) = part w doc p

-- ---- the whole body

unfoldable pub body : World → Doc → List Mark → Serving (Unit {0})
body w doc [] = Done tt
body w doc (x ∷ xs) = do
  doc' ← mark w doc x
  body w doc' xs

abbrev pub machines : World → Facts → List Machine
machines w facts = map (λ (m : Member). m.machine facts) w.members

-- what the body filters make of bytes
abbrev pub filtered_marks : World → Facts → List ℕ → List Mark
filtered_marks w facts bytes = turned (machines w facts) (map Byte bytes)

-- The body of an answer whose document begins with these variables, and may open this many levels of subrequests. One on which
-- filters act begins with nothing, and is an act of its own by that: other nodes may come between the phases and its document.
unfoldable pub written : World → (left : ℕ) → Vars → Answer → Body → Serving (Unit {0})
written w left ssi answer NoBody = Done tt
written w left ssi answer (Plain bytes) = writes bytes
written w left ssi answer (Filtered facts bytes) =
    Write [] (body w (begun answer.main answer.request answer.values left ssi) (filtered_marks w facts bytes))
