use Rattle.std.proofs.Common.{◌≡◌, Option, Some, None, option_map, refl, ◌∙◌}
use Rattle.http_header.specs.FieldValue.{FieldValue}
use Rattle.http_header.specs.HeaderMap.{get}
use Rattle.request_phases.specs.ngx_variables.Grammar.{lowercase}
use Rattle.request_meaning.specs.Answering.{first_bytes}
use Rattle.request_reply.proofs.status.first_field.Goals as goal

same : (o : Option FieldValue) → option_map (λ v. v.bytes) o ≡ first_bytes o
same None = refl
same (Some v) = refl

pub returns : goal.returns
returns c = c.first.ensures ∙ same (get c.args.fields.now (lowercase c.args.name.now))
