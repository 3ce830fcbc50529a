use Rattle.std.proofs.Common.{sym, ap, ◌∙◌}
use Rattle.std.specs.Prelude.{is_ok}
use Rattle.uri_text.proofs.Targets.{normal-none, normal-some, is_ok-with_args}
use Rattle.uri_text.proofs.target.is_target.Goals as goal

pub returns-in-Some : goal.returns-in-Some
returns-in-Some c = c.is_path.ensures ∙ is_ok-with_args c.parts_of.result.query.now _ ∙ ap is_ok (sym (normal-some c.args.raw.now c.args.merge c.in-Some.text.now _ _ c.in-Some.ensures c.parts_of.ensures))

pub returns-in-None : goal.returns-in-None
returns-in-None c = ap is_ok (sym (normal-none c.args.raw.now c.args.merge c.in-None.ensures))
