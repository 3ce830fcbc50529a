use Rattle.std.proofs.Common.{◌∙◌, sym, ap, length, subst, arith}
use Rattle.std.proofs.lemmas.Bool.Decides.{nat_tests}
use Rattle.std.proofs.Math.Seq.{map-set_same}
use Rattle.ngx_pattern.specs.Expressions.{pattern_of}
use Rattle.ngx_pattern.proofs.Searching.{past-here, beyond-found, beyond-spans, none-lies}
use Rattle.ngx_pattern.specs.Pattern.{AllLieWithin}
use Rattle.ngx_pattern.proofs.set.PatternSet.matches.Goals as goal

pub returns-clause-kept : goal.returns-clause-kept
returns-clause-kept c =
    map-set_same pattern_of c.self.inside.expressions.items c.id.inside.number c.search.new.self c.index_mut.result.now
    (c.search.ensures.same ∙ ap pattern_of c.index_mut.ensures.value)
    ∙ c.self.view_is

pub returns-then-place-len-clause-found : goal.returns-then-place-len-clause-found
returns-then-place-len-clause-found c = beyond-found c.args.self.now c.args.id (past-here c.self.inside.expressions.items c.args.self.now c.self.view_is c.id.inside.number c.args.id c.id.view_is (grind (arith, nat_tests))) c.args.bytes.now

pub returns-then-place-len-clause-spans : goal.returns-then-place-len-clause-spans
returns-then-place-len-clause-spans c =
    c.clear.ensures ∙ beyond-spans c.args.self.now c.args.id (past-here c.self.inside.expressions.items c.args.self.now c.self.view_is c.id.inside.number c.args.id c.id.view_is (grind (arith, nat_tests))) c.args.bytes.now

pub returns-then-place-len-clause-within : goal.returns-then-place-len-clause-within
returns-then-place-len-clause-within c = subst (AllLieWithin (length c.args.bytes.now)) (sym c.clear.ensures) (none-lies (length c.args.bytes.now))
