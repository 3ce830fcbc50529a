use Rattle.std.proofs.Common.{◌≡◌, [], ◌∷◌, ◌++◌, IfSome, IfNone, sym, ap, ◌∙◌, subst, rules}
use Rattle.std.proofs.lemmas.List.{map_push}
use Rattle.location_match.specs.Shared.{AllShare}
use Rattle.location_match.specs.Prefixes.{IsAboveAll, IsLongest, FitsNone}
use Rattle.location_match.specs.Entries.{texts_of}
use Rattle.location_match.specs.declared.prefixes.PrefixEntry.{PrefixEntry}
use Rattle.location_match.proofs.Grown.{sound-grown}
use Rattle.location_match.proofs.list.Prefixes.add.Goals as goal

pub invariant_of-self-2 : goal.invariant_of-self-2
invariant_of-self-2 c =
    let es = c.self.inside.entries.items in
    let e : PrefixEntry = record { text = c.args.text; location = c.args.location; nearest = c.nearest_to-nearest.result } in
    let above : IsAboveAll (texts_of es) c.args.text = search rules in
    let some : IfSome c.nearest_to-nearest.result (IsLongest (texts_of es) c.args.text) = search rules in
    let none : IfNone c.nearest_to-nearest.result (FitsNone (texts_of es) c.args.text) = search rules in
    let grown : texts_of c.push.new.self.items ≡ texts_of es ++ c.args.text ∷ [] = ap texts_of c.in_ok-push.ensures.items ∙ map_push (λ x. x.text) es e in
    record {
      sound = sound-grown es c.push.new.self.items e c.in_ok-push.ensures.items c.self.invariant.sound above some none;
      shared = subst (λ ts. AllShare ts c.shared_with-common.result) (sym grown) (search rules);
    }
