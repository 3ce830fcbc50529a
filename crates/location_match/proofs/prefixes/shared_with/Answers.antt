use Rattle.std.proofs.Common.{◌≡◌, ◌≤◌, [], ◌∷◌, ◌++◌, length, sym, ap, ◌∙◌, subst, arith}
use Rattle.location_match.specs.Prefixes.{text_at}
use Rattle.location_match.specs.Shared.{shared, AllShare}
use Rattle.location_match.specs.Entries.{texts_of}
use Rattle.location_match.proofs.Shared.{all_share-first, all_share-more}
use Rattle.location_match.proofs.First.{first-is, none-is}
use Rattle.location_match.proofs.prefixes.shared_with.Goals as goal

pub returns-in-Some : goal.returns-in-Some
returns-in-Some c =
    let es = c.args.entries.now in
    let text = c.args.text.now in
    let is = first-is es c.in-Some.first.now c.in-Some.ensures.value in
    let same : c.as_slice.result.now ≡ text_at (texts_of es) 0 = c.as_slice.ensures ∙ sym is.1 in
    let found : c.shared_from.result ≡ shared (text_at (texts_of es) 0) text = c.shared_from.ensures ∙ ap (λ t. shared t text) same in
    let few : c.min.result ≤ c.args.common = grind (arith, c.min.ensures) in
    let first : c.min.result ≤ shared (text_at (texts_of es) 0) text = grind (arith, c.min.ensures, found) in
    all_share-more (texts_of es) text c.args.common c.min.result is.0 c.requires few first

pub returns-in-None : goal.returns-in-None
returns-in-None c =
    let empty = none-is c.args.entries.now (sym c.in-None.ensures.value) in
    subst (λ ts. AllShare (ts ++ c.args.text.now ∷ []) (length c.args.text.now)) (sym empty) (all_share-first c.args.text.now)
