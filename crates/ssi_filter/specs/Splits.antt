-- The machine splits a document.
use Rattle.std.proofs.Common.{◌≡◌, ℕ, ◌<◌, List, [], ◌∷◌, ◌++◌, map, length, refl, sym, ap, ◌∙◌, arith, append_assoc, append-nil}
use Rattle.ssi_text.specs.Marks.{Byte}
use Rattle.ssi_text.specs.Split.{split, parts}
use Rattle.ssi_text.proofs.Feeds.{pieces-make-no-difference}
use Rattle.filter_api.specs.declared.facts.Facts.{Facts}
use Rattle.filter_api.specs.declared.facts.FilterState.{FilterState}
use Rattle.filter_api.specs.Members.{IsLawful, feeds, whole, fresh}
use Rattle.ssi_filter.specs.Machine.{with_undecided, ssi_machine, ssi_member}

-- what is undecided and text, and then more text
joined : (undecided bs more : List ℕ) → ((split 0 (undecided ++ bs)).0 ++ (split 0 ((split 0 (undecided ++ bs)).1 ++ more)).0 ≡ (split 0 (undecided ++ (bs ++ more))).0) × ((split 0 ((split 0 (undecided ++ bs)).1 ++ more)).1 ≡ (split 0 (undecided ++ (bs ++ more))).1)
joined undecided bs more =
    let law = sym (pieces-make-no-difference.goes_on (undecided ++ bs) more) ∙ ap (split 0) (append_assoc undecided bs more) in
    (ap (λ z. z.0) law, ap (λ z. z.1) law)

pub feeds_text : (facts : Facts) (s : FilterState) (b : ℕ) (bs : List ℕ) → feeds (ssi_machine facts) s (map Byte (b ∷ bs)) ≡ (with_undecided s (split 0 (s.undecided ++ (b ∷ bs))).1, (split 0 (s.undecided ++ (b ∷ bs))).0)
feeds_text facts s b [] = ap (λ z. (with_undecided s (split 0 (s.undecided ++ b ∷ [])).1, z)) (append-nil (split 0 (s.undecided ++ b ∷ [])).0)
feeds_text facts s b (c ∷ bs) =
    let first = split 0 (s.undecided ++ b ∷ []) in
    let j = joined s.undecided (b ∷ []) (c ∷ bs) in
    ap (λ r. (r.0, first.0 ++ r.1)) (feeds_text facts (with_undecided s first.1) c bs)
    ∙ ap (λ z. (with_undecided s (split 0 (first.1 ++ (c ∷ bs))).1, z)) j.0 ∙ ap (λ z. (with_undecided s z, (split 0 (s.undecided ++ (b ∷ (c ∷ bs)))).0)) j.1

some_state : (facts : Facts) (s : FilterState) (bs : List ℕ) → 0 < length bs → feeds (ssi_machine facts) s (map Byte bs) ≡ (with_undecided s (split 0 (s.undecided ++ bs)).1, (split 0 (s.undecided ++ bs)).0)
some_state facts s [] h = absurd (omega arith)
some_state facts s (b ∷ bs) h = feeds_text facts s b bs

pub text_state : (facts : Facts) (s : FilterState) (bs undecided : List ℕ) → 0 < length bs → undecided ≡ (split 0 (s.undecided ++ bs)).1 → (feeds (ssi_machine facts) s (map Byte bs)).0 ≡ with_undecided s undecided
text_state facts s bs undecided h e = ap (λ r. r.0) (some_state facts s bs h) ∙ ap (with_undecided s) (sym e)

pub text_out : (facts : Facts) (s : FilterState) (bs : List ℕ) → 0 < length bs → (feeds (ssi_machine facts) s (map Byte bs)).1 ≡ (split 0 (s.undecided ++ bs)).0
text_out facts s bs h = ap (λ r. r.1) (some_state facts s bs h)

nothing : (document : List ℕ) → length document ≡ 0 → [] ≡ parts document
unfolding parts split
nothing [] e = refl
nothing (b ∷ bs) e = absurd (omega arith)

a_document : (facts : Facts) (document : List ℕ) → whole (ssi_machine facts) (map Byte document) ≡ parts document
unfolding parts
a_document facts [] = nothing [] refl
a_document facts (b ∷ bs) = ap (λ r. r.1 ++ map Byte r.0.undecided) (feeds_text facts fresh b bs)

pub ssi_lawful : IsLawful ssi_member
ssi_lawful = record {
  splits = λ e facts document. a_document facts document;
  surrounds = λ e facts xs. absurd (omega (arith, e));
  keeps = λ h facts xs. absurd (omega (arith, h));
}
