use Rattle.std.proofs.Common.{◌≡◌, ◌++◌, ◌∷◌, [], ap, ◌∙◌, Ok}
use Rattle.std.proofs.lemmas.Result.{err_from_is_err_and}
use Rattle.std.proofs.lemmas.List.{map_push}
use Rattle.replay_words.specs.Sums.{terms_of}
use Rattle.replay_words.specs.Steps.{term_view, term_views}
use Rattle.replay_words.proofs.TermLaws.{terms_begin, terms_go_on, terms_end, terms_fail, terms_fewer}
use Rattle.replay_words.proofs.sums.terms_of.Goals as goal

pub terms-init : goal.terms-init
terms-init c = terms_begin _ _ (ap term_views c.new-terms.ensures.items)

pub returns-in_err-term : goal.returns-in_err-term
returns-in_err-term c =
    let p = err_from_is_err_and c.from_residual.result c.from_residual.ensures.1 in
    rw (p.1, p.2) (terms_fail c.in_err-term.field-0.0 (term_views c.terms.terms.items) c.terms.words (terms_of c.args.words) c.in_err-term.ensures c.terms.invariant)

pub returns-in-None : goal.returns-in-None
returns-in-None c =
    let t = c.in_ok-term.term in
    let e : term_views c.push.new.self.items ≡ term_views c.terms.terms.items ++ term_view t ∷ [] = rw c.in_ok-push.ensures.items (map_push _ c.terms.terms.items t) in
    rw e (terms_end (term_views c.terms.terms.items) c.terms.words (term_view t) (terms_of c.args.words) (c.in_ok-term.ensures ∙ ap (λ b. Ok (term_view t, b)) c.in-None.is) c.terms.invariant)

pub terms-preserved : goal.terms-preserved
terms-preserved c =
    let t = c.in_ok-term.term in
    let e : term_views c.push.new.self.items ≡ term_views c.terms.terms.items ++ term_view t ∷ [] = rw c.in_ok-push.ensures.items (map_push _ c.terms.terms.items t) in
    rw e (terms_go_on (term_views c.terms.terms.items) c.terms.words c.in-Some.rest (term_view t) (terms_of c.args.words) (c.in_ok-term.ensures ∙ ap (λ b. Ok (term_view t, b)) c.in-Some.is) c.terms.invariant)

pub terms-smaller : goal.terms-smaller
terms-smaller c =
    let t = c.in_ok-term.term in
    terms_fewer c.terms.words c.in-Some.rest (term_view t) (c.in_ok-term.ensures ∙ ap (λ b. Ok (term_view t, b)) c.in-Some.is)
