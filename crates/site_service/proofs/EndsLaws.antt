-- Addresses, each once.
use Rattle.std.proofs.Common.{◌≡◌, ◌<◌, ℕ, suc, List, [], ◌∷◌, ◌++◌, length, drop, flat_map, get_or, refl, sym, ap, ◌∙◌}
use Rattle.std.proofs.Math.Seq.{drop-cons}
use Rattle.http_types.specs.declared.words.Addr.{Addr}
use Rattle.site_model.specs.declared.site.Server.{Server}
use Rattle.site_service.specs.Ends.{add_once, once_after}

-- some, and then others
pub once_append : (all xs ys : List Addr) → once_after all (xs ++ ys) ≡ once_after (once_after all xs) ys
unfolding once_after
once_append all [] ys = refl
once_append all (x ∷ xs) ys = once_append (add_once all x) xs ys

-- those of one server more
pub once_more : (all new : List Addr) (servers : List Server) (i n : ℕ) (s : Server) → i < length servers → n ≡ suc i → s ≡ get_or servers i s → new ≡ once_after all s.listens →
    once_after new (flat_map (λ (s : Server). s.listens) (drop n servers)) ≡ once_after all (flat_map (λ (s : Server). s.listens) (drop i servers))
once_more all new servers i n s lt next is e =
    ap (λ k. once_after new (flat_map (λ (s : Server). s.listens) (drop k servers))) next
    ∙ ap (λ a. once_after a (flat_map (λ (s : Server). s.listens) (drop (suc i) servers))) e
    ∙ sym (once_append all s.listens (flat_map (λ (s : Server). s.listens) (drop (suc i) servers)))
    ∙ ap (λ (l : List Server). once_after all (flat_map (λ (s : Server). s.listens) l)) (ap (λ h. h ∷ drop (suc i) servers) is ∙ sym (drop-cons servers i s lt))
