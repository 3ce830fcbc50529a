-- Lists that are added to, and what is left.
use Rattle.std.proofs.Common.{◌≡◌, List, [], ◌∷◌, ◌++◌, map, sym, ap, ◌∙◌, append_assoc, append-nil}
use Rattle.std.proofs.lemmas.List.{map_push}

pub one_more : {A : Type 0} (old new own rest all whole : List A) → new ≡ old ++ own → all ≡ own ++ rest → old ++ all ≡ whole → new ++ rest ≡ whole
one_more old new own rest all whole n a w = ap (λ l. l ++ rest) n ∙ append_assoc old own rest ∙ ap (λ l. old ++ l) (sym a) ∙ w

pub two_more : {A : Type 0} (old mid new own inner rest all whole : List A) → mid ≡ old ++ own → new ≡ mid ++ inner → all ≡ (own ++ inner) ++ rest → old ++ all ≡ whole → new ++ rest ≡ whole
two_more old mid new own inner rest all whole m n a w =
    one_more old new (own ++ inner) rest all whole (n ∙ ap (λ l. l ++ inner) m ∙ append_assoc old own inner) a w

pub none_left : {A : Type 0} (old all whole : List A) → all ≡ [] → old ++ all ≡ whole → old ≡ whole
none_left old all whole e w = sym (append-nil old) ∙ ap (λ l. old ++ l) (sym e) ∙ w

pub pushed : {A B : Type 0} (seen : A → B) (old new : List A) (x : A) (y : B) → new ≡ old ++ x ∷ [] → seen x ≡ y → map seen new ≡ map seen old ++ y ∷ []
pushed seen old new x y n e = ap (map seen) n ∙ map_push seen old x ∙ ap (λ z. map seen old ++ z ∷ []) e
