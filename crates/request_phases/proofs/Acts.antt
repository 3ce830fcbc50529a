-- Acts in turn.
use Rattle.std.proofs.Common.{◌≡◌, sym, ◌∙◌, ap}
use Rattle.acts.specs.Vars.{Vars}
use Rattle.acts.specs.Act.{Done, ◌>>=◌, settled, settled_then}
use Rattle.acts.proofs.ActLaws.{settles_in_turn, settled_stays}
use Rattle.request_meaning.specs.Serving.{Serving}

-- an act and what follows it settles as what the act settled as, and what follows
pub in_turn : {A B : Type 0} (m n : Serving A) (k : A → Serving B) (old new : Vars) → settled m old ≡ (n, new) → settled (m >>= k) old ≡ settled (n >>= k) new
in_turn m n k old new e =
    settles_in_turn m k old
    ∙ (ap (λ s. settled_then s.0 s.1 k) e
    ∙ sym (settles_in_turn n k new ∙ ap (λ s. settled_then s.0 s.1 k) (stays m n old new e)))
  where
    stays : {A : Type 0} (m n : Serving A) (old new : Vars) → settled m old ≡ (n, new) → settled n new ≡ (n, new)
    stays m n old new e = sym (ap (λ s. settled s.0 s.1) e) ∙ (settled_stays m old ∙ e)

-- one that settles as a value
pub then_does : {A B : Type 0} (m : Serving A) (k : A → Serving B) (vars : Vars) (a : A) → settled m vars ≡ (Done a, vars) → settled (m >>= k) vars ≡ settled (k a) vars
unfolding ◌>>=◌
then_does m k vars a e = in_turn m (Done a) k vars vars e
