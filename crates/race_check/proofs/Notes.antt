-- What is noted of one thing and then of another.
use Rattle.std.proofs.Common.{◌≡◌, ℕ, ◌+◌, ◌<◌, ◌||◌, ◌&&◌, Bool, true, false, not, List, [], map, length, drop, get_or, refl, ap, sym, ◌∙◌}
use Rattle.std.specs.List.{list_any}
use Rattle.race_check.specs.declared.names.NameSet.{NameSet}
use Rattle.race_check.specs.Names.{has, Notes}
use Rattle.race_check.proofs.Lists.{next_at, any_map, or_false}

noted_both : (f g n o : Bool) → ((g && n) || ((f && n) || o)) ≡ (((f || g) && n) || o)
noted_both true true true o = refl
noted_both true true false o = refl
noted_both true false true o = refl
noted_both true false false o = refl
noted_both false true true o = refl
noted_both false true false o = refl
noted_both false false true o = refl
noted_both false false false o = refl

pub notes_both : (s a b c : NameSet) (f g : List ℕ → Bool) → Notes s a b f → Notes s b c g → Notes s a c (λ n. f n || g n)
notes_both s a b c f g p q =
    λ n. q n ∙ ap (λ o. (g n && not (has s n)) || o) (p n) ∙ noted_both (f n) (g n) (not (has s n)) (has a n)

-- of a list from a place on, what is still to be noted and what was
abbrev pub NotesLeft : {X : Type 0} → (s now old : NameSet) → (List ℕ → X → Bool) → (left all : List X) → Type 0
NotesLeft s now old f left all =
    (name : List ℕ) → ((list_any (f name) left && not (has s name)) || has now name) ≡ ((list_any (f name) all && not (has s name)) || has old name)

module _ {X : Type 0} (s a b o : NameSet) (f : List ℕ → X → Bool) (xs : List X) (i : ℕ) where
  pub left_step : (x : X) → i < length xs → x ≡ get_or xs i x → NotesLeft s a o f (drop i xs) xs → Notes s a b (λ n. f n x) → NotesLeft s b o f (drop (i + 1) xs) xs
  left_step x h e left noted =
      λ n. ap (λ p. (list_any (f n) (drop (i + 1) xs) && not (has s n)) || p) (noted n)
      ∙ noted_both (f n x) (list_any (f n) (drop (i + 1) xs)) (not (has s n)) (has a n)
      ∙ ap (λ l. (list_any (f n) l && not (has s n)) || has a n) (sym (next_at xs i x h e))
      ∙ left n

module _ {X : Type 0} (s a o : NameSet) (left : List X) (all : List X) (over : left ≡ []) where
  pub left_end : (f : List ℕ → X → Bool) → NotesLeft s a o f left all → Notes s o a (λ n. list_any (f n) all)
  left_end f noted = λ n. ap (λ l. (list_any (f n) l && not (has s n)) || has a n) (sym over) ∙ noted n

  pub left_mapped : {Y : Type 0} (p : List ℕ → Y → Bool) (g : X → Y) → NotesLeft s a o (λ n x. p n (g x)) left all → Notes s o a (λ n. list_any (p n) (map g all))
  left_mapped p g noted = λ n. left_end (λ n x. p n (g x)) noted n ∙ ap (λ b. (b && not (has s n)) || has o n) (sym (any_map (p n) g all))

-- by nothing that is settled
pub all_noted : (s a b : NameSet) (f : List ℕ → Bool) → ((name : List ℕ) → has s name ≡ false) → Notes s a b f → (name : List ℕ) → has b name ≡ (f name || has a name)
all_noted s a b f none noted name = noted name ∙ ap (λ h. (f name && not h) || has a name) (none name) ∙ ap (λ b. b || has a name) (and_true (f name))
  where
    and_true : (b : Bool) → (b && true) ≡ b
    and_true true = refl
    and_true false = refl

pub notes_at : {X : Type 0} (s a b : NameSet) (f : List ℕ → X → Bool) (x y : X) → x ≡ y → Notes s a b (λ n. f n x) → Notes s a b (λ n. f n y)
notes_at s a b f x y e noted = λ n. noted n ∙ ap (λ x. (f n x && not (has s n)) || has a n) e

-- the first thing of which something is noted
pub first_noted : (s a b : NameSet) (f : List ℕ → Bool) → ((name : List ℕ) → has s name ≡ false) → ((name : List ℕ) → has a name ≡ false) → Notes s a b f → (name : List ℕ) → has b name ≡ f name
first_noted s a b f none first noted name = all_noted s a b f none noted name ∙ ap (λ h. f name || h) (first name) ∙ or_false (f name)
