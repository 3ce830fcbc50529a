-- What a call of `take` says, from the place that it ends at.
use Rattle.std.proofs.Common.{◌≡◌, ℕ, ◌+◌, ◌≤◌, List, [], ◌++◌, length, drop, sym, refl, ap, ◌∙◌, subst, arith}
use Rattle.std.proofs.lemmas.List.{append-nil, drop_all}
use Rattle.body_frame.specs.Outcome.{BodyOutcome, Whole, Short, Broken, behind, step_of, used_of}
use Rattle.body_frame.specs.declared.step.BodyStep.{BodyStep}
use Rattle.body_frame.specs.declared.step.BodyStep.TheVariants as steps
use Rattle.body_frame.specs.declared.place.Position.{Position}
use Rattle.body_frame.specs.declared.state.BodyState.{BodyState}
use Rattle.body_frame.specs.Position.{stops_at, rest_at, Skips}
use Rattle.body_frame.specs.State.{rest_body, Takes}
use Rattle.body_frame.proofs.RunLemmas.{skips_more, rest_at-nil, rest_at_whole, rest_at_broken, whole_within}

-- how many bytes a call says that it used, where u led to its end
abbrev pub counted : BodyOutcome → ℕ → ℕ → ℕ
counted (Whole n) u len = u
counted Short u len = len
counted Broken u len = len

abbrev pub at_place : Position → BodyState
at_place p = record { place = p }

-- the outcome of the bytes alone
alone : (p q : Position) (bytes : List ℕ) (u : ℕ) → Skips p bytes u q → rest_at p bytes ≡ behind u (rest_at q (drop u bytes))
alone p q bytes u h = ap (rest_at p) (sym (append-nil bytes)) ∙ h [] ∙ ap (λ t. behind u (rest_at q t)) (append-nil (drop u bytes))

taken_by : (p q : Position) (bytes : List ℕ) (u count : ℕ) (told : BodyStep) (o : BodyOutcome)
    → stops_at q ≡ o → Skips p bytes u q → u ≤ length bytes → (stops_at q ≡ Short → u ≡ length bytes)
    → told ≡ step_of o → count ≡ counted o u (length bytes) → Takes (at_place p) bytes count told (at_place q)
unfolding rest_body
taken_by p q bytes u count told (Whole n) e h within short step used =
    let none : n ≡ 0 = omega (arith, whole_within q [] n (rest_at-nil q ∙ e)) in
    let ends : stops_at q ≡ Whole 0 = e ∙ ap Whole none in
    let sum : u + 0 ≡ u = omega arith in
    let whole : rest_at p bytes ≡ Whole u = alone p q bytes u h ∙ ap (behind u) (rest_at_whole q (drop u bytes) 0 ends) ∙ ap Whole sum in
    record {
      used = used ∙ ap (λ x. used_of x bytes) (sym whole);
      step = step ∙ ap step_of (sym whole);
      rest = subst (λ k. (more : List ℕ) → rest_at p (bytes ++ more) ≡ behind k (rest_at q (drop k bytes ++ more))) (sym used) h;
      ended = λ k f more. rest_at_whole q more 0 ends;
      broken = λ f. let g : Whole u ≡ Broken = sym whole ∙ f in cc;
    }
taken_by p q bytes u count told Short e h within short step used =
    let all : u ≡ length bytes = short e in
    let nothing : drop u bytes ≡ [] = drop_all u bytes (omega arith) in
    let is_short : rest_at p bytes ≡ Short = alone p q bytes u h ∙ ap (λ t. behind u (rest_at q t)) nothing ∙ ap (behind u) (rest_at-nil q ∙ e) in
    record {
      used = used ∙ ap (λ x. used_of x bytes) (sym is_short);
      step = step ∙ ap step_of (sym is_short);
      rest = subst (λ k. (more : List ℕ) → rest_at p (bytes ++ more) ≡ behind k (rest_at q (drop k bytes ++ more))) (all ∙ sym used) h;
      ended = λ k f more. let g : Short ≡ Whole k = sym is_short ∙ f in cc;
      broken = λ f. let g : Short ≡ Broken = sym is_short ∙ f in cc;
    }
taken_by p q bytes u count told Broken e h within short step used =
    let is_broken : rest_at p bytes ≡ Broken = alone p q bytes u h ∙ ap (behind u) (rest_at_broken q (drop u bytes) e) in
    record {
      used = used ∙ ap (λ x. used_of x bytes) (sym is_broken);
      step = step ∙ ap step_of (sym is_broken);
      rest = λ more. h more ∙ ap (behind u) (rest_at_broken q (drop u bytes ++ more) e) ∙ ap (behind count) (sym (rest_at_broken q (drop count bytes ++ more) e));
      ended = λ k f more. let g : Broken ≡ Whole k = sym is_broken ∙ f in cc;
      broken = λ f more. rest_at_broken q more e;
    }

pub taken : (p q : Position) (bytes : List ℕ) (u count : ℕ) (told : BodyStep)
    → Skips p bytes u q → u ≤ length bytes → (stops_at q ≡ Short → u ≡ length bytes)
    → told ≡ step_of (stops_at q) → count ≡ counted (stops_at q) u (length bytes) → Takes (at_place p) bytes count told (at_place q)
taken p q bytes u count told h within short step used = taken_by p q bytes u count told (stops_at q) refl h within short step used

-- a last run that is empty changes no count
pub skips_end : (p q r : Position) (bytes rest : List ℕ) (u n : ℕ) → Skips p bytes u q → rest ≡ drop u bytes → n ≡ 0 → Skips q rest n r → Skips p bytes u r
skips_end p q r bytes rest u n first left none last =
    let second : Skips q (drop u bytes) n r = subst (λ t. Skips q t n r) left last in
    let sum : u + n ≡ u = omega arith in
    subst (λ k. Skips p bytes k r) sum (skips_more p q r bytes u n first second)

pub counted_ended : (o : BodyOutcome) (told : BodyStep) (u len : ℕ) → told ≡ step_of o → told ≡ steps.Ended → counted o u len ≡ u
counted_ended (Whole n) told u len e f = refl
counted_ended Short told u len e f = let g : steps.More ≡ steps.Ended = sym e ∙ f in cc
counted_ended Broken told u len e f = let g : steps.Broken ≡ steps.Ended = sym e ∙ f in cc

pub counted_all : (o : BodyOutcome) (told : BodyStep) (u len : ℕ) → told ≡ step_of o → (told ≡ steps.Ended → ⊥) → counted o u len ≡ len
counted_all (Whole n) told u len e f = absurd (f e)
counted_all Short told u len e f = refl
counted_all Broken told u len e f = refl
