-- The steps of the core, by the event.
use Rattle.std.proofs.Common.{◌≡◌, ◌≢◌, ◌⊎◌, inl, inr, ap, ◌∙◌, arith, ℕ, min, Bool, true, false, cond, eqb, refl, sym, subst}
use Rattle.std.proofs.lemmas.Bool.{cases_eq}
use Rattle.std.proofs.lemmas.Bool.Decides.{nat_tests}
use Rattle.http_types.specs.declared.words.Addr.{Addr}
use Rattle.ngx_outside.specs.Views.{ConnView, Course, Start, StepsOwn, OneSteps, Steps, OpensIf, CountsRefused, TakesNone, IsSound, now_after, ended_after, kept_moment, nobody}
use Rattle.ngx_outside.specs.declared.event.Event.{Event}
use Rattle.ngx_outside.specs.declared.event.Event.TheVariants as ev
use Rattle.ngx_outside.specs.declared.event.StepAnswer.{StepAnswer}
use Rattle.ngx_outside.specs.declared.event.StepAnswer.TheVariants.{Done, Skipped, OutOfMemory}
use Rattle.http_connection.specs.Conn.{ended_by}
use Rattle.connection_core.specs.Table.{is_own, event_conn, Counted}

own_steps : (fresh : Addr → Addr → Course) (now : Start) (e : Event) (a : StepAnswer) (old new : ℕ → ConnView) → is_own e ≡ true →
    OneSteps (event_conn e) (StepsOwn nobody.course now e a) old new → Steps fresh now e a old new
own_steps fresh now (ev.Opened conn local peer) a old new o s = cc
own_steps fresh now (ev.Arrived conn bytes) a old new o s = s
own_steps fresh now (ev.Ended conn) a old new o s = s
own_steps fresh now (ev.Wrote conn count) a old new o s = s
own_steps fresh now (ev.LinkFailed conn) a old new o s = s
own_steps fresh now (ev.FileDone conn node answer) a old new o s = s
own_steps fresh now (ev.JobFailed conn node) a old new o s = s
own_steps fresh now (ev.Run conn node) a old new o s = s
own_steps fresh now (ev.Tick moment) a old new o s = cc
own_steps fresh now (ev.Tree to) a old new o s = cc
own_steps fresh now (ev.Gone conn) a old new o s = cc

pub steps_own : (fresh : Addr → Addr → Course) (now : Start) (e : Event) (a : StepAnswer) (c : ℕ) (old new : ℕ → ConnView) → is_own e ≡ true → event_conn e ≡ c →
    OneSteps c (StepsOwn nobody.course now e a) old new → Steps fresh now e a old new
steps_own fresh now e a c old new o n s = own_steps fresh now e a old new o (subst (λ k. OneSteps k (StepsOwn nobody.course now e a) old new) (sym n) s)

pub opens_own : (opens : ℕ → Addr → Bool) (e : Event) (a : StepAnswer) → is_own e ≡ true → OpensIf opens e a
opens_own opens (ev.Opened conn local peer) a o = cc
opens_own opens (ev.Arrived conn bytes) a o = tt
opens_own opens (ev.Ended conn) a o = tt
opens_own opens (ev.Wrote conn count) a o = tt
opens_own opens (ev.LinkFailed conn) a o = tt
opens_own opens (ev.FileDone conn node answer) a o = tt
opens_own opens (ev.JobFailed conn node) a o = tt
opens_own opens (ev.Run conn node) a o = tt
opens_own opens (ev.Tick moment) a o = tt
opens_own opens (ev.Tree to) a o = tt
opens_own opens (ev.Gone conn) a o = tt

pub now_own : (now : Start) (e : Event) (a : StepAnswer) → is_own e ≡ true → now ≡ now_after now e a
now_own now (ev.Opened conn local peer) a o = refl
now_own now (ev.Arrived conn bytes) a o = refl
now_own now (ev.Ended conn) a o = refl
now_own now (ev.Wrote conn count) a o = refl
now_own now (ev.LinkFailed conn) a o = refl
now_own now (ev.FileDone conn node answer) a o = refl
now_own now (ev.JobFailed conn node) a o = refl
now_own now (ev.Run conn node) a o = refl
now_own now (ev.Tick moment) a o = cc
now_own now (ev.Tree to) a o = cc
now_own now (ev.Gone conn) a o = refl

not_opening : (e : Event) (a : StepAnswer) (old new : ℕ) → is_own e ≡ true → Counted a old new → CountsRefused e a old new
not_opening (ev.Opened conn local peer) a old new o h = cc
not_opening e (Done taken) old new o h = h
not_opening e Skipped old new o h = h
not_opening e OutOfMemory old new o h = h

pub refused_own : (e : Event) (a : StepAnswer) (old new : ℕ) → is_own e ≡ true → Counted a old new → CountsRefused e a old new
refused_own e a old new o h = not_opening e a old new o h

-- the clock's last moment
pub kept_is : (n : ℕ) → min n 253402300799 ≡ kept_moment n
unfolding kept_moment
kept_is n = refl

-- closing is never refused
pub gone_counts : (course : Course) (now : Start) (c : ℕ) (a : StepAnswer) (n : ℕ) (old new : ℕ → ConnView) → OneSteps c (StepsOwn course now (ev.Gone c) a) old new → CountsRefused (ev.Gone c) a n n
gone_counts course now c (Done taken) n old new s = refl
gone_counts course now c Skipped n old new s = refl
gone_counts course now c OutOfMemory n old new s = absurd s.own

same_number : (c : ℕ) → eqb c c ≡ true
same_number c = grind (arith, nat_tests)

other_number : (c q : ℕ) → q ≢ c → eqb q c ≡ false
other_number c q ne = grind (arith, nat_tests)

-- an event of a connection ends no other's input
elsewhere_ended : (e : Event) (a : StepAnswer) (q : ℕ) (b : Bool) → is_own e ≡ true → q ≢ event_conn e → b ≡ ended_after e a q b
elsewhere_ended (ev.Opened conn local peer) a q b o ne = cc
elsewhere_ended (ev.Arrived conn bytes) a q b o ne = refl
elsewhere_ended (ev.Ended conn) (Done taken) q b o ne = sym (ap (λ t. cond t true b) (other_number conn q ne))
elsewhere_ended (ev.Ended conn) Skipped q b o ne = refl
elsewhere_ended (ev.Ended conn) OutOfMemory q b o ne = refl
elsewhere_ended (ev.Wrote conn count) a q b o ne = refl
elsewhere_ended (ev.LinkFailed conn) a q b o ne = refl
elsewhere_ended (ev.FileDone conn node answer) a q b o ne = refl
elsewhere_ended (ev.JobFailed conn node) a q b o ne = refl
elsewhere_ended (ev.Run conn node) a q b o ne = refl
elsewhere_ended (ev.Tick moment) a q b o ne = cc
elsewhere_ended (ev.Tree to) a q b o ne = cc
elsewhere_ended (ev.Gone conn) a q b o ne = cc

-- and its own as its end does
here_ended : (e : Event) (a : StepAnswer) (b : Bool) → is_own e ≡ true → ended_by e a b ≡ ended_after e a (event_conn e) b
here_ended (ev.Opened conn local peer) a b o = cc
here_ended (ev.Arrived conn bytes) a b o = refl
here_ended (ev.Ended conn) (Done taken) b o = sym (ap (λ t. cond t true b) (same_number conn))
here_ended (ev.Ended conn) Skipped b o = refl
here_ended (ev.Ended conn) OutOfMemory b o = refl
here_ended (ev.Wrote conn count) a b o = refl
here_ended (ev.LinkFailed conn) a b o = refl
here_ended (ev.FileDone conn node answer) a b o = refl
here_ended (ev.JobFailed conn node) a b o = refl
here_ended (ev.Run conn node) a b o = refl
here_ended (ev.Tick moment) a b o = cc
here_ended (ev.Tree to) a b o = cc
here_ended (ev.Gone conn) a b o = cc

pub ended_own : (course : Course) (now : Start) (e : Event) (a : StepAnswer) (c : ℕ) (old new : ℕ → ConnView) → is_own e ≡ true → event_conn e ≡ c →
    OneSteps c (StepsOwn course now e a) old new → (new c).ended ≡ ended_by e a (old c).ended → (q : ℕ) → (new q).ended ≡ ended_after e a q (old q).ended
ended_own course now e a c old new o n s own q = by (cases_eq q c)
  where
    by : (q ≡ c) ⊎ (q ≡ c → ⊥) → (new q).ended ≡ ended_after e a q (old q).ended
    by (inl is) =
        ap (λ k. (new k).ended) is ∙ own ∙ here_ended e a (old c).ended o ∙ ap (λ k. ended_after e a k (old c).ended) (n ∙ sym is) ∙ ap (λ k. ended_after e a q (old k).ended) (sym is)
    by (inr ne) = ap (λ (v : ConnView). v.ended) (s.others q ne) ∙ elsewhere_ended e a q (old q).ended o (λ is. ne (is ∙ n))

-- an opening ends no input
pub ended_opened : (course : Course) (now : Start) (c : ℕ) (local peer : Addr) (a : StepAnswer) (old new : ℕ → ConnView) → ((q : ℕ) → IsSound (old q)) →
    OneSteps c (StepsOwn course now (ev.Opened c local peer) a) old new → (q : ℕ) → (new q).ended ≡ ended_after (ev.Opened c local peer) a q (old q).ended
ended_opened course now c local peer a old new sound s q = by (cases_eq q c)
  where
    at : (a : StepAnswer) → StepsOwn course now (ev.Opened c local peer) a (old c) (new c) → (new c).ended ≡ (old c).ended
    at (Done taken) f = f.1.ended ∙ sym (ap (λ (v : ConnView). v.ended) ((sound c).absent f.0))
    at Skipped f = ap (λ (v : ConnView). v.ended) f
    at OutOfMemory f = ap (λ (v : ConnView). v.ended) f

    by : (q ≡ c) ⊎ (q ≡ c → ⊥) → (new q).ended ≡ (old q).ended
    by (inl is) = ap (λ k. (new k).ended) is ∙ at a s.own ∙ ap (λ k. (old k).ended) (sym is)
    by (inr ne) = ap (λ (v : ConnView). v.ended) (s.others q ne)

-- a connection that is let go has no input
pub ended_gone : (course : Course) (now : Start) (c : ℕ) (a : StepAnswer) (old new : ℕ → ConnView) →
    OneSteps c (StepsOwn course now (ev.Gone c) a) old new → (q : ℕ) → (new q).ended ≡ ended_after (ev.Gone c) a q (old q).ended
ended_gone course now c a old new s q = by a s.own (cases_eq q c)
  where
    by : (a : StepAnswer) → StepsOwn course now (ev.Gone c) a (old c) (new c) → (q ≡ c) ⊎ (q ≡ c → ⊥) → (new q).ended ≡ ended_after (ev.Gone c) a q (old q).ended
    by (Done taken) f (inl is) = ap (λ k. (new k).ended) is ∙ ap (λ (v : ConnView). v.ended) f.1 ∙ sym (ap (λ t. cond t false (old q).ended) (ap (λ k. eqb k c) is ∙ same_number c))
    by (Done taken) f (inr ne) = ap (λ (v : ConnView). v.ended) (s.others q ne) ∙ sym (ap (λ t. cond t false (old q).ended) (other_number c q ne))
    by Skipped f (inl is) = ap (λ k. (new k).ended) is ∙ ap (λ (v : ConnView). v.ended) f.same ∙ ap (λ k. (old k).ended) (sym is)
    by Skipped f (inr ne) = ap (λ (v : ConnView). v.ended) (s.others q ne)
    by OutOfMemory f is = absurd f

-- an event of a connection that isn't held takes nothing
pub skips_taken : (e : Event) → TakesNone e Skipped
skips_taken (ev.Opened conn local peer) = tt
skips_taken (ev.Arrived conn bytes) = tt
skips_taken (ev.Ended conn) = tt
skips_taken (ev.Wrote conn count) = tt
skips_taken (ev.LinkFailed conn) = tt
skips_taken (ev.FileDone conn node answer) = tt
skips_taken (ev.JobFailed conn node) = tt
skips_taken (ev.Run conn node) = tt
skips_taken (ev.Tick moment) = tt
skips_taken (ev.Tree to) = tt
skips_taken (ev.Gone conn) = tt

-- and ends nothing
pub skips_ended : (e : Event) (b : Bool) → b ≡ ended_by e Skipped b
skips_ended (ev.Opened conn local peer) b = refl
skips_ended (ev.Arrived conn bytes) b = refl
skips_ended (ev.Ended conn) b = refl
skips_ended (ev.Wrote conn count) b = refl
skips_ended (ev.LinkFailed conn) b = refl
skips_ended (ev.FileDone conn node answer) b = refl
skips_ended (ev.JobFailed conn node) b = refl
skips_ended (ev.Run conn node) b = refl
skips_ended (ev.Tick moment) b = refl
skips_ended (ev.Tree to) b = refl
skips_ended (ev.Gone conn) b = refl
