-- Acts, and what they read and write.
use Rattle.std.proofs.Common.{◌≡◌, ℕ, Bool, true, false, cond, List, Option, refl, ap, subst}
use mathlib.Core.Path.{fun_ext}
use Rattle.acts.specs.Vars.{Vars, look}
use Rattle.acts.specs.Act.{Done, Get, Put, Stat, Call, Write, Inner, ◌>>=◌, settled}
use Rattle.family_meaning.specs.request_meaning.Serving.{Serving, Child, Reply}
use Rattle.page_body.specs.Reading.{ReadsTo, Writing, ReadingSettles, WritingSettles}
use Rattle.page_body.specs.Reading.ReadsTo.{Rests, Reads}
use Rattle.page_body.specs.Reading.Writing.{Whole, Piece}

-- ---- one act and then another, and then a third

pub bind_in_turn : {A B C : Type 0} (m : Serving A) (f : A → Serving B) (g : B → Serving C) → ((m >>= f) >>= g) ≡ (m >>= λ a. f a >>= g)
unfolding ◌>>=◌
bind_in_turn (Done a) f g = refl
bind_in_turn (Get name k) f g = ap (λ k. Get name k) (fun_ext (λ v. bind_in_turn (k v) f g))
bind_in_turn (Put name value m) f g = ap (λ m. Put name value m) (bind_in_turn m f g)
bind_in_turn (Stat path k) f g = ap (λ k. Stat path k) (fun_ext (λ item. bind_in_turn (k item) f g))
bind_in_turn (Call child k) f g = ap (λ k. Call child k) (fun_ext (λ reply. bind_in_turn (k reply) f g))
bind_in_turn (Write bytes m) f g = ap (λ m. Write bytes m) (bind_in_turn m f g)
bind_in_turn (Inner child m) f g = ap (λ m. Inner child m) (bind_in_turn m f g)

-- ---- reads

pub reads_bind : {A B : Type 0} {vars : Vars} {m n : Serving A} (k : A → Serving B) → ReadsTo A vars m n → ReadsTo B vars (m >>= k) (n >>= k)
unfolding ◌>>=◌
reads_bind k Rests = Rests
reads_bind k (Reads h) = Reads (reads_bind k h)

reading_settles_by : {A : Type 0} (vars : Vars) {m n : Serving A} → ReadsTo A vars m n → settled m vars ≡ settled n vars
unfolding settled
reading_settles_by vars Rests = refl
reading_settles_by vars (Reads h) = reading_settles_by vars h

pub reading_settles : {A : Type 0} → ReadingSettles A
reading_settles m n vars h = reading_settles_by vars h

writing_settles_by : {A : Type 0} (vars : Vars) {text : List ℕ} {m n : Serving A} → Writing A text m n → settled m vars ≡ (m, vars)
unfolding settled
writing_settles_by vars Whole = refl
writing_settles_by vars (Piece h) = refl

pub writing_settles : {A : Type 0} → WritingSettles A
writing_settles text m n vars h = writing_settles_by vars h

-- ---- acts that begin with reads alone

-- no variable is written before the first act that others may come between, and of that one this is so, where it asks for a
-- subrequest
abbrev pub NoPuts : (P : Type 0) {A : Type 0} → Serving A → Type 0
NoPuts P (Done a) = Unit {0}
NoPuts P (Get name k) = (value : Option (List ℕ)) → NoPuts P (k value)
NoPuts P (Put name value m) = ⊥
NoPuts P (Stat path k) = Unit {0}
NoPuts P (Call child k) = P
NoPuts P (Write bytes m) = Unit {0}
NoPuts P (Inner child m) = P

pub record IsAlone (P : Type 0) {A : Type 0} (m : Serving A) : Type 0 where
  pub reads : NoPuts P m

reads_all : (P : Type 0) {A : Type 0} (vars : Vars) (m : Serving A) → NoPuts P m → ReadsTo A vars m (settled m vars).0 × NoPuts P (settled m vars).0
unfolding settled
reads_all P vars (Done a) h = (Rests, tt)
reads_all P vars (Get name k) h = let r = reads_all P vars (k (look vars name)) (h (look vars name)) in (Reads r.0, r.1)
reads_all P vars (Put name value m) h = absurd h
reads_all P vars (Stat path k) h = (Rests, tt)
reads_all P vars (Call child k) h = (Rests, h)
reads_all P vars (Write bytes m) h = (Rests, tt)
reads_all P vars (Inner child m) h = (Rests, h)

-- such an act reads all that it settles by
pub reads_settled : (P : Type 0) {A : Type 0} (vars : Vars) (m n : Serving A) → IsAlone P m → settled m vars ≡ (n, vars) → ReadsTo A vars m n × NoPuts P n
reads_settled P {A} vars m n h e = subst (λ (s : Serving A × Vars). ReadsTo A vars m s.0 × NoPuts P s.0) e (reads_all P vars m h.reads)

puts_bind : (P : Type 0) {A B : Type 0} (m : Serving A) (k : A → Serving B) → NoPuts P m → ((a : A) → NoPuts P (k a)) → NoPuts P (m >>= k)
unfolding ◌>>=◌
puts_bind P (Done a) k h f = f a
puts_bind P (Get name g) k h f = λ v. puts_bind P (g v) k (h v) f
puts_bind P (Put name value m) k h f = h
puts_bind P (Stat path g) k h f = tt
puts_bind P (Call child g) k h f = h
puts_bind P (Write bytes m) k h f = tt
puts_bind P (Inner child m) k h f = h

module _ {P : Type 0} where
  pub alone_done : {A : Type 0} {a : A} → IsAlone P (Done a)
  alone_done = record { reads = tt }

  pub alone_get : {A : Type 0} {name : List ℕ} {k : Option (List ℕ) → Serving A} → ((v : Option (List ℕ)) → IsAlone P (k v)) → IsAlone P (Get name k)
  alone_get h = record { reads = λ v. (h v).reads }

  pub alone_write : {A : Type 0} {bytes : List ℕ} {m : Serving A} → IsAlone P (Write bytes m)
  alone_write = record { reads = tt }

  pub alone_inner : {A : Type 0} {child : Child} {m : Serving A} → P → IsAlone P (Inner child m)
  alone_inner p = record { reads = p }

  pub alone_bind : {A B : Type 0} {m : Serving A} {k : A → Serving B} → IsAlone P m → ((a : A) → IsAlone P (k a)) → IsAlone P (m >>= k)
  alone_bind {A} {B} {m} {k} h f = record { reads = puts_bind P m k h.reads (λ a. (f a).reads) }

  pub alone_asks : {A : Type 0} (child : Child) (k : Reply → Serving A) → P → IsAlone P (Call child (λ reply. Done reply) >>= k)
  unfolding ◌>>=◌
  alone_asks child k p = record { reads = p }

  pub choice : {A : Type 0} (b : Bool) (m n : Serving A) → IsAlone P m → IsAlone P n → IsAlone P (cond b m n)
  choice true m n h g = h
  choice false m n h g = g

pub reads_on : {A : Type 0} {vars : Vars} {m n o : Serving A} → ReadsTo A vars m n → ReadsTo A vars n o → ReadsTo A vars m o
reads_on Rests g = g
reads_on (Reads h) g = Reads (reads_on h g)
