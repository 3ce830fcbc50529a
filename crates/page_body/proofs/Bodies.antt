-- The marks of a page, and what is done for its parts.
use Rattle.std.proofs.Common.{◌≡◌, ℕ, suc, ◌<◌, Bool, true, false, eqb, ◌&&◌, not, List, [], ◌∷◌, ◌++◌, length, map, reverse, Option, Some, None, refl, sym, ap, ◌∙◌, subst, append_assoc, arith}
use Rattle.std.proofs.lemmas.Bool.Decides.{nat_tests}
use Rattle.std.proofs.lemmas.List.{reverse-append}
use Rattle.acts.specs.Vars.{Vars}
use Rattle.acts.specs.Act.{Done, Write, ◌>>=◌, settled}
use Rattle.ngx_variables.specs.declared.request.Main.{Main}
use Rattle.ssi_text.specs.declared.part.Part.{Part}
use Rattle.ssi_text.specs.Marks.{Mark, Byte, Other, marks, part_marks}
use Rattle.family_meaning.specs.request_meaning.Serving.{World, Serving, Answer}
use Rattle.family_meaning.specs.request_meaning.Documents.{Doc}
use Rattle.family_meaning.specs.request_meaning.Bodies.{body, mark, part}
use Rattle.ssi_exec.specs.declared.document.Served.{Served}
use Rattle.ssi_exec.specs.declared.document.Served.TheVariants as served
use Rattle.ssi_exec.specs.Scenes.{bytes_then, each_written, own_text, served_act, written}
use Rattle.page_body.specs.declared.doing.Doing.{Doing}
use Rattle.page_body.specs.declared.doing.Doing.TheVariants.{Nothing, Writes, Includes, Captures, NeedsMore, Over}
use Rattle.page_body.specs.Reading.{ReadsTo, Writing}
use Rattle.page_body.specs.Reading.ReadsTo.{Rests}
use Rattle.page_body.specs.Reading.Writing.{Whole, Piece}
use Rattle.page_body.specs.Pages.{Does, asks, captured_then, doing_seen, marks_rest, served_then, stop_of, text_then}
use Rattle.page_body.proofs.Acts.{NoPuts, bind_in_turn, reads_bind, reads_on, reads_settled}
use Rattle.page_body.proofs.Alone.{alone_part}

-- ---- text

-- what is written byte by byte, and then goes on
pub each_bound : {A B : Type 0} (text : List ℕ) (m : Serving A) (k : A → Serving B) → (each_written text m >>= k) ≡ each_written text (m >>= k)
unfolding each_written ◌>>=◌
each_bound [] m k = refl
each_bound (b ∷ text) m k = ap (λ m. Write (b ∷ []) m) (each_bound text m k)

pub bytes_bound : {A B : Type 0} (live : Bool) (text : List ℕ) (m : Serving A) (k : A → Serving B) → (bytes_then live text m >>= k) ≡ bytes_then live text (m >>= k)
bytes_bound true text m k = each_bound text m k
bytes_bound false text m k = refl

each_writes : {A : Type 0} (b : ℕ) (text : List ℕ) (m : Serving A) → Writing A (b ∷ text) (each_written (b ∷ text) m) m
unfolding each_written
each_writes b [] m = Whole
each_writes b (c ∷ text) m = Piece {piece = b ∷ []} (each_writes c text m)

no_text : eqb 0 0 ≡ false → ⊥
no_text e = cc

pub some_is_written : {A : Type 0} (live : Bool) (text : List ℕ) (m : Serving A) → live ≡ true → eqb (length text) 0 ≡ false → Writing A text (bytes_then live text m) m
some_is_written true [] m e h = absurd (no_text h)
some_is_written true (b ∷ text) m e h = each_writes b text m
some_is_written false text m e h = cc

some_text : (n : ℕ) → not (eqb (suc n) 0) ≡ false → ⊥
some_text n e = grind (arith, nat_tests)

pub nothing_is_written : {A : Type 0} (vars : Vars) (live : Bool) (text : List ℕ) (m : Serving A) → (live && not (eqb (length text) 0)) ≡ false → ReadsTo A vars (bytes_then live text m) m
unfolding each_written
nothing_is_written vars true [] m h = Rests
nothing_is_written vars true (b ∷ text) m h = absurd (some_text (length text) h)
nothing_is_written vars false text m h = Rests

-- ---- parts

other_first : (w : World) (answer : Answer) (doc : Doc) (p : Part) (rest : List Mark) → marks_rest w answer doc (Other p ∷ rest) ≡ (part w doc p >>= λ d. marks_rest w answer d rest)
unfolding body mark
other_first w answer doc p rest = bind_in_turn (part w doc p) (λ d. body w d rest) (λ _. Done answer)

-- what is done after some reads
pub does_behind : (main : Main) (vars : Vars) (doing : Doing) (first before after : Serving Answer) (captures : List ℕ → List ℕ → Serving Answer)
    → stop_of doing ≡ None → ReadsTo Answer vars first before → Does main vars doing before after captures → Does main vars doing first after captures
does_behind main vars Nothing first before after captures e h d = reads_on h d
does_behind main vars (Writes text) first before after captures e h d = (d.0, reads_on h d.1, d.2)
does_behind main vars (Includes child) first before after captures e h d = reads_on h d
does_behind main vars (Captures name child) first before after captures e h d = reads_on h d
does_behind main vars NeedsMore first before after captures e h d = cc
does_behind main vars Over first before after captures e h d = cc

-- what is served is done
served_does : (vars : Vars) (p : Part) (served : Served) (doc : Doc) (k : Doc → Serving Answer) → Does doc.main vars (doing_seen p served) (served_then p served doc k) (k doc) (captured_then doc k)
unfolding ◌>>=◌
served_does vars p served.Nothing doc k = Rests
served_does vars p served.Same doc k = (Write (own_text p) (k doc), Rests, Whole)
served_does vars p (served.Text text) doc k = (Write text (k doc), Rests, Whole)
served_does vars p (served.Includes child) doc k = Rests
served_does vars p (served.Captures name child) doc k = Rests

pub served_goes_on : (p : Part) (served : Served) → stop_of (doing_seen p served) ≡ None
served_goes_on p served.Nothing = refl
served_goes_on p served.Same = refl
served_goes_on p (served.Text text) = refl
served_goes_on p (served.Includes child) = refl
served_goes_on p (served.Captures name child) = refl

a_level : (left n : ℕ) → left ≡ suc n → 0 < left
a_level left n e = omega arith

by_level : (P : Type 0) (p : Part) (served : Served) (doc : Doc) → NoPuts P (served_act p served doc) → asks (doing_seen p served) ≡ true → P
unfolding ◌>>=◌
by_level P p served.Nothing doc h e = cc
by_level P p served.Same doc h e = cc
by_level P p (served.Text text) doc h e = cc
by_level P p (served.Includes child) doc h e = h
by_level P p (served.Captures name child) doc h e = h

-- a subrequest is asked for where a level is left
pub other_asks : (w : World) (vars : Vars) (p : Part) (served : Served) (old new : Doc) → settled (part w old p) vars ≡ (served_act p served new, vars) → asks (doing_seen p served) ≡ true → 0 < old.left
other_asks w vars p served old new e h =
    by_level (0 < old.left) p served new (reads_settled (0 < old.left) vars (part w old p) (served_act p served new) (alone_part w (0 < old.left) old.left (a_level old.left) old p refl) e).1 h

-- a part that is no text
pub other_does : (w : World) (answer : Answer) (vars : Vars) (p : Part) (served : Served) (old new : Doc) (rest : List Mark) → settled (part w old p) vars ≡ (served_act p served new, vars) →
    Does new.main vars (doing_seen p served) (marks_rest w answer old (Other p ∷ rest)) (marks_rest w answer new rest) (captured_then new (λ d. marks_rest w answer d rest))
other_does w answer vars p served old new rest e =
    let k : Doc → Serving Answer = λ d. marks_rest w answer d rest in
    let doing = doing_seen p served in
    let reads = reads_bind k (reads_settled (0 < old.left) vars (part w old p) (served_act p served new) (alone_part w (0 < old.left) old.left (a_level old.left) old p refl) e).0 in
    subst (λ (m : Serving Answer). Does new.main vars doing m (k new) (captured_then new k)) (sym (other_first w answer old p rest))
    (does_behind new.main vars doing (part w old p >>= k) (served_then p served new k) (k new) (captured_then new k) (served_goes_on p served) reads (served_does vars p served new k))

-- a text
pub text_does : (w : World) (answer : Answer) (main : Main) (vars : Vars) (doing : Doing) (live : Bool) (text : List ℕ) (old new : Doc) (rest : List Mark) (captures : List ℕ → List ℕ → Serving Answer)
    → body w old (map Byte text ++ rest) ≡ bytes_then live text (body w new rest)
    → ((act : Serving Answer) → Does main vars doing (bytes_then live text act) act captures)
    → Does main vars doing (marks_rest w answer old (map Byte text ++ rest)) (marks_rest w answer new rest) captures
text_does w answer main vars doing live text old new rest captures e h =
    subst (λ (m : Serving Answer). Does main vars doing m (marks_rest w answer new rest) captures)
    (sym (ap (λ (m : Serving (Unit {0})). m >>= λ _. Done answer) e ∙ bytes_bound live text (body w new rest) (λ _. Done answer)))
    (h (marks_rest w answer new rest))

-- ---- the parts that wait

pub taken_first : (items rest : List Part) (p : Part) (more : List Mark) → items ≡ rest ++ p ∷ [] → marks (reverse items) ++ more ≡ part_marks p ++ (marks (reverse rest) ++ more)
taken_first items rest p more e =
    ap (λ (ps : List Part). marks ps ++ more) (ap reverse e ∙ reverse-append rest (p ∷ []))
    ∙ append_assoc (part_marks p) (marks (reverse rest)) more

-- ---- a body that is captured

written_then : (text : Option (List ℕ)) (new : Doc) (k : Doc → Serving Answer) → (written text new >>= k) ≡ text_then text (k new)
unfolding ◌>>=◌
written_then None new k = refl
written_then (Some text) new k = refl

pub captured_is : (act : Serving Doc) (text : Option (List ℕ)) (new : Doc) (k : Doc → Serving Answer) → act ≡ written text new → (act >>= k) ≡ text_then text (k new)
captured_is act text new k e = ap (λ m. m >>= k) e ∙ written_then text new k
