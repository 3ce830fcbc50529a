-- What the parser answers on whole lines is what reading them gives.
use Rattle.std.proofs.Common.{◌≡◌, ℕ, ◌<◌, ◌≤◌, true, List, [], ◌∷◌, ◌++◌, length, take, refl, sym, ap, ◌∙◌, subst, inl, inr, arith, length-append, append-nil, Result, Ok, Err}
use Rattle.std.specs.List.{flat_map, list_all}
use Rattle.std.proofs.lemmas.Bool.Decides.{nat_tests}
use Rattle.std.proofs.lemmas.List.{length-map, length-take-le}
use Rattle.httparse.specs.Grammar.{print_blank, RequestHead, ReadsRequest, HasNoRequest, NeverHasRequest, MayBecomeRequest, EndsInTarget, is_uri_byte}
use Rattle.httparse.specs.Spans.{IsRequestAt, IsRequestWithin, header_bytes, name_and_value}
use Rattle.httparse.specs.declared.spans.HeaderSpan.{HeaderSpan}
use Rattle.httparse.specs.declared.spans.RequestSpans.{RequestSpans}
use Rattle.httparse.specs.declared.Status.{Status}
use Rattle.httparse.specs.declared.Status.TheVariants.{Complete, Partial}
use Rattle.httparse.specs.declared.Error.{Error}
use Rattle.httparse.specs.declared.Error.TheVariants.{TooManyHeaders}
use Rattle.httparse.specs.Outcome.{IfComplete, OnPartial, OnInvalid}
use Rattle.req_head.specs.Lines.{print_line, lines, whole_lines}
use Rattle.req_head.specs.Reading.{Reading, Whole, Wrong, Short, read_request}
use Rattle.req_head.proofs.LineLemmas.{is_no_lf, lines-front, lines-append_none, whole_lines-is}
use Rattle.req_head.proofs.PartLemmas.{all_by, passes}
use Rattle.req_head.proofs.MeaningLemmas.{Means, meaning}

-- ---- whole lines do not end inside a target

pub length-whole_lines : (bytes : List ℕ) → length (whole_lines bytes) ≤ length bytes
length-whole_lines bytes =
    let f = lines-front bytes in
    omega (arith, ap length (whole_lines-is bytes), ap length f.1, length-append (flat_map print_line (lines bytes)) f.0)

whole_lines-append_none : (xs ys : List ℕ) → list_all is_no_lf ys ≡ true → whole_lines (xs ++ ys) ≡ whole_lines xs
whole_lines-append_none xs ys h = whole_lines-is (xs ++ ys) ∙ ap (flat_map print_line) (lines-append_none xs ys h) ∙ sym (whole_lines-is xs)

-- so no bytes without a line feed are at their end
no_tail : (text xs ys : List ℕ) → whole_lines text ≡ text → text ≡ xs ++ ys → 0 < length ys → list_all is_no_lf ys ≡ true → ⊥
no_tail text xs ys w e some h =
    let short : whole_lines xs ≡ xs ++ ys = sym (whole_lines-append_none xs ys h) ∙ ap whole_lines (sym e) ∙ w ∙ e in
    omega (arith, length-whole_lines xs, ap length short, length-append xs ys)

target_no_lf : (target : List ℕ) → list_all is_uri_byte target ≡ true → list_all is_no_lf (32 ∷ target) ≡ true
target_no_lf target h = all_by is_uri_byte is_no_lf (λ b t. grind (arith, nat_tests)) target h

not_in_target : (text : List ℕ) → whole_lines text ≡ text → EndsInTarget text → ⊥
not_in_target text w t =
    let target = t.2 in
    no_tail text (print_blank t.0 ++ t.1) (32 ∷ target) w t.5 (omega arith) (target_no_lf target (passes is_uri_byte target t.4))

-- ---- what the parser's refusals mean

none_now : (text : List ℕ) → NeverHasRequest text → HasNoRequest text
none_now text never h rest r = never [] h rest (subst (λ z. ReadsRequest z h rest) (sym (append-nil text)) r)

short_at : (text : List ℕ) (r : Reading RequestHead) → whole_lines text ≡ text → HasNoRequest text → MayBecomeRequest text → Means text r → r ≡ Short
short_at text (Whole h) w none may m = absurd (none h m.0 m.1)
short_at text Wrong w none may m =
    absurd (elim may as (λ _. ⊥) [ inl x ↦ subst NeverHasRequest w m.1 x.0 x.1 [] x.2 | inr t ↦ not_in_target text w t ])
short_at text Short w none may m = refl

pub short_from : (text : List ℕ) → whole_lines text ≡ text → HasNoRequest text → MayBecomeRequest text → read_request (lines text) ≡ Short
short_from text w none may = short_at text (read_request (lines text)) w none may (meaning text)

wrong_at : (text : List ℕ) (r : Reading RequestHead) → whole_lines text ≡ text → NeverHasRequest text → Means text r → r ≡ Wrong
wrong_at text (Whole h) w never m = absurd (none_now text never h m.0 m.1)
wrong_at text Wrong w never m = refl
wrong_at text Short w never m = absurd (never m.1.0 m.1.1 [] (subst (λ z. ReadsRequest (z ++ m.1.0) m.1.1 []) w m.1.2))

pub wrong_from : (text : List ℕ) → whole_lines text ≡ text → NeverHasRequest text → read_request (lines text) ≡ Wrong
wrong_from text w never = wrong_at text (read_request (lines text)) w never (meaning text)

-- ---- how many fields the spans show

pub count_is : (text : List ℕ) (slots : List HeaderSpan) (s : RequestSpans) (h : RequestHead) → IsRequestWithin text slots s → IsRequestAt text slots s h → length h.fields ≡ s.headers
count_is text slots s h w a =
    sym (length-map h.fields name_and_value) ∙ ap length (sym a.fields) ∙ length-map (take s.headers slots) (header_bytes text) ∙ length-take-le s.headers slots w.section.count_fits

-- ---- what a clause says at a nested pattern

pub complete_at : {A E : Type 0} (r : Result (Status A) E) (P : A → Type 0) (f : Status A) (a : A) → r ≡ Ok f → f ≡ Complete a → IfComplete r P → P a
complete_at r P f a e d h = subst (λ z. IfComplete z P) (e ∙ ap (λ z. Ok z) d) h

pub partial_at : {A E : Type 0} (r : Result (Status A) E) (P : Type 0) (f : Status A) → r ≡ Ok f → f ≡ Partial → OnPartial r P → P
partial_at r P f e d h = subst (λ z. OnPartial z P) (e ∙ ap (λ z. Ok z) d) h

pub invalid_at : {A : Type 0} (r : Result A Error) (P : Type 0) (x : Error) → r ≡ Err x → (x ≡ TooManyHeaders → ⊥) → OnInvalid r P → P
invalid_at r P x e other h = (subst (λ z. OnInvalid z P) e h) other
