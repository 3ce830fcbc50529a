-- The inside of a command, step by step.
use Rattle.std.proofs.Common.{◌≡◌, ℕ, zero, suc, ◌+◌, ◌-◌, ◌<◌, ◌≤◌, Bool, true, false, ◌&&◌, ◌||◌, ◌==◌, List, [], ◌∷◌, ◌++◌, Option, None, Some, length, get_or, take, drop, refl, sym, ap, ◌∙◌, arith, append_assoc, append-nil, length-drop, subst, IfSome, if◌then◌else◌}
use Rattle.std.proofs.lemmas.List.{drop_more, drop_all, drop-drop}
use Rattle.std.proofs.lemmas.Bool.{eq-eqb, ne_eqb}
use Rattle.std.specs.List.{prefix_len, list_any}
use Rattle.ssi_text.specs.declared.part.Param.{Param}
use Rattle.ssi_text.specs.declared.part.Part.TheVariants.{Bad}
use Rattle.ssi_text.specs.Commands.{is_quote, is_space, is_word, one_more, quoted, is_escape, unescaped, lowercase, assigned, param_at, with_first, params_within, params, command, made}
use Rattle.ssi_text.proofs.Scans.{add}

-- the closing quote

quoted_close : (q b : ℕ) (bs : List ℕ) → (b == q) ≡ true → quoted q (b ∷ bs) ≡ Some 1
unfolding quoted
quoted_close q b [] e = ap (λ t. if t then Some 1 else None) e
quoted_close q b (c ∷ bs) e = ap (λ t. if t then Some 1 else (if b == 92 then one_more (one_more (quoted q bs)) else one_more (quoted q (c ∷ bs)))) e

quoted_skip : (q b : ℕ) (bs : List ℕ) → (b == q) ≡ false → (b == 92) ≡ true → quoted q (b ∷ bs) ≡ one_more (one_more (quoted q (drop 1 bs)))
unfolding quoted
quoted_skip q b [] e f = ap (λ t. if t then Some 1 else None) e
quoted_skip q b (c ∷ bs) e f = ap (λ t. if t then Some 1 else (if b == 92 then one_more (one_more (quoted q bs)) else one_more (quoted q (c ∷ bs)))) e ∙ ap (λ t. if t then one_more (one_more (quoted q bs)) else one_more (quoted q (c ∷ bs))) f

quoted_on : (q b : ℕ) (bs : List ℕ) → (b == q) ≡ false → (b == 92) ≡ false → quoted q (b ∷ bs) ≡ one_more (quoted q bs)
unfolding quoted
quoted_on q b [] e f = ap (λ t. if t then Some 1 else None) e
quoted_on q b (c ∷ bs) e f = ap (λ t. if t then Some 1 else (if b == 92 then one_more (one_more (quoted q bs)) else one_more (quoted q (c ∷ bs)))) e ∙ ap (λ t. if t then one_more (one_more (quoted q bs)) else one_more (quoted q (c ∷ bs))) f

add_more : (i : ℕ) (o : Option ℕ) → add i (one_more o) ≡ add (i + 1) o
add_more i None = refl
add_more i (Some n) = ap Some (omega arith)

pub quoted-close : (q : ℕ) (bs : List ℕ) (i : ℕ) → i < length bs → get_or bs i 0 ≡ q → Some (i + 1) ≡ add i (quoted q (drop i bs))
quoted-close q bs i h e = sym (ap (λ z. add i (quoted q z)) (drop_more bs i 0 h) ∙ ap (add i) (quoted_close q (get_or bs i 0) (drop (i + 1) bs) (eq-eqb _ _ e)))

pub quoted-skip : (q : ℕ) (bs : List ℕ) (i : ℕ) → i < length bs → (get_or bs i 0 ≡ q → ⊥) → get_or bs i 0 ≡ 92 → add (i + 2) (quoted q (drop (i + 2) bs)) ≡ add i (quoted q (drop i bs))
quoted-skip q bs i h e f =
    let o = quoted q (drop (i + 2) bs) in
    ap (λ n. add n o) (let n : i + 2 ≡ (i + 1) + 1 = omega arith in n) ∙ sym (add_more (i + 1) o) ∙ sym (add_more i (one_more o))
    ∙ ap (λ z. add i (one_more (one_more (quoted q z)))) (ap (λ n. drop n bs) (let n : i + 2 ≡ (i + 1) + 1 = omega arith in n) ∙ sym (drop-drop 1 (i + 1) bs))
    ∙ sym (ap (λ z. add i (quoted q z)) (drop_more bs i 0 h) ∙ ap (add i) (quoted_skip q (get_or bs i 0) (drop (i + 1) bs) (ne_eqb _ _ e) (eq-eqb _ _ f)))

pub quoted-on : (q : ℕ) (bs : List ℕ) (i : ℕ) → i < length bs → (get_or bs i 0 ≡ q → ⊥) → (get_or bs i 0 ≡ 92 → ⊥) → add (i + 1) (quoted q (drop (i + 1) bs)) ≡ add i (quoted q (drop i bs))
quoted-on q bs i h e f =
    sym (add_more i (quoted q (drop (i + 1) bs)))
    ∙ sym (ap (λ z. add i (quoted q z)) (drop_more bs i 0 h) ∙ ap (add i) (quoted_on q (get_or bs i 0) (drop (i + 1) bs) (ne_eqb _ _ e) (ne_eqb _ _ f)))

pub quoted-past : (q : ℕ) (bs : List ℕ) (i : ℕ) → length bs ≤ i → None ≡ add i (quoted q (drop i bs))
unfolding quoted
quoted-past q bs i h = sym (ap (λ z. add i (quoted q z)) (drop_all i bs h))

-- escapes

escape-long : (bs : List ℕ) → is_escape bs ≡ true → 2 ≤ length bs
escape-long [] e = cc
escape-long (b ∷ []) e = cc
escape-long (b ∷ (c ∷ bs)) e = omega arith

pub escape-within : (bs : List ℕ) (i : ℕ) → is_escape (drop i bs) ≡ true → i + 1 < length bs
escape-within bs i e = omega (arith, escape-long (drop i bs) e, length-drop i bs)

escape_out : (b c : ℕ) (bs : List ℕ) → is_escape (b ∷ (c ∷ bs)) ≡ true → unescaped (b ∷ (c ∷ bs)) ≡ c ∷ unescaped bs
unfolding unescaped
escape_out b c bs e = ap (λ t. if t then c ∷ unescaped bs else b ∷ unescaped (c ∷ bs)) e

escape_none : (b : ℕ) (bs : List ℕ) → is_escape (b ∷ bs) ≡ false → unescaped (b ∷ bs) ≡ b ∷ unescaped bs
unfolding unescaped
escape_none b [] e = refl
escape_none b (c ∷ bs) e = ap (λ t. if t then c ∷ unescaped bs else b ∷ unescaped (c ∷ bs)) e

unescaped_end : unescaped [] ≡ []
unfolding unescaped
unescaped_end = refl

pub unescaped-out : (out bs all : List ℕ) (i : ℕ) → is_escape (drop i bs) ≡ true → out ++ unescaped (drop i bs) ≡ all → (out ++ get_or bs (i + 1) 0 ∷ []) ++ unescaped (drop (i + 2) bs) ≡ all
unescaped-out out bs all i e p =
    let h : i + 1 < length bs = escape-within bs i e in
    let first : i < length bs = omega arith in
    let cut : drop i bs ≡ get_or bs i 0 ∷ (get_or bs (i + 1) 0 ∷ drop (i + 2) bs) =
    drop_more bs i 0 first ∙ ap (λ z. get_or bs i 0 ∷ z) (drop_more bs (i + 1) 0 h) ∙ ap (λ n. get_or bs i 0 ∷ (get_or bs (i + 1) 0 ∷ drop n bs)) (let n : (i + 1) + 1 ≡ i + 2 = omega arith in n) in
    append_assoc out (get_or bs (i + 1) 0 ∷ []) (unescaped (drop (i + 2) bs))
    ∙ ap (λ z. out ++ z) (sym (ap unescaped cut ∙ escape_out (get_or bs i 0) (get_or bs (i + 1) 0) (drop (i + 2) bs) (ap is_escape (sym cut) ∙ e))) ∙ p

pub unescaped-plain : (out bs all : List ℕ) (i : ℕ) → i < length bs → is_escape (drop i bs) ≡ false → out ++ unescaped (drop i bs) ≡ all → (out ++ get_or bs i 0 ∷ []) ++ unescaped (drop (i + 1) bs) ≡ all
unescaped-plain out bs all i h e p =
    append_assoc out (get_or bs i 0 ∷ []) (unescaped (drop (i + 1) bs))
    ∙ ap (λ z. out ++ z) (sym (ap unescaped (drop_more bs i 0 h) ∙ escape_none (get_or bs i 0) (drop (i + 1) bs) (ap is_escape (sym (drop_more bs i 0 h)) ∙ e))) ∙ p

pub unescaped-past : (out bs all : List ℕ) (i : ℕ) → length bs ≤ i → out ++ unescaped (drop i bs) ≡ all → out ≡ all
unfolding unescaped
unescaped-past out bs all i h p = sym (append-nil out) ∙ ap (λ z. out ++ unescaped z) (sym (drop_all i bs h)) ∙ p

pub no_more : (x y : Bool) → (x || y) ≡ false → (x ≡ false) × (y ≡ false)
no_more true y e = cc
no_more false y e = (refl, e)

escape-no : (b : ℕ) (bs : List ℕ) → (b == 92) ≡ false → is_escape (b ∷ bs) ≡ false
escape-no b [] e = refl
escape-no b (c ∷ bs) e = ap (λ t. t && (is_quote c || (c == 92))) e

-- a value with no backslash stands for itself
pub unescaped-none : (bs : List ℕ) → list_any (λ b. b == 92) bs ≡ false → unescaped bs ≡ bs
unescaped-none [] e = unescaped_end
unescaped-none (b ∷ bs) e =
    let parts : ((b == 92) ≡ false) × (list_any (λ x. x == 92) bs ≡ false) = no_more (b == 92) (list_any (λ x. x == 92) bs) e in
    escape_none b bs (escape-no b bs parts.0) ∙ ap (λ z. b ∷ z) (unescaped-none bs parts.1)

-- parameters

abbrev pub with_all : List Param → Option (List Param) → Option (List Param)
with_all ps None = None
with_all ps (Some qs) = Some (ps ++ qs)

gap_within : (bs : List ℕ) → prefix_len is_space bs ≤ length bs
gap_within [] = omega arith
gap_within (b ∷ bs) = let g : prefix_len is_space bs ≤ length bs = gap_within bs in elim (is_space b) as (λ t. (if t then 1 + prefix_len is_space bs else 0) ≤ suc (length bs)) [ true ↦ omega arith | false ↦ omega arith ]

abbrev pub after_gap : (List ℕ → Option (List Param)) → List ℕ → ℕ → Option (Param × ℕ) → Option (List Param)
after_gap more bs gap None = None
after_gap more bs gap (Some p) = with_first p.0 (more (drop p.1 (drop gap bs)))

shorter : (k gap : ℕ) (bs : List ℕ) → (gap ≡ 0 → ⊥) → gap ≤ length bs → length (drop k (drop gap bs)) < length bs
shorter k gap bs some low = omega (arith, length-drop k (drop gap bs), length-drop gap bs, some)

fuel : (n m : ℕ) (bs : List ℕ) → length bs < n → length bs < m → params_within n bs ≡ params_within m bs
unfolding params_within
fuel zero m bs h g = absurd (omega arith)
fuel (suc n) zero bs h g = absurd (omega arith)
fuel (suc n) (suc m) bs h g =
    let gap = prefix_len is_space bs in
    let low : gap ≤ length bs = gap_within bs in
    ap (λ (z : Option (List Param)). if gap == length bs then Some [] else z)
    (elim (gap == 0) as (λ t. (gap == 0) ≡ t → (if t then None else after_gap (params_within n) bs gap (param_at (drop gap bs))) ≡ (if t then None else after_gap (params_within m) bs gap (param_at (drop gap bs)))) [
      | true ↦ λ t. refl
      | false ↦ λ t.
          elim (param_at (drop gap bs)) as (λ (o : Option (Param × ℕ)). after_gap (params_within n) bs gap o ≡ after_gap (params_within m) bs gap o) [
            | None ↦ refl
            | Some p ↦
                let some : gap ≡ 0 → ⊥ = λ z. let bad : (gap == 0) ≡ true = eq-eqb gap 0 z in cc in
                let less : length (drop p.1 (drop gap bs)) < length bs = shorter p.1 gap bs some low in
                ap (with_first p.0) (fuel n m (drop p.1 (drop gap bs)) (omega arith) (omega arith))
          ]
    ] refl)

step : (bs : List ℕ) → params bs ≡ (let gap = prefix_len is_space bs in if gap == length bs then Some [] else (if gap == 0 then None else after_gap (params_within (length bs)) bs gap (param_at (drop gap bs))))
unfolding params_within
step bs = refl

pub params-end : (bs : List ℕ) → prefix_len is_space bs ≡ length bs → params bs ≡ Some []
params-end bs e = let gap = prefix_len is_space bs in step bs ∙ ap (λ (t : Bool). if t then Some [] else (if gap == 0 then None else after_gap (params_within (length bs)) bs gap (param_at (drop gap bs)))) (eq-eqb gap (length bs) e)

pub params-no_gap : (bs : List ℕ) → (prefix_len is_space bs ≡ length bs → ⊥) → prefix_len is_space bs ≡ 0 → params bs ≡ None
params-no_gap bs e f =
    let gap = prefix_len is_space bs in
    step bs ∙ ap (λ (t : Bool). if t then Some [] else (if gap == 0 then None else after_gap (params_within (length bs)) bs gap (param_at (drop gap bs)))) (ne_eqb gap (length bs) e)
    ∙ ap (λ (t : Bool). if t then None else after_gap (params_within (length bs)) bs gap (param_at (drop gap bs))) (eq-eqb gap 0 f)

pub params-at : (bs : List ℕ) (o : Option (Param × ℕ)) → (prefix_len is_space bs ≡ length bs → ⊥) → (prefix_len is_space bs ≡ 0 → ⊥) → o ≡ param_at (drop (prefix_len is_space bs) bs) → params bs ≡ after_gap params bs (prefix_len is_space bs) o
params-at bs o e f is =
    let gap = prefix_len is_space bs in
    step bs ∙ ap (λ (t : Bool). if t then Some [] else (if gap == 0 then None else after_gap (params_within (length bs)) bs gap (param_at (drop gap bs)))) (ne_eqb gap (length bs) e)
    ∙ ap (λ (t : Bool). if t then None else after_gap (params_within (length bs)) bs gap (param_at (drop gap bs))) (ne_eqb gap 0 f)
    ∙ ap (after_gap (params_within (length bs)) bs gap) (sym is)
    ∙ elim o as (λ (z : Option (Param × ℕ)). after_gap (params_within (length bs)) bs gap z ≡ after_gap params bs gap z) [
      | None ↦ refl
      | Some p ↦
          let less : length (drop p.1 (drop gap bs)) < length bs = shorter p.1 gap bs f (gap_within bs) in
          ap (with_first p.0) (fuel (length bs) (suc (length (drop p.1 (drop gap bs)))) (drop p.1 (drop gap bs)) less (omega arith))
    ]

pub with_all-first : (ps : List Param) (p : Param) (o : Option (List Param)) → with_all ps (with_first p o) ≡ with_all (ps ++ p ∷ []) o
with_all-first ps p None = refl
with_all-first ps p (Some qs) = ap Some (sym (append_assoc ps (p ∷ []) qs))

-- a parameter

abbrev pub valued : List ℕ → ℕ → List ℕ → Option ℕ → Option (Param × ℕ)
valued name n bytes None = None
valued name n bytes (Some k) = Some (record { name = lowercase name; value = unescaped (take (k - 1) bytes) }, n + (2 + k))

pub assigned_long : (name : List ℕ) (n : ℕ) (bs : List ℕ) → 2 ≤ length bs → assigned name n bs ≡ (if (get_or bs 0 0 == 61) && is_quote (get_or bs 1 0) then valued name n (drop 2 bs) (quoted (get_or bs 1 0) (drop 2 bs)) else None)
unfolding assigned
assigned_long name n [] h = absurd (omega arith)
assigned_long name n (a ∷ []) h = absurd (omega arith)
assigned_long name n (a ∷ (b ∷ bs)) h = refl

pub assigned-short : (name : List ℕ) (n : ℕ) (bs : List ℕ) → length bs < 2 → None ≡ assigned name n bs
unfolding assigned
assigned-short name n [] h = refl
assigned-short name n (a ∷ []) h = refl
assigned-short name n (a ∷ (b ∷ bs)) h = absurd (omega arith)

pub assigned-not : (name : List ℕ) (n : ℕ) (bs : List ℕ) → 2 ≤ length bs → ((get_or bs 0 0 == 61) && is_quote (get_or bs 1 0)) ≡ false → None ≡ assigned name n bs
assigned-not name n bs h e = sym (assigned_long name n bs h ∙ ap (λ t. if t then valued name n (drop 2 bs) (quoted (get_or bs 1 0) (drop 2 bs)) else None) e)

pub assigned-is : (name : List ℕ) (n : ℕ) (bs : List ℕ) (o : Option ℕ) → 2 ≤ length bs → ((get_or bs 0 0 == 61) && is_quote (get_or bs 1 0)) ≡ true → o ≡ quoted (get_or bs 1 0) (drop 2 bs) → valued name n (drop 2 bs) o ≡ assigned name n bs
assigned-is name n bs o h e q = sym (assigned_long name n bs h ∙ ap (λ t. if t then valued name n (drop 2 bs) (quoted (get_or bs 1 0) (drop 2 bs)) else None) e ∙ ap (valued name n (drop 2 bs)) (sym q))

pub param-none : (n : ℕ) (bs : List ℕ) → n ≡ prefix_len is_word bs → n ≡ 0 → None ≡ param_at bs
unfolding param_at
param-none n bs e z =
    let m = prefix_len is_word bs in
    sym (ap (λ (t : Bool). if t then None else assigned (take m bs) m (drop m bs)) (eq-eqb m 0 (sym e ∙ z)))

pub param-is : (n : ℕ) (bs : List ℕ) → n ≡ prefix_len is_word bs → (n ≡ 0 → ⊥) → assigned (take n bs) n (drop n bs) ≡ param_at bs
unfolding param_at
param-is n bs e z =
    let m = prefix_len is_word bs in
    ap (λ k. assigned (take k bs) k (drop k bs)) e ∙ sym (ap (λ (t : Bool). if t then None else assigned (take m bs) m (drop m bs)) (ne_eqb m 0 (λ w. z (e ∙ w))))

-- a whole inside

made_at : (inside bytes : List ℕ) → bytes ≡ drop (prefix_len is_space inside) inside → made inside ≡ (if prefix_len is_word bytes == 0 then Bad else command (take (prefix_len is_word bytes) bytes) (params (drop (prefix_len is_word bytes) bytes)))
unfolding made
made_at inside bytes e = ap (λ z. if prefix_len is_word z == 0 then Bad else command (take (prefix_len is_word z) z) (params (drop (prefix_len is_word z) z))) (sym e)

pub made-nameless : (inside bytes : List ℕ) (n : ℕ) → bytes ≡ drop (prefix_len is_space inside) inside → n ≡ prefix_len is_word bytes → n ≡ 0 → Bad ≡ made inside
made-nameless inside bytes n e w z =
    let m = prefix_len is_word bytes in
    sym (made_at inside bytes e ∙ ap (λ (t : Bool). if t then Bad else command (take m bytes) (params (drop m bytes))) (eq-eqb m 0 (sym w ∙ z)))

pub made-is : (inside bytes : List ℕ) (n : ℕ) (o : Option (List Param)) → bytes ≡ drop (prefix_len is_space inside) inside → n ≡ prefix_len is_word bytes → (n ≡ 0 → ⊥) → o ≡ params (drop n bytes) → command (take n bytes) o ≡ made inside
made-is inside bytes n o e w z p =
    let m = prefix_len is_word bytes in
    ap (command (take n bytes)) p ∙ ap (λ k. command (take k bytes) (params (drop k bytes))) w
    ∙ sym (made_at inside bytes e ∙ ap (λ (t : Bool). if t then Bad else command (take m bytes) (params (drop m bytes))) (ne_eqb m 0 (λ v. z (w ∙ v))))

-- all parameters, from a place on

abbrev gap_of : List ℕ → ℕ → ℕ
gap_of bs at = prefix_len is_space (drop at bs)

pub all-end : (found : List Param) (bs rest : List ℕ) (at gap : ℕ) → rest ≡ drop at bs → gap ≡ prefix_len is_space rest → gap ≡ length bs - at → Some found ≡ with_all found (params (drop at bs))
all-end found bs rest at gap e g h = sym (ap (with_all found) (params-end (drop at bs) (sym (g ∙ ap (prefix_len is_space) e) ∙ h ∙ sym (length-drop at bs))) ∙ ap Some (append-nil found))

long : (bs rest : List ℕ) (at gap : ℕ) → rest ≡ drop at bs → gap ≡ prefix_len is_space rest → (gap ≡ length bs - at → ⊥) → gap_of bs at ≡ length (drop at bs) → ⊥
long bs rest at gap e g h w = h (g ∙ ap (prefix_len is_space) e ∙ w ∙ length-drop at bs)

pub all-no_gap : (found : List Param) (bs rest : List ℕ) (at gap : ℕ) → rest ≡ drop at bs → gap ≡ prefix_len is_space rest → (gap ≡ length bs - at → ⊥) → gap ≡ 0 → None ≡ with_all found (params (drop at bs))
all-no_gap found bs rest at gap e g h z = sym (ap (with_all found) (params-no_gap (drop at bs) (long bs rest at gap e g h) (sym (g ∙ ap (prefix_len is_space) e) ∙ z)))

all_at : (found : List Param) (bs rest more : List ℕ) (at gap : ℕ) (o : Option (Param × ℕ)) → rest ≡ drop at bs → gap ≡ prefix_len is_space rest → (gap ≡ length bs - at → ⊥) → (gap ≡ 0 → ⊥) → more ≡ drop (at + gap) bs → o ≡ param_at more → with_all found (params (drop at bs)) ≡ with_all found (after_gap params (drop at bs) gap o)
all_at found bs rest more at gap o e g h z m p =
    let same : gap ≡ gap_of bs at = g ∙ ap (prefix_len is_space) e in
    let is : o ≡ param_at (drop (gap_of bs at) (drop at bs)) = p ∙ ap param_at (m ∙ sym (drop-drop gap at bs) ∙ ap (λ n. drop n (drop at bs)) same) in
    ap (with_all found) (params-at (drop at bs) o (long bs rest at gap e g h) (λ w. z (same ∙ w)) is ∙ ap (λ n. after_gap params (drop at bs) n o) (sym same))

pub all-none : (found : List Param) (bs rest more : List ℕ) (at gap : ℕ) (o : Option (Param × ℕ)) → rest ≡ drop at bs → gap ≡ prefix_len is_space rest → (gap ≡ length bs - at → ⊥) → (gap ≡ 0 → ⊥) → more ≡ drop (at + gap) bs → o ≡ param_at more → o ≡ None → None ≡ with_all found (params (drop at bs))
all-none found bs rest more at gap o e g h z m p n = sym (all_at found bs rest more at gap o e g h z m p ∙ ap (λ q. with_all found (after_gap params (drop at bs) gap q)) n)

pub all-more : (found now : List Param) (bs rest more : List ℕ) (at gap len : ℕ) (o : Option (Param × ℕ)) (p : Param) → rest ≡ drop at bs → gap ≡ prefix_len is_space rest → (gap ≡ length bs - at → ⊥) → (gap ≡ 0 → ⊥) → more ≡ drop (at + gap) bs → o ≡ param_at more → o ≡ Some (p, len) → now ≡ found ++ p ∷ [] → with_all now (params (drop (at + gap + len) bs)) ≡ with_all found (params (drop at bs))
all-more found now bs rest more at gap len o p e g h z m w n k =
    ap (λ y. with_all y (params (drop (at + gap + len) bs))) k
    ∙ sym (with_all-first found p (params (drop (at + gap + len) bs)))
    ∙ ap (λ y. with_all found (with_first p (params y))) (sym (ap (drop len) (drop-drop gap at bs) ∙ drop-drop len (at + gap) bs))
    ∙ sym (all_at found bs rest more at gap o e g h z m w ∙ ap (λ q. with_all found (after_gap params (drop at bs) gap q)) n)

pub all-past : (found : List Param) (bs : List ℕ) (at : ℕ) → length bs ≤ at → Some found ≡ with_all found (params (drop at bs))
all-past found bs at h = sym (ap (λ z. with_all found (params z)) (drop_all at bs h) ∙ ap (with_all found) (params-end [] refl) ∙ ap Some (append-nil found))

pub some-within : (o : Option (Param × ℕ)) (p : Param) (len n : ℕ) → IfSome o (λ q. q.1 ≤ n) → o ≡ Some (p, len) → len ≤ n
some-within o p len n h e = subst (λ (z : Option (Param × ℕ)). IfSome z (λ q. q.1 ≤ n)) e h
