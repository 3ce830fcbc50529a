-- The parts of a target.
use Rattle.std.proofs.Common.{◌≡◌, ℕ, ◌+◌, ◌-◌, ◌<◌, ◌≤◌, min, Bool, true, false, ◌==◌, ◌||◌, List, [], ◌∷◌, get_or, Option, None, Some, Result, Ok, Err, length, take, drop, refl, sym, ap, ap₂, ◌∙◌, arith}
use Rattle.std.specs.Prelude.{nat_eq, codes, is_ok, unwrap_or, option_map}
use Rattle.std.specs.List.{prefix_len, position_or_len, before_first, after_first, starts_with}
use Rattle.std.proofs.lemmas.Bool.{lt-ltb, le-ltb, and_from, and_left, and_right, cond-true, cond-false, cond_both, eqb-true, eq-eqb, ne_eqb}
use Rattle.std.proofs.lemmas.List.{take_rest, drop_min, take_all}
use Rattle.std.proofs.lemmas.List.Sums.{position_or_len_is, fails_before_first}
use Rattle.std.proofs.Math.ListN.{drop_of_length-le}
use Rattle.std.proofs.lemmas.Option.{none-some}
use Rattle.uri_text.specs.declared.fault.UriFault.{UriFault}
use Rattle.uri_text.specs.declared.fault.UriFault.TheVariants.{NotAPath}
use Rattle.uri_text.specs.Target.{is_host_byte, ends_host, host_and_rest, absolute_of, strip_slash, behind_or_host, behind_root, path_and_query, path_of, with_args, normal_behind, normal_of}

pub absolute-not : (target : List ℕ) → starts_with nat_eq target (codes "http://") ≡ false → absolute_of target ≡ None
unfolding absolute_of
absolute-not target other = cond-false _ _ _ other

absolute-is : (target text : List ℕ) (len : ℕ) → starts_with nat_eq target (codes "http://") ≡ true → text ≡ drop 7 target → len ≡ prefix_len is_host_byte text → absolute_of target ≡ host_and_rest len text
unfolding absolute_of
absolute-is target text len begins is len_is =
    cond-true _ _ _ begins ∙ ap (λ t. host_and_rest (prefix_len is_host_byte t) t) (sym is) ∙ ap (λ n. host_and_rest n text) (sym len_is)

pub absolute-some : (target text rest : List ℕ) (len : ℕ) → starts_with nat_eq target (codes "http://") ≡ true → text ≡ drop 7 target → len ≡ prefix_len is_host_byte text → 0 < len → rest ≡ drop len text → ends_host rest ≡ true → absolute_of target ≡ Some (take len text, rest)
absolute-some target text rest len begins is len_is some rest_is ends =
    absolute-is target text len begins is len_is
    ∙ cond-true _ _ _ (and_from _ _ (lt-ltb 0 len some) (sym (ap ends_host rest_is) ∙ ends)) ∙ ap (λ r. Some (take len text, r)) (sym rest_is)

pub absolute-none : (target text : List ℕ) (len : ℕ) → starts_with nat_eq target (codes "http://") ≡ true → text ≡ drop 7 target → len ≡ prefix_len is_host_byte text → len ≤ 0 → absolute_of target ≡ None
absolute-none target text len begins is len_is none = absolute-is target text len begins is len_is ∙ cond-false _ _ _ (and_left _ _ (le-ltb 0 len none))

pub absolute-open : (target text rest : List ℕ) (len : ℕ) → starts_with nat_eq target (codes "http://") ≡ true → text ≡ drop 7 target → len ≡ prefix_len is_host_byte text → rest ≡ drop len text → ends_host rest ≡ false → absolute_of target ≡ None
absolute-open target text rest len begins is len_is rest_is ends =
    absolute-is target text len begins is len_is ∙ cond-false _ _ _ (and_right _ _ (sym (ap ends_host rest_is) ∙ ends))

-- ---- the slash

pub strip_slash-is : (b : ℕ) (rest text : List ℕ) → text ≡ b ∷ rest → b ≡ 47 → strip_slash text ≡ Some rest
strip_slash-is b rest text is slash = ap strip_slash is ∙ cond-true _ _ _ (eq-eqb b 47 slash)

pub strip_slash-not : (b : ℕ) (rest text : List ℕ) → text ≡ b ∷ rest → (b ≡ 47 → ⊥) → strip_slash text ≡ None
strip_slash-not b rest text is other = ap strip_slash is ∙ cond-false _ _ _ (ne_eqb b 47 other)

pub behind_root-slash : (target rest : List ℕ) → strip_slash target ≡ Some rest → behind_root target ≡ Some rest
unfolding behind_root
behind_root-slash target rest is = ap (behind_or_host target) is

pub behind_root-none : (target : List ℕ) → strip_slash target ≡ None → absolute_of target ≡ None → behind_root target ≡ None
unfolding behind_root
behind_root-none target none is = ap (behind_or_host target) none ∙ ap (option_map (λ (form : List ℕ × List ℕ). unwrap_or (strip_slash form.1) form.1)) is

pub behind_root-host : (target host rest : List ℕ) (stripped : Option (List ℕ)) → strip_slash target ≡ None → absolute_of target ≡ Some (host, rest) → strip_slash rest ≡ stripped → behind_root target ≡ Some (unwrap_or stripped rest)
unfolding behind_root
behind_root-host target host rest stripped none is slash =
    ap (behind_or_host target) none ∙ ap (option_map (λ (form : List ℕ × List ℕ). unwrap_or (strip_slash form.1) form.1)) is ∙ ap (λ o. Some (unwrap_or o rest)) slash

-- ---- the query

left_false : (a b : Bool) → (a || b) ≡ false → a ≡ false
left_false true b e = e
left_false false b e = refl

right_false : (a b : Bool) → (a || b) ≡ false → b ≡ false
right_false true b e = grind (arith, e)
right_false false b e = e

-- a text without `#` and `?`
pub unmarked : (text : List ℕ) → position_or_len (λ b. (b == 35) || (b == 63)) text ≡ length text → path_and_query text ≡ (text, [])
unfolding path_and_query
unmarked text h =
    let none : (k : ℕ) → k < length text → ((get_or text k 0 == 35) || (get_or text k 0 == 63)) ≡ false
    = λ k low. fails_before_first (λ b. (b == 35) || (b == 63)) text k 0 (omega (arith, h, low)) in
    let no_hash : position_or_len (λ b. b == 35) text ≡ length text
    = position_or_len_is (λ b. b == 35) text (length text) 0 (omega arith) (λ k low. left_false _ _ (none k low)) (λ low. absurd (omega (arith, low))) in
    let no_question : position_or_len (λ b. b == 63) text ≡ length text
    = position_or_len_is (λ b. b == 63) text (length text) 0 (omega arith) (λ k low. right_false _ _ (none k low)) (λ low. absurd (omega (arith, low))) in
    let whole : before_first (λ b. b == 35) text ≡ text = ap (λ n. take n text) no_hash ∙ take_all (length text) text (omega arith) in
    let path : before_first (λ b. b == 63) text ≡ text = ap (λ n. take n text) no_question ∙ take_all (length text) text (omega arith) in
    let query : after_first (λ b. b == 63) text ≡ [] = ap (λ n. drop (n + 1) text) no_question ∙ drop_of_length-le text (omega arith) in
    ap (λ l. (before_first (λ b. b == 63) l, after_first (λ b. b == 63) l)) whole ∙ ap₂ (λ a b. (a, b)) path query

pub parts-are : (text : List ℕ) (n len from : ℕ) → n ≡ position_or_len (λ b. b == 35) text → len ≡ position_or_len (λ b. b == 63) (take n text) → from ≡ min (len + 1) (length (take n text)) → path_and_query text ≡ (take len (take n text), take (length (take n text) - from) (drop from (take n text)))
unfolding path_and_query
parts-are text n len from n_is len_is from_is =
    let whole : take n text ≡ before_first (λ b. b == 35) text = ap (λ k. take k text) n_is in
    let len_at : len ≡ position_or_len (λ b. b == 63) (before_first (λ b. b == 35) text) = len_is ∙ ap (position_or_len (λ b. b == 63)) whole in
    let path : take len (take n text) ≡ before_first (λ b. b == 63) (before_first (λ b. b == 35) text) = ap (take len) whole ∙ ap (λ k. take k (before_first (λ b. b == 35) text)) len_at in
    let query : take (length (take n text) - from) (drop from (take n text)) ≡ after_first (λ b. b == 63) (before_first (λ b. b == 35) text) =
    take_rest (take n text) from ∙ ap (λ k. drop k (take n text)) from_is ∙ drop_min (len + 1) (take n text) ∙ ap (drop (len + 1)) whole ∙ ap (λ k. drop (k + 1) (before_first (λ b. b == 35) text)) len_at in
    sym (λ i. (path i, query i))

-- ---- the whole

pub normal-none : (raw : List ℕ) (merge : Bool) → behind_root raw ≡ None → normal_of raw merge ≡ Err NotAPath
unfolding normal_of
normal-none raw merge is = ap (normal_behind merge) is

pub normal-some : (raw : List ℕ) (merge : Bool) (text path query : List ℕ) → behind_root raw ≡ Some text → path_and_query text ≡ (path, query) → normal_of raw merge ≡ with_args query (path_of merge path)
unfolding normal_of
normal-some raw merge text path query is parts =
    ap (normal_behind merge) is ∙ ap (λ (p : List ℕ × List ℕ). with_args p.1 (path_of merge p.0)) parts

pub is_ok-with_args : (args : List ℕ) (r : Result (List ℕ) UriFault) → is_ok r ≡ is_ok (with_args args r)
is_ok-with_args args (Ok path) = refl
is_ok-with_args args (Err fault) = refl

-- ---- an absolute form names what comes after its host

absolute-slash : (text : List ℕ) → absolute_of (47 ∷ text) ≡ None
unfolding absolute_of
absolute-slash text = refl

absolute-no_slash : (raw : List ℕ) (form : List ℕ × List ℕ) → absolute_of raw ≡ Some form → strip_slash raw ≡ None
absolute-no_slash [] form is = refl
absolute-no_slash (b ∷ text) form is =
    cond_both (b == 47) (Some text) None (λ o. o ≡ None)
    (λ slash. absurd (none-some form (sym (ap (λ c. absolute_of (c ∷ text)) (eqb-true b 47 slash) ∙ absolute-slash text) ∙ is)))
    (λ _. refl)

pub normal-absolute : (raw host rest : List ℕ) (merge : Bool) → absolute_of raw ≡ Some (host, rest) → normal_of raw merge ≡ normal_of (47 ∷ unwrap_or (strip_slash rest) rest) merge
unfolding normal_of
normal-absolute raw host rest merge is =
    ap (normal_behind merge)
    (behind_root-host raw host rest (strip_slash rest) (absolute-no_slash raw (host, rest) is) is refl
    ∙ sym (behind_root-slash (47 ∷ unwrap_or (strip_slash rest) rest) (unwrap_or (strip_slash rest) rest) refl))
