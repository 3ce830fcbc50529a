-- A text with variables, read from its front.
use Rattle.std.proofs.Common.{◌≡◌, ℕ, zero, suc, ◌<◌, ◌≤◌, ◌&&◌, eqb, true, false, cond, List, [], ◌∷◌, ◌++◌, length, drop, Bool, ◌||◌, Option, Some, None, unwrap_or, Result, Ok, Err, refl, sym, ◌∙◌, ap, append_assoc, append-nil, length-append, arith}
use Rattle.std.proofs.lemmas.Bool.{cond-true, cond-false, lt-ltb, le-ltb}
use Rattle.ngx_variables.specs.declared.compile.Reference.{Reference}
use Rattle.ngx_variables.specs.declared.fault.ValueFault.{ValueFault}
use Rattle.ngx_variables.specs.Grammar.{Token, begins_with, onto_bytes, reference_at, name_in}
use Rattle.ngx_variables.specs.Grammar.Token.{Bytes, Name}
use Rattle.ngx_variables.specs.Texts.{is_too_long}
use Rattle.request_meaning.specs.Documents.{byte_onto, fit, name_onto, onto, token_at, tokens}
use Rattle.std.specs.List.{list_any}
use Rattle.ssi_values.specs.Known.{Known, is_mark, named_text, name_of, tokens_value, read_value, rest_value, fit_value, filled_text, behind}

skipped : (n : ℕ) (bs : List ℕ) → tokens n bs ≡ tokens 0 (drop n bs)
unfolding tokens
skipped zero bs = refl
skipped (suc n) [] = refl
skipped (suc n) (b ∷ bs) = skipped n bs

behind_twice : (a b : List ℕ) (o : Option (List ℕ)) → behind (a ++ b) o ≡ behind a (behind b o)
behind_twice a b None = refl
behind_twice a b (Some text) = ap (λ (t : List ℕ). Some t) (append_assoc a b text)

module _ (k : Known) where
  byte_first : (b : ℕ) (ts : List Token) → tokens_value k (onto_bytes b ts) ≡ b ∷ tokens_value k ts
  unfolding tokens_value
  byte_first b [] = refl
  byte_first b (Bytes bytes ∷ ts) = refl
  byte_first b (Name name ∷ ts) = refl

  byte_read : (b : ℕ) (o : Option (List Token)) → read_value k (byte_onto b o) ≡ behind (b ∷ []) (read_value k o)
  byte_read b None = refl
  byte_read b (Some ts) = ap (λ (t : List ℕ). Some t) (byte_first b ts)

  name_read : (name : List ℕ) (o : Option (List Token)) → read_value k (onto (Name name ∷ []) o) ≡ behind (unwrap_or (named_text k name) []) (read_value k o)
  unfolding tokens_value
  name_read name None = refl
  name_read name (Some ts) = refl

  tokens_read : (n : ℕ) (bs : List ℕ) → read_value k (tokens n bs) ≡ rest_value k (drop n bs)
  unfolding rest_value
  tokens_read n bs = ap (λ o. read_value k o) (skipped n bs)

  at_first : (b : ℕ) (text : List ℕ) → rest_value k (b ∷ text) ≡ read_value k (token_at b text (λ n. tokens n text))
  unfolding rest_value tokens
  at_first b text = refl

  -- `\$`
  pub escape_read : (b : ℕ) (text : List ℕ) → (eqb b 92 && begins_with 36 text) ≡ true → rest_value k (b ∷ text) ≡ behind (36 ∷ []) (rest_value k (drop 1 text))
  escape_read b text e =
      at_first b text
      ∙ (ap (λ o. read_value k o) (cond-true (eqb b 92 && begins_with 36 text) (byte_onto 36 (tokens 1 text)) (cond (eqb b 36) (name_onto text (reference_at text) (λ n. tokens n text)) (byte_onto b (tokens 0 text))) e)
      ∙ (byte_read 36 (tokens 1 text) ∙ ap (λ o. behind (36 ∷ []) o) (tokens_read 1 text)))

  -- a byte that stands for itself
  pub plain_read : (b : ℕ) (text : List ℕ) → (eqb b 92 && begins_with 36 text) ≡ false → eqb b 36 ≡ false → rest_value k (b ∷ text) ≡ behind (b ∷ []) (rest_value k text)
  plain_read b text e f =
      at_first b text
      ∙ (ap (λ o. read_value k o) (cond-false (eqb b 92 && begins_with 36 text) (byte_onto 36 (tokens 1 text)) (cond (eqb b 36) (name_onto text (reference_at text) (λ n. tokens n text)) (byte_onto b (tokens 0 text))) e
      ∙ cond-false (eqb b 36) (name_onto text (reference_at text) (λ n. tokens n text)) (byte_onto b (tokens 0 text)) f)
      ∙ (byte_read b (tokens 0 text) ∙ ap (λ o. behind (b ∷ []) o) (tokens_read 0 text)))

  -- a `$`
  pub dollar_read : (text : List ℕ) → rest_value k (36 ∷ text) ≡ read_value k (name_onto text (reference_at text) (λ n. tokens n text))
  dollar_read text = at_first 36 text

  pub no_name : (text : List ℕ) (r : Result Reference ValueFault) → name_of text r ≡ None → read_value k (name_onto text r (λ n. tokens n text)) ≡ None
  no_name text (Ok r) e = cc
  no_name text (Err fault) e = refl

  pub one_name : (text : List ℕ) (r : Result Reference ValueFault) (name : List ℕ) (size : ℕ) → name_of text r ≡ Some (name, size) → read_value k (name_onto text r (λ n. tokens n text)) ≡ behind (unwrap_or (named_text k name) []) (rest_value k (drop size text))
  one_name text (Ok r) name size e =
      let pair : ◌≡◌ {A = List ℕ × ℕ} (name_in text r, r.size) (name, size) = cc in
      let same : name_in text r ≡ name = ap (λ (p : List ℕ × ℕ). p.0) pair in
      let wide : r.size ≡ size = ap (λ (p : List ℕ × ℕ). p.1) pair in
      name_read (name_in text r) (tokens r.size text)
      ∙ (ap (λ o. behind (unwrap_or (named_text k (name_in text r)) []) o) (tokens_read r.size text)
      ∙ (ap (λ n. behind (unwrap_or (named_text k n) []) (rest_value k (drop r.size text))) same
      ∙ ap (λ n. behind (unwrap_or (named_text k name) []) (rest_value k (drop n text))) wide))
  one_name text (Err fault) name size e = cc

  -- what was written, and what is read after it
  pub goes_on_by : (old new more rest : List ℕ) (all : Option (List ℕ)) → new ≡ old ++ more → all ≡ behind more (rest_value k rest) → behind new (rest_value k rest) ≡ behind old all
  goes_on_by old new more rest all e f = ap (λ t. behind t (rest_value k rest)) e ∙ (behind_twice old more (rest_value k rest) ∙ sym (ap (λ o. behind old o) f))

  -- ---- a whole text

  is_none : (front : List ℕ) (o : Option (List ℕ)) → behind front o ≡ None → o ≡ None
  is_none front None e = refl
  is_none front (Some text) e = cc

  pub unread : (out text : List ℕ) (rest : Option (List ℕ)) → behind out rest ≡ behind [] (rest_value k text) → rest ≡ None → None ≡ filled_text k text
  unfolding filled_text
  unread out text rest e f = sym (ap fit_value (is_none [] (rest_value k text) (sym e ∙ ap (λ o. behind out o) f)))

  fits : (out : List ℕ) → length out ≤ 16384 → fit out ≡ Some out
  unfolding is_too_long
  fits out h = cond-false (is_too_long out) None (Some out) (le-ltb 16384 (length out) h)

  unfit : (out : List ℕ) → 16384 < length out → fit out ≡ None
  unfolding is_too_long
  unfit out h = cond-true (is_too_long out) None (Some out) (lt-ltb 16384 (length out) h)

  whole : (o : Option (List ℕ)) → behind [] o ≡ o
  whole None = refl
  whole (Some text) = refl

  pub all_read : (out text : List ℕ) → behind out (rest_value k []) ≡ behind [] (rest_value k text) → length out ≤ 16384 → Some out ≡ filled_text k text
  unfolding filled_text rest_value tokens tokens_value
  all_read out text e h =
      sym (fits out h) ∙ (ap fit (sym (append-nil out)) ∙ ap fit_value (e ∙ whole (rest_value k text)))

  longer : (out : List ℕ) (rest : Option (List ℕ)) → 16384 < length out → fit_value (behind out rest) ≡ None
  longer out None h = refl
  longer out (Some more) h = unfit (out ++ more) (omega (arith, length-append out more))

  pub overfull : (out text : List ℕ) (rest : Option (List ℕ)) → behind out rest ≡ behind [] (rest_value k text) → 16384 < length out → None ≡ filled_text k text
  unfolding filled_text
  overfull out text rest e h = sym (longer out rest h) ∙ ap fit_value (e ∙ whole (rest_value k text))

left_off : (a b : Bool) → (a || b) ≡ false → a ≡ false
left_off true b e = e
left_off false b e = refl

right_off : (a b : Bool) → (a || b) ≡ false → b ≡ false
right_off true b e = grind (arith, e)
right_off false b e = e

-- a text without a mark is read as it is
no_mark : (k : Known) (text : List ℕ) → list_any is_mark text ≡ false → rest_value k text ≡ Some text
unfolding rest_value tokens tokens_value
no_mark k [] e = refl
no_mark k (b ∷ bs) e =
    let here = left_off _ _ e in
    plain_read k b bs (ap (λ t. t && begins_with 36 bs) (right_off _ _ here)) (left_off _ _ here) ∙ ap (λ o. behind (b ∷ []) o) (no_mark k bs (right_off _ _ e))

pub of_itself : (text : List ℕ) → length text ≤ 16384 → list_any is_mark text ≡ false → (k : Known) → filled_text k text ≡ Some text
of_itself text fits e k =
    let none : rest_value k [] ≡ Some [] = no_mark k [] refl in
    sym (all_read k text text (ap (λ o. behind text o) none ∙ (ap (λ t. Some t) (append-nil text) ∙ sym (ap (λ o. behind [] o) (no_mark k text e)))) fits)
