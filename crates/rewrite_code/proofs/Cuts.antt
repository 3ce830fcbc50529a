-- A text that is cut in two at its first literal `?`.
use Rattle.std.proofs.Common.{◌≡◌, ℕ, zero, suc, ◌+◌, ◌-◌, ◌<◌, ◌≤◌, Bool, true, false, not, ◌||◌, cond, List, [], ◌∷◌, ◌++◌, length, take, drop, get_or, add-one, Option, Some, None, option_map, is_some, eqb, ltb, refl, sym, ◌∙◌, ap, append_assoc, arith}
use Rattle.std.proofs.lemmas.Bool.{false≢true, cond-true, cond-false, eqb-true, ltb-true, ltb-false, lt-ltb, le-ltb}
use Rattle.std.proofs.lemmas.List.{append-nil, drop_all}
use Rattle.std.proofs.Math.Seq.{drop-cons}
use Rattle.std.specs.List.{list_any, before_first, after_first, position_or_len, position}
use Rattle.acts.specs.Vars.{Vars}
use Rattle.ngx_variables.specs.declared.value.Piece.{Piece}
use Rattle.ngx_variables.specs.declared.value.Piece.TheVariants.{Literal}
use Rattle.ngx_variables.specs.declared.request.Main.{Main}
use Rattle.ngx_variables.specs.declared.request.Request.{Request}
use Rattle.ngx_variables.specs.declared.eval.FilePaths.{FilePaths}
use Rattle.ngx_variables.specs.Texts.{piece_text, pieces_text, place_paths, value_text, is_too_long}
use Rattle.site_whole.specs.site_views.Values.{Text}
use Rattle.request_meaning.specs.Cuts.{Cut, Target, cut, onto_path, whole, fitting, is_question}
use Rattle.rewrite_code.specs.Texts.{fitted, fit_of, cut_text, target_of, before_question, path_in}

parted : (bytes : List ℕ) → list_any is_question bytes ≡ true → bytes ≡ before_first is_question bytes ++ 63 ∷ after_first is_question bytes
parted [] h = absurd (false≢true h)
parted (b ∷ bytes) h =
    elim (eqb b 63) as (λ v. eqb b 63 ≡ v → (v || list_any is_question bytes) ≡ true → b ∷ bytes ≡ take (cond (not v) (1 + position_or_len is_question bytes) 0) (b ∷ bytes) ++ 63 ∷ drop (cond (not v) (1 + position_or_len is_question bytes) 0 + 1) (b ∷ bytes)) [
      | true ↦ λ e k. ap (λ c. c ∷ bytes) (eqb-true b 63 e)
      | false ↦ λ e k.
          let n : ℕ = position_or_len is_question bytes in
          ap (λ t. b ∷ t) (parted bytes k)
          ∙ (ap (λ m. take m (b ∷ bytes) ++ 63 ∷ drop (suc (n + 1)) (b ∷ bytes)) (one_more n)
          ∙ ap (λ m. take (1 + n) (b ∷ bytes) ++ 63 ∷ drop m (b ∷ bytes)) (two_more n))
    ] refl h
  where
    one_more : (n : ℕ) → suc n ≡ 1 + n
    one_more n = omega arith

    two_more : (n : ℕ) → suc (n + 1) ≡ 1 + n + 1
    two_more n = omega arith

ltb_suc : (a b : ℕ) → ltb a b ≡ ltb (1 + a) (suc b)
ltb_suc a b = elim (ltb a b) as (λ v. ltb a b ≡ v → v ≡ ltb (1 + a) (suc b)) [
  | true ↦ λ e. sym (lt-ltb (1 + a) (suc b) (omega (arith, ltb-true a b e)))
  | false ↦ λ e. sym (le-ltb (1 + a) (suc b) (omega (arith, ltb-false a b e)))
] refl

any_is : (bytes : List ℕ) → list_any is_question bytes ≡ ltb (position_or_len is_question bytes) (length bytes)
any_is [] = refl
any_is (b ∷ bytes) =
    elim (eqb b 63) as (λ v. (v || list_any is_question bytes) ≡ ltb (cond (not v) (1 + position_or_len is_question bytes) 0) (suc (length bytes))) [
      | true ↦ sym (lt-ltb 0 (suc (length bytes)) (omega arith))
      | false ↦ any_is bytes ∙ ltb_suc (position_or_len is_question bytes) (length bytes)
    ]

pub question_at : (bytes : List ℕ) (at : ℕ) → Some at ≡ position is_question bytes → (at ≤ length bytes) × (Some (take at bytes) ≡ before_question bytes)
question_at bytes at e =
    let n : ℕ = position_or_len is_question bytes in
    elim (ltb n (length bytes)) as (λ b. ltb n (length bytes) ≡ b → Some at ≡ cond b (Some n) None → (at ≤ length bytes) × (Some (take at bytes) ≡ before_question bytes)) [
      | true ↦ λ t k.
          let same : at ≡ n = cc in
          let lt : n < length bytes = ltb-true n (length bytes) t in
          (omega (arith, same, lt), ap (λ m. Some (take m bytes)) same ∙ sym (cond-true (list_any is_question bytes) (Some (take n bytes)) None (any_is bytes ∙ t)))
      | false ↦ λ f k. absurd (let P : ⊥ = cc in P)
    ] refl e

pub question_nowhere : (bytes : List ℕ) → None ≡ position is_question bytes → None ≡ before_question bytes
question_nowhere bytes e =
    let n : ℕ = position_or_len is_question bytes in
    elim (ltb n (length bytes)) as (λ b. ltb n (length bytes) ≡ b → None ≡ cond b (Some n) None → None ≡ before_question bytes) [
      | true ↦ λ t k. absurd (let P : ⊥ = cc in P)
      | false ↦ λ f k. sym (cond-false (list_any is_question bytes) (Some (take n bytes)) None (any_is bytes ∙ f))
    ] refl e

-- a piece without a `?` stays before the cut
pub cut_on : (p : Piece) (text : Text) → None ≡ path_in p → cut (p ∷ text) ≡ onto_path p (cut text)
unfolding cut
cut_on (Literal bytes) text e =
    elim (list_any is_question bytes) as (λ b. None ≡ cond b (Some (before_first is_question bytes)) None → cond b (record { path = Literal (before_first is_question bytes) ∷ []; args = Some (Literal (after_first is_question bytes) ∷ text) }) (onto_path (Literal bytes) (cut text)) ≡ onto_path (Literal bytes) (cut text)) [
      | true ↦ λ k. absurd (let P : ⊥ = cc in P)
      | false ↦ λ k. refl
    ] e
cut_on p text e = refl

-- one with a `?` ends it
pub cut_here : (p : Piece) (text : Text) (before : List ℕ) → Some before ≡ path_in p → (rest : Text) × (cut (p ∷ text) ≡ record { path = Literal before ∷ []; args = Some rest })
unfolding cut
cut_here (Literal bytes) text before e = (
  Literal (after_first is_question bytes) ∷ text,
  elim (list_any is_question bytes) as (λ b. Some before ≡ cond b (Some (before_first is_question bytes)) None → cond b (record { path = Literal (before_first is_question bytes) ∷ []; args = Some (Literal (after_first is_question bytes) ∷ text) }) (onto_path (Literal bytes) (cut text)) ≡ record { path = Literal before ∷ []; args = Some (Literal (after_first is_question bytes) ∷ text) }) [
    | true ↦ λ k. let same : before ≡ before_first is_question bytes = cc in ap (λ t. record { path = Literal t ∷ []; args = Some (Literal (after_first is_question bytes) ∷ text) }) (sym same)
    | false ↦ λ k. absurd (let P : ⊥ = cc in P)
  ] e,
)
cut_here p text before e = absurd (let P : ⊥ = cc in P)

whole_more : (a b : List ℕ) (args : Option (List ℕ)) → a ++ whole b args ≡ whole (a ++ b) args
whole_more a b None = refl
whole_more a b (Some args) = sym (append_assoc a b (63 ∷ args))

module _ (main : Main) (request : Request) (vars : Vars) where
  text_of : Text → List ℕ
  text_of text = value_text main request vars text

  piece_first : (p : Piece) (text : Text) → value_text main request vars (p ∷ text) ≡ value_text main request vars (p ∷ []) ++ value_text main request vars text
  unfolding value_text pieces_text
  piece_first p text = ap (λ t. t ++ value_text main request vars text) (sym (append-nil (piece_text (place_paths main request vars request.place) main request vars p)))

  literal_text : (bytes : List ℕ) → value_text main request vars (Literal bytes ∷ []) ≡ bytes
  unfolding value_text pieces_text piece_text
  literal_text bytes = append-nil bytes

  on : (p : Piece) (text : Text) (c : Cut) → text_of text ≡ whole (text_of c.path) (option_map text_of c.args) → text_of (p ∷ text) ≡ whole (text_of (p ∷ c.path)) (option_map text_of c.args)
  unfolding text_of
  on p text c ih =
      piece_first p text
      ∙ (ap (λ t. value_text main request vars (p ∷ []) ++ t) ih
      ∙ (whole_more (value_text main request vars (p ∷ [])) (value_text main request vars c.path) (option_map text_of c.args)
      ∙ ap (λ t. whole t (option_map text_of c.args)) (sym (piece_first p c.path))))

  here : (bytes : List ℕ) (text : Text) → list_any is_question bytes ≡ true → text_of (Literal bytes ∷ text) ≡ whole (text_of (Literal (before_first is_question bytes) ∷ [])) (Some (text_of (Literal (after_first is_question bytes) ∷ text)))
  unfolding text_of
  here bytes text h =
      let before = before_first is_question bytes in
      let after = after_first is_question bytes in
      let later = value_text main request vars text in
      (piece_first (Literal bytes) text ∙ ap (λ t. t ++ later) (literal_text bytes ∙ parted bytes h))
      ∙ (append_assoc before (63 ∷ after) later
      ∙ (ap (λ t. before ++ 63 ∷ t) (ap (λ t. t ++ later) (sym (literal_text after)) ∙ sym (piece_first (Literal after) text))
      ∙ ap (λ t. t ++ 63 ∷ value_text main request vars (Literal after ∷ text)) (sym (literal_text before))))

  -- the parts of a text that is cut, put together again
  whole_cut : (text : Text) → text_of text ≡ whole (text_of (cut text).path) (option_map text_of (cut text).args)
  unfolding cut
  whole_cut [] = refl
  whole_cut (Literal bytes ∷ text) =
      elim (list_any is_question bytes) as (λ b. list_any is_question bytes ≡ b →
      let c : Cut = cond b (record { path = Literal (before_first is_question bytes) ∷ []; args = Some (Literal (after_first is_question bytes) ∷ text) }) (onto_path (Literal bytes) (cut text)) in
      text_of (Literal bytes ∷ text) ≡ whole (text_of c.path) (option_map text_of c.args)) [
        | true ↦ λ h. here bytes text h
        | false ↦ λ h. on (Literal bytes) text (cut text) (whole_cut text)
      ] refl
  whole_cut (p ∷ text) = on p text (cut text) (whole_cut text)

  abbrev parts : Text → Target
  parts text = record { path = value_text main request vars (cut text).path; args = option_map (value_text main request vars) (cut text).args }

  together : (text : Text) → value_text main request vars text ≡ whole (parts text).path (parts text).args
  unfolding text_of
  together text = whole_cut text

  target_is : (text : Text) → cond (is_too_long (value_text main request vars text)) None (Some (parts text)) ≡ target_of main request vars text
  unfolding target_of
  target_is text = ap (λ t. cond (is_too_long t) None (Some (parts text))) (together text)

  none_too : (b : Bool) (x : List ℕ) (y : Target) → None ≡ cond b None (Some x) → None ≡ cond b None (Some y)
  none_too true x y e = refl
  none_too false x y e = absurd (let P : ⊥ = cc in P)

  some_too : (b : Bool) (x whole : List ℕ) (y : Target) → Some whole ≡ cond b None (Some x) → (whole ≡ x) × (Some y ≡ cond b None (Some y))
  some_too true x whole y e = absurd (let P : ⊥ = cc in P)
  some_too false x whole y e = (cc, refl)

  -- what the code answers of a text that is too long, and of one that fits
  pub aims_nowhere : (text : Text) → None ≡ fit_of main request vars text → None ≡ target_of main request vars text
  unfolding fit_of
  aims_nowhere text e = none_too (is_too_long (value_text main request vars text)) (value_text main request vars text) (parts text) e ∙ target_is text

  fits : (text : Text) (all : List ℕ) → Some all ≡ fit_of main request vars text → (all ≡ whole (parts text).path (parts text).args) × (Some (parts text) ≡ target_of main request vars text)
  unfolding fit_of
  fits text all e =
      let both = some_too (is_too_long (value_text main request vars text)) (value_text main request vars text) all (parts text) e in
      (both.0 ∙ together text, both.1 ∙ target_is text)

  abbrev aimed : List ℕ → Option (List ℕ) → Target
  aimed path args = record { path = path; args = args }

  without : (path all : List ℕ) (args : Option (List ℕ)) → false ≡ is_some args → all ≡ whole path args → aimed all None ≡ aimed path args
  without path all None h e = ap (λ t. aimed t None) e
  without path all (Some args) h e = absurd (false≢true h)

  drop_behind : (path args : List ℕ) → drop (length path + 1) (path ++ 63 ∷ args) ≡ args
  drop_behind [] args = refl
  drop_behind (b ∷ path) args = ap (λ n. drop n (b ∷ (path ++ 63 ∷ args))) (one_more (length path)) ∙ drop_behind path args
    where
      one_more : (n : ℕ) → suc n + 1 ≡ suc (n + 1)
      one_more n = omega arith

  with_question : (path all : List ℕ) (args : Option (List ℕ)) → true ≡ is_some args → all ≡ whole path args → Some (drop (length path + 1) all) ≡ args
  with_question path all None h e = absurd (false≢true (sym h))
  with_question path all (Some args) h e = ap Some (ap (drop (length path + 1)) e ∙ drop_behind path args)

  is_some_map : (o : Option Text) → is_some (option_map (value_text main request vars) o) ≡ is_some o
  is_some_map None = refl
  is_some_map (Some text) = refl

  pub aims_at_all : (text : Text) (all : List ℕ) → Some all ≡ fit_of main request vars text → false ≡ is_some (cut text).args → Some (aimed all None) ≡ target_of main request vars text
  aims_at_all text all e h =
      let f = fits text all e in
      ap Some (without (parts text).path all (parts text).args (h ∙ sym (is_some_map (cut text).args)) f.0) ∙ f.1

  pub aims_at : (text : Text) (all path args : List ℕ) → Some all ≡ fit_of main request vars text → true ≡ is_some (cut text).args → path ≡ value_text main request vars (cut text).path → args ≡ drop (length path + 1) all → Some (aimed path (Some args)) ≡ target_of main request vars text
  aims_at text all path args e h p a =
      let f = fits text all e in
      let here : Some args ≡ (parts text).args = ap Some (a ∙ ap (λ t. drop (length t + 1) all) p) ∙ with_question (parts text).path all (parts text).args (h ∙ sym (is_some_map (cut text).args)) f.0 in
      ap Some (ap (λ t. aimed t (Some args)) p ∙ ap (λ o. aimed (parts text).path o) here) ∙ f.1

  at_place : (pieces : Text) (i : ℕ) (piece : Piece) → i < length pieces → piece ≡ get_or pieces i piece → drop i pieces ≡ piece ∷ drop (i + 1) pieces
  at_place pieces i piece h is = rw add-one (drop-cons pieces i piece h ∙ ap (λ p. p ∷ drop (suc i) pieces) (sym is))

  path_more : (p : Piece) (text : Text) (now next all : List ℕ) → None ≡ path_in p → now ++ value_text main request vars (cut (p ∷ text)).path ≡ all → next ≡ now ++ value_text main request vars (p ∷ []) → next ++ value_text main request vars (cut text).path ≡ all
  path_more p text now next all h e n =
      ap (λ t. t ++ value_text main request vars (cut text).path) n
      ∙ (append_assoc now (value_text main request vars (p ∷ [])) (value_text main request vars (cut text).path)
      ∙ (ap (λ t. now ++ t) (sym (piece_first p (cut text).path) ∙ ap (λ (c : Cut). value_text main request vars c.path) (sym (cut_on p text h))) ∙ e))

  path_ends : (p : Piece) (text : Text) (before now next all : List ℕ) → Some before ≡ path_in p → now ++ value_text main request vars (cut (p ∷ text)).path ≡ all → next ≡ now ++ before → next ≡ all
  path_ends p text before now next all h e n =
      n ∙ (ap (λ t. now ++ t) (sym (literal_text before) ∙ ap (λ (c : Cut). value_text main request vars c.path) (sym (cut_here p text before h).1)) ∙ e)

  -- the loop that writes the path: a piece more, the piece that ends it, and its end
  pub path_more_at : (pieces : Text) (i : ℕ) (piece : Piece) (now next all : List ℕ) → i < length pieces → piece ≡ get_or pieces i piece → None ≡ path_in piece → now ++ value_text main request vars (cut (drop i pieces)).path ≡ all → next ≡ now ++ value_text main request vars (piece ∷ []) → next ++ value_text main request vars (cut (drop (i + 1) pieces)).path ≡ all
  path_more_at pieces i piece now next all lt is h e n = path_more piece (drop (i + 1) pieces) now next all h (ap (λ ps. now ++ value_text main request vars (cut ps).path) (sym (at_place pieces i piece lt is)) ∙ e) n

  pub path_ends_at : (pieces : Text) (i : ℕ) (piece : Piece) (before now next all : List ℕ) → i < length pieces → piece ≡ get_or pieces i piece → Some before ≡ path_in piece → now ++ value_text main request vars (cut (drop i pieces)).path ≡ all → next ≡ now ++ before → next ≡ all
  path_ends_at pieces i piece before now next all lt is h e n = path_ends piece (drop (i + 1) pieces) before now next all h (ap (λ ps. now ++ value_text main request vars (cut ps).path) (sym (at_place pieces i piece lt is)) ∙ e) n

  pub path_over : (pieces : Text) (i : ℕ) (out all : List ℕ) → length pieces ≤ i → out ++ value_text main request vars (cut (drop i pieces)).path ≡ all → out ≡ all
  unfolding cut value_text pieces_text
  path_over pieces i out all h e = sym (append-nil out) ∙ (ap (λ ps. out ++ value_text main request vars (cut ps).path) (sym (drop_all i pieces h)) ∙ e)
