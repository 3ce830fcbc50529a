-- A text divided at its first literal `?`.
use Rattle.std.proofs.Common.{◌≡◌, ℕ, ◌+◌, ◌<◌, ◌≤◌, nat_lt, Bool, true, false, not, cond, List, [], ◌∷◌, ◌++◌, length, take, drop, get_or, Option, Some, None, option_map, is_some, ◌||◌, suc, drop-cons, add-one, refl, sym, subst, ◌∙◌, ap, append_assoc, append-nil, length-append, arith}
use Rattle.std.specs.List.{list_any, before_first, after_first, position_or_len}
use Rattle.std.proofs.lemmas.Bool.{cond-true, cond-false, false_from_ne_true}
use Rattle.std.proofs.lemmas.List.Elements.{All-from_get_or}
use Rattle.std.proofs.lemmas.List.Folds.{list_any_at, list_any_none}
use Rattle.std.proofs.lemmas.List.Sums.{position_or_len_is, split_at_first, passes_at_first}
use Rattle.memchr.specs.Find.{NoneBefore, Nowhere, Passes, is_byte}
use Rattle.std.proofs.Math.Seq.{drop-append_seam, take-append_seam}
use Rattle.acts.specs.Vars.{Vars}
use Rattle.ngx_variables.specs.declared.value.Piece.{Piece}
use Rattle.ngx_variables.specs.declared.value.Piece.TheVariants.{Literal, Group, Builtin, Argument, Field, Cookie, Set}
use Rattle.ngx_variables.specs.declared.request.Main.{Main}
use Rattle.ngx_variables.specs.declared.request.Request.{Request}
use Rattle.ngx_variables.specs.declared.eval.FilePaths.{FilePaths}
use Rattle.ngx_variables.specs.Texts.{piece_text, pieces_text, place_paths, value_text, is_too_long}
use Rattle.request_meaning.specs.site_views.Values.{Text}
use Rattle.request_meaning.specs.Cuts.{Cut, Target, cut, onto_path, whole, fitting, is_question}
use Rattle.target_text.specs.Settled.{bytes_before_question, before_question, target_text}

-- ---- bytes at their first `?`

question_at : (bytes : List ℕ) → list_any is_question bytes ≡ nat_lt (position_or_len is_question bytes) (length bytes)
question_at [] = refl
question_at (b ∷ bytes) = grind (arith, question_at bytes)

pub before_at : (bytes : List ℕ) (at : ℕ) → NoneBefore (Passes (is_byte 63) bytes) 0 (length bytes) at → Passes (is_byte 63) bytes at → Some (take at bytes) ≡ bytes_before_question bytes
before_at bytes at none here =
    let within : at < length bytes = none.high in
    let first : position_or_len is_question bytes ≡ at = position_or_len_is is_question bytes at 0 (omega arith) (λ k low. false_from_ne_true _ (none.before k (omega arith) low)) (λ _. here) in
    let any : list_any is_question bytes ≡ true = list_any_at is_question bytes at 0 within here in
    ap (λ n. Some (take n bytes)) (sym first) ∙ sym (cond-true (list_any is_question bytes) (Some (before_first is_question bytes)) None any)

pub before_nowhere : (bytes : List ℕ) → Nowhere (Passes (is_byte 63) bytes) 0 (length bytes) → None ≡ bytes_before_question bytes
before_nowhere bytes none =
    let any : list_any is_question bytes ≡ false = list_any_none is_question bytes (All-from_get_or (λ b. is_question b ≡ false) bytes 0 (λ i k. false_from_ne_true _ (none i (omega arith) k))) in
    sym (cond-false (list_any is_question bytes) (Some (before_first is_question bytes)) None any)

split_here : (bytes rest : List ℕ) → list_any is_question bytes ≡ true →
    (before_first is_question bytes ++ []) ++ 63 ∷ (after_first is_question bytes ++ rest) ≡ bytes ++ rest
split_here bytes rest h =
    let before = before_first is_question bytes in
    let after = after_first is_question bytes in
    let inside : position_or_len is_question bytes < length bytes = grind (arith, question_at bytes) in
    let mark : get_or bytes (position_or_len is_question bytes) 0 ≡ 63 = grind (arith, passes_at_first is_question bytes 0 inside) in
    let parts : bytes ≡ before ++ 63 ∷ after = split_at_first is_question bytes 0 inside ∙ ap (λ b. before ++ b ∷ after) mark in
    ap (λ b. b ++ 63 ∷ (after ++ rest)) (append-nil before) ∙ sym (ap (λ b. b ++ rest) parts ∙ append_assoc before (63 ∷ after) rest)

-- ---- a text by its first piece

some_first : (b : Bool) (x bytes : List ℕ) (y c : Cut) → cond b (Some x) None ≡ Some bytes → (b ≡ true) × (x ≡ bytes)
some_first true x bytes y c e = (refl, cc e)
some_first false x bytes y c e = cc e

-- the pieces up to the one with the `?`
pub cut_here : (p : Piece) (text : Text) (bytes : List ℕ) → before_question p ≡ Some bytes → ((cut (p ∷ text)).path ≡ Literal bytes ∷ []) × (is_some (cut (p ∷ text)).args ≡ true)
unfolding cut
cut_here (Literal all) text bytes e =
    let c : Cut = record { path = Literal (before_first is_question all) ∷ []; args = Some (Literal (after_first is_question all) ∷ text) } in
    let found = some_first (list_any is_question all) (before_first is_question all) bytes c c e in
    let same = cond-true (list_any is_question all) c (onto_path (Literal all) (cut text)) found.0 in
    (ap (λ (c : Cut). c.path) same ∙ ap (λ b. Literal b ∷ []) found.1, ap (λ (c : Cut). is_some c.args) same)
cut_here (Group number) text bytes e = cc e
cut_here (Builtin variable) text bytes e = cc e
cut_here (Argument name) text bytes e = cc e
cut_here (Field name) text bytes e = cc e
cut_here (Cookie name) text bytes e = cc e
cut_here (Set name) text bytes e = cc e

none_first : (b : Bool) (x : List ℕ) → cond b (Some x) None ≡ None → b ≡ false
none_first true x e = cc e
none_first false x e = refl

-- a piece without one
pub cut_later : (p : Piece) (text : Text) → before_question p ≡ None → cut (p ∷ text) ≡ onto_path p (cut text)
unfolding cut
cut_later (Literal all) text e = cond-false (list_any is_question all) _ _ (none_first (list_any is_question all) (before_first is_question all) e)
cut_later (Group number) text e = refl
cut_later (Builtin variable) text e = refl
cut_later (Argument name) text e = refl
cut_later (Field name) text e = refl
cut_later (Cookie name) text e = refl
cut_later (Set name) text e = refl

pub has_cons : (p : Piece) (text : Text) → is_some (cut (p ∷ text)).args ≡ (is_some (before_question p) || is_some (cut text).args)
has_cons p text = elim (before_question p) as (λ o. before_question p ≡ o → is_some (cut (p ∷ text)).args ≡ (is_some o || is_some (cut text).args)) [
  | Some bytes ↦ λ e. (cut_here p text bytes e).1
  | None ↦ λ e. ap (λ (c : Cut). is_some c.args) (cut_later p text e)
] refl

pub path_here : (p : Piece) (text : Text) (bytes : List ℕ) → before_question p ≡ Some bytes → (cut (p ∷ text)).path ≡ Literal bytes ∷ []
path_here p text bytes e = (cut_here p text bytes e).0

pub path_later : (p : Piece) (text : Text) → before_question p ≡ None → (cut (p ∷ text)).path ≡ p ∷ (cut text).path
path_later p text e = ap (λ (c : Cut). c.path) (cut_later p text e)

-- ---- a text from a place on

next_at : (pieces : Text) (j : ℕ) (p : Piece) → j < length pieces → p ≡ get_or pieces j p → drop j pieces ≡ p ∷ drop (j + 1) pieces
next_at pieces j p h e = drop-cons pieces j p h ∙ ap (λ y. y ∷ drop (suc j) pieces) (sym e) ∙ ap (λ n. p ∷ drop n pieces) (sym (add-one j))

pub some_map : {A B : Type 0} (f : A → B) (o : Option A) → is_some (option_map f o) ≡ is_some o
some_map f None = refl
some_map f (Some a) = refl

pub cut_end : is_some (cut []).args ≡ false
unfolding cut
cut_end = refl

pub path_end : (cut []).path ≡ []
unfolding cut
path_end = refl

module _ (pieces : Text) (j : ℕ) (p : Piece) (inside : j < length pieces) (here : p ≡ get_or pieces j p) where
  pub question_step : is_some (cut (drop j pieces)).args ≡ (is_some (before_question p) || is_some (cut (drop (j + 1) pieces)).args)
  question_step = ap (λ t. is_some (cut t).args) (next_at pieces j p inside here) ∙ has_cons p (drop (j + 1) pieces)

  pub path_step_here : (bytes : List ℕ) → before_question p ≡ Some bytes → (cut (drop j pieces)).path ≡ Literal bytes ∷ []
  path_step_here bytes e = ap (λ t. (cut t).path) (next_at pieces j p inside here) ∙ path_here p (drop (j + 1) pieces) bytes e

  pub path_step_later : before_question p ≡ None → (cut (drop j pieces)).path ≡ p ∷ (cut (drop (j + 1) pieces)).path
  path_step_later e = ap (λ t. (cut t).path) (next_at pieces j p inside here) ∙ path_later p (drop (j + 1) pieces) e

-- such a text is as long as its bytes
pub literal_path : (main : Main) (request : Request) (vars : Vars) (p : Piece) (text : Text) (bytes : List ℕ) → before_question p ≡ Some bytes → length bytes ≡ length (value_text main request vars (cut (p ∷ text)).path)
unfolding value_text pieces_text piece_text
literal_path main request vars p text bytes e =
    ap length (sym (append-nil bytes)) ∙ ap (λ path. length (value_text main request vars path)) (sym (path_here p text bytes e))

pub first_path : (main : Main) (request : Request) (vars : Vars) (pieces : Text) (p : Piece) (bytes : List ℕ) → 0 < length pieces → p ≡ get_or pieces 0 p → before_question p ≡ Some bytes → length bytes ≡ length (value_text main request vars (cut pieces).path)
first_path main request vars pieces p bytes inside here e =
    literal_path main request vars p (drop 1 pieces) bytes e ∙ ap (λ t. length (value_text main request vars (cut t).path)) (sym (next_at pieces 0 p inside here))

-- ---- both parts evaluated

whole_append : (a b : List ℕ) (args : Option (List ℕ)) → whole (a ++ b) args ≡ a ++ whole b args
whole_append a b None = refl
whole_append a b (Some args) = append_assoc a b (63 ∷ args)

module _ (paths : FilePaths) (main : Main) (request : Request) (vars : Vars) where
  abbrev parts : Cut → List ℕ
  parts c = whole (pieces_text paths main request vars c.path) (option_map (pieces_text paths main request vars) c.args)

  onto : (p : Piece) (c : Cut) (text : Text) → parts c ≡ pieces_text paths main request vars text → parts (onto_path p c) ≡ pieces_text paths main request vars (p ∷ text)
  unfolding pieces_text
  onto p c text e =
      whole_append (piece_text paths main request vars p) (pieces_text paths main request vars c.path) (option_map (pieces_text paths main request vars) c.args)
      ∙ ap (λ t. piece_text paths main request vars p ++ t) e

  literal_cut : (all : List ℕ) (text : Text) (b : Bool) → list_any is_question all ≡ b → parts (cut text) ≡ pieces_text paths main request vars text →
      parts (cond b (record { path = Literal (before_first is_question all) ∷ []; args = Some (Literal (after_first is_question all) ∷ text) }) (onto_path (Literal all) (cut text))) ≡ pieces_text paths main request vars (Literal all ∷ text)
  unfolding pieces_text piece_text
  literal_cut all text true h e = split_here all (pieces_text paths main request vars text) h
  literal_cut all text false h e = onto (Literal all) (cut text) text e

  divided : (text : Text) → parts (cut text) ≡ pieces_text paths main request vars text
  unfolding cut pieces_text
  divided [] = refl
  divided (Literal all ∷ text) = literal_cut all text (list_any is_question all) refl (divided text)
  divided (p ∷ text) = onto p (cut text) text (divided text)

after_mark : (xs ys : List ℕ) → drop (length xs + 1) (xs ++ 63 ∷ ys) ≡ ys
after_mark [] ys = refl
after_mark (x ∷ xs) ys =
    let e : suc (length xs) + 1 ≡ suc (length xs + 1) = omega arith in
    ap (λ n. drop n (x ∷ (xs ++ 63 ∷ ys))) e ∙ after_mark xs ys

whole_longer : (path : List ℕ) (args : Option (List ℕ)) → length path ≤ length (whole path args)
whole_longer path None = omega arith
whole_longer path (Some args) = omega (arith, length-append path (63 ∷ args))

none_of : {A : Type 0} (o : Option A) → is_some o ≡ false → o ≡ None
none_of None e = refl
none_of (Some a) e = cc e

module _ (main : Main) (request : Request) (vars : Vars) (text : Text) where
  abbrev path : List ℕ
  path = value_text main request vars (cut text).path

  abbrev args : Option (List ℕ)
  args = option_map (value_text main request vars) (cut text).args

  both : whole path args ≡ value_text main request vars text
  unfolding value_text
  both = divided (place_paths main request vars request.place) main request vars text

  fits_if : (b : Bool) → is_too_long (whole path args) ≡ b → target_text main request vars text ≡ cond b None (Some (record { path = path; args = args }))
  unfolding target_text
  fits_if b e = ap (λ b. cond b None (Some (record { path = path; args = args }))) e

  pub is_unfit : is_too_long (value_text main request vars text) ≡ true → target_text main request vars text ≡ None
  is_unfit e = fits_if true (ap is_too_long both ∙ e)

  is_fit : is_too_long (value_text main request vars text) ≡ false → target_text main request vars text ≡ Some (record { path = path; args = args })
  is_fit e = fits_if false (ap is_too_long both ∙ e)

  -- a text without a `?` is the path
  pub path_alone : is_too_long (value_text main request vars text) ≡ false → is_some (cut text).args ≡ false → target_text main request vars text ≡ Some (record { path = value_text main request vars text; args = None })
  path_alone e none =
      let no_args : args ≡ None = ap (option_map (value_text main request vars)) (none_of (cut text).args none) in
      let alone : path ≡ value_text main request vars text = sym (ap (whole path) no_args) ∙ both in
      is_fit e ∙ ap (λ (a : Option (List ℕ)). Some (let t : Target = record { path = path; args = a } in t)) no_args ∙ ap (λ (p : List ℕ). Some (let t : Target = record { path = p; args = None } in t)) alone

  -- its two parts, where it has one
  record Parted : Type 0 where
    after : List ℕ
    has : args ≡ Some after
    text_is : value_text main request vars text ≡ path ++ 63 ∷ after

  parted_by : (o : Option Text) → (cut text).args ≡ o → is_some o ≡ true → Parted
  parted_by None e some = cc some
  parted_by (Some rest) e some =
      let has = ap (option_map (value_text main request vars)) e in
      record { after = value_text main request vars rest; has = has; text_is = sym both ∙ ap (whole path) has }

  parted : is_some (cut text).args ≡ true → Parted
  parted some = parted_by (cut text).args refl some

  pub path_shorter : is_some (cut text).args ≡ true → length path < length (value_text main request vars text)
  path_shorter some = let p = parted some in omega (arith, ap length p.text_is, length-append path (63 ∷ p.after))

  pub two_parts : is_too_long (value_text main request vars text) ≡ false → is_some (cut text).args ≡ true →
      target_text main request vars text ≡ Some (record { path = take (length path) (value_text main request vars text); args = Some (drop (length path + 1) (value_text main request vars text)) })
  two_parts e some =
      let p = parted some in
      let front : take (length path) (value_text main request vars text) ≡ path = ap (take (length path)) p.text_is ∙ take-append_seam path (63 ∷ p.after) in
      let back : drop (length path + 1) (value_text main request vars text) ≡ p.after = ap (drop (length path + 1)) p.text_is ∙ after_mark path p.after in
      is_fit e ∙ ap (λ (a : Option (List ℕ)). Some (let t : Target = record { path = path; args = a } in t)) (p.has ∙ ap (λ (l : List ℕ). Some l) (sym back))
      ∙ ap (λ (l : List ℕ). Some (let t : Target = record { path = l; args = Some (drop (length path + 1) (value_text main request vars text)) } in t)) (sym front)

  -- the path alone is too long
  pub path_too_long : is_too_long path ≡ true → is_too_long (value_text main request vars text) ≡ true
  unfolding is_too_long
  path_too_long e = let longer = whole_longer path args in grind (arith, longer, ap length both)

-- what the code finds of a text
module _ (main : Main) (request : Request) (vars : Vars) (text pieces : Text) (same : pieces ≡ text) (out : List ℕ) (all : out ≡ value_text main request vars text) where
  there : is_some (cut pieces).args ≡ true → is_some (cut text).args ≡ true
  there some = ap (λ t. is_some (cut t).args) (sym same) ∙ some

  at_end : (at : ℕ) → at ≡ length (value_text main request vars (cut pieces).path) → at ≡ length (value_text main request vars (cut text).path)
  at_end at e = e ∙ ap (λ t. length (value_text main request vars (cut t).path)) same

  pub within : (at : ℕ) → at ≡ length (value_text main request vars (cut pieces).path) → is_some (cut pieces).args ≡ true → at < length out
  within at e some = omega (arith, at_end at e, ap length all, path_shorter main request vars text (there some))

  pub found_alone : is_too_long (value_text main request vars text) ≡ false → is_some (cut pieces).args ≡ false → target_text main request vars text ≡ Some (record { path = out; args = None })
  found_alone fits none =
      path_alone main request vars text fits (ap (λ t. is_some (cut t).args) (sym same) ∙ none) ∙ ap (λ (l : List ℕ). Some (let t : Target = record { path = l; args = None } in t)) (sym all)

  pub found_parts : is_too_long (value_text main request vars text) ≡ false → (at : ℕ) → at ≡ length (value_text main request vars (cut pieces).path) → is_some (cut pieces).args ≡ true →
      (p : List ℕ) (a : Option (List ℕ)) → p ≡ take at out → a ≡ Some (drop (at + 1) out) → target_text main request vars text ≡ Some (record { path = p; args = a })
  found_parts fits at e some p a ep ea =
      let place = at_end at e in
      let front : take (length (value_text main request vars (cut text).path)) (value_text main request vars text) ≡ p = cc (place, all, ep) in
      let back : Some (drop (length (value_text main request vars (cut text).path) + 1) (value_text main request vars text)) ≡ a = cc (place, all, ea) in
      two_parts main request vars text fits (there some)
      ∙ ap (λ (l : List ℕ). Some (let t : Target = record { path = l; args = Some (drop (length (value_text main request vars (cut text).path) + 1) (value_text main request vars text)) } in t)) front
      ∙ ap (λ (o : Option (List ℕ)). Some (let t : Target = record { path = p; args = o } in t)) back

  pub unfit_path : is_too_long (value_text main request vars (cut pieces).path) ≡ true → target_text main request vars text ≡ None
  unfit_path e = is_unfit main request vars text (path_too_long main request vars text (ap (λ t. is_too_long (value_text main request vars (cut t).path)) (sym same) ∙ e))
