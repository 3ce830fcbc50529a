-- Where a file is, by the tests that find it.
use Rattle.std.proofs.Common.{◌≡◌, ℕ, ◌+◌, ◌-◌, ◌<◌, Bool, true, false, ◌||◌, eqb, List, ◌++◌, length, take, drop, refl, sym, ◌∙◌, ap, arith}
use Rattle.std.specs.List.{list_any, position_or_len, slice_split}
use Rattle.std.specs.Str.{IsUtf8, is_utf8}
use Rattle.std.proofs.lemmas.Bool.{cond-true, cond-false, false_from_ne_true}
use Rattle.std.proofs.lemmas.List.Elements.{All-from_get_or}
use Rattle.std.proofs.lemmas.List.Sums.{position_or_len_is}
use Rattle.std.proofs.lemmas.List.{take_rest}
use Rattle.std.proofs.Math.Seq.{drop-append_seam, take-append_seam}
use Rattle.std.proofs.lemmas.List.Splits.{slice_split_first, slice_split_none}
use Rattle.std.proofs.lemmas.Str.{IsUtf8-from_is_utf8}
use Rattle.memchr.specs.Find.{NoneBefore, Nowhere, Passes, is_byte}
use Rattle.acts.specs.Vars.{Vars}
use Rattle.ngx_variables.specs.declared.value.Piece.{Piece}
use Rattle.ngx_variables.specs.declared.request.Main.{Main}
use Rattle.ngx_variables.specs.declared.request.FileRoot.{FileRoot}
use Rattle.ngx_variables.specs.declared.request.Request.{Request}
use Rattle.ngx_variables.specs.Paths.{behind_start, joined, merged, start as begin, text_of, without_last_slash}
use Rattle.ngx_variables.specs.Texts.{is_too_long, value_text}
use Rattle.file_path.specs.Located.{is_dots, has_dots, can_stand, located, located_at}
use Rattle.file_path.specs.Located.Located.{TooLong, NotThere, At}

-- the first segment, and those after its slash
pub dots_at : (path : List ℕ) (at : ℕ) → NoneBefore (Passes (is_byte 47) path) 0 (length path) at → Passes (is_byte 47) path at → has_dots path ≡ (is_dots (take at path) || has_dots (drop (at + 1) path))
unfolding has_dots
dots_at path at none here =
    let within : at < length path = none.high in
    let first : position_or_len (λ b. eqb b 47) path ≡ at = position_or_len_is (λ b. eqb b 47) path at 0 (omega arith) (λ k low. false_from_ne_true _ (none.before k (omega arith) low)) (λ _. here) in
    let cut = slice_split_first (λ b. eqb b 47) path 0 (omega arith) in
    ap (list_any is_dots) cut ∙ ap (λ k. is_dots (take k path) || list_any is_dots (slice_split (λ b. eqb b 47) (drop (k + 1) path))) first

or_false : (b : Bool) → (b || false) ≡ b
or_false true = refl
or_false false = refl

-- a segment alone
pub dots_alone : (path : List ℕ) → Nowhere (Passes (is_byte 47) path) 0 (length path) → has_dots path ≡ is_dots path
unfolding has_dots
dots_alone path none =
    ap (list_any is_dots) (slice_split_none (λ b. eqb b 47) path (All-from_get_or (λ b. eqb b 47 ≡ false) path 0 (λ i k. false_from_ne_true _ (none i (omega arith) k))))
    ∙ or_false (is_dots path)

-- what comes after a text, and before it
pub behind_old : (old more new slice : List ℕ) (start : ℕ) → slice ≡ new → new ≡ old ++ more → start ≡ length old → take (length slice - start) (drop start slice) ≡ more
behind_old old more new slice start s e h =
    take_rest slice start ∙ (ap (λ l. drop start l) (s ∙ e) ∙ (ap (λ k. drop k (old ++ more)) h ∙ drop-append_seam old more))

pub before_more : (old more new : List ℕ) (start : ℕ) → new ≡ old ++ more → start ≡ length old → take start new ≡ old
before_more old more new start e h = ap (λ l. take start l) e ∙ (ap (λ k. take k (old ++ more)) h ∙ take-append_seam old more)

-- where what comes after a text is made another
pub cut_after : (f : List ℕ → List ℕ) (old more new : List ℕ) (start : ℕ) → new ≡ old ++ more → start ≡ length old → take start new ++ f (drop start new) ≡ old ++ f more
cut_after f old more new start e h =
    ap (λ l. l ++ f (drop start new)) (before_more old more new start e h)
    ∙ ap (λ l. old ++ f l) (ap (λ l. drop start l) e ∙ (ap (λ k. drop k (old ++ more)) h ∙ drop-append_seam old more))

-- bytes that are no text
pub no_text : (path : List ℕ) → ¬ (IsUtf8 path) → false ≡ is_utf8 path
no_text path h = elim (is_utf8 path) as (λ t. is_utf8 path ≡ t → false ≡ t) [
  | true ↦ λ e. absurd (h (IsUtf8-from_is_utf8 path e))
  | false ↦ λ e. refl
] refl

module _ (place : FileRoot) (text uri folder : List ℕ) where
  -- a path whose slashes stay
  pub joined_by : merged (begin folder text ++ behind_start place text uri) ≡ begin folder text ++ behind_start place text uri → joined place text uri folder ≡ without_last_slash (begin folder text ++ behind_start place text uri)
  unfolding joined
  joined_by single = ap without_last_slash single

  pub too_long_by : is_too_long text ≡ true → located place text uri folder ≡ TooLong
  unfolding located
  too_long_by h = cond-true _ _ _ h

  pub at_by : is_too_long text ≡ false → can_stand (joined place text uri folder) ≡ true → located place text uri folder ≡ At (joined place text uri folder)
  unfolding located
  at_by h k = cond-false _ _ _ h ∙ cond-true _ _ _ k

  pub not_there_by : is_too_long text ≡ false → can_stand (joined place text uri folder) ≡ false → located place text uri folder ≡ NotThere
  unfolding located
  not_there_by h k = cond-false _ _ _ h ∙ cond-false _ _ _ k

module _ (main : Main) (request : Request) (vars : Vars) (place : FileRoot) where
  -- where the text of the place evaluates to this
  pub located_by : (pieces : List Piece) (text folder uri : List ℕ) → pieces ≡ text_of place → value_text main request vars pieces ≡ text → folder ≡ main.folder → located_at main request vars place uri ≡ located place text uri folder
  unfolding located_at
  located_by pieces text folder uri same e f =
      ap (λ t. located place t uri main.folder) (ap (value_text main request vars) (sym same) ∙ e) ∙ ap (located place text uri) (sym f)

  -- where it evaluates to a text that is too long
  pub too_long_at : (pieces : List Piece) (uri : List ℕ) → pieces ≡ text_of place → is_too_long (value_text main request vars pieces) ≡ true → located_at main request vars place uri ≡ TooLong
  unfolding located_at
  too_long_at pieces uri same h = too_long_by place (value_text main request vars (text_of place)) uri main.folder (ap (λ p. is_too_long (value_text main request vars p)) (sym same) ∙ h)
