-- The acts of a document's values settle as what they come to.
use Rattle.std.proofs.Common.{◌≡◌, ℕ, Bool, true, false, cond, List, [], ◌∷◌, Option, Some, None, unwrap_or, nat_eq, refl, sym, ◌∙◌, ap, append-nil}
use Rattle.std.specs.List.{list_any, before_first, after_first, ends_with}
use Rattle.acts.specs.Vars.{Vars, look}
use Rattle.acts.specs.Act.{Done, Get, ◌>>=◌, settled}
use Rattle.ngx_variables.specs.declared.value.Piece.{Piece}
use Rattle.ngx_variables.specs.declared.value.Piece.TheVariants.{Literal, Group, Builtin, Argument, Field, Cookie, Set}
use Rattle.ngx_variables.specs.declared.request.Main.{Main}
use Rattle.ngx_variables.specs.declared.request.Request.{Request}
use Rattle.ngx_variables.specs.Texts.{piece_text, pieces_text, place_paths, value_text}
use Rattle.ngx_variables.specs.Acts.{piece}
use Rattle.ngx_variables.proofs.Settles.{then_does, pair_settles, piece_settles}
use Rattle.ngx_variables.specs.Grammar.{Token, lowercase, piece_named}
use Rattle.ngx_variables.specs.Grammar.Token.{Bytes, Name}
use Rattle.ngx_variables.specs.Pairs.{trimmed}
use Rattle.request_meaning.specs.Serving.{World, Serving, Child, Reply}
use Rattle.request_meaning.specs.Documents.{Doc, Truth, dated, filled, is_equals, is_full, is_pattern, is_visible, left_side, named_value, own_or, read_text, same_text, site_value, some_bytes, token_text, tokens, tokens_text, compared, truth}
use Rattle.request_meaning.specs.Documents.Truth.{Pattern}
use Rattle.ssi_values.specs.Known.{known, named_text, own_else, site_text, token_value, tokens_value, read_value, rest_value, fit_value, filled_text, compared_truth, sides_truth, truth_of, NamedSettles, FilledSettles, TruthSettles}

module _ (main : Main) (request : Request) (vars : Vars) where
  one_piece : (p : Piece) → piece_text (place_paths main request vars request.place) main request vars p ≡ value_text main request vars (p ∷ [])
  unfolding value_text pieces_text
  one_piece p = sym (append-nil (piece_text (place_paths main request vars request.place) main request vars p))

  some_settles : (p : Piece) → settled (some_bytes (piece main request p)) vars ≡ (Done (Some (value_text main request vars (p ∷ []))), vars)
  unfolding settled
  some_settles p =
      then_does vars (piece main request p) (λ bytes. Done (Some bytes)) (piece_text (place_paths main request vars request.place) main request vars p) (piece_settles main request vars p)
      ∙ ap (λ (t : List ℕ). (Done (Some t), vars)) (one_piece p)

-- ---- names

module _ (w : World) (doc : Doc) (vars : Vars) where
  site_settles : (p : Piece) → settled (site_value w doc p) vars ≡ (Done (site_text (known w doc vars) p), vars)
  unfolding settled site_value
  site_settles (Set name) = elim (is_visible w.server.visible name) as (λ b. settled {C = Child} {R = Reply} (cond b (Get name (λ value. Done value)) (Done None)) vars ≡ (Done (cond b (look vars name) None), vars)) [ true ↦ refl | false ↦ refl ]
  site_settles (Literal bytes) = some_settles (dated doc) doc.request vars (Literal bytes)
  site_settles (Group number) = some_settles (dated doc) doc.request vars (Group number)
  site_settles (Builtin variable) = some_settles (dated doc) doc.request vars (Builtin variable)
  site_settles (Argument name) = some_settles (dated doc) doc.request vars (Argument name)
  site_settles (Field name) = some_settles (dated doc) doc.request vars (Field name)
  site_settles (Cookie name) = some_settles (dated doc) doc.request vars (Cookie name)

  own_settles : (own other : Option (List ℕ)) (m : Serving (Option (List ℕ))) → settled m vars ≡ (Done other, vars) → settled (own_or own m) vars ≡ (Done (own_else own other), vars)
  unfolding settled
  own_settles None other m e = e
  own_settles (Some value) other m e = refl

  name_settles : (name : List ℕ) → settled (named_value w doc name) vars ≡ (Done (named_text (known w doc vars) name), vars)
  unfolding named_value named_text
  name_settles name = own_settles (look doc.ssi (lowercase name)) (site_text (known w doc vars) (piece_named (lowercase name))) (site_value w doc (piece_named (lowercase name))) (site_settles (piece_named (lowercase name)))

  -- ---- texts

  token_settles : (t : Token) → settled (token_text w doc t) vars ≡ (Done (token_value (known w doc vars) t), vars)
  unfolding settled token_text
  token_settles (Bytes bytes) = refl
  token_settles (Name name) = then_does vars (named_value w doc name) (λ value. Done (unwrap_or value [])) (named_text (known w doc vars) name) (name_settles name)

  tokens_settle : (ts : List Token) → settled (tokens_text w doc ts) vars ≡ (Done (tokens_value (known w doc vars) ts), vars)
  unfolding settled tokens_text tokens_value
  tokens_settle [] = refl
  tokens_settle (t ∷ ts) = pair_settles vars (token_text w doc t) (tokens_text w doc ts) (token_value (known w doc vars) t) (tokens_value (known w doc vars) ts) (token_settles t) (tokens_settle ts)

  read_settles : (o : Option (List Token)) → settled (read_text w doc o) vars ≡ (Done (fit_value (read_value (known w doc vars) o)), vars)
  unfolding settled read_text
  read_settles None = refl
  read_settles (Some ts) = then_does vars (tokens_text w doc ts) (λ text. Done (fit_value (Some text))) (tokens_value (known w doc vars) ts) (tokens_settle ts)

  text_settles : (text : List ℕ) → settled (filled w doc text) vars ≡ (Done (filled_text (known w doc vars) text), vars)
  unfolding filled filled_text rest_value
  text_settles text = read_settles (tokens 0 text)

  -- ---- conditions

  compares : (unequal : Bool) (left right : List ℕ) → settled (filled w doc left >>= λ a. filled w doc right >>= λ b. Done (same_text unequal a b)) vars ≡ (Done (same_text unequal (filled_text (known w doc vars) left) (filled_text (known w doc vars) right)), vars)
  unfolding settled
  compares unequal left right =
      then_does vars (filled w doc left) (λ a. filled w doc right >>= λ b. Done (same_text unequal a b)) (filled_text (known w doc vars) left) (text_settles left)
      ∙ then_does vars (filled w doc right) (λ b. Done (same_text unequal (filled_text (known w doc vars) left) b)) (filled_text (known w doc vars) right) (text_settles right)

  pick_settles : (b : Bool) (m n : Serving Truth) (s t : Truth) → settled m vars ≡ (Done s, vars) → settled n vars ≡ (Done t, vars) → settled (cond b m n) vars ≡ (Done (cond b s t), vars)
  pick_settles true m n s t e f = e
  pick_settles false m n s t e f = f

  done_settles : (t : Truth) → settled {C = Child} {R = Reply} (Done t) vars ≡ (Done t, vars)
  unfolding settled
  done_settles t = refl

  compared_settles : (unequal : Bool) (left right : List ℕ) → settled (compared w doc unequal left right) vars ≡ (Done (compared_truth (known w doc vars) unequal left right), vars)
  unfolding compared
  compared_settles unequal left right = pick_settles (is_pattern right) (Done Pattern) (filled w doc left >>= λ a. filled w doc right >>= λ b. Done (same_text unequal a b)) Pattern (same_text unequal (filled_text (known w doc vars) left) (filled_text (known w doc vars) right)) (done_settles Pattern) (compares unequal left right)

  full_settles : (text : List ℕ) → settled (filled w doc text >>= λ t. Done (is_full t)) vars ≡ (Done (is_full (filled_text (known w doc vars) text)), vars)
  unfolding settled
  full_settles text = then_does vars (filled w doc text) (λ t. Done (is_full t)) (filled_text (known w doc vars) text) (text_settles text)

  condition_settles : (text : List ℕ) → settled (truth w doc text) vars ≡ (Done (truth_of (known w doc vars) text), vars)
  unfolding truth truth_of
  condition_settles text =
      let left = before_first is_equals text in
      let right = after_first is_equals text in
      pick_settles (list_any is_equals text) (compared w doc (ends_with nat_eq left (33 ∷ [])) (trimmed (left_side left)) (trimmed right)) (filled w doc (trimmed text) >>= λ t. Done (is_full t)) (sides_truth (known w doc vars) left right) (is_full (filled_text (known w doc vars) (trimmed text))) (compared_settles (ends_with nat_eq left (33 ∷ [])) (trimmed (left_side left)) (trimmed right)) (full_settles (trimmed text))

pub named_settles : NamedSettles
named_settles w doc vars name = name_settles w doc vars name

pub filled_settles : FilledSettles
filled_settles w doc vars text = text_settles w doc vars text

pub truth_settles : TruthSettles
truth_settles w doc vars text = condition_settles w doc vars text
