-- A path written with escapes, byte by byte.
use Rattle.std.proofs.Common.{◌≡◌, ℕ, ◌+◌, ◌<◌, true, false, List, [], ◌∷◌, ◌++◌, length, get_or, take, sym, ap, ◌∙◌, append_assoc, append-nil}
use Rattle.std.proofs.lemmas.Bool.{cond-true, cond-false}
use Rattle.std.proofs.lemmas.Grind.{flat_map-append}
use Rattle.std.proofs.lemmas.List.{take_more}
use Rattle.percent_encoding.specs.Percent.{percent_encode_byte}
use Rattle.uri_text.specs.Escape.{needs_escape, escape_byte, escape_of}

pub escape_of-start : (out : List ℕ) → out ≡ out ++ escape_of []
unfolding escape_of
escape_of-start out = sym (append-nil out)

escape_of-push : (xs : List ℕ) (b : ℕ) → escape_of (xs ++ b ∷ []) ≡ escape_of xs ++ escape_byte b
unfolding escape_of
escape_of-push xs b = flat_map-append escape_byte xs (b ∷ []) ∙ ap (λ t. escape_of xs ++ t) (append-nil (escape_byte b))

pub escape_of-more : (start out more path : List ℕ) (i : ℕ) → out ≡ start ++ escape_of (take i path) → i < length path → more ≡ escape_byte (get_or path i 0) → out ++ more ≡ start ++ escape_of (take (i + 1) path)
escape_of-more start out more path i so_far inside is =
    ap (λ t. t ++ more) so_far ∙ append_assoc start (escape_of (take i path)) more ∙ ap (λ t. start ++ (escape_of (take i path) ++ t)) is
    ∙ ap (λ t. start ++ t) (sym (ap escape_of (take_more path i 0 inside) ∙ escape_of-push (take i path) (get_or path i 0)))

pub escape_byte-escaped : (b : ℕ) → needs_escape b ≡ true → percent_encode_byte b ≡ escape_byte b
escape_byte-escaped b is = sym (cond-true _ _ _ is)

pub escape_byte-kept : (b : ℕ) → needs_escape b ≡ false → b ∷ [] ≡ escape_byte b
escape_byte-kept b is = sym (cond-false _ _ _ is)
