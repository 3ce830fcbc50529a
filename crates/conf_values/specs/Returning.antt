-- The values of `return` (nginx's rewrite module).
use Rattle.std.specs.Prelude.{ℕ, ◌+◌, ◌*◌, ◌-◌, List, [], ◌∷◌, ◌==◌, Bool, ◌&&◌, ◌||◌, nat_le, Option, None, Some, option_map, nat_eq, true, false, codes, if◌then◌else◌}
use Rattle.std.specs.List.{starts_with}
use Rattle.site_model.specs.declared.site.Return.{Return}
use Rattle.conf_values.specs.declared.returned.Form.{Form}
use Rattle.conf_values.specs.declared.returned.Form.TheVariants.{Wrong, Later, Answer}
use Rattle.text_words.specs.Digits.{is_decimal}
use Rattle.conf_values.specs.Texts.{pieces_of, is_text}

-- a status from 200 to 599, of three digits
unfoldable pub code_of : List ℕ → Option ℕ
code_of [] = None
code_of (a ∷ []) = None
code_of (a ∷ b ∷ []) = None
code_of (a ∷ b ∷ c ∷ []) =
    if (nat_le 50 a && nat_le a 53) && (is_decimal b && is_decimal c) then Some (100 * (a - 48) + 10 * (b - 48) + (c - 48)) else None
code_of (a ∷ b ∷ c ∷ d ∷ ds) = None

-- a word that is the address to redirect to
unfoldable pub is_url : List ℕ → Bool
is_url word =
    starts_with nat_eq word (codes "http://") || (starts_with nat_eq word (codes "https://") || starts_with nat_eq word (codes "$scheme"))

-- a code that redirects, or closes the connection without a response
unfoldable pub is_special : ℕ → Bool
is_special code =
    (code == 301) || ((code == 302) || ((code == 303) || ((code == 307) || ((code == 308) || (code == 444)))))

abbrev pub form_with : Option ℕ → Form
form_with None = Wrong
form_with (Some code) = if is_special code then Later else Answer code

-- What the words of a `return` are: no value of it, one that is not served yet, or a code that is answered.
unfoldable pub form_of : List (List ℕ) → Form
form_of [] = Wrong
form_of (word ∷ []) = if is_url word then Later else form_with (code_of word)
form_of (code ∷ text ∷ []) = form_with (code_of code)
form_of (code ∷ text ∷ other ∷ words) = Wrong

-- the text after the code
abbrev pub text_of : List (List ℕ) → Option (List ℕ)
text_of [] = None
text_of (code ∷ []) = None
text_of (code ∷ text ∷ words) = Some text

abbrev pub return_by : Form → List (List ℕ) → Option Return
return_by Wrong words = None
return_by Later words = None
return_by (Answer code) words = Some (record { code = code; text = option_map pieces_of (text_of words) })

-- the texts of a `return` are such whose variables are known: that after the code, or the address to redirect to
unfoldable pub has_texts : (List ℕ → Bool) → List (List ℕ) → Bool
has_texts known [] = false
has_texts known (word ∷ []) = if is_url word then is_text known word else true
has_texts known (code ∷ text ∷ words) = is_text known text

-- the words are values of `return`
abbrev pub is_form : Form → Bool
is_form Wrong = false
is_form Later = true
is_form (Answer code) = true

abbrev pub is_return : (List ℕ → Bool) → List (List ℕ) → Bool
is_return known words = is_form (form_of words) && has_texts known words
