-- What each front of a format shows.
use Rattle.std.proofs.Common.{◌≡◌, ◌≢◌, ℕ, true, false, nat_eq, List, [], ◌∷◌, ◌++◌, append_assoc, append-nil, Some, None, refl, sym, ap, ◌∙◌, arith, min}
use Rattle.std.proofs.lemmas.Bool.Decides.{nat_tests}
use Rattle.httpdate.specs.declared.parts.Parts.{Parts}
use Rattle.http_moment.specs.declared.format.Conversion.{Conversion}
use Rattle.http_moment.specs.Moment.{calendar, last_second, shown_at}
use Rattle.http_moment.specs.Shown.{percent, conversion_of, conversion_text, text_at, is_format, shown_text}

other : (b : ℕ) → b ≢ percent → nat_eq b percent ≡ false
other b h = grind (arith, nat_tests)

is_format_plain' : (b : ℕ) (rest : List ℕ) → nat_eq b percent ≡ false → is_format (b ∷ rest) ≡ is_format rest
unfolding is_format
is_format_plain' b [] e = rw e refl
is_format_plain' b (c ∷ rest) e = rw e refl

-- a byte that is no `%`
pub is_format_plain : (format : List ℕ) (b : ℕ) (rest : List ℕ) → format ≡ b ∷ rest → b ≢ percent → is_format format ≡ is_format rest
is_format_plain format b rest at h = ap is_format at ∙ is_format_plain' b rest (other b h)

is_format_end' : is_format (percent ∷ []) ≡ false
unfolding is_format
is_format_end' = refl

-- a `%` at the end
pub is_format_end : (format : List ℕ) (b : ℕ) (rest : List ℕ) → format ≡ b ∷ rest → b ≡ percent → rest ≡ [] → is_format format ≡ false
is_format_end format b rest at h end = ap is_format at ∙ rw (h, end) is_format_end'

is_format_unknown' : (c : ℕ) (rest : List ℕ) → conversion_of c ≡ None → is_format (percent ∷ c ∷ rest) ≡ false
unfolding is_format
is_format_unknown' c rest e = rw e refl

-- a `%` and a byte that asks for no conversion
pub is_format_unknown : (format : List ℕ) (b c : ℕ) (after rest : List ℕ) → format ≡ b ∷ after → b ≡ percent → after ≡ c ∷ rest → conversion_of c ≡ None → is_format format ≡ false
is_format_unknown format b c after rest at h next e = ap is_format at ∙ rw (h, next) (is_format_unknown' c rest e)

is_format_known' : (c : ℕ) (rest : List ℕ) (kind : Conversion) → conversion_of c ≡ Some kind → is_format (percent ∷ c ∷ rest) ≡ is_format rest
unfolding is_format
is_format_known' c rest kind e = rw e refl

-- a conversion
pub is_format_known : (format : List ℕ) (b c : ℕ) (after rest : List ℕ) (kind : Conversion) → format ≡ b ∷ after → b ≡ percent → after ≡ c ∷ rest → conversion_of c ≡ Some kind → is_format format ≡ is_format rest
is_format_known format b c after rest kind at h next e = ap is_format at ∙ rw (h, next) (is_format_known' c rest kind e)

pub is_format_nothing : (format : List ℕ) → format ≡ [] → is_format format ≡ true
unfolding is_format
is_format_nothing format e = rw e refl

shown_plain' : (secs b : ℕ) (rest : List ℕ) → nat_eq b percent ≡ false → shown_text secs (b ∷ rest) ≡ b ∷ shown_text secs rest
unfolding shown_text
shown_plain' secs b [] e = rw e refl
shown_plain' secs b (c ∷ rest) e = rw e refl

pub shown_plain : (secs : ℕ) (out next format : List ℕ) (b : ℕ) (rest : List ℕ) → format ≡ b ∷ rest → b ≢ percent → next ≡ out ++ b ∷ [] → next ++ shown_text secs rest ≡ out ++ shown_text secs format
shown_plain secs out next format b rest at h e = rw (e, at, shown_plain' secs b rest (other b h)) (append_assoc out (b ∷ []) (shown_text secs rest))

shown_end' : (secs : ℕ) → shown_text secs (percent ∷ []) ≡ []
unfolding shown_text
shown_end' secs = refl

pub shown_end : (secs : ℕ) (format : List ℕ) (b : ℕ) (rest : List ℕ) → format ≡ b ∷ rest → b ≡ percent → rest ≡ [] → shown_text secs format ≡ []
shown_end secs format b rest at h end = ap (shown_text secs) at ∙ rw (h, end) (shown_end' secs)

shown_unknown' : (secs c : ℕ) (rest : List ℕ) → conversion_of c ≡ None → shown_text secs (percent ∷ c ∷ rest) ≡ []
unfolding shown_text
shown_unknown' secs c rest e = rw e refl

pub shown_unknown : (secs : ℕ) (format : List ℕ) (b c : ℕ) (after rest : List ℕ) → format ≡ b ∷ after → b ≡ percent → after ≡ c ∷ rest → conversion_of c ≡ None → shown_text secs format ≡ []
shown_unknown secs format b c after rest at h next e = ap (shown_text secs) at ∙ rw (h, next) (shown_unknown' secs c rest e)

shown_known' : (secs c : ℕ) (rest : List ℕ) (kind : Conversion) → conversion_of c ≡ Some kind → shown_text secs (percent ∷ c ∷ rest) ≡ text_at secs kind ++ shown_text secs rest
unfolding shown_text
shown_known' secs c rest kind e = rw e refl

text_at_is : (secs second : ℕ) (p : Parts) (kind : Conversion) → second ≡ min secs last_second → p ≡ calendar second → conversion_text second p kind ≡ text_at secs kind
unfolding text_at shown_at
text_at_is secs second p kind e date = rw (date, e) refl

pub shown_known : (secs second : ℕ) (p : Parts) (out next format : List ℕ) (b c : ℕ) (after rest : List ℕ) (kind : Conversion) → second ≡ min secs last_second → p ≡ calendar second → format ≡ b ∷ after → b ≡ percent → after ≡ c ∷ rest → conversion_of c ≡ Some kind → next ≡ out ++ conversion_text second p kind → next ++ shown_text secs rest ≡ out ++ shown_text secs format
shown_known secs second p out next format b c after rest kind e date at h behind known put =
    rw (put, text_at_is secs second p kind e date, at, h, behind, shown_known' secs c rest kind known) (append_assoc out (text_at secs kind) (shown_text secs rest))

pub shown_nothing : (secs : ℕ) (format : List ℕ) → format ≡ [] → shown_text secs format ≡ []
unfolding shown_text
shown_nothing secs format e = rw e refl

-- where nothing more is shown, all is there
pub shown_all : (secs : ℕ) (out rest : List ℕ) → shown_text secs rest ≡ [] → out ≡ out ++ shown_text secs rest
shown_all secs out rest e = rw e (sym (append-nil out))
