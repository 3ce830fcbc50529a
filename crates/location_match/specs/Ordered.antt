-- Texts with numbers, in order.
use Rattle.std.specs.Prelude.{◌≡◌, ℕ, ◌+◌, ◌<◌, true, List, length, slice_index_or}
use Rattle.location_match.specs.Prefixes.{is_at_most}
use Rattle.location_match.specs.Numbers.{number_in}
use Rattle.location_match.specs.declared.texts.NumberedText.{NumberedText}

-- each text is at most the next
abbrev pub AreInOrder : List NumberedText → Type 0
AreInOrder texts = (k : ℕ) (d : NumberedText) → k + 1 < length texts →
    is_at_most (slice_index_or texts k d).text (slice_index_or texts (k + 1) d).text ≡ true

-- each text leads to the same number
abbrev pub HaveSameNumbers : List NumberedText → List NumberedText → Type 0
HaveSameNumbers old new = (text : List ℕ) → number_in new text ≡ number_in old text
