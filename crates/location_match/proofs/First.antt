-- The first of some entries.
use Rattle.std.proofs.Common.{◌≡◌, ◌<◌, List, [], ◌∷◌, length, Some, None, slice_get, refl, arith}
use Rattle.location_match.specs.Prefixes.{text_at}
use Rattle.location_match.specs.Entries.{texts_of}
use Rattle.location_match.specs.declared.prefixes.PrefixEntry.{PrefixEntry}

pub first-is : (es : List PrefixEntry) (e : PrefixEntry) → Some e ≡ slice_get es 0 → (0 < length (texts_of es)) × (text_at (texts_of es) 0 ≡ e.text)
first-is [] e h = absurd (grind arith)
first-is (x ∷ xs) e h = (omega arith, grind (arith, h))

pub none-is : (es : List PrefixEntry) → slice_get es 0 ≡ None → texts_of es ≡ []
none-is [] h = refl
none-is (x ∷ xs) h = absurd (grind (arith, h))
