-- Bytes in print, which hold no line feed.
use Rattle.std.specs.Prelude.{ℕ, Bool, not, ◌&&◌, ◌==◌, nat_le, List, [], ◌∷◌, flat_map, if◌then◌else◌}
use Rattle.percent_encoding.specs.Percent.{percent_encode_byte}

-- a printable byte of ASCII, other than `%`
abbrev pub is_plain : ℕ → Bool
is_plain b = nat_le 32 b && (nat_le b 126 && not (b == 37))

-- the byte, or `%` and its two upper-case hexadecimal digits (RFC 3986, 2.1)
abbrev pub escaped_byte : ℕ → List ℕ
escaped_byte b = if is_plain b then b ∷ [] else percent_encode_byte b

unfoldable pub escaped : List ℕ → List ℕ
escaped bytes = flat_map escaped_byte bytes
