-- The texts of rules.
use Rattle.std.specs.Prelude.{◌≡◌, ℕ, ◌<◌, ◌≤◌, ◌⊎◌, ◌+◌, ◌-◌, ◌*◌, ◌&&◌, not, ◌==◌, if◌then◌else◌, Option, Some, None, List, [], ◌∷◌, ◌++◌, length, slice_index, codes, decimal}
use Rattle.std.specs.Char.{is_ascii_digit}
use Rattle.std.specs.declared.net.ip_addr.IpAddr.{IpAddr}
use Rattle.std.specs.Net.Grammar.{IsIpText}
use Rattle.access_rules.specs.declared.rule.Source.{Source}
use Rattle.access_rules.specs.declared.rule.Source.TheVariants.{All, Network}
use Rattle.access_rules.specs.Rule.{width_of}

-- an address, and its whole width
abbrev pub IsAddressText : List ℕ → IpAddr → ℕ → Type 0
IsAddressText text addr bits = IsIpText text addr × (bits ≡ width_of addr)

-- an address, `/` and a decimal number of first bits with no leading zeros, at most the address's width
pub record IsCidrText (text : List ℕ) (addr : IpAddr) (bits : ℕ) : Type 0 where
  pub front : List ℕ
  pub spelled : text ≡ front ++ 47 ∷ decimal bits
  pub address : IsIpText front addr
  pub within : bits ≤ width_of addr

-- the word of a rule: `all`, an address or a network
abbrev pub IsSourceText : List ℕ → Source → Type 0
IsSourceText text All = text ≡ codes "all"
IsSourceText text (Network addr bits) = IsAddressText text addr bits ⊎ IsCidrText text addr bits

-- no such byte is in the text
abbrev pub Lacks : ℕ → List ℕ → Type 0
Lacks byte text = (k : ℕ) → k < length text → ¬ (slice_index text k ≡ byte)

-- the source is the network of the first `bits` bits of an address with this text
abbrev pub IsNetworkOf : List ℕ → ℕ → Source → Type 0
IsNetworkOf text bits All = ⊥
IsNetworkOf text bits (Network addr n) = (n ≡ bits) × (bits ≤ width_of addr) × IsIpText text addr

abbrev pub IsCidrSource : List ℕ → Source → Type 0
IsCidrSource text All = ⊥
IsCidrSource text (Network addr bits) = IsCidrText text addr bits

-- the number below 200 whose decimal text this is
abbrev pub small_number : List ℕ → Option ℕ
small_number [] = None
small_number (a ∷ []) = if is_ascii_digit a then Some (a - 48) else None
small_number (a ∷ b ∷ []) = if not (a == 48) && is_ascii_digit a && is_ascii_digit b then Some ((a - 48) * 10 + (b - 48)) else None
small_number (a ∷ b ∷ c ∷ []) = if a == 49 && is_ascii_digit b && is_ascii_digit c then Some (100 + (b - 48) * 10 + (c - 48)) else None
small_number (a ∷ b ∷ c ∷ d ∷ ds) = None
