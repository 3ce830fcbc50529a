-- What a chain of filters makes of a body, row by row, and which members make a chain.
use Rattle.std.proofs.Common.{ap, ◌∙◌, append-nil, arith}
use Rattle.std.specs.Prelude.{◌≡◌, ℕ, ◌==◌, Bool, true, false, List, [], ◌∷◌, ◌++◌, map, Some, None, codes, refl, if◌then◌else◌}
use Rattle.ssi_text.specs.declared.part.Part.{Part}
use Rattle.ssi_text.specs.declared.part.Part.TheVariants.{Text, Command, Bad, Before, After}
use Rattle.ssi_text.specs.Commands.{size, quoted, unescaped, assigned, param_at, params_within, made}
use Rattle.ssi_text.specs.Marks.{Mark, Byte, Other}
use Rattle.ssi_text.specs.Split.{begins, limit, begun, front, split, parts}
use Rattle.filter_api.specs.declared.chain.ChainFault.TheVariants.{FirstTwo, Later, TooMany}
use Rattle.filter_api.specs.declared.facts.Facts.{Facts}
use Rattle.filter_api.specs.declared.facts.FilterState.{FilterState}
use Rattle.filter_api.specs.Chains.{fault_of}
use Rattle.filter_api.specs.Members.{Machine, Member, IsLawful, feeds, fresh, others_of, turned}
use Rattle.addition_filter.specs.Machine.{addition_machine}
use Rattle.ssi_filter.specs.Machine.{ssi_machine}

-- a member of a later kind, which makes `a` of a body's text `A`
abbrev upper_byte : ℕ → ℕ
upper_byte b = if b == 97 then 65 else b

abbrev upper_mark : Mark → Mark
upper_mark (Byte b) = Byte (upper_byte b)
upper_mark (Other p) = Other p

abbrev upper : Machine
upper = record { on = true; step = λ s x. (s, upper_mark x ∷ []); finish = λ s. [] }

abbrev upper_caser : Member
upper_caser = record { kind = 9; machine = λ facts. upper }

upper_marks : (s : FilterState) (xs : List Mark) → (feeds upper s xs).1 ≡ map upper_mark xs
upper_marks s [] = refl
upper_marks s (x ∷ xs) = ap (λ z. upper_mark x ∷ z) (upper_marks s xs)

upper_others : (xs : List Mark) → others_of (map upper_mark xs) ≡ others_of xs
upper_others [] = refl
upper_others (Byte b ∷ xs) = upper_others xs
upper_others (Other p ∷ xs) = ap (λ z. p ∷ z) (upper_others xs)

-- such members can be: the laws of a later kind are met
upper_caser_lawful : IsLawful upper_caser
upper_caser_lawful = record {
  splits = λ e facts document. absurd (omega (arith, e));
  surrounds = λ e facts xs. absurd (omega (arith, e));
  keeps = λ h facts xs. ap others_of (append-nil (feeds upper fresh xs).1 ∙ upper_marks fresh xs) ∙ upper_others xs;
}

-- which members make a chain, by their kinds

chain-1 : fault_of [] ≡ Some FirstTwo
chain-1 = refl

chain-2 : fault_of (2 ∷ 1 ∷ []) ≡ Some FirstTwo
chain-2 = refl

chain-3 : fault_of (1 ∷ 2 ∷ []) ≡ None
chain-3 = refl

chain-4 : fault_of (1 ∷ 2 ∷ 2 ∷ []) ≡ Some Later
chain-4 = refl

chain-5 : fault_of (1 ∷ 2 ∷ 9 ∷ 1 ∷ []) ≡ Some Later
chain-5 = refl

chain-6 : fault_of (1 ∷ 2 ∷ 9 ∷ 9 ∷ 9 ∷ 9 ∷ 9 ∷ 9 ∷ 9 ∷ 9 ∷ 9 ∷ 9 ∷ 9 ∷ 9 ∷ 9 ∷ 9 ∷ []) ≡ None
chain-6 = refl

chain-7 : fault_of (1 ∷ 2 ∷ 9 ∷ 9 ∷ 9 ∷ 9 ∷ 9 ∷ 9 ∷ 9 ∷ 9 ∷ 9 ∷ 9 ∷ 9 ∷ 9 ∷ 9 ∷ 9 ∷ 9 ∷ []) ≡ Some TooMany
chain-7 = refl

-- a body as it comes out of both filters and the later member: text as it is, `{name}` for a command, `{}` for one that
-- isn't well formed, `[` and `]` for the places before and after it
abbrev shown_part : Part → List ℕ
shown_part (Text text) = text
shown_part (Command name params) = codes "{" ++ name ++ codes "}"
shown_part Bad = codes "{}"
shown_part Before = codes "["
shown_part After = codes "]"

abbrev shown : List Mark → List ℕ
shown [] = []
shown (Byte b ∷ xs) = b ∷ shown xs
shown (Other p ∷ xs) = shown_part p ++ shown xs

abbrev out_of_all : Facts → List ℕ → List ℕ
out_of_all facts document = shown (turned (ssi_machine facts ∷ addition_machine facts ∷ upper ∷ []) (map Byte document))

abbrev facts : (split : Bool) (status : ℕ) → Facts
facts split status = record { ssi = true; ssi_type = split; before = false; after = true; addition_type = true; status = status; main = true }

body-1 : out_of_all (facts true 200) (codes "ba<!--# Echo var=\"-->\" -->na<!--# = --><!-") ≡ codes "[bA{echo}nA{}<!-]"
unfolding size quoted unescaped assigned param_at params_within made begins limit begun front split parts
body-1 = refl

body-2 : out_of_all (facts false 404) (codes "a<!--# echo -->") ≡ codes "A<!--# echo -->"
unfolding size quoted unescaped assigned param_at params_within made begins limit begun front split parts
body-2 = refl

body-3 : out_of_all (facts true 200) [] ≡ codes "[]"
unfolding size quoted unescaped assigned param_at params_within made begins limit begun front split parts
body-3 = refl
