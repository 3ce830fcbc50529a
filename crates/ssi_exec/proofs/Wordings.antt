-- The words of commands by their names.
use Rattle.std.proofs.Common.{◌≡◌, ℕ, true, false, cond, List, [], ◌∷◌, Some, option_map, map, refl, sym, ◌∙◌, ap}
use Rattle.std.specs.List.{find}
use Rattle.std.specs.Str.{bytes_eq}
use Rattle.std.proofs.lemmas.Slice.Eq.{bytes_eq-Decides}
use Rattle.request_meaning.specs.Commands.{Word, words, word_named}
use Rattle.request_meaning.specs.Commands.Word.{Include}
use Rattle.ssi_exec.specs.declared.words.Word.{Word as CodeWord}
use Rattle.ssi_exec.specs.declared.words.Word.TheVariants as code
use Rattle.ssi_exec.specs.Named.{word_seen, name_of, all_words}

named_words : map (λ (w : CodeWord). (name_of w, word_seen w)) all_words ≡ words
unfolding words all_words name_of
named_words = refl

found : (name : List ℕ) (ws : List CodeWord) → option_map (λ (e : List ℕ × Word). e.1) (find (λ (e : List ℕ × Word). bytes_eq e.0 name) (map (λ (w : CodeWord). (name_of w, word_seen w)) ws)) ≡ option_map word_seen (find (λ w. bytes_eq (name_of w) name) ws)
found name [] = refl
found name (w ∷ ws) =
    elim (bytes_eq (name_of w) name) as (λ b. option_map (λ (e : List ℕ × Word). e.1) (cond b (Some (name_of w, word_seen w)) (find (λ (e : List ℕ × Word). bytes_eq e.0 name) (map (λ (w : CodeWord). (name_of w, word_seen w)) ws))) ≡ option_map word_seen (cond b (Some w) (find (λ w. bytes_eq (name_of w) name) ws))) [
      | true ↦ refl
      | false ↦ found name ws
    ]

pub word_there : (name : List ℕ) → option_map word_seen (find (λ w. bytes_eq (name_of w) name) all_words) ≡ word_named name
unfolding word_named
word_there name = sym (found name all_words) ∙ ap (λ (ws : List (List ℕ × Word)). option_map (λ (e : List ℕ × Word). e.1) (find (λ (e : List ℕ × Word). bytes_eq e.0 name) ws)) named_words

pub include_there : (name : List ℕ) → bytes_eq name (name_of code.Include) ≡ true → Some Include ≡ word_named name
unfolding word_named words name_of
include_there name e = rw ((bytes_eq-Decides name (name_of code.Include)).0 e) refl
