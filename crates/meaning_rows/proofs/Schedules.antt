-- Rows of schedules: a site in which no variable is named, and one in which the order of steps shows.
use Rattle.std.specs.Prelude.{◌≡◌, true, false, [], ◌∷◌, codes, refl}
use Rattle.http_types.specs.declared.words.Method.TheVariants.{Get}
use Rattle.meaning_rows.proofs.Opened.{opened}
use Rattle.meaning_rows.proofs.Samples.{file, none, main_with, request_with}
use Rattle.meaning_rows.proofs.Documents.{documents, setting}
use Rattle.meaning_rows.proofs.Steps.{steps_keep, nodes_after, step_words}

-- both children of a page are open at once
row_two : nodes_after documents (file "/w/p.html" "<!--# include virtual=\"/b.html\" --><!--# include virtual=\"/d.html\" -->" (file "/w/b.html" "B" (file "/w/d.html" "D" none))) (main_with Get (codes "/p.html") []) (request_with Get (codes "/p.html") []) ((0, 0) ∷ (0, 0) ∷ (0, 0) ∷ (0, 0) ∷ (1, 0) ∷ []) ≡ 3
unfolding opened step_words
row_two = refl

-- where the second ends first, the order of the response stays
row_keep : steps_keep documents (file "/w/p.html" "<!--# include virtual=\"/b.html\" --><!--# include virtual=\"/d.html\" -->" (file "/w/b.html" "B" (file "/w/d.html" "D" none))) (main_with Get (codes "/p.html") []) (request_with Get (codes "/p.html") []) ((0, 0) ∷ (0, 0) ∷ (0, 0) ∷ (0, 0) ∷ (1, 0) ∷ (1, 0) ∷ (1, 0) ∷ (1, 0) ∷ (1, 0) ∷ (1, 0) ∷ (0, 0) ∷ (0, 0) ∷ (0, 0) ∷ (0, 0) ∷ []) ≡ true
unfolding opened step_words
row_keep = refl

-- an echo of a variable that an include sets: the order in which the two run shows, and the check names the variable
row_racy : steps_keep setting (file "/w/p.html" "<!--# include virtual=\"/a\" --><!--# echo var=\"v\" -->" none) (main_with Get (codes "/p.html") []) (request_with Get (codes "/p.html") []) ((0, 0) ∷ (0, 0) ∷ (0, 0) ∷ (1, 0) ∷ (1, 0) ∷ []) ≡ false
unfolding opened step_words
row_racy = refl
