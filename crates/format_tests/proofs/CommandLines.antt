-- What the program's words ask for, row by row.
use Rattle.std.specs.Prelude.{◌≡◌, true, false, [], ◌∷◌, None, Some, codes, refl}
use Rattle.command_line.specs.declared.help.Topic.TheVariants as topics
use Rattle.command_line.specs.Words.{Help, Version, Check, Replay, Serve, request_in, turns_of, most_turns, all_turns}

words-1 : request_in (codes "ngx" ∷ codes "--help" ∷ []) ≡ Some (Help topics.Program)
words-1 = refl

words-2 : request_in (codes "ngx" ∷ codes "-V" ∷ []) ≡ Some Version
words-2 = refl

words-3 : request_in (codes "ngx" ∷ codes "serve" ∷ codes "-h" ∷ []) ≡ Some (Help topics.Serve)
words-3 = refl

words-4 : request_in (codes "ngx" ∷ codes "check" ∷ codes "./--help" ∷ []) ≡ Some (Check (codes "./--help"))
words-4 = refl

words-5 : request_in (codes "ngx" ∷ codes "replay" ∷ codes "a" ∷ []) ≡ Some (Replay (codes "a") false)
words-5 = refl

words-6 : request_in (codes "ngx" ∷ codes "serve" ∷ codes "a" ∷ []) ≡ Some (Serve (codes "a") 18446744073709551615 false)
unfolding all_turns
words-6 = refl

words-7 : request_in (codes "ngx" ∷ codes "serve" ∷ codes "a" ∷ codes "--turns" ∷ codes "1000000000" ∷ []) ≡ Some (Serve (codes "a") 1000000000 false)
unfolding turns_of most_turns
words-7 = refl

words-8 : request_in (codes "ngx" ∷ codes "serve" ∷ codes "a" ∷ codes "--turns" ∷ codes "0" ∷ []) ≡ None
unfolding turns_of most_turns
words-8 = refl

words-9 : request_in (codes "ngx" ∷ codes "serve" ∷ codes "a" ∷ codes "--turns" ∷ codes "1x" ∷ []) ≡ None
unfolding turns_of most_turns
words-9 = refl

words-10 : request_in (codes "ngx" ∷ codes "check" ∷ codes "a" ∷ codes "--turns" ∷ codes "1" ∷ []) ≡ None
words-10 = refl

words-11 : request_in (codes "ngx" ∷ codes "frob" ∷ codes "--help" ∷ []) ≡ None
words-11 = refl

words-12 : request_in (codes "ngx" ∷ []) ≡ None
words-12 = refl

words-13 : request_in (codes "ngx" ∷ codes "replay" ∷ codes "a" ∷ codes "--racy" ∷ []) ≡ Some (Replay (codes "a") true)
words-13 = refl

words-14 : request_in (codes "ngx" ∷ codes "serve" ∷ codes "a" ∷ codes "--racy" ∷ []) ≡ Some (Serve (codes "a") 18446744073709551615 true)
unfolding all_turns
words-14 = refl

words-15 : request_in (codes "ngx" ∷ codes "serve" ∷ codes "a" ∷ codes "--turns" ∷ codes "7" ∷ codes "--racy" ∷ []) ≡ Some (Serve (codes "a") 7 true)
unfolding turns_of most_turns
words-15 = refl

words-16 : request_in (codes "ngx" ∷ codes "serve" ∷ codes "a" ∷ codes "--racy" ∷ codes "--turns" ∷ codes "7" ∷ []) ≡ Some (Serve (codes "a") 7 true)
unfolding turns_of most_turns
words-16 = refl

words-17 : request_in (codes "ngx" ∷ codes "check" ∷ codes "a" ∷ codes "--racy" ∷ []) ≡ None
words-17 = refl

words-18 : request_in (codes "ngx" ∷ codes "replay" ∷ codes "a" ∷ codes "--racy" ∷ codes "--racy" ∷ []) ≡ None
words-18 = refl

words-19 : request_in (codes "ngx" ∷ codes "check" ∷ codes "a" ∷ codes "--help" ∷ []) ≡ Some (Help topics.Check)
words-19 = refl

words-20 : request_in (codes "ngx" ∷ codes "replay" ∷ codes "a" ∷ codes "--racy" ∷ codes "--help" ∷ []) ≡ None
words-20 = refl
