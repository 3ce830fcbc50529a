-- The page, piece by piece, and its length.
use Rattle.std.proofs.Common.{◌≡◌, ℕ, ◌+◌, ◌*◌, ◌≤◌, Bool, true, false, cond, nat_eq, nat_le, List, [], ◌∷◌, ◌++◌, length, codes, append_assoc, append-nil, length-append, refl, ◌∙◌, arith}
use Rattle.std.specs.List.{flat_map, list_all}
use Rattle.std.specs.Fmt.{decimal}
use Rattle.std.proofs.lemmas.Bool.{and_parts}
use Rattle.std.proofs.lemmas.Bool.Decides.{nat_tests}
use Rattle.resp_head.specs.Head.{crlf}
use Rattle.resp_head.specs.Phrases.{phrases, phrase_in, phrase_of, page_phrase_of}
use Rattle.error_page.specs.Page.{title_of, page_lines, page_of, PageHasLength}

-- the pieces between the two titles are ends and beginnings of lines
pieces_are_lines : (out title a b b' c d d' e f g n : List ℕ) → out ++ (a ++ n ++ b) ++ title ++ (b' ++ n ++ c ++ n ++ d) ++ title ++ (d' ++ n ++ e ++ n ++ f ++ n ++ g ++ n) ≡ out ++ flat_map (λ line. line ++ n) (a ∷ (b ++ title ++ b') ∷ c ∷ (d ++ title ++ d') ∷ e ∷ f ∷ g ∷ [])
pieces_are_lines out title a b b' c d d' e f g n = simp (append_assoc, append-nil)

page_from : (out a b c d e title : List ℕ) → a ≡ out ++ codes "<html>\r\n<head><title>" → b ≡ a ++ title → c ≡ b ++ codes "</title></head>\r\n<body>\r\n<center><h1>" → d ≡ c ++ title → e ≡ d ++ codes "</h1></center>\r\n<hr><center>nginx</center>\r\n</body>\r\n</html>\r\n" → e ≡ out ++ flat_map (λ line. line ++ crlf) (page_lines title)
unfolding page_lines crlf
page_from out a b c d e title ha hb hc hd he =
    rw (he, hd, hc, hb, ha) (pieces_are_lines out title (codes "<html>") (codes "<head><title>") (codes "</title></head>") (codes "<body>") (codes "<center><h1>") (codes "</h1></center>")
    (codes "<hr><center>nginx</center>") (codes "</body>") (codes "</html>") (codes "\r\n"))

pub page_is : (status : ℕ) (out a b c d e : List ℕ) → a ≡ out ++ codes "<html>\r\n<head><title>" → b ≡ a ++ title_of status → c ≡ b ++ codes "</title></head>\r\n<body>\r\n<center><h1>" → d ≡ c ++ title_of status → e ≡ d ++ codes "</h1></center>\r\n<hr><center>nginx</center>\r\n</body>\r\n</html>\r\n" → e ≡ out ++ page_of status
unfolding page_of
page_is status out a b c d e ha hb hc hd he = page_from out a b c d e (title_of status) ha hb hc hd he

lines_length : (title : List ℕ) → length (flat_map (λ line. line ++ crlf) (page_lines title)) ≡ 120 + 2 * length title
unfolding page_lines crlf
lines_length title = simp length-append (omega arith)

pub page_has_length : PageHasLength
unfolding page_of
page_has_length status = lines_length (title_of status)

-- no phrase is longer than 31 bytes
abbrev is_short : List ℕ → Bool
is_short text = nat_le (length text) 31

short_is : (text : List ℕ) → is_short text ≡ true → length text ≤ 31
short_is text e = grind (arith, nat_tests)

phrase_in_short : (table : List (ℕ × List ℕ)) (status : ℕ) → list_all (λ e. is_short e.1) table ≡ true → is_short (phrase_in table status) ≡ true
unfolding phrase_in
phrase_in_short [] status e = refl
phrase_in_short (entry ∷ more) status e =
    let parts = and_parts (is_short entry.1) (list_all (λ (f : ℕ × List ℕ). is_short f.1) more) e in
    elim (nat_eq status entry.0) as (λ t. is_short (cond t entry.1 (phrase_in more status)) ≡ true) [
      | true ↦ parts.0
      | false ↦ phrase_in_short more status parts.1
    ]

phrase_short : (status : ℕ) → is_short (phrase_of status) ≡ true
unfolding phrase_of phrases
phrase_short status = phrase_in_short phrases status refl

two_short : (s t : Bool) (a b c : List ℕ) → is_short a ≡ true → is_short b ≡ true → is_short c ≡ true → is_short (cond s a (cond t b c)) ≡ true
two_short true t a b c ha hb hc = ha
two_short false true a b c ha hb hc = hb
two_short false false a b c ha hb hc = hc

pub page_phrase_short : (status : ℕ) → length (page_phrase_of status) ≤ 31
unfolding page_phrase_of
page_phrase_short status =
    short_is (page_phrase_of status) (two_short (nat_eq status 302) (nat_eq status 401) (codes "Found") (codes "Authorization Required") (phrase_of status) refl refl (phrase_short status))

pub title_length : (status : ℕ) → length (title_of status) ≡ length (decimal status) + 1 + length (page_phrase_of status)
unfolding title_of
title_length status = length-append (decimal status) (32 ∷ page_phrase_of status) ∙ omega arith
