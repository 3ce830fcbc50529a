-- What a search for a program that was read of a pattern says of the pattern.
use Rattle.std.proofs.Common.{◌≡◌, ℕ, zero, suc, ◌+◌, ◌*◌, ◌<◌, ◌≤◌, Bool, true, false, List, map, length, get_or, Option, None, Some, is_some, IfSome, option_map, option_and_then, refl, sym, ap, ap₂, ◌∙◌, replicate, ⊎_elim, arith}
use Rattle.std.proofs.lemmas.List.{get_or_default, get_or-map, get_or-replicate, get_or_past, length-map}
use Rattle.std.proofs.lemmas.Bool.{cases_lt}
use Rattle.std.proofs.Math.Logic.{∥∥₁_elim}
use Rattle.std.specs.Coded.{coded_ℕ, coded_bool, coded_list, coded_option, coded×}
use base.Stored.{Coded-set}
use mathlib.Core.Path.{fun_ext}
use Rattle.std.specs.Str.{is_utf8, chars}
use Rattle.std.specs.List.{range_with_len}
use Rattle.regex_syntax.proofs.CapturesLemmas.{spans, find_alike}
use Rattle.regex_syntax.proofs.Written.{is_some-option_map}
use Rattle.regex_vm.specs.Found.{span, group_cells}
use Rattle.regex_extract.proofs.NeedlesLemmas.{at_some}
use Rattle.regex_meta.specs.Programs.{pattern_of as re_of, leftmost}
use Rattle.regex_meta.specs.declared.program.Program.{Program}
use Rattle.regex_meta.proofs.ProgramLemmas.{value_of_option_map, first_match_span}
use Rattle.regex.specs.Patterns.{Re, Match, find}
use Rattle.regex.specs.Search.{group_span, Shows}
use Rattle.regex.specs.Writes.{both}
use Rattle.regex.proofs.CapturesLemmas.{groups_in_bytes, group_span-zero}
use Rattle.ngx_pattern.specs.Pattern.{Pattern, as_pattern, expression_of, match_of, is_match, span_at, spans_of, spans_in, no_pattern, pattern_at, AllLieWithin}
use Rattle.ngx_pattern.specs.Reads.{IsReadAs}
use Rattle.ngx_pattern.specs.Expressions.{pattern_of}
use Rattle.ngx_pattern.specs.Sets.{patterns_of}
use Rattle.ngx_pattern.specs.declared.expression.Expression.{Expression}
use Rattle.ngx_pattern.proofs.Room.{program_has_room}

-- what a caller sees of a match: its start, its end, and the position that each slot was given
abbrev Seen : Type 0
Seen = ℕ × ℕ × (ℕ → Option ℕ)

abbrev seen_at : Seen → ℕ → Option (ℕ × ℕ)
seen_at s zero = Some (s.0, s.1)
seen_at s (suc n) = both (s.2 (2 * suc n)) (s.2 (2 * suc n + 1))

abbrev seen_spans : Option Seen → List (Option (ℕ × ℕ))
seen_spans None = replicate 10 None
seen_spans (Some s) = map (seen_at s) (range_with_len 0 10)

spans_of-seen : (o : Option Match) → spans_of o ≡ seen_spans (option_map spans o)
unfolding spans_of
spans_of-seen None = refl
spans_of-seen (Some m) = refl

-- the pattern's match is its expression's
match_of-expression : (p : Pattern) (re : Re) (bytes : List ℕ) → expression_of p ≡ Some re → match_of p bytes ≡ find re bytes 0
unfolding match_of
match_of-expression p re bytes e = ap (option_and_then (λ x. find x bytes 0)) e

-- a program that was read of a pattern's text finds what the pattern finds
module _ (text : List ℕ) (nocase : Bool) (program : Program) (made : ∥ IsReadAs text nocase program ∥₁) (bytes : List ℕ)
    (small : (k : ℕ) → get_or bytes k 0 < 256) where
  same_seen : IsReadAs text nocase program →
      option_map spans (leftmost program bytes 0) ≡ option_map spans (match_of (as_pattern text nocase) bytes)
  same_seen it =
      find_alike (re_of program) it.expression it.same bytes (λ k d h. rw (get_or_default bytes k d 0 h) (small k)) 0
      ∙ ap (option_map spans) (sym (match_of-expression (as_pattern text nocase) it.expression bytes it.read))

  pub found-same : is_some (leftmost program bytes 0) ≡ is_match (as_pattern text nocase) bytes
  found-same = ∥∥₁_elim made (Coded-set coded_bool _ _)
      (λ it. sym (is_some-option_map spans _) ∙ ap is_some (same_seen it) ∙ is_some-option_map spans _)

  pub spans-same : spans_of (leftmost program bytes 0) ≡ spans_in (as_pattern text nocase) bytes
  spans-same = ∥∥₁_elim made (Coded-set (coded_list (coded_option (coded× coded_ℕ coded_ℕ))) _ _)
      (λ it. spans_of-seen _ ∙ ap seen_spans (same_seen it) ∙ sym (spans_of-seen _))

-- what was read of a pattern's text has an expression
pub read-some : (text : List ℕ) (nocase : Bool) (program : Program) → ∥ IsReadAs text nocase program ∥₁ →
    is_some (expression_of (as_pattern text nocase)) ≡ true
read-some text nocase program made = ∥∥₁_elim made (Coded-set coded_bool _ _) (λ it. ap is_some it.read)

-- the spans that are read off the cells of a match are those of the match
module _ (p : Program) (hay : List ℕ) (whole : ℕ × ℕ) (cells : List ℕ) (width : length cells + 2 ≡ p.dfa.nfa.slot_count)
    (found : Some whole ≡ option_map span (leftmost p hay 0))
    (are : IfSome (leftmost p hay 0) (λ m. cells ≡ group_cells m (length cells))) where
  the_match : (m : Match) × (leftmost p hay 0 ≡ Some m) × (span m ≡ whole)
  the_match = value_of_option_map span (leftmost p hay 0) whole (sym found)

  shows : Shows the_match.0 whole cells
  shows = record {
    whole_is = sym the_match.2;
    cells_are = at_some (λ m. cells ≡ group_cells m (length cells)) _ the_match.0 the_match.1 are;
  }

  span-each : (n : ℕ) → group_span false hay whole cells n ≡ span_at the_match.0 n
  span-each zero = group_span-zero false hay whole cells ∙ ap Some (sym the_match.2)
  span-each (suc n) = groups_in_bytes (re_of p) hay the_match.0 whole cells shows
      (program_has_room p (length cells) width) 0 the_match.1 (suc n) (omega arith)

  pub captured-spans : map (group_span false hay whole cells) (range_with_len 0 10) ≡ spans_of (leftmost p hay 0)
  unfolding spans_of
  captured-spans = ap (λ f. map f (range_with_len 0 10)) (fun_ext span-each) ∙ ap spans_of (sym the_match.1)

  pub whole-lies : (whole.0 ≤ whole.1) × (whole.1 ≤ length hay)
  whole-lies = let h = first_match_span p hay 0 whole.0 whole.1 (sym found) in (h.0, h.1)

-- the expression at a place of a set is of the pattern there
pub pattern-here : (es : List Expression) (patterns : List Pattern) → patterns_of es ≡ patterns → (place id : ℕ) → place ≡ id →
    id < length patterns → (e : Expression) → e ≡ get_or es place e → pattern_of e ≡ pattern_at patterns id
pattern-here es patterns shown place id same lt e is =
    let inside : place < length es = omega (arith, sym (length-map es pattern_of) ∙ ap length shown) in
    sym (get_or-map pattern_of es place e _ inside ∙ ap pattern_of (sym is)) ∙ ap₂ pattern_at shown same

abbrev none : Option (ℕ × ℕ)
none = None

none_at : (number : ℕ) → get_or (replicate 10 none) number none ≡ none
none_at number = ⊎_elim
    (λ lt. get_or-replicate 10 number None None lt)
    (λ ge. get_or_past (replicate 10 none) number None ge)
    (cases_lt number 10)

-- where nothing is found no span is there
pub none-lies : (len : ℕ) → AllLieWithin len (spans_of None)
unfolding spans_of
none-lies len number = rw (none_at number) tt

-- a number past the expressions of a set is past its patterns
pub past-here : (es : List Expression) (patterns : List Pattern) → patterns_of es ≡ patterns → (place id : ℕ) → place ≡ id →
    length es ≤ place → length patterns ≤ id
past-here es patterns shown place id same past = omega (arith, sym (length-map es pattern_of) ∙ ap length shown)

-- what a number means that no pattern has matches nothing
no_pattern-text : is_utf8 no_pattern.text ≡ false
unfolding is_utf8 chars
no_pattern-text = refl

no_pattern-none : (bytes : List ℕ) → match_of no_pattern bytes ≡ None
unfolding match_of expression_of
no_pattern-none bytes = rw no_pattern-text refl

module _ (patterns : List Pattern) (id : ℕ) (past : length patterns ≤ id) (bytes : List ℕ) where
  beyond-none : match_of (pattern_at patterns id) bytes ≡ None
  beyond-none = ap (λ p. match_of p bytes) (get_or_past patterns id no_pattern past) ∙ no_pattern-none bytes

  pub beyond-found : false ≡ is_match (pattern_at patterns id) bytes
  beyond-found = ap is_some (sym beyond-none)

  pub beyond-spans : spans_of None ≡ spans_in (pattern_at patterns id) bytes
  beyond-spans = ap spans_of (sym beyond-none)
