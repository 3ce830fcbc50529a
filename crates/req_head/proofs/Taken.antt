use Rattle.std.proofs.Common.{◌≡◌, ℕ, ◌-◌, ◌≤◌, List, [], ◌∷◌, length, map, drop, sym, ap, subst, arith}
use Rattle.std.specs.List.{All, AllByRecursion}
use Rattle.std.proofs.lemmas.List.{length-take, length-drop}
use Rattle.std.proofs.lemmas.List.Elements.{recursion_from_All, All-from_recursion}
use Rattle.httparse.specs.Grammar as grammar
use Rattle.httparse.specs.Spans.{header_bytes, name_and_value, span_bytes}
use Rattle.httparse.specs.declared.spans.Span.{Span}
use Rattle.httparse.specs.declared.spans.HeaderSpan.{HeaderSpan}
use Rattle.httparse.proofs.TrimLemmas.{AllPass-trim_ows}
use Rattle.http_header.specs.Token as token
use Rattle.http_header.specs.FieldValue.{IsFieldValue}
use Rattle.req_head.specs.Fields.{IsTaken}

-- the two crates mean the same by a token
token_too : (bytes : List ℕ) → grammar.IsToken bytes → token.IsToken bytes
unfolding grammar.is_token_byte token.is_token_byte
token_too bytes t = t

span_is_short : (text : List ℕ) (s : Span) → length (span_bytes text s) ≤ length text
span_is_short text s = omega (arith, length-take (s.end - s.start) (drop s.start text), length-drop s.start text)

one_taken : (text : List ℕ) (s : HeaderSpan) (f : grammar.Field) → length text ≤ 8192 → header_bytes text s ≡ name_and_value f → grammar.IsField f → IsTaken (header_bytes text s)
one_taken text s f short e is =
    let name : span_bytes text s.name ≡ f.name = ap (λ p. p.0) e in
    let value : span_bytes text s.value ≡ grammar.trim_ows f.raw = ap (λ p. p.1) e in (
      (subst token.IsToken (sym name) (token_too f.name is.name), omega (arith, span_is_short text s.name)),
      subst IsFieldValue (sym value) (AllPass-trim_ows grammar.is_value_byte f.raw is.raw),
    )

taken_each : (text : List ℕ) (spans : List HeaderSpan) (fs : List grammar.Field) → length text ≤ 8192 → map (header_bytes text) spans ≡ map name_and_value fs → AllByRecursion grammar.IsField fs → AllByRecursion (λ s. IsTaken (header_bytes text s)) spans
taken_each text [] fs short e all = tt
taken_each text (s ∷ ss) [] short e all = cc
taken_each text (s ∷ ss) (f ∷ fs) short e all =
    let here : header_bytes text s ≡ name_and_value f = cc in
    let rest : map (header_bytes text) ss ≡ map name_and_value fs = cc in
    (one_taken text s f short here all.0, taken_each text ss fs short rest all.1)

pub taken : (text : List ℕ) (spans : List HeaderSpan) (fs : List grammar.Field) → length text ≤ 8192 → map (header_bytes text) spans ≡ map name_and_value fs → All grammar.IsField fs → All (λ s. IsTaken (header_bytes text s)) spans
taken text spans fs short e all = All-from_recursion (λ s. IsTaken (header_bytes text s)) spans (taken_each text spans fs short e (recursion_from_All grammar.IsField fs all))
