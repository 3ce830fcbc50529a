-- The values of a name in the map of fields.
use Rattle.std.proofs.Common.{◌≡◌, ℕ, Bool, true, false, cond, List, [], ◌∷◌, ◌++◌, bytes_eq, map, refl, sym, ap, ◌∙◌, inl, inr}
use Rattle.std.proofs.lemmas.Bool.{cases_Bool, false≢true}
use Rattle.std.proofs.lemmas.List.{append-nil, append_assoc}
use Rattle.std.proofs.lemmas.Slice.Eq.{bytes_eq-Decides}
use Rattle.httparse.specs.Spans.{header_bytes}
use Rattle.httparse.specs.declared.spans.HeaderSpan.{HeaderSpan}
use Rattle.http_header.specs.FieldValue.{FieldValue, plain_value}
use Rattle.http_header.specs.HeaderMap.{Entries, get_all, append}
use Rattle.http_header.specs.Token.{lowercase}
use Rattle.http_header.proofs.HeaderMapLemmas.{get_all-append_same, get_all-append_other}
use Rattle.req_head.specs.Fields.{with_field, with_fields, values_named}

abbrev one_if : Bool → FieldValue → List FieldValue
one_if b v = cond b (v ∷ []) []

added : (m : Entries FieldValue) (name k : List ℕ) (v : FieldValue) → get_all (append m name v) k ≡ get_all m k ++ one_if (bytes_eq name k) v
added m name k v =
    elim (cases_Bool (bytes_eq name k)) [
      | inl t ↦
          let e = (bytes_eq-Decides name k).0 t in
          rw t (sym (ap (λ n. get_all (append m n v) k) (sym e)) ∙ get_all-append_same m k v)
      | inr f ↦
          rw f (get_all-append_other m name k v (λ e. false≢true (sym f ∙ (bytes_eq-Decides name k).1 e)) ∙ sym (append-nil (get_all m k)))
    ]

first_of : (b : Bool) (v : FieldValue) (vs : List FieldValue) → one_if b v ++ vs ≡ cond b (v ∷ vs) vs
first_of true v vs = refl
first_of false v vs = refl

pub named_in : (m : Entries FieldValue) (fs : List (List ℕ × List ℕ)) (k : List ℕ) → get_all (with_fields m fs) k ≡ get_all m k ++ values_named k fs
unfolding with_fields values_named
named_in m [] k = sym (append-nil (get_all m k))
named_in m (f ∷ fs) k =
    let v = plain_value f.1 in
    let b = bytes_eq (lowercase f.0) k in
    named_in (with_field m f) fs k
    ∙ ap (λ vs. vs ++ values_named k fs) (added m (lowercase f.0) k v)
    ∙ append_assoc (get_all m k) (one_if b v) (values_named k fs)
    ∙ ap (λ vs. get_all m k ++ vs) (first_of b v (values_named k fs))

-- those that the spans show in a text
pub named_shown : (text of_text : List ℕ) (spans of_spans : List HeaderSpan) (k : List ℕ) → of_text ≡ text → of_spans ≡ spans
    → values_named k (map (header_bytes of_text) of_spans) ≡ get_all (with_fields [] (map (header_bytes text) spans)) k
named_shown text of_text spans of_spans k t s =
    ap (λ x. values_named k (map (header_bytes x) of_spans)) t
    ∙ ap (λ x. values_named k (map (header_bytes text) x)) s
    ∙ sym (named_in [] (map (header_bytes text) spans) k)
