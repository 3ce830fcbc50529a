-- What is known of the fields, field by field.
use Rattle.std.proofs.Common.{◌≡◌, ◌≢◌, ℕ, ◌+◌, ◌<◌, Bool, true, false, ◌||◌, cond, List, [], ◌∷◌, ◌++◌, length, take, map, get_or, refl, sym, ap, ◌∙◌, subst, bytes_eq}
use Rattle.std.specs.Prelude.{codes}
use Rattle.std.specs.List.{list_any}
use Rattle.std.specs.Borrow.{Bor}
use Rattle.std.proofs.lemmas.Bool.{false≢true}
use Rattle.std.proofs.lemmas.List.{take_more, map-append}
use Rattle.std.proofs.lemmas.Slice.Eq.{bytes_eq-Decides}
use Rattle.httparse.specs.Spans.{header_bytes}
use Rattle.httparse.specs.declared.spans.HeaderSpan.{HeaderSpan}
use Rattle.http_header.specs.Token.{lowercase}
use Rattle.http_header.specs.FieldValue.{FieldValue, plain_value}
use Rattle.http_header.specs.HeaderMap.{Entries, append, get_all}
use Rattle.http_header.proofs.HeaderMapLemmas.{get_all-append_same, get_all-append_other}
use Rattle.req_head.specs.Fields.{with_field, with_fields}
use Rattle.req_head.specs.Options.{same_word, lists_option, has_option, has_value}
use Rattle.req_head.specs.Known.{kind_of, AreValues, IsKnown}
use Rattle.req_head.specs.declared.known.Values.{Values}
use Rattle.req_head.specs.declared.known.Values.TheVariants.{Nothing, One, Many}
use Rattle.req_head.specs.declared.known.Known.{Known}
use Rattle.req_head.specs.declared.known.Kind.{Kind}
use Rattle.req_head.specs.declared.known.Kind.TheVariants.{Host, Connection, Length, Coding, Expect, Other}

-- ---- which field a name is of

abbrev pick : Bool → Bool → Bool → Bool → Bool → Kind
pick a b c d e = cond a Host (cond b Connection (cond c Length (cond d Coding (cond e Expect Other))))

pick-host : (a b c d e : Bool) → pick a b c d e ≡ Host → a ≡ true
pick-host true b c d e h = refl
pick-host false true c d e h = cc
pick-host false false true d e h = cc
pick-host false false false true e h = cc
pick-host false false false false true h = cc
pick-host false false false false false h = cc

pick-connection : (a b c d e : Bool) → pick a b c d e ≡ Connection → b ≡ true
pick-connection true b c d e h = cc
pick-connection false true c d e h = refl
pick-connection false false true d e h = cc
pick-connection false false false true e h = cc
pick-connection false false false false true h = cc
pick-connection false false false false false h = cc

pick-length : (a b c d e : Bool) → pick a b c d e ≡ Length → c ≡ true
pick-length true b c d e h = cc
pick-length false true c d e h = cc
pick-length false false true d e h = refl
pick-length false false false true e h = cc
pick-length false false false false true h = cc
pick-length false false false false false h = cc

pick-coding : (a b c d e : Bool) → pick a b c d e ≡ Coding → d ≡ true
pick-coding true b c d e h = cc
pick-coding false true c d e h = cc
pick-coding false false true d e h = cc
pick-coding false false false true e h = refl
pick-coding false false false false true h = cc
pick-coding false false false false false h = cc

pick-expect : (a b c d e : Bool) → pick a b c d e ≡ Expect → e ≡ true
pick-expect true b c d e h = cc
pick-expect false true c d e h = cc
pick-expect false false true d e h = cc
pick-expect false false false true e h = cc
pick-expect false false false false true h = refl
pick-expect false false false false false h = cc

pick-other : (a b c d e : Bool) → pick a b c d e ≡ Other → (a ≡ false) × (b ≡ false) × (c ≡ false) × (d ≡ false) × (e ≡ false)
pick-other true b c d e h = cc
pick-other false true c d e h = cc
pick-other false false true d e h = cc
pick-other false false false true e h = cc
pick-other false false false false true h = cc
pick-other false false false false false h = (refl, refl, refl, refl, refl)

abbrev is_name : List ℕ → List ℕ → Bool
is_name word name = bytes_eq (lowercase name) word

kind_of-is : (name : List ℕ) → kind_of name
    ≡ pick (is_name (codes "host") name) (is_name (codes "connection") name) (is_name (codes "content-length") name) (is_name (codes "transfer-encoding") name) (is_name (codes "expect") name)
unfolding kind_of
kind_of-is name = refl

is_named : (word name : List ℕ) → is_name word name ≡ true → lowercase name ≡ word
is_named word name h = (bytes_eq-Decides (lowercase name) word).0 h

not_named : (word name : List ℕ) → is_name word name ≡ false → lowercase name ≢ word
not_named word name h e = false≢true (sym h ∙ (bytes_eq-Decides (lowercase name) word).1 e)

-- ---- one more value

pub first_value : (v : Values) (value : Bor (List ℕ)) → v ≡ Nothing → (old : List FieldValue) → AreValues old v → AreValues (old ++ plain_value value.now ∷ []) (One value)
first_value v value e old h = let none : old ≡ [] = subst (AreValues old) e h in (plain_value value.now, ap (λ z. z ++ plain_value value.now ∷ []) none, refl)

pub second_value : (v : Values) (first : Bor (List ℕ)) (value : List ℕ) → v ≡ One first → (old : List FieldValue) → AreValues old v → AreValues (old ++ plain_value value ∷ []) (Many first)
second_value v first value e old h =
    let one : AreValues old (One first) = subst (AreValues old) e h in
    (one.0, plain_value value, [], ap (λ z. z ++ plain_value value ∷ []) one.1, one.2)

pub next_value : (v : Values) (first : Bor (List ℕ)) (value : List ℕ) → v ≡ Many first → (old : List FieldValue) → AreValues old v → AreValues (old ++ plain_value value ∷ []) (Many first)
next_value v first value e old h =
    let many : AreValues old (Many first) = subst (AreValues old) e h in
    (many.0, many.1, many.2 ++ plain_value value ∷ [], ap (λ z. z ++ plain_value value ∷ []) many.3, many.4)

-- ---- one more field

abbrev Fields : Type 0
Fields = Entries FieldValue

-- two names that are written out differ
apart : (a b : List ℕ) → bytes_eq a b ≡ false → a ≢ b
apart a b h e = false≢true (sym h ∙ (bytes_eq-Decides a b).1 e)

kept : (m : Fields) (name other : List ℕ) (x : FieldValue) → name ≢ other → get_all m other ≡ get_all (append m name x) other
kept m name other x n = sym (get_all-append_other m name other x n)

added : (m : Fields) (name : List ℕ) (x : FieldValue) → get_all m name ++ x ∷ [] ≡ get_all (append m name x) name
added m name x = sym (get_all-append_same m name x)

or_false : (t : Bool) → t ≡ (t || false)
or_false true = refl
or_false false = refl

any_more : (p : FieldValue → Bool) (vs : List FieldValue) (x : FieldValue) → (list_any p vs || p x) ≡ list_any p (vs ++ x ∷ [])
any_more p [] x = or_false (p x)
any_more p (v ∷ vs) x = or_assoc (p v) (list_any p vs) (p x) ∙ ap (λ t. p v || t) (any_more p vs x)
  where
    or_assoc : (a b c : Bool) → ((a || b) || c) ≡ (a || (b || c))
    or_assoc true b c = refl
    or_assoc false b c = refl

-- what is known stays so under a field of another name
abbrev Grown : List FieldValue → FieldValue → Values → Type 0
Grown old x v = AreValues (old ++ x ∷ []) v

host_added : (m : Fields) (k : Known) (x : FieldValue) (v : Values) → IsKnown m k → Grown (get_all m (codes "host")) x v → IsKnown (append m (codes "host") x) (record k { host = v })
host_added m k x v is grown = record {
  host = subst (λ z. AreValues z v) (added m (codes "host") x) grown;
  coding = subst (λ z. AreValues z k.coding) (kept m (codes "host") (codes "transfer-encoding") x (apart _ _ refl)) is.coding;
  length = subst (λ z. AreValues z k.length) (kept m (codes "host") (codes "content-length") x (apart _ _ refl)) is.length;
  closes = is.closes ∙ ap (has_option (codes "close")) (kept m (codes "host") (codes "connection") x (apart _ _ refl));
  keeps_alive = is.keeps_alive ∙ ap (has_option (codes "keep-alive")) (kept m (codes "host") (codes "connection") x (apart _ _ refl));
  continues = is.continues ∙ ap (has_value (codes "100-continue")) (kept m (codes "host") (codes "expect") x (apart _ _ refl));
}

coding_added : (m : Fields) (k : Known) (x : FieldValue) (v : Values) → IsKnown m k → Grown (get_all m (codes "transfer-encoding")) x v → IsKnown (append m (codes "transfer-encoding") x) (record k { coding = v })
coding_added m k x v is grown = record {
  host = subst (λ z. AreValues z k.host) (kept m (codes "transfer-encoding") (codes "host") x (apart _ _ refl)) is.host;
  coding = subst (λ z. AreValues z v) (added m (codes "transfer-encoding") x) grown;
  length = subst (λ z. AreValues z k.length) (kept m (codes "transfer-encoding") (codes "content-length") x (apart _ _ refl)) is.length;
  closes = is.closes ∙ ap (has_option (codes "close")) (kept m (codes "transfer-encoding") (codes "connection") x (apart _ _ refl));
  keeps_alive = is.keeps_alive ∙ ap (has_option (codes "keep-alive")) (kept m (codes "transfer-encoding") (codes "connection") x (apart _ _ refl));
  continues = is.continues ∙ ap (has_value (codes "100-continue")) (kept m (codes "transfer-encoding") (codes "expect") x (apart _ _ refl));
}

length_added : (m : Fields) (k : Known) (x : FieldValue) (v : Values) → IsKnown m k → Grown (get_all m (codes "content-length")) x v → IsKnown (append m (codes "content-length") x) (record k { length = v })
length_added m k x v is grown = record {
  host = subst (λ z. AreValues z k.host) (kept m (codes "content-length") (codes "host") x (apart _ _ refl)) is.host;
  coding = subst (λ z. AreValues z k.coding) (kept m (codes "content-length") (codes "transfer-encoding") x (apart _ _ refl)) is.coding;
  length = subst (λ z. AreValues z v) (added m (codes "content-length") x) grown;
  closes = is.closes ∙ ap (has_option (codes "close")) (kept m (codes "content-length") (codes "connection") x (apart _ _ refl));
  keeps_alive = is.keeps_alive ∙ ap (has_option (codes "keep-alive")) (kept m (codes "content-length") (codes "connection") x (apart _ _ refl));
  continues = is.continues ∙ ap (has_value (codes "100-continue")) (kept m (codes "content-length") (codes "expect") x (apart _ _ refl));
}

connection_added : (m : Fields) (k : Known) (x : FieldValue) (a b : Bool) → IsKnown m k → a ≡ (k.closes || lists_option (codes "close") x.bytes) → b ≡ (k.keeps_alive || lists_option (codes "keep-alive") x.bytes)
    → IsKnown (append m (codes "connection") x) (record k { closes = a; keeps_alive = b })
connection_added m k x a b is ea eb = record {
  host = subst (λ z. AreValues z k.host) (kept m (codes "connection") (codes "host") x (apart _ _ refl)) is.host;
  coding = subst (λ z. AreValues z k.coding) (kept m (codes "connection") (codes "transfer-encoding") x (apart _ _ refl)) is.coding;
  length = subst (λ z. AreValues z k.length) (kept m (codes "connection") (codes "content-length") x (apart _ _ refl)) is.length;
  closes = ea ∙ ap (λ t. t || lists_option (codes "close") x.bytes) is.closes ∙ any_more (λ v. lists_option (codes "close") v.bytes) (get_all m (codes "connection")) x ∙ ap (has_option (codes "close")) (added m (codes "connection") x);
  keeps_alive = eb ∙ ap (λ t. t || lists_option (codes "keep-alive") x.bytes) is.keeps_alive ∙ any_more (λ v. lists_option (codes "keep-alive") v.bytes) (get_all m (codes "connection")) x ∙ ap (has_option (codes "keep-alive")) (added m (codes "connection") x);
  continues = is.continues ∙ ap (has_value (codes "100-continue")) (kept m (codes "connection") (codes "expect") x (apart _ _ refl));
}

expect_added : (m : Fields) (k : Known) (x : FieldValue) (a : Bool) → IsKnown m k → a ≡ (k.continues || same_word (codes "100-continue") x.bytes)
    → IsKnown (append m (codes "expect") x) (record k { continues = a })
expect_added m k x a is ea = record {
  host = subst (λ z. AreValues z k.host) (kept m (codes "expect") (codes "host") x (apart _ _ refl)) is.host;
  coding = subst (λ z. AreValues z k.coding) (kept m (codes "expect") (codes "transfer-encoding") x (apart _ _ refl)) is.coding;
  length = subst (λ z. AreValues z k.length) (kept m (codes "expect") (codes "content-length") x (apart _ _ refl)) is.length;
  closes = is.closes ∙ ap (has_option (codes "close")) (kept m (codes "expect") (codes "connection") x (apart _ _ refl));
  keeps_alive = is.keeps_alive ∙ ap (has_option (codes "keep-alive")) (kept m (codes "expect") (codes "connection") x (apart _ _ refl));
  continues = ea ∙ ap (λ t. t || same_word (codes "100-continue") x.bytes) is.continues ∙ any_more (λ v. same_word (codes "100-continue") v.bytes) (get_all m (codes "expect")) x ∙ ap (has_value (codes "100-continue")) (added m (codes "expect") x);
}

-- a name that the field's name is
abbrev with_plain : Fields → List ℕ → List ℕ → Fields
with_plain m name value = append m (lowercase name) (plain_value value)

under : (m : Fields) (k : Known) (word name value : List ℕ) → lowercase name ≡ word → IsKnown (append m word (plain_value value)) k → IsKnown (with_plain m name value) k
under m k word name value e h = subst (λ z. IsKnown (append m z (plain_value value)) k) (sym e) h

pub add_host : (name value : List ℕ) (kind : Kind) (k : Known) (v : Values) → kind ≡ kind_of name → kind ≡ Host
    → ((old : List FieldValue) → AreValues old k.host → AreValues (old ++ plain_value value ∷ []) v) → (m : Fields) → IsKnown m k → IsKnown (with_field m (name, value)) (record k { host = v })
add_host name value kind k v is here grow m known =
    let e = is_named (codes "host") name (pick-host _ _ _ _ _ (sym (kind_of-is name) ∙ sym is ∙ here)) in
    under m (record k { host = v }) (codes "host") name value e (host_added m k (plain_value value) v known (grow (get_all m (codes "host")) known.host))

pub add_coding : (name value : List ℕ) (kind : Kind) (k : Known) (v : Values) → kind ≡ kind_of name → kind ≡ Coding
    → ((old : List FieldValue) → AreValues old k.coding → AreValues (old ++ plain_value value ∷ []) v) → (m : Fields) → IsKnown m k → IsKnown (with_field m (name, value)) (record k { coding = v })
add_coding name value kind k v is here grow m known =
    let e = is_named (codes "transfer-encoding") name (pick-coding _ _ _ _ _ (sym (kind_of-is name) ∙ sym is ∙ here)) in
    under m (record k { coding = v }) (codes "transfer-encoding") name value e (coding_added m k (plain_value value) v known (grow (get_all m (codes "transfer-encoding")) known.coding))

pub add_length : (name value : List ℕ) (kind : Kind) (k : Known) (v : Values) → kind ≡ kind_of name → kind ≡ Length
    → ((old : List FieldValue) → AreValues old k.length → AreValues (old ++ plain_value value ∷ []) v) → (m : Fields) → IsKnown m k → IsKnown (with_field m (name, value)) (record k { length = v })
add_length name value kind k v is here grow m known =
    let e = is_named (codes "content-length") name (pick-length _ _ _ _ _ (sym (kind_of-is name) ∙ sym is ∙ here)) in
    under m (record k { length = v }) (codes "content-length") name value e (length_added m k (plain_value value) v known (grow (get_all m (codes "content-length")) known.length))

pub add_connection : (name value : List ℕ) (kind : Kind) (k : Known) (a b : Bool) → kind ≡ kind_of name → kind ≡ Connection
    → a ≡ (k.closes || lists_option (codes "close") value) → b ≡ (k.keeps_alive || lists_option (codes "keep-alive") value)
    → (m : Fields) → IsKnown m k → IsKnown (with_field m (name, value)) (record k { closes = a; keeps_alive = b })
add_connection name value kind k a b is here ea eb m known =
    let e = is_named (codes "connection") name (pick-connection _ _ _ _ _ (sym (kind_of-is name) ∙ sym is ∙ here)) in
    under m (record k { closes = a; keeps_alive = b }) (codes "connection") name value e (connection_added m k (plain_value value) a b known ea eb)

pub add_expect : (name value : List ℕ) (kind : Kind) (k : Known) (a : Bool) → kind ≡ kind_of name → kind ≡ Expect
    → a ≡ (k.continues || same_word (codes "100-continue") value) → (m : Fields) → IsKnown m k → IsKnown (with_field m (name, value)) (record k { continues = a })
add_expect name value kind k a is here ea m known =
    let e = is_named (codes "expect") name (pick-expect _ _ _ _ _ (sym (kind_of-is name) ∙ sym is ∙ here)) in
    under m (record k { continues = a }) (codes "expect") name value e (expect_added m k (plain_value value) a known ea)

pub add_other : (name value : List ℕ) (kind : Kind) (k : Known) → kind ≡ kind_of name → kind ≡ Other → (m : Fields) → IsKnown m k → IsKnown (with_field m (name, value)) k
add_other name value kind k is here m known =
    let p = pick-other _ _ _ _ _ (sym (kind_of-is name) ∙ sym is ∙ here) in
    let x = plain_value value in
    let n = lowercase name in
    let connection = kept m n (codes "connection") x (not_named (codes "connection") name p.1) in record {
      host = subst (λ z. AreValues z k.host) (kept m n (codes "host") x (not_named (codes "host") name p.0)) known.host;
      coding = subst (λ z. AreValues z k.coding) (kept m n (codes "transfer-encoding") x (not_named (codes "transfer-encoding") name p.3)) known.coding;
      length = subst (λ z. AreValues z k.length) (kept m n (codes "content-length") x (not_named (codes "content-length") name p.2)) known.length;
      closes = known.closes ∙ ap (has_option (codes "close")) connection;
      keeps_alive = known.keeps_alive ∙ ap (has_option (codes "keep-alive")) connection;
      continues = known.continues ∙ ap (has_value (codes "100-continue")) (kept m n (codes "expect") x (not_named (codes "expect") name p.4));
    }

-- ---- all fields

with_fields-push : (m : Fields) (fs : List (List ℕ × List ℕ)) (f : List ℕ × List ℕ) → with_fields m (fs ++ f ∷ []) ≡ with_field (with_fields m fs) f
unfolding with_fields
with_fields-push m [] f = refl
with_fields-push m (g ∷ fs) f = with_fields-push (with_field m g) fs f

pub fields_more : (text : List ℕ) (spans : List HeaderSpan) (i : ℕ) (d : HeaderSpan) → i < length spans
    → with_fields [] (map (header_bytes text) (take (i + 1) spans)) ≡ with_field (with_fields [] (map (header_bytes text) (take i spans))) (header_bytes text (get_or spans i d))
fields_more text spans i d h =
    ap (λ z. with_fields [] (map (header_bytes text) z)) (take_more spans i d h)
    ∙ ap (with_fields []) (map-append (header_bytes text) (take i spans) (get_or spans i d ∷ []))
    ∙ with_fields-push [] (map (header_bytes text) (take i spans)) (header_bytes text (get_or spans i d))

-- a field as its span shows it
pub shown_known : (before : Fields) (name value : List ℕ) (f : List ℕ × List ℕ) (all : Fields) (k : Known) → name ≡ f.0 → value ≡ f.1 → all ≡ with_field before f
    → IsKnown (with_field before (name, value)) k → IsKnown all k
shown_known before name value f all k en ev ea h =
    subst (λ z. IsKnown z k) (ap (λ z. with_field before (z, value)) en ∙ ap (λ z. with_field before (f.0, z)) ev ∙ sym ea) h

pub none_known : (m : Fields) → m ≡ [] → IsKnown m (record { host = Nothing; coding = Nothing; length = Nothing; closes = false; keeps_alive = false; continues = false })
none_known m e = subst (λ z. IsKnown z (record { host = Nothing; coding = Nothing; length = Nothing; closes = false; keeps_alive = false; continues = false })) (sym e)
    (record { host = refl; coding = refl; length = refl; closes = refl; keeps_alive = refl; continues = refl })

pub no_fields : (text : List ℕ) (spans : List HeaderSpan) → with_fields [] (map (header_bytes text) (take 0 spans)) ≡ []
unfolding with_fields
no_fields text spans = refl
