-- What the kinds of the bytes of a host show.
use Rattle.std.proofs.Common.{◌≡◌, ℕ, zero, suc, ◌+◌, ◌-◌, ◌<◌, ◌≤◌, inl, inr, Some, None, Result, Bool, true, false, not, ◌&&◌, cond, eqb, ltb, leb, List, [], ◌∷◌, length, drop, get_or, refl, sym, ap, ◌∙◌, subst, arith, bit_or, eqb-true}
use Rattle.std.specs.Char.{to_ascii_lowercase}
use Rattle.std.specs.List.{list_all}
use Rattle.std.proofs.lemmas.Bool.{and_parts, and_from, cases_eq, leb-true, ltb-true}
use Rattle.std.proofs.lemmas.List.{drop_all, drop_more}
use Rattle.http_header.specs.FieldValue.{FieldValue}
use Rattle.http_header.specs.Token.{lowercase}
use Rattle.std.specs.Result.{IfOk}
use Rattle.byte_text.specs.declared.memory.OutOfMemory.{OutOfMemory}
use Rattle.uri_text.specs.Target.{absolute_of}
use Rattle.req_head.specs.Host.{is_no_mark, without_port, first_value, named_host, host_of}
use Rattle.req_head.specs.HostBytes.{is_plain, kind_of}
use Rattle.req_head.specs.Known.{AreValues, first_of}
use Rattle.req_head.specs.Rules.{is_host_byte}
use Rattle.req_head.specs.declared.known.Values.{Values}
use Rattle.req_head.specs.declared.known.Values.TheVariants.{Nothing, One, Many}
use Rattle.req_head.proofs.CodeLemmas.{port_nowhere}
use Rattle.req_head.proofs.MadeLemmas.{host_ok}

-- ---- the table

-- the two agree below n
unfoldable pub agree_below : (ℕ → ℕ) → (ℕ → ℕ) → ℕ → Bool
agree_below f g zero = true
agree_below f g (suc n) = eqb (f n) (g n) && agree_below f g n

agree_at : (f g : ℕ → ℕ) (n : ℕ) → agree_below f g n ≡ true → (b : ℕ) → b < n → f b ≡ g b
unfolding agree_below
agree_at f g zero h b lt = absurd (omega arith)
agree_at f g (suc n) h b lt =
    let both = and_parts (eqb (f n) (g n)) (agree_below f g n) h in
    elim (cases_eq b n) [ inl same ↦ rw same (eqb-true (f n) (g n) both.0) | inr other ↦ agree_at f g n both.1 b (omega arith) ]

pub from_table : (table : List ℕ) (b : ℕ) → b < 256 → agree_below (λ k. get_or table k 0) kind_of 256 ≡ true → get_or table b 0 ≡ kind_of b
from_table table b lt h = agree_at _ _ 256 h b lt

-- ---- kinds together

-- `0` to `3`
abbrev pub is_kind : ℕ → Bool
is_kind k = leb 48 k && ltb k 52

below_four : (P : ℕ → Type 0) → P 48 → P 49 → P 50 → P 51 → (k : ℕ) → k < 4 → P (48 + k)
below_four P a b c d zero h = a
below_four P a b c d (suc zero) h = b
below_four P a b c d (suc (suc zero)) h = c
below_four P a b c d (suc (suc (suc zero))) h = d
below_four P a b c d (suc (suc (suc (suc k)))) h = absurd (omega arith)

each_kind : (P : ℕ → Type 0) → P 48 → P 49 → P 50 → P 51 → (k : ℕ) → is_kind k ≡ true → P k
each_kind P a b c d k h =
    let p = and_parts (leb 48 k) (ltb k 52) h in
    let low : 48 ≤ k = leb-true 48 k p.0 in
    let high : k < 52 = ltb-true k 52 p.1 in
    let e : 48 + (k - 48) ≡ k = omega (arith, low) in
    subst P e (below_four P a b c d (k - 48) (omega (arith, low, high)))

-- r is the kind of what has the kinds m and k
abbrev Joins : ℕ → ℕ → ℕ → Type 0
Joins m k r = (is_kind r ≡ true) × (ltb r 50 ≡ (ltb m 50 && ltb k 50)) × (eqb r 48 ≡ (eqb m 48 && eqb k 48))

joined : (m k : ℕ) → is_kind m ≡ true → is_kind k ≡ true → Joins m k (bit_or m k)
joined m k hm hk = each_kind (λ z. Joins m z (bit_or m z)) (at_48 m hm) (at_49 m hm) (at_50 m hm) (at_51 m hm) k hk
  where
    at_48 : (m : ℕ) → is_kind m ≡ true → Joins m 48 (bit_or m 48)
    at_48 m h = each_kind (λ z. Joins z 48 (bit_or z 48)) (refl, refl, refl) (refl, refl, refl) (refl, refl, refl) (refl, refl, refl) m h

    at_49 : (m : ℕ) → is_kind m ≡ true → Joins m 49 (bit_or m 49)
    at_49 m h = each_kind (λ z. Joins z 49 (bit_or z 49)) (refl, refl, refl) (refl, refl, refl) (refl, refl, refl) (refl, refl, refl) m h

    at_50 : (m : ℕ) → is_kind m ≡ true → Joins m 50 (bit_or m 50)
    at_50 m h = each_kind (λ z. Joins z 50 (bit_or z 50)) (refl, refl, refl) (refl, refl, refl) (refl, refl, refl) (refl, refl, refl) m h

    at_51 : (m : ℕ) → is_kind m ≡ true → Joins m 51 (bit_or m 51)
    at_51 m h = each_kind (λ z. Joins z 51 (bit_or z 51)) (refl, refl, refl) (refl, refl, refl) (refl, refl, refl) (refl, refl, refl) m h

-- what a kind says of its byte
kind_says : (b : ℕ) → (is_kind (kind_of b) ≡ true) × (ltb (kind_of b) 50 ≡ is_host_byte b) × (eqb (kind_of b) 48 ≡ is_plain b)
unfolding kind_of
kind_says b = both (is_host_byte b) (is_no_mark b && eqb (to_ascii_lowercase b) b)
  where
    both : (h q : Bool) → (is_kind (cond (h && q) 48 (cond h 49 50)) ≡ true) × (ltb (cond (h && q) 48 (cond h 49 50)) 50 ≡ h) × (eqb (cond (h && q) 48 (cond h 49 50)) 48 ≡ (h && q))
    both true true = (refl, refl, refl)
    both true false = (refl, refl, refl)
    both false q = (refl, refl, refl)

-- ---- the loop over the bytes

and_again : (a b c : Bool) → ((a && b) && c) ≡ (a && (b && c))
and_again true b c = refl
and_again false b c = refl

-- m is the kind of the bytes before the i-th
abbrev pub IsSeen : List ℕ → ℕ → ℕ → Type 0
IsSeen host i m =
    (is_kind m ≡ true)
    × ((ltb m 50 && list_all is_host_byte (drop i host)) ≡ list_all is_host_byte host)
    × ((eqb m 48 && list_all is_plain (drop i host)) ≡ list_all is_plain host)

pub seen_more : (host : List ℕ) (i m k : ℕ) → i < length host → k ≡ kind_of (get_or host i 0) → IsSeen host i m → IsSeen host (i + 1) (bit_or m k)
seen_more host i m k lt e seen =
    let b = get_or host i 0 in
    let rest = drop (i + 1) host in
    let says = kind_says b in
    let all = joined m (kind_of b) seen.0 says.0 in
    let parts : drop i host ≡ b ∷ rest = drop_more host i 0 lt in
    let hosts = ap (λ t. t && list_all is_host_byte rest) (all.1 ∙ ap (λ t. ltb m 50 && t) says.1) ∙ and_again (ltb m 50) (is_host_byte b) (list_all is_host_byte rest) in
    let plains = ap (λ t. t && list_all is_plain rest) (all.2 ∙ ap (λ t. eqb m 48 && t) says.2) ∙ and_again (eqb m 48) (is_plain b) (list_all is_plain rest) in
    subst (IsSeen host (i + 1)) (ap (bit_or m) (sym e)) (
      all.0,
      hosts ∙ sym (ap (λ z. ltb m 50 && list_all is_host_byte z) parts) ∙ seen.1,
      plains ∙ sym (ap (λ z. eqb m 48 && list_all is_plain z) parts) ∙ seen.2,
    )

and_true : (t : Bool) → (t && true) ≡ t
and_true true = refl
and_true false = refl

pub seen_bad : (host : List ℕ) (i m : ℕ) → length host ≤ i → IsSeen host i m → ltb 49 m ≡ not (list_all is_host_byte host)
seen_bad host i m le seen =
    each_kind (λ z. ltb 49 z ≡ not (ltb z 50)) refl refl refl refl m seen.0
    ∙ ap not (sym (and_true (ltb m 50)) ∙ sym (ap (λ z. ltb m 50 && list_all is_host_byte z) (drop_all i host le)) ∙ seen.1)

plain_lower : (host : List ℕ) → list_all is_plain host ≡ true → lowercase host ≡ host
plain_lower [] h = refl
plain_lower (b ∷ host) h =
    let p = and_parts (is_plain b) (list_all is_plain host) h in
    let q = and_parts (is_host_byte b) (is_no_mark b && eqb (to_ascii_lowercase b) b) p.0 in
    let e = eqb-true (to_ascii_lowercase b) b (and_parts (is_no_mark b) (eqb (to_ascii_lowercase b) b) q.1).1 in
    λ i. e i ∷ plain_lower host p.1 i

plain_unmarked : (host : List ℕ) → list_all is_plain host ≡ true → list_all is_no_mark host ≡ true
plain_unmarked [] h = refl
plain_unmarked (b ∷ host) h =
    let p = and_parts (is_plain b) (list_all is_plain host) h in
    let q = and_parts (is_host_byte b) (is_no_mark b && eqb (to_ascii_lowercase b) b) p.0 in
    and_from (is_no_mark b) (list_all is_no_mark host) (and_parts (is_no_mark b) (eqb (to_ascii_lowercase b) b) q.1).0 (plain_unmarked host p.1)

plain_name : (host : List ℕ) → list_all is_plain host ≡ true → lowercase (without_port host) ≡ host
plain_name host h = ap lowercase (sym (port_nowhere host (plain_unmarked host h))) ∙ plain_lower host h

pub seen_plain : (host : List ℕ) (i m : ℕ) → length host ≤ i → IsSeen host i m → eqb m 48 ≡ true → lowercase (without_port host) ≡ host
seen_plain host i m le seen h =
    plain_name host (sym seen.2 ∙ ap (λ z. eqb m 48 && list_all is_plain z) (drop_all i host le) ∙ and_true (eqb m 48) ∙ h)

-- ---- the first value

pub first_is : (values : List FieldValue) (host : Values) → AreValues values host → first_of host ≡ first_value values
first_is values Nothing are = sym (ap first_value are)
first_is values (One first) are = are.2 ∙ sym (ap first_value are.1)
first_is values (Many first) are = are.4 ∙ sym (ap first_value are.3)

pub named_ok : (r : Result (List ℕ) OutOfMemory) (target name : List ℕ) (host : Values) → ((values : List FieldValue) → AreValues values host → name ≡ named_host (absolute_of target) values)
    → IfOk r (λ t. t ≡ lowercase (without_port name)) → IfOk r (λ t. (values : List FieldValue) → AreValues values host → t ≡ host_of target values)
named_ok r target name host en e = host_ok r target name (without_port name) host en refl e

pub of_target : (target name rest : List ℕ) (values : List FieldValue) → absolute_of target ≡ Some (name, rest) → name ≡ named_host (absolute_of target) values
of_target target name rest values e = sym (ap (λ z. named_host z values) e)

pub of_field : (target name : List ℕ) (host : Values) (values : List FieldValue) → absolute_of target ≡ None → name ≡ first_of host → AreValues values host → name ≡ named_host (absolute_of target) values
of_field target name host values e en are = en ∙ first_is values host are ∙ sym (ap (λ z. named_host z values) e)
