-- What std's parsers answer is what their grammar's readers read.
use Rattle.std.proofs.Common.{◌≡◌, ℕ, List, [], ◌∷◌, Option, Some, None, sym, ap, ◌∙◌, subst, append-nil, refl, lit≤, length, ne_eqb, arith, cond, option_map, ◌↔◌}
use Rattle.std.specs.declared.net.ipv4_addr.Ipv4Addr.{Ipv4Addr}
use Rattle.std.specs.declared.net.ipv6_addr.Ipv6Addr.{Ipv6Addr}
use Rattle.std.specs.declared.net.ip_addr.IpAddr.{IpAddr}
use Rattle.std.specs.declared.net.ip_addr.IpAddr.TheVariants as Ip
use Rattle.std.specs.Net.Grammar.{IsIpv4Text, IsIpv6Text, IsDotted, IsColonHex}
use Rattle.std.specs.Net.Reader.{read_ipv4, read_ipv6, whole_value}
use Rattle.std.specs.Net.Addr.{ipv4_octets, ipv6_segments}
use Rattle.std.proofs.NetLemmas.Ipv4.{read_ipv4_complete, read_ipv4_sound}
use Rattle.std.proofs.NetLemmas.Ipv6.{read_ipv6_complete, read_ipv6_sound, EndsGroups-nil}
use Rattle.text_words.specs.Addresses.{ipv4_of, ipv6_of}

whole_by : (text : List ℕ) (r : Option (List ℕ × List ℕ)) → ((octets : List ℕ) → r ≡ Some (octets, []) → ⊥) → whole_value r ≡ None
whole_by text None h = refl
whole_by text (Some (octets, [])) h = absurd (h octets refl)
whole_by text (Some (octets, c ∷ rest)) h = rw (ne_eqb (length (c ∷ rest)) 0 (omega arith)) refl

pub ipv4_found : (text : List ℕ) (a : Ipv4Addr) → IsIpv4Text text a → ipv4_of text ≡ Some (Ip.V4 a)
unfolding ipv4_of
ipv4_found text a h =
    let read : read_ipv4 text ≡ Some (ipv4_octets a, []) = ap read_ipv4 (sym (append-nil text)) ∙ read_ipv4_complete text _ [] h (lit≤ tt) in
    rw read refl

pub ipv4_none : (text : List ℕ) → ((a : Ipv4Addr) → IsIpv4Text text a → ⊥) → ipv4_of text ≡ None
unfolding ipv4_of
ipv4_none text h =
    let none : whole_value (read_ipv4 text) ≡ None = whole_by text (read_ipv4 text) (λ octets e.
    let found = read_ipv4_sound text octets [] e in
    h (record { octets = octets }) (subst (λ t. IsDotted t octets) (sym (found.1 ∙ append-nil found.0)) found.2)) in
    rw none refl

pub ipv6_found : (text : List ℕ) (a : Ipv6Addr) → IsIpv6Text text a → ipv6_of text ≡ Some (Ip.V6 a)
unfolding ipv6_of
ipv6_found text a h =
    let read : read_ipv6 text ≡ Some (ipv6_segments a, []) = ap read_ipv6 (sym (append-nil text)) ∙ read_ipv6_complete text _ [] h EndsGroups-nil in
    rw read refl

pub ipv6_none : (text : List ℕ) → ((a : Ipv6Addr) → IsIpv6Text text a → ⊥) → ipv6_of text ≡ None
unfolding ipv6_of
ipv6_none text h =
    let none : whole_value (read_ipv6 text) ≡ None = whole_by text (read_ipv6 text) (λ segments e.
    let found = read_ipv6_sound text segments [] e in
    h (record { segments = segments }) (subst (λ t. IsColonHex t segments) (sym (found.1 ∙ append-nil found.0)) found.2)) in
    rw none refl

-- what is read is in the grammar

abbrev some_ip : IpAddr → Option IpAddr
some_ip ip = Some ip

some_v4 : {a b : Ipv4Addr} → some_ip (Ip.V4 a) ≡ some_ip (Ip.V4 b) → a ≡ b
some_v4 h = cc

some_v6 : {a b : Ipv6Addr} → some_ip (Ip.V6 a) ≡ some_ip (Ip.V6 b) → a ≡ b
some_v6 h = cc

none_ip : {a : IpAddr} → None ≡ some_ip a → ⊥
none_ip h = cc

v4_by : (text : List ℕ) (a : Ipv4Addr) (r : Option (List ℕ × List ℕ)) → read_ipv4 text ≡ r → option_map (λ octets. Ip.V4 (record { octets = octets })) (whole_value r) ≡ some_ip (Ip.V4 a) → IsIpv4Text text a
v4_by text a None e h = absurd (none_ip h)
v4_by text a (Some (octets, [])) e h =
    let found = read_ipv4_sound text octets [] e in
    subst (λ (b : Ipv4Addr). IsIpv4Text text b) (some_v4 h) (subst (λ t. IsDotted t octets) (sym (found.1 ∙ append-nil found.0)) found.2)
v4_by text a (Some (octets, c ∷ rest)) e h =
    absurd (none_ip (ap (λ t. option_map (λ octets. Ip.V4 (record { octets = octets })) (cond t (Some octets) None)) (sym (ne_eqb (length (c ∷ rest)) 0 (omega arith))) ∙ h))

pub ipv4_sound : (text : List ℕ) (a : Ipv4Addr) → ipv4_of text ≡ Some (Ip.V4 a) → IsIpv4Text text a
unfolding ipv4_of
ipv4_sound text a h = v4_by text a (read_ipv4 text) refl h

v6_by : (text : List ℕ) (a : Ipv6Addr) (r : Option (List ℕ × List ℕ)) → read_ipv6 text ≡ r → option_map (λ segments. Ip.V6 (record { segments = segments })) (whole_value r) ≡ some_ip (Ip.V6 a) → IsIpv6Text text a
v6_by text a None e h = absurd (none_ip h)
v6_by text a (Some (segments, [])) e h =
    let found = read_ipv6_sound text segments [] e in
    subst (λ (b : Ipv6Addr). IsIpv6Text text b) (some_v6 h) (subst (λ t. IsColonHex t segments) (sym (found.1 ∙ append-nil found.0)) found.2)
v6_by text a (Some (segments, c ∷ rest)) e h =
    absurd (none_ip (ap (λ t. option_map (λ segments. Ip.V6 (record { segments = segments })) (cond t (Some segments) None)) (sym (ne_eqb (length (c ∷ rest)) 0 (omega arith))) ∙ h))

pub ipv6_sound : (text : List ℕ) (a : Ipv6Addr) → ipv6_of text ≡ Some (Ip.V6 a) → IsIpv6Text text a
unfolding ipv6_of
ipv6_sound text a h = v6_by text a (read_ipv6 text) refl h

pub ipv4_both : (text : List ℕ) (a : Ipv4Addr) → (ipv4_of text ≡ Some (Ip.V4 a)) ↔ IsIpv4Text text a
ipv4_both text a = (ipv4_sound text a, ipv4_found text a)

pub ipv6_both : (text : List ℕ) (a : Ipv6Addr) → (ipv6_of text ≡ Some (Ip.V6 a)) ↔ IsIpv6Text text a
ipv6_both text a = (ipv6_sound text a, ipv6_found text a)
