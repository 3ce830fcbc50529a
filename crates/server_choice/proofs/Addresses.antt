-- Addresses that are the same are listened on alike.
use Rattle.std.proofs.Common.{◌≡◌, ℕ, ◌==◌, Bool, true, false, ◌&&◌, ◌||◌, List, [], ◌∷◌, map, bytes_eq, refl, sym, ap, ap₂, ◌∙◌, arith}
use mathlib.Core.Bool.{true≢false}
use Rattle.std.specs.List.{list_any}
use Rattle.std.proofs.lemmas.Bool.{and_parts, and_from}
use Rattle.std.proofs.lemmas.Bool.Decides.{nat_tests}
use Rattle.std.proofs.lemmas.Slice.Eq.{bytes_eq-Decides}
use Rattle.std.specs.declared.net.ip_addr.IpAddr.{IpAddr}
use Rattle.std.specs.declared.net.ip_addr.IpAddr.TheVariants.{V4, V6}
use Rattle.std.specs.Net.Addr.{ipv4_octets, ipv6_segments}
use Rattle.http_types.specs.declared.words.Addr.{Addr}
use Rattle.site_model.specs.declared.site.Server.{Server}
use Rattle.site_views.specs.Choice.{same_ip, is_wildcard_of, is_exactly, is_wildcard}
use Rattle.server_choice.specs.Listening.{listens, has_entry}
use Rattle.server_choice.specs.declared.servers.Entry.{Entry}

pub not_both : {A : Type 0} (b : Bool) → b ≡ true → b ≡ false → A
not_both b hit miss = absurd (true≢false (sym hit ∙ miss))

pub any_as : {X : Type 0} (p q : X → Bool) → ((x : X) → p x ≡ q x) → (xs : List X) → list_any p xs ≡ list_any q xs
any_as p q same [] = refl
any_as p q same (x ∷ xs) = ap₂ (λ a b. a || b) (same x) (any_as p q same xs)

pub any_map : {X Y : Type 0} (p : Y → Bool) (f : X → Y) (xs : List X) → list_any p (map f xs) ≡ list_any (λ x. p (f x)) xs
any_map p f [] = refl
any_map p f (x ∷ xs) = ap (λ b. p (f x) || b) (any_map p f xs)

-- ---- the same address

same-bytes : (a b c : List ℕ) → bytes_eq b c ≡ true → bytes_eq a c ≡ bytes_eq a b
same-bytes a b c h = ap (bytes_eq a) (sym ((bytes_eq-Decides b c).0 h))

ip-same : (l a local : IpAddr) → same_ip a local ≡ true → same_ip l local ≡ same_ip l a
ip-same (V4 l) (V4 a) (V4 o) h = same-bytes (ipv4_octets l) (ipv4_octets a) (ipv4_octets o) h
ip-same (V6 l) (V4 a) (V4 o) h = refl
ip-same (V4 l) (V6 a) (V6 o) h = refl
ip-same (V6 l) (V6 a) (V6 o) h = same-bytes (ipv6_segments l) (ipv6_segments a) (ipv6_segments o) h
ip-same l (V4 a) (V6 o) h = absurd (true≢false (sym h))
ip-same l (V6 a) (V4 o) h = absurd (true≢false (sym h))

ip-all : (l a local : IpAddr) → is_wildcard_of a local ≡ true → is_wildcard_of l local ≡ same_ip l a
ip-all (V4 l) (V4 a) (V4 o) h = same-bytes (ipv4_octets l) (ipv4_octets a) _ h
ip-all (V6 l) (V4 a) (V4 o) h = refl
ip-all (V4 l) (V6 a) (V6 o) h = refl
ip-all (V6 l) (V6 a) (V6 o) h = same-bytes (ipv6_segments l) (ipv6_segments a) _ h
ip-all l (V4 a) (V6 o) h = absurd (true≢false (sym h))
ip-all l (V6 a) (V4 o) h = absurd (true≢false (sym h))

same-port : (a b l : ℕ) → (a == b) ≡ true → (l == b) ≡ (l == a)
same-port a b l h = let e : a ≡ b = grind (arith, nat_tests) in ap (λ n. l == n) (sym e)

pub exactly-same : (local a : Addr) → is_exactly local a ≡ true → (l : Addr) → is_exactly local l ≡ is_exactly a l
exactly-same local a h l =
    let p = and_parts _ _ h in
    ap₂ (λ x y. x && y) (same-port a.port local.port l.port p.0) (ip-same l.ip a.ip local.ip p.1)

pub wildcard-same : (local a : Addr) → is_wildcard local a ≡ true → (l : Addr) → is_wildcard local l ≡ is_exactly a l
wildcard-same local a h l =
    let p = and_parts _ _ h in
    ap₂ (λ x y. x && y) (same-port a.port local.port l.port p.0) (ip-all l.ip a.ip local.ip p.1)

ip-refl : (a : IpAddr) → same_ip a a ≡ true
ip-refl (V4 a) = (bytes_eq-Decides (ipv4_octets a) (ipv4_octets a)).1 refl
ip-refl (V6 a) = (bytes_eq-Decides (ipv6_segments a) (ipv6_segments a)).1 refl

pub exactly-refl : (a : Addr) → is_exactly a a ≡ true
exactly-refl a = and_from _ _ (grind (arith, nat_tests)) (ip-refl a.ip)

pub listens-same : (local a : Addr) → is_exactly local a ≡ true → (s : Server) → listens local s ≡ listens a s
listens-same local a h s = any_as (is_exactly local) (is_exactly a) (exactly-same local a h) s.listens

pub entry-same : (local a : Addr) → is_exactly local a ≡ true → (es : List Entry) → has_entry es local ≡ has_entry es a
entry-same local a h es = any_as (λ (e : Entry). is_exactly local e.addr) (λ (e : Entry). is_exactly a e.addr) (λ e. exactly-same local a h e.addr) es
