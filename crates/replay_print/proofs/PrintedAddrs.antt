-- A printed address is read again.
use Rattle.std.proofs.Common.{◌≡◌, ℕ, suc, ◌+◌, ◌^◌, ◌<◌, Bool, true, cond, eqb, not, List, [], ◌∷◌, ◌++◌, length, take, drop, decimal, All, Some, None, Ok, refl, ap, ◌∙◌, arith, ne_eqb, eq-eqb, ◌≢◌, length-append}
use Rattle.std.specs.List.{list_all, position_or_len, AllByRecursion}
use Rattle.std.specs.Result.{result_ok}
use Rattle.std.proofs.Math.Seq.{take-append_seam, drop-append-add}
use Rattle.std.proofs.lemmas.List.Elements.{recursion_from_All}
use Rattle.std.proofs.lemmas.Bool.Decides.{nat_tests}
use Rattle.std.specs.declared.net.ipv4_addr.Ipv4Addr.{Ipv4Addr}
use Rattle.std.specs.declared.net.ipv6_addr.Ipv6Addr.{Ipv6Addr}
use Rattle.std.specs.declared.net.ip_addr.IpAddr.{IpAddr}
use Rattle.std.specs.declared.net.ip_addr.IpAddr.TheVariants as Ip
use Rattle.std.specs.Net.Addr.{ipv4_octets, ipv6_segments, IsIpv4Addr, IsIpv6Addr, MatchIp}
use Rattle.std.specs.Net.Text.{ipv4_text, hex_groups_text}
use Rattle.std.proofs.NetLemmas.Texts.{IsDotted-ipv4_text, IsColonHex-hex_groups_text}
use Rattle.std.proofs.NetLemmas.Alphabet.{IsDigitOrDot, IsHexOrColon, All-ipv4_text, All-hex_groups_text}
use Rattle.http_types.specs.declared.words.Addr.{Addr}
use Rattle.replay_words.specs.Words.{is_graphic, is_word}
use Rattle.text_words.specs.Digits.{is_decimal}
use Rattle.text_words.specs.Addresses.{ipv4_of, ipv6_of}
use Rattle.text_words.specs.Cuts.{before_byte, behind_byte, behind_colon}
use Rattle.replay_words.specs.Addrs.{port_of, port_behind, end_of, addr_v4, addr_v6, addr_of}
use Rattle.replay_print.specs.Printed.{end_text, addr_text, IsEnd}
use Rattle.text_words.proofs.AddressLaws.{ipv4_found, ipv6_found}
use Rattle.replay_print.proofs.PrintLaws.{no_byte, both_true, and_true, all_weaker, all_append, number-decimal, decimal_word, graphic_word, word_graphic, not_true, writes_decimal}

-- from a fact of each byte to a test
tests_by : (P : ℕ → Type 0) (p : ℕ → Bool) → ((b : ℕ) → P b → p b ≡ true) → (bs : List ℕ) → AllByRecursion P bs → list_all p bs ≡ true
tests_by P p f [] h = refl
tests_by P p f (b ∷ bs) h = and_true (f b h.0) (tests_by P p f bs h.1)

tests : (P : ℕ → Type 0) (p : ℕ → Bool) → ((b : ℕ) → P b → p b ≡ true) → (bs : List ℕ) → All P bs → list_all p bs ≡ true
tests P p f bs h = tests_by P p f bs (recursion_from_All P bs h)

dotted_no_colon : (b : ℕ) → IsDigitOrDot b → no_byte 58 b ≡ true
dotted_no_colon b h = grind (arith, nat_tests)

dotted_no_bracket : (b : ℕ) → IsDigitOrDot b → no_byte 91 b ≡ true
dotted_no_bracket b h = grind (arith, nat_tests)

dotted_graphic : (b : ℕ) → IsDigitOrDot b → is_graphic b ≡ true
dotted_graphic b h = grind (arith, nat_tests)

hex_no_bracket : (b : ℕ) → IsHexOrColon b → no_byte 93 b ≡ true
hex_no_bracket b h = grind (arith, nat_tests)

hex_graphic : (b : ℕ) → IsHexOrColon b → is_graphic b ≡ true
hex_graphic b h = grind (arith, nat_tests)

-- a cut at a byte

place_by : (c b : ℕ) (bs rest : List ℕ) (t : Bool) → not t ≡ true → position_or_len (λ b. eqb b c) (bs ++ c ∷ rest) ≡ length bs → cond (not t) (1 + position_or_len (λ b. eqb b c) (bs ++ c ∷ rest)) 0 ≡ suc (length bs)
place_by c b bs rest t h e = ap (λ t. cond t (1 + position_or_len (λ b. eqb b c) (bs ++ c ∷ rest)) 0) h ∙ (let k : 1 + position_or_len (λ b. eqb b c) (bs ++ c ∷ rest) ≡ suc (length bs) = omega arith in k)

place_of : (c : ℕ) (bs rest : List ℕ) → list_all (no_byte c) bs ≡ true → position_or_len (λ b. eqb b c) (bs ++ c ∷ rest) ≡ length bs
place_of c [] rest h = ap (λ t. cond (not t) (1 + position_or_len (λ b. eqb b c) rest) 0) (eq-eqb c c refl)
place_of c (b ∷ bs) rest h = let k = both_true {a = no_byte c b} {b = list_all (no_byte c) bs} h in place_by c b bs rest (eqb b c) k.0 (place_of c bs rest k.1)

before_cut : (c : ℕ) (bs rest : List ℕ) → list_all (no_byte c) bs ≡ true → before_byte c (bs ++ c ∷ rest) ≡ bs
before_cut c bs rest h = ap (λ n. take n (bs ++ c ∷ rest)) (place_of c bs rest h) ∙ take-append_seam bs (c ∷ rest)

behind_cut : (c : ℕ) (bs rest : List ℕ) → list_all (no_byte c) bs ≡ true → behind_byte c (bs ++ c ∷ rest) ≡ Some rest
behind_cut c bs rest h =
    let more : length bs ≢ length (bs ++ c ∷ rest) = omega (arith, length-append bs (c ∷ rest)) in
    ap (λ n. cond (eqb n (length (bs ++ c ∷ rest))) None (Some (drop (n + 1) (bs ++ c ∷ rest)))) (place_of c bs rest h)
    ∙ ap (λ t. cond t None (Some (drop (length bs + 1) (bs ++ c ∷ rest)))) (ne_eqb _ _ more)
    ∙ ap Some (drop-append-add bs (c ∷ rest) 1)

port_read : (port : ℕ) → port < 2 ^ 16 → port_of (decimal port) ≡ Some port
unfolding port_of
port_read port h = ap result_ok (number-decimal 65535 port (omega arith) (omega arith))

-- IPv4

no_bracket_v4 : (bs : List ℕ) → list_all (no_byte 91) bs ≡ true → 0 < length bs → addr_of bs ≡ addr_v4 bs
unfolding addr_of
no_bracket_v4 [] h k = absurd (omega arith)
no_bracket_v4 (b ∷ bs) h k = ap (λ t. cond t (addr_v6 bs) (addr_v4 (b ∷ bs))) (not_true (both_true {a = no_byte 91 b} {b = list_all (no_byte 91) bs} h).0)

decimal_no_bracket : (b : ℕ) → is_decimal b ≡ true → no_byte 91 b ≡ true
decimal_no_bracket b h = grind (arith, nat_tests)

pub v4_read : (a : Ipv4Addr) (port : ℕ) → IsIpv4Addr a → port < 2 ^ 16 → addr_of (end_text (Ip.V4 a) port) ≡ Ok (record { ip = Ip.V4 a; port = port })
v4_read a port h small =
    let text = ipv4_text (ipv4_octets a) in
    let letters = All-ipv4_text (ipv4_octets a) h.1 in
    let no_colon = tests IsDigitOrDot (no_byte 58) dotted_no_colon text letters in
    let no_bracket = all_append (no_byte 91) text (58 ∷ decimal port) (tests IsDigitOrDot (no_byte 91) dotted_no_bracket text letters)
    (all_weaker is_decimal (no_byte 91) decimal_no_bracket (decimal port) (writes_decimal port (omega arith)).digits) in
    no_bracket_v4 (text ++ 58 ∷ decimal port) no_bracket (omega (arith, length-append text (58 ∷ decimal port)))
    ∙ ap (λ t. end_of (ipv4_of t) (port_behind (behind_byte 58 (text ++ 58 ∷ decimal port)))) (before_cut 58 text (decimal port) no_colon)
    ∙ ap (λ t. end_of (ipv4_of text) (port_behind t)) (behind_cut 58 text (decimal port) no_colon)
    ∙ ap (λ o. end_of o (port_of (decimal port))) (ipv4_found text a (IsDotted-ipv4_text (ipv4_octets a) h.0 h.1))
    ∙ ap (end_of (Some (Ip.V4 a))) (port_read port small)

-- IPv6

bracket_v6 : (bs : List ℕ) → addr_of (91 ∷ bs) ≡ addr_v6 bs
unfolding addr_of
bracket_v6 bs = refl

pub v6_read : (a : Ipv6Addr) (port : ℕ) → IsIpv6Addr a → port < 2 ^ 16 → addr_of (end_text (Ip.V6 a) port) ≡ Ok (record { ip = Ip.V6 a; port = port })
v6_read a port h small =
    let text = hex_groups_text (ipv6_segments a) in
    let rest = 58 ∷ decimal port in
    let no_bracket = tests IsHexOrColon (no_byte 93) hex_no_bracket text (All-hex_groups_text (ipv6_segments a) h.1) in
    bracket_v6 (text ++ 93 ∷ rest)
    ∙ ap (λ t. end_of (ipv6_of t) (port_behind (behind_colon (behind_byte 93 (text ++ 93 ∷ rest))))) (before_cut 93 text rest no_bracket)
    ∙ ap (λ t. end_of (ipv6_of text) (port_behind (behind_colon t))) (behind_cut 93 text rest no_bracket)
    ∙ ap (λ o. end_of o (port_of (decimal port))) (ipv6_found text a (IsColonHex-hex_groups_text (ipv6_segments a) h.0 h.1))
    ∙ ap (end_of (Some (Ip.V6 a))) (port_read port small)

end_read : (ip : IpAddr) (port : ℕ) → MatchIp ip IsIpv4Addr IsIpv6Addr → port < 2 ^ 16 → addr_of (end_text ip port) ≡ Ok (record { ip = ip; port = port })
end_read (Ip.V4 a) port h small = v4_read a port h small
end_read (Ip.V6 a) port h small = v6_read a port h small

pub addr_read : (a : Addr) → IsEnd a → addr_of (addr_text a) ≡ Ok a
addr_read a h = end_read a.ip a.port h.0 h.1

end_word : (ip : IpAddr) (port : ℕ) → MatchIp ip IsIpv4Addr IsIpv6Addr → port < 2 ^ 16 → is_word (end_text ip port) ≡ true
end_word (Ip.V4 a) port h small =
    let text = ipv4_text (ipv4_octets a) in
    let digits = word_graphic (decimal port) (decimal_word port (omega arith)) in
    graphic_word (text ++ 58 ∷ decimal port) (omega (arith, length-append text (58 ∷ decimal port)))
    (all_append is_graphic text (58 ∷ decimal port) (tests IsDigitOrDot is_graphic dotted_graphic text (All-ipv4_text (ipv4_octets a) h.1)) digits)
end_word (Ip.V6 a) port h small =
    let text = hex_groups_text (ipv6_segments a) in
    let digits = word_graphic (decimal port) (decimal_word port (omega arith)) in
    all_append is_graphic text (93 ∷ 58 ∷ decimal port) (tests IsHexOrColon is_graphic hex_graphic text (All-hex_groups_text (ipv6_segments a) h.1)) digits

pub addr_word : (a : Addr) → IsEnd a → is_word (addr_text a) ≡ true
addr_word a h = end_word a.ip a.port h.0 h.1
