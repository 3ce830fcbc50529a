-- The texts of small numbers, and where a text is cut.
use Rattle.std.proofs.Common.{◌≡◌, ℕ, zero, suc, ◌+◌, ◌-◌, ◌*◌, ◌/◌, ◌%◌, ◌<◌, ◌≤◌, Bool, true, false, not, cond, eqb, Option, Some, None, List, [], ◌∷◌, ◌++◌, length, get_or, drop, take, sym, refl, ap, ◌∙◌, subst, ⊎_elim, arith}
use Rattle.std.specs.Prelude.{decimal}
use Rattle.std.specs.Char.{is_ascii_digit}
use Rattle.std.proofs.lemmas.Fmt.{decimal_digit, decimal_step}
use Rattle.std.proofs.lemmas.Bool.{and_parts, and_from, eqb-true, ne_eqb, not-true, leb-true, eqb-false, cases_lt}
use Rattle.std.proofs.lemmas.Bool.Decides.{nat_tests}
use Rattle.std.proofs.lemmas.List.{get_or_at, get_or-append_right, take_at, append_cancel_left, length-append}
use Rattle.std.specs.Prelude.{IfSome, IfNone}
use Rattle.std.specs.declared.net.ip_addr.IpAddr.{IpAddr}
use Rattle.std.specs.declared.net.ip_addr.IpAddr.TheVariants.{V4, V6}
use Rattle.std.specs.Net.Grammar.{IsIpText}
use Rattle.access_rules.specs.declared.rule.Source.{Source}
use Rattle.access_rules.specs.declared.rule.Source.TheVariants.{All, Network}
use Rattle.access_rules.specs.Rule.{width_of}
use Rattle.access_rules.specs.Text.{IsCidrText, IsCidrSource, IsNetworkOf, small_number, Lacks}

two_text : (a b : ℕ) → 0 < a → a < 10 → b < 10 → decimal (a * 10 + b) ≡ (48 + a) ∷ (48 + b) ∷ []
two_text a b some low small =
    let n = a * 10 + b in
    let high : n / 10 ≡ a = omega arith in
    let rest : n % 10 ≡ b = omega arith in
    decimal_step n (omega arith) (omega arith) ∙ ap (λ k. decimal k ++ (48 + n % 10) ∷ []) high ∙ ap (λ ds. ds ++ (48 + n % 10) ∷ []) (decimal_digit a low) ∙ ap (λ k. (48 + a) ∷ (48 + k) ∷ []) rest

three_text : (b c : ℕ) → b < 10 → c < 10 → decimal (100 + b * 10 + c) ≡ 49 ∷ (48 + b) ∷ (48 + c) ∷ []
three_text b c low small =
    let n = 100 + b * 10 + c in
    let high : n / 10 ≡ 1 * 10 + b = omega arith in
    let rest : n % 10 ≡ c = omega arith in
    decimal_step n (omega arith) (omega arith) ∙ ap (λ k. decimal k ++ (48 + n % 10) ∷ []) high ∙ ap (λ ds. ds ++ (48 + n % 10) ∷ []) (two_text 1 b (omega arith) (omega arith) low) ∙ ap (λ k. 49 ∷ (48 + b) ∷ (48 + k) ∷ []) rest

digit_test : (n : ℕ) → n < 10 → is_ascii_digit (48 + n) ≡ true
digit_test n low = grind (arith, nat_tests)

digit_range : (a : ℕ) → is_ascii_digit a ≡ true → (48 ≤ a) × (a < 58)
digit_range a t =
    let parts = and_parts _ _ t in
    (leb-true 48 a parts.0, omega (arith, leb-true a 57 parts.1))

one_number : (a : ℕ) → a < 10 → small_number ((48 + a) ∷ []) ≡ Some a
one_number a low =
    let same : 48 + a - 48 ≡ a = omega arith in
    ap (λ t. cond t (Some (48 + a - 48)) None) (digit_test a low) ∙ ap Some same

two_number : (a b : ℕ) → 0 < a → a < 10 → b < 10 → small_number ((48 + a) ∷ (48 + b) ∷ []) ≡ Some (a * 10 + b)
two_number a b some low small =
    let other : not (eqb (48 + a) 48) ≡ true = ap not (ne_eqb (48 + a) 48 (λ e. omega arith)) in
    let same : (48 + a - 48) * 10 + (48 + b - 48) ≡ a * 10 + b = omega arith in
    ap (λ t. cond t (Some ((48 + a - 48) * 10 + (48 + b - 48))) None) (and_from _ _ (and_from _ _ other (digit_test a low)) (digit_test b small)) ∙ ap Some same

three_number : (b c : ℕ) → b < 10 → c < 10 → small_number (49 ∷ (48 + b) ∷ (48 + c) ∷ []) ≡ Some (100 + b * 10 + c)
three_number b c low small =
    let same : 100 + (48 + b - 48) * 10 + (48 + c - 48) ≡ 100 + b * 10 + c = omega arith in
    ap (λ t. cond t (Some (100 + (48 + b - 48) * 10 + (48 + c - 48))) None) (and_from _ _ (and_from (eqb 49 49) _ refl (digit_test b low)) (digit_test c small)) ∙ ap Some same

-- the text of each small number is read
pub small_decimal : (n : ℕ) → n < 200 → small_number (decimal n) ≡ Some n
small_decimal n small =
    ⊎_elim (λ low. ap small_number (decimal_digit n low) ∙ one_number n low)
    (λ ten. ⊎_elim (λ low.
    let a = n / 10 in
    let b = n % 10 in
    let is : n ≡ a * 10 + b = omega arith in
    ap (λ k. small_number (decimal k)) is ∙ ap small_number (two_text a b (omega arith) (omega arith) (omega arith)) ∙ two_number a b (omega arith) (omega arith) (omega arith) ∙ ap Some (sym is))
    (λ hundred.
    let b = (n - 100) / 10 in
    let c = (n - 100) % 10 in
    let is : n ≡ 100 + b * 10 + c = omega arith in
    ap (λ k. small_number (decimal k)) is ∙ ap small_number (three_text b c (omega arith) (omega arith)) ∙ three_number b c (omega arith) (omega arith) ∙ ap Some (sym is))
    (cases_lt n 100))
    (cases_lt n 10)

-- a test that chose Some
chosen : (t : Bool) (x n : ℕ) → cond t (Some x) None ≡ Some n → (t ≡ true) × (x ≡ n)
chosen true x n e = (refl, cc)
chosen false x n e = cc

-- and no other text is
pub small_found : (text : List ℕ) (n : ℕ) → small_number text ≡ Some n → (n < 200) × (text ≡ decimal n)
small_found [] n e = cc
small_found (a ∷ []) n e =
    let w = chosen _ _ n e in
    let d = digit_range a w.0 in
    let same : a ≡ 48 + n = omega (arith, w.1, d) in
    (omega (arith, w.1, d), ap (λ k. k ∷ []) same ∙ sym (decimal_digit n (omega (arith, w.1, d))))
small_found (a ∷ b ∷ []) n e =
    let w = chosen _ _ n e in
    let parts = and_parts _ (is_ascii_digit b) w.0 in
    let first = and_parts (not (eqb a 48)) (is_ascii_digit a) parts.0 in
    let p = digit_range a first.1 in
    let q = digit_range b parts.1 in
    let other : ¬ (a ≡ 48) = eqb-false a 48 (not-true _ first.0) in
    let x = a - 48 in
    let y = b - 48 in
    let high : a ≡ 48 + x = omega (arith, p) in
    let low : b ≡ 48 + y = omega (arith, q) in
    (omega (arith, w.1, p, q), (λ i. high i ∷ low i ∷ []) ∙ sym (two_text x y (omega (arith, p, other)) (omega (arith, p)) (omega (arith, q))) ∙ ap decimal w.1)
small_found (a ∷ b ∷ c ∷ []) n e =
    let w = chosen _ _ n e in
    let parts = and_parts _ (is_ascii_digit c) w.0 in
    let first = and_parts (eqb a 49) (is_ascii_digit b) parts.0 in
    let p = digit_range b first.1 in
    let q = digit_range c parts.1 in
    let one : a ≡ 49 = eqb-true a 49 first.0 in
    let x = b - 48 in
    let y = c - 48 in
    let high : b ≡ 48 + x = omega (arith, p) in
    let low : c ≡ 48 + y = omega (arith, q) in
    (omega (arith, w.1, p, q), (λ i. one i ∷ high i ∷ low i ∷ []) ∙ sym (three_text x y (omega (arith, p)) (omega (arith, q))) ∙ ap decimal w.1)
small_found (a ∷ b ∷ c ∷ d ∷ ds) n e = cc

lacks_none : (byte : ℕ) → Lacks byte []
lacks_none byte = λ k within e. omega arith

lacks_cons : (byte x : ℕ) (xs : List ℕ) → ¬ (x ≡ byte) → Lacks byte xs → Lacks byte (x ∷ xs)
lacks_cons byte x xs other lacks zero within e = other e
lacks_cons byte x xs other lacks (suc k) within e = lacks k (omega arith) e

lacks_digit : (a : ℕ) (xs : List ℕ) → Lacks 47 xs → Lacks 47 ((48 + a) ∷ xs)
lacks_digit a xs lacks = lacks_cons 47 (48 + a) xs (λ e. omega arith) lacks

-- no text of a small number has a `/`
pub decimal_lacks : (n : ℕ) → n < 200 → Lacks 47 (decimal n)
decimal_lacks n small =
    ⊎_elim (λ low. subst (Lacks 47) (sym (decimal_digit n low)) (lacks_digit n [] (lacks_none 47)))
    (λ ten. ⊎_elim (λ low.
    let a = n / 10 in
    let b = n % 10 in
    let is : a * 10 + b ≡ n = omega arith in
    subst (Lacks 47) (sym (two_text a b (omega arith) (omega arith) (omega arith)) ∙ ap decimal is) (lacks_digit a ((48 + b) ∷ []) (lacks_digit b [] (lacks_none 47))))
    (λ hundred.
    let b = (n - 100) / 10 in
    let c = (n - 100) % 10 in
    let is : 100 + b * 10 + c ≡ n = omega arith in
    subst (Lacks 47) (sym (three_text b c (omega arith) (omega arith)) ∙ ap decimal is) (lacks_digit 1 ((48 + b) ∷ (48 + c) ∷ []) (lacks_digit b ((48 + c) ∷ []) (lacks_digit c [] (lacks_none 47)))))
    (cases_lt n 100))
    (cases_lt n 10)

-- the front part up to the last such byte isn't shorter than another that ends at one
front_not_shorter : (a b r s : List ℕ) (byte : ℕ) → a ++ byte ∷ r ≡ b ++ byte ∷ s → Lacks byte r → length b ≤ length a
front_not_shorter a b r s byte e lacks =
    let lengths : length a + suc (length r) ≡ length b + suc (length s) = sym (length-append a (byte ∷ r)) ∙ ap length e ∙ length-append b (byte ∷ s) in
    ⊎_elim (λ (below : length a < length b).
    let k = length b - length a - 1 in
    let at : get_or (b ++ byte ∷ s) (length b) 0 ≡ byte = get_or_at b byte s 0 (length b) refl in
    let there : get_or (a ++ byte ∷ r) (length b) 0 ≡ get_or (byte ∷ r) (length b - length a) 0 = get_or-append_right a (byte ∷ r) (length a) (length b) 0 refl (omega arith) in
    let step : length b - length a ≡ suc k = omega arith in
    let here : get_or r k 0 ≡ byte = sym (there ∙ ap (λ n. get_or (byte ∷ r) n 0) step) ∙ ap (λ t. get_or t (length b) 0) e ∙ at in
    absurd (lacks k (omega (arith, below, lengths)) here))
    (λ h. h) (cases_lt (length a) (length b))

-- a text is cut at its last such byte in one way
pub one_cut : (a b r s : List ℕ) (byte : ℕ) → a ++ byte ∷ r ≡ b ++ byte ∷ s → Lacks byte r → Lacks byte s → (a ≡ b) × (r ≡ s)
one_cut a b r s byte e lacks others =
    let low = front_not_shorter a b r s byte e lacks in
    let high = front_not_shorter b a s r byte (sym e) others in
    let same : length a ≡ length b = omega (arith, low, high) in
    let front : a ≡ b = sym (take_at a (byte ∷ r) (length a) refl) ∙ ap (take (length a)) e ∙ take_at b (byte ∷ s) (length a) (sym same) in
    let back : byte ∷ r ≡ byte ∷ s = append_cancel_left a (byte ∷ r) (byte ∷ s) (e ∙ ap (λ t. t ++ byte ∷ s) (sym front)) in
    (front, ap (drop 1) back)

small_width : (addr : IpAddr) → width_of addr < 200
small_width (V4 a) = omega arith
small_width (V6 a) = omega arith

-- a network in CIDR form
module _ (text front back : List ℕ) (spelled : text ≡ front ++ 47 ∷ back) where
  cidr_of : (bits : ℕ) → small_number back ≡ Some bits → (source : Source) → IsNetworkOf front bits source → IsCidrSource text source
  cidr_of bits number All h = h
  cidr_of bits number (Network addr n) h =
      let is : back ≡ decimal n = (small_found back bits number).1 ∙ ap decimal (sym h.0) in
      record { front = front; spelled = spelled ∙ ap (λ ds. front ++ 47 ∷ ds) is; address = h.2; within = omega (arith, h) }

  pub cidr_found : (bits : ℕ) (r : Option Source) → small_number back ≡ Some bits → IfSome r (IsNetworkOf front bits) → IfSome r (IsCidrSource text)
  cidr_found bits (Some source) number h = cidr_of bits number source h
  cidr_found bits None number h = h

  module _ (lacks : Lacks 47 back) where
    -- any other reading has the same parts
    record Parts (addr : IpAddr) (n : ℕ) : Type 0 where
      address : IsIpText front addr
      within : n ≤ width_of addr
      number : small_number back ≡ Some n

    parts : (addr : IpAddr) (n : ℕ) → IsCidrText text addr n → Parts addr n
    parts addr n t =
        let small : n < 200 = omega (arith, t.within, small_width addr) in
        let cut = one_cut front t.front back (decimal n) 47 (sym spelled ∙ t.spelled) lacks (decimal_lacks n small) in
        record { address = subst (λ x. IsIpText x addr) (sym cut.0) t.address; within = t.within; number = ap small_number cut.1 ∙ small_decimal n small }

    pub no_number : small_number back ≡ None → (addr : IpAddr) (n : ℕ) → ¬ (IsCidrText text addr n)
    no_number none addr n t = let e : None ≡ Some n = sym none ∙ (parts addr n t).number in cc

    pub no_network : (bits : ℕ) (r : Option Source) → small_number back ≡ Some bits → IfNone r ((addr : IpAddr) → IsIpText front addr → ¬ (bits ≤ width_of addr)) → IfNone r ((addr : IpAddr) (n : ℕ) → ¬ (IsCidrText text addr n))
    no_network bits (Some source) number h = h
    no_network bits None number h = λ addr n t.
        let p = parts addr n t in
        let e : Some bits ≡ Some n = sym number ∙ p.number in
        let same : bits ≡ n = cc in
        h addr p.address (omega (arith, same, p.within))

pub no_slash : (text : List ℕ) → Lacks 47 text → (addr : IpAddr) (n : ℕ) → ¬ (IsCidrText text addr n)
no_slash text lacks addr n t =
    let count : length text ≡ length t.front + suc (length (decimal n)) = ap length t.spelled ∙ length-append t.front (47 ∷ decimal n) in
    lacks (length t.front) (omega (arith, count)) (ap (λ x. get_or x (length t.front) 0) t.spelled ∙ get_or_at t.front 47 (decimal n) 0 (length t.front) refl)
