-- Digits after a number don't make it less.
use Rattle.std.proofs.Common.{◌≡◌, ℕ, suc, ◌+◌, ◌*◌, ◌-◌, ◌≤◌, ◌<◌, List, [], ◌∷◌, length, drop, get_or, drop-cons, arith}
use Rattle.text_words.specs.Digits.{value_behind}

pub value_rises : (n : ℕ) (bs : List ℕ) → n ≤ value_behind n bs
value_rises n [] = omega arith
value_rises n (b ∷ bs) = omega (arith, value_rises (n * 10 + (b - 48)) bs)

-- what the digits up to place i write, is no more than what all write
pub value_past : (m i v w : ℕ) (ds : List ℕ) → i < length ds → value_behind v (drop i ds) ≡ w → m ≤ v * 10 + (get_or ds i 0 - 48) → m ≤ w
value_past m i v w ds h e k =
    let step : value_behind (v * 10 + (get_or ds i 0 - 48)) (drop (suc i) ds) ≡ w = rw (drop-cons ds i 0) at e in
    omega (arith, value_rises (v * 10 + (get_or ds i 0 - 48)) (drop (suc i) ds))
