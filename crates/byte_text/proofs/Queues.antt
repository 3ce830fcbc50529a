-- Bytes that were added at the end of what waits.
use Rattle.std.proofs.Common.{◌≡◌, ◌∙◌, ℕ, ◌+◌, ◌-◌, ◌≤◌, List, ◌++◌, length, take, drop, ap, sym, arith}
use Rattle.std.proofs.Math.Seq.{take-add, take-append_seam}
use Rattle.std.proofs.lemmas.List.{append_assoc, drop-append-le, drop-take, length-take-le, length-drop}

-- what waits after `count` bytes came after the first `end` ones, which stayed
pub grown : (start end count : ℕ) (old new : List ℕ) → start ≤ end → end + count ≤ length new → take end new ≡ take end old
    → (more : List ℕ) × (length more ≡ count) × (drop start (take (end + count) new) ≡ drop start (take end old) ++ more)
grown start end count old new within room same =
    let rest : length (drop end new) ≡ length new - end = length-drop end new in
    let front : length (take end new) ≡ end = length-take-le end new (omega (arith, room)) in (
      take count (drop end new),
      length-take-le count (drop end new) (omega (arith, rest, room)),
      ap (drop start) (take-add end count new)
          ∙ (drop-append-le start (take end new) (take count (drop end new)) (omega (arith, front, within)) ∙ ap (λ (x : List ℕ). drop start x ++ take count (drop end new)) same),
    )

-- bytes from `start` to `end` that were put at the beginning
pub lowered : (start end : ℕ) (items front rest more : List ℕ) → start ≤ end → end ≤ length items
    → front ≡ take (end - start) (drop start items) → take (end - start) (front ++ rest ++ more) ≡ drop start (take end items)
lowered start end items front rest more within room same =
    let count = end - start in
    let long : length front ≡ count = ap length same ∙ length-take-le count (drop start items) (let l = length-drop start items in omega (arith, l, within, room)) in
    ap (take count) (append_assoc front rest more) ∙ ap (λ (n : ℕ). take n (front ++ (rest ++ more))) (sym long)
    ∙ (take-append_seam front (rest ++ more) ∙ (same ∙ (sym (drop-take start count items) ∙ ap (λ (n : ℕ). drop start (take n items)) (omega (arith, within)))))
