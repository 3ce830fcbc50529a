-- What adding bytes of a body leaves to come.
use Rattle.std.proofs.Common.{◌≡◌, ℕ, ◌+◌, ◌-◌, ◌*◌, ◌≤◌, None, Some, List, ◌++◌, length, take, drop, replicate, sym, refl, ap, ◌∙◌, arith}
use Rattle.std.proofs.lemmas.List.{append_assoc, length-append, length-drop, length-take-le, length-replicate, take-append-drop}
use Rattle.chunk_out.specs.State.{Feeds}
use Rattle.outgoing.specs.Puts.{Puts}
use Rattle.outgoing.proofs.ChunkLengths.{weighed}

-- of a body that isn't framed
pub puts_plain : (bytes before after : List ℕ) (count : ℕ) → count ≤ length bytes → after ≡ before ++ take count bytes → Puts None bytes count None before after
puts_plain bytes before after count within adds = record {
  written = take count bytes;
  adds = adds;
  rest = λ more. ap (λ t. t ++ more) (sym (take-append-drop count bytes)) ∙ append_assoc (take count bytes) (drop count bytes) more;
  kind = refl;
  share = omega (arith, length-take-le count bytes within);
}

abbrev padded : List ℕ → List ℕ → ℕ → List ℕ
padded held bytes n = held ++ (bytes ++ replicate n 0)

padded_length : (held bytes : List ℕ) (n : ℕ) → length (padded held bytes n) ≡ length held + length bytes + n
padded_length held bytes n =
    omega (arith, length-append held (bytes ++ replicate n 0), length-append bytes (replicate n 0), length-replicate {A = ℕ} n 0)

-- what was written are chunks of whole blocks
feeds_weigh : (old bytes new before after : List ℕ) (count a n : ℕ) → count ≤ length bytes → (f : Feeds old bytes count new before after)
    → a ≡ length old + length bytes → n ≡ 4095 * a → 512 * length f.written + 513 * length new ≡ 513 * length old + 513 * count
feeds_weigh old bytes new before after count a n within f all pad =
    let left = drop count bytes in
    let one = padded_length old bytes n in
    let two = padded_length old bytes (n + 1) in
    let first = padded_length new left n in
    let second = padded_length new left (n + 1) in
    let len : length left ≡ length bytes - count = length-drop count bytes in
    let is : 512 * length f.written + 513 * length (padded new left n) ≡ 513 * length (padded old bytes n) =
    weighed a (length f.written) (padded old bytes n) (padded old bytes (n + 1)) (padded new left n) (padded new left (n + 1))
    (omega (arith, one, all, pad)) (omega (arith, two, all, pad)) (omega (arith, first, second))
    (ap length (f.rest (replicate n 0)) ∙ length-append f.written _)
    (ap length (f.rest (replicate (n + 1) 0)) ∙ length-append f.written _) in
    omega (arith, is, one, first, len, within)

-- of a body in chunks
pub puts_chunks : (old bytes new before after : List ℕ) (count : ℕ) → count ≤ length bytes → Feeds old bytes count new before after → Puts (Some old) bytes count (Some new) before after
puts_chunks old bytes new before after count within f = record {
  written = f.written;
  adds = f.adds;
  rest = f.rest;
  kind = refl;
  share = omega (arith, feeds_weigh old bytes new before after count (length old + length bytes) (4095 * (length old + length bytes)) within f refl refl);
}
