-- How what was written and what waits go on.
use Rattle.std.proofs.Common.{◌≡◌, ℕ, ◌+◌, ◌-◌, ◌≤◌, List, [], ◌++◌, length, take, drop, sym, refl, ap, ◌∙◌, subst, arith}
use Rattle.std.proofs.lemmas.List.{append_assoc, append-nil, drop_at, drop_all, drop-drop, take-append-drop, length-drop, length-append, length-take-le}
use Rattle.chunk_out.specs.Chunks.{chunk, framed}
use Rattle.chunk_out.specs.State.{Feeds}
use Rattle.chunk_out.specs.Laws.{FeedsCompose}
use Rattle.chunk_out.proofs.BlockLemmas.{framed-block}

pub feeds_none : (old bytes out : List ℕ) (u : ℕ) → u ≡ 0 → Feeds old bytes u old out out
feeds_none old bytes out u none = record {
  written = [];
  adds = sym (append-nil out);
  rest = λ more. ap (λ k. framed (old ++ (drop k bytes ++ more))) (sym none);
}

-- a block became whole with some of the bytes left
pub feeds_block : (old bytes block rest before after : List ℕ) (u v j : ℕ)
    → Feeds old bytes u block before after → rest ≡ drop u bytes → length (block ++ take j rest) ≡ 4096 → v ≡ u + j
    → Feeds old bytes v [] before (after ++ chunk (block ++ take j rest))
feeds_block old bytes block rest before after u v j f left whole count =
    let whole_block = block ++ take j rest in
    record {
      written = f.written ++ chunk whole_block;
      adds = ap (λ t. t ++ chunk whole_block) f.adds ∙ append_assoc before f.written (chunk whole_block);
      rest = λ more.
          let cut : block ++ (drop u bytes ++ more) ≡ whole_block ++ (drop j rest ++ more) =
          ap (λ t. block ++ (t ++ more)) (sym left ∙ sym (take-append-drop j rest)) ∙ ap (λ t. block ++ t) (append_assoc (take j rest) (drop j rest) more) ∙ sym (append_assoc block (take j rest) (drop j rest ++ more)) in
          let further : drop j rest ≡ drop v bytes = ap (drop j) left ∙ drop-drop j u bytes ∙ ap (λ k. drop k bytes) (sym count) in
          f.rest more
          ∙ ap (λ t. f.written ++ framed t) cut
          ∙ ap (λ t. f.written ++ t) (framed-block whole_block (drop j rest ++ more) whole)
          ∙ sym (append_assoc f.written (chunk whole_block) (framed (drop j rest ++ more)))
          ∙ ap (λ t. (f.written ++ chunk whole_block) ++ framed (t ++ more)) further;
    }

-- some of the bytes left are kept
pub feeds_kept : (old bytes block rest before after : List ℕ) (u v j : ℕ)
    → Feeds old bytes u block before after → rest ≡ drop u bytes → v ≡ u + j
    → Feeds old bytes v (block ++ take j rest) before after
feeds_kept old bytes block rest before after u v j f left count = record {
  written = f.written;
  adds = f.adds;
  rest = λ more.
      let cut : block ++ (drop u bytes ++ more) ≡ (block ++ take j rest) ++ (drop j rest ++ more) =
      ap (λ t. block ++ (t ++ more)) (sym left ∙ sym (take-append-drop j rest)) ∙ ap (λ t. block ++ t) (append_assoc (take j rest) (drop j rest) more) ∙ sym (append_assoc block (take j rest) (drop j rest ++ more)) in
      let further : drop j rest ≡ drop v bytes = ap (drop j) left ∙ drop-drop j u bytes ∙ ap (λ k. drop k bytes) (sym count) in
      f.rest more ∙ ap (λ t. f.written ++ framed t) cut ∙ ap (λ t. f.written ++ framed ((block ++ take j rest) ++ (t ++ more))) further;
}

pub compose : FeedsCompose
compose old middle new first second before between after n one two =
    let nothing : drop (length first) first ≡ [] = drop_all (length first) first (omega arith) in
    let further : drop n second ≡ drop (length first + n) (first ++ second) = ap (drop n) (sym (drop_at first second (length first) refl)) ∙ drop-drop n (length first) (first ++ second) in
    record {
      written = one.written ++ two.written;
      adds = two.adds ∙ ap (λ t. t ++ two.written) one.adds ∙ append_assoc before one.written two.written;
      rest = λ more.
          ap (λ t. framed (old ++ t)) (append_assoc first second more)
          ∙ one.rest (second ++ more)
          ∙ ap (λ t. one.written ++ framed (middle ++ (t ++ (second ++ more)))) nothing
          ∙ ap (λ t. one.written ++ t) (two.rest more)
          ∙ sym (append_assoc one.written two.written _)
          ∙ ap (λ t. (one.written ++ two.written) ++ framed (new ++ (t ++ more))) further;
    }

-- one turn of the loop: a block became whole
pub record Stepped (old bytes back block before after : List ℕ) : Type 0 where
  pub left : back ≡ drop (length bytes - length back) bytes
  pub fed : Feeds old bytes (length bytes - length back) block before after

pub feed_step : (old bytes block rest before out slice front back new after : List ℕ) (j : ℕ)
    → length rest ≤ length bytes → rest ≡ drop (length bytes - length rest) bytes → Feeds old bytes (length bytes - length rest) block before out
    → j ≤ length rest → length slice + j ≡ 4096 → slice ≡ block → front ≡ take j rest → back ≡ drop j rest
    → new ≡ [] → after ≡ out ++ chunk (slice ++ front) → Stepped old bytes back new before after
feed_step old bytes block rest before out slice front back new after j within left f inside whole slice_is front_is back_is none adds =
    let u = length bytes - length rest in
    let v = length bytes - length back in
    let len : length back ≡ length rest - j = ap length back_is ∙ length-drop j rest in
    let count : v ≡ u + j = omega (arith, len, within, inside) in
    let size : length (block ++ take j rest) ≡ 4096 = omega (arith, length-append block (take j rest), length-take-le j rest inside, whole, ap length slice_is) in
    let fed : Feeds old bytes v [] before (out ++ chunk (block ++ take j rest)) = feeds_block old bytes block rest before out u v j f left size count in
    let text : after ≡ out ++ chunk (block ++ take j rest) = adds ∙ (λ i. out ++ chunk (slice_is i ++ front_is i)) in
    record {
      left = back_is ∙ ap (drop j) left ∙ drop-drop j u bytes ∙ ap (λ k. drop k bytes) (sym count);
      fed = subst (λ b. Feeds old bytes v b before after) (sym none) (subst (λ o. Feeds old bytes v [] before o) (sym text) fed);
    }

-- the end of the call: some of the bytes left are kept
pub feed_end : (old bytes block rest before out new : List ℕ) (j : ℕ)
    → length rest ≤ length bytes → rest ≡ drop (length bytes - length rest) bytes → Feeds old bytes (length bytes - length rest) block before out
    → j ≤ length rest → new ≡ block ++ take j rest → Feeds old bytes (length bytes - (length rest - j)) new before out
feed_end old bytes block rest before out new j within left f inside is =
    let count : length bytes - (length rest - j) ≡ length bytes - length rest + j = omega (arith, within, inside) in
    subst (λ b. Feeds old bytes (length bytes - (length rest - j)) b before out) (sym is) (feeds_kept old bytes block rest before out (length bytes - length rest) (length bytes - (length rest - j)) j f left count)
