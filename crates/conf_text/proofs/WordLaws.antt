-- A word under way.
use Rattle.std.proofs.Common.{◌≡◌, ℕ, suc, ◌+◌, ◌-◌, ◌≤◌, nat_le, Bool, true, false, not, ◌||◌, ◌&&◌, ◌==◌, List, [], ◌∷◌, ◌++◌, length, refl, sym, ap, ◌∙◌, arith, subst, append_assoc, length-append, append-nil, Option, None, Some, MatchOption, if◌then◌else◌}
use Rattle.std.proofs.lemmas.Bool.{leb-true, eqb-true, eq-eqb, ne_eqb, or_parts}
use Rattle.conf_text.specs.declared.fault.FaultKind.{FaultKind}
use Rattle.conf_text.specs.declared.fault.FaultKind.TheVariants.{UnexpectedEnd, TokenTooLong, BadQuote}
use Rattle.conf_text.specs.Words.{Byte, Pair, Cut, Word, Whole, Faulty, pieces, escape, in_front, fitted, ends, plain, quoted, closed, may_follow, line_behind, is_space}
use Rattle.conf_text.specs.Places.{Passed, ReadsWord}
use Rattle.conf_text.proofs.PlaceLaws.{passed-byte, passed-within_line, passed-pair}

pub pieces-byte : (b : ℕ) (bs : List ℕ) → (b == 92) ≡ false → pieces (b ∷ bs) ≡ Byte b ∷ pieces bs
unfolding pieces
pieces-byte b [] e = ap (λ t. (if t then Cut else Byte b) ∷ []) e
pieces-byte b (c ∷ cs) e = ap (λ t. if t then Pair c ∷ pieces cs else Byte b ∷ pieces (c ∷ cs)) e

pub pieces-pair : (c : ℕ) (cs : List ℕ) → pieces (92 ∷ c ∷ cs) ≡ Pair c ∷ pieces cs
unfolding pieces
pieces-pair c cs = refl

pub pieces-cut : pieces (92 ∷ []) ≡ Cut ∷ []
unfolding pieces
pieces-cut = refl

pub in_front-in_front : (xs ys : List ℕ) (n k : ℕ) (w : Word) → in_front xs n (in_front ys k w) ≡ in_front (xs ++ ys) (n + k) w
in_front-in_front xs ys n k (Whole more m) =
    ap (λ z. Whole z (n + (k + m))) (sym (append_assoc xs ys more)) ∙ ap (λ z. Whole ((xs ++ ys) ++ more) z) (omega arith)
in_front-in_front xs ys n k (Faulty kind line) = refl

-- what was read so far, and the rest of the word, are the whole word
pub record Under (word rest_word : Word) (text : List ℕ) (line : ℕ) (rest : List ℕ) (line' : ℕ) (rest' : List ℕ) : Type 0 where
  pub whole : in_front text (length rest - length rest') rest_word ≡ word
  pub passed : Passed line rest line' rest'
  pub room : length text ≤ 4096

-- some more bytes of the word, from this many of the text
pub under-more : (word rest_word next_word : Word) (text bytes : List ℕ) (size : ℕ) (line : ℕ) (rest : List ℕ) (line' : ℕ) (rest' : List ℕ) (line'' : ℕ) (rest'' : List ℕ)
    → Under word rest_word text line rest line' rest' → rest_word ≡ in_front bytes size next_word → length rest' ≡ size + length rest'' → length bytes ≤ 4096 - length text → Passed line rest line'' rest''
    → Under word next_word (text ++ bytes) line rest line'' rest''
under-more word rest_word next_word text bytes size line rest line' rest' line'' rest'' u e n r p =
    let within : length rest' ≤ length rest = u.passed.within in
    let room : length text ≤ 4096 = u.room in
    let sizes : length rest - length rest'' ≡ (length rest - length rest') + size = omega arith in
    record {
      whole = ap (λ k. in_front (text ++ bytes) k next_word) sizes ∙ sym (in_front-in_front text bytes (length rest - length rest') size next_word) ∙ ap (in_front text (length rest - length rest')) (sym e) ∙ u.whole;
      passed = p;
      room = omega (arith, length-append text bytes);
    }

pub under-faulty : (word rest_word : Word) (text : List ℕ) (line : ℕ) (rest : List ℕ) (line' : ℕ) (rest' : List ℕ) (kind : FaultKind) (at : ℕ)
    → Under word rest_word text line rest line' rest' → rest_word ≡ Faulty kind at → word ≡ Faulty kind at
under-faulty word rest_word text line rest line' rest' kind at u e = sym u.whole ∙ ap (in_front text (length rest - length rest')) e

pub under-whole : (word rest_word : Word) (text : List ℕ) (line : ℕ) (rest : List ℕ) (line' : ℕ) (rest' : List ℕ) (size : ℕ)
    → Under word rest_word text line rest line' rest' → rest_word ≡ Whole [] size → word ≡ Whole text ((length rest - length rest') + size)
under-whole word rest_word text line rest line' rest' size u e =
    sym u.whole ∙ ap (in_front text (length rest - length rest')) e ∙ ap (λ z. Whole z ((length rest - length rest') + size)) (append-nil text)

pub fitted-fits : (room line : ℕ) (bytes : List ℕ) (size : ℕ) (more : Word) → nat_le (length bytes) room ≡ true → fitted room line bytes size more ≡ in_front bytes size more
fitted-fits room line bytes size more e = ap (λ t. if t then in_front bytes size more else Faulty TokenTooLong line) e

pub fitted-full : (room line : ℕ) (bytes : List ℕ) (size : ℕ) (more : Word) → nat_le (length bytes) room ≡ false → fitted room line bytes size more ≡ Faulty TokenTooLong line
fitted-full room line bytes size more e = ap (λ t. if t then in_front bytes size more else Faulty TokenTooLong line) e

-- what an unquoted word is at each kind of byte

pub plain-nothing : (dollar : Bool) (room line : ℕ) (rest : List ℕ) → rest ≡ [] → plain dollar room line (pieces rest) ≡ Faulty UnexpectedEnd line
unfolding plain pieces
plain-nothing dollar room line rest e = ap (λ r. plain dollar room line (pieces r)) e

pub plain-cut : (dollar : Bool) (room line : ℕ) (rest : List ℕ) (b : ℕ) (after : List ℕ) → rest ≡ b ∷ after → b ≡ 92 → after ≡ [] → plain dollar room line (pieces rest) ≡ Faulty UnexpectedEnd line
unfolding plain pieces
plain-cut dollar room line rest b after e f g =
    ap (λ r. plain dollar room line (pieces r)) (e ∙ ap (λ r. b ∷ r) g) ∙ ap (λ t. plain dollar room line ((if t then Cut else Byte b) ∷ [])) (eq-eqb b 92 f)

pub plain-pair : (dollar : Bool) (room line : ℕ) (rest : List ℕ) (b : ℕ) (after : List ℕ) (c : ℕ) (beyond : List ℕ) → rest ≡ b ∷ after → b ≡ 92 → after ≡ c ∷ beyond
    → plain dollar room line (pieces rest) ≡ fitted room (line_behind line c) (escape c) 2 (plain false (room - length (escape c)) (line_behind line c) (pieces beyond))
unfolding plain pieces
plain-pair dollar room line rest b after c beyond e f g =
    ap (λ r. plain dollar room line (pieces r)) (e ∙ ap (λ r. b ∷ r) g) ∙ ap (λ t. plain dollar room line (if t then Pair c ∷ pieces beyond else Byte b ∷ pieces (c ∷ beyond))) (eq-eqb b 92 f)

pub plain-byte : (dollar : Bool) (room line : ℕ) (rest : List ℕ) (b : ℕ) (after : List ℕ) → rest ≡ b ∷ after → (b ≡ 92 → ⊥) → ends dollar b ≡ false
    → plain dollar room line (pieces rest) ≡ fitted room line (b ∷ []) 1 (plain (b == 36) (room - 1) line (pieces after))
unfolding plain
plain-byte dollar room line rest b after e f g =
    ap (λ r. plain dollar room line (pieces r)) e ∙ ap (plain dollar room line) (pieces-byte b after (ne_eqb b 92 f))
    ∙ ap (λ t. if t then Whole [] 0 else fitted room line (b ∷ []) 1 (plain (b == 36) (room - 1) line (pieces after))) g

pub plain-ends : (dollar : Bool) (room line : ℕ) (rest : List ℕ) (b : ℕ) (after : List ℕ) → rest ≡ b ∷ after → (b ≡ 92 → ⊥) → ends dollar b ≡ true
    → plain dollar room line (pieces rest) ≡ Whole [] 0
unfolding plain
plain-ends dollar room line rest b after e f g =
    ap (λ r. plain dollar room line (pieces r)) e ∙ ap (plain dollar room line) (pieces-byte b after (ne_eqb b 92 f))
    ∙ ap (λ t. if t then Whole [] 0 else fitted room line (b ∷ []) 1 (plain (b == 36) (room - 1) line (pieces after))) g

-- a byte or a pair more, for a reading of the rest by room, line and bytes
pub under-on : (word : Word) (now next : ℕ → ℕ → List ℕ → Word) (text text' bytes : List ℕ) (size line : ℕ) (rest : List ℕ) (line' : ℕ) (rest' : List ℕ) (line'' : ℕ) (rest'' : List ℕ)
    → Under word (now (4096 - length text) line' rest') text line rest line' rest'
    → now (4096 - length text) line' rest' ≡ fitted (4096 - length text) line'' bytes size (next ((4096 - length text) - length bytes) line'' rest'')
    → nat_le (length bytes) (4096 - length text) ≡ true → text' ≡ text ++ bytes → length rest' ≡ size + length rest'' → Passed line rest line'' rest''
    → Under word (next (4096 - length text') line'' rest'') text' line rest line'' rest''
under-on word now next text text' bytes size line rest line' rest' line'' rest'' u e fits t n p =
    let room : length bytes ≤ 4096 - length text = leb-true (length bytes) (4096 - length text) fits in
    let more : Under word (next ((4096 - length text) - length bytes) line'' rest'') (text ++ bytes) line rest line'' rest''
    = under-more word _ _ text bytes size line rest line' rest' line'' rest'' u (e ∙ fitted-fits (4096 - length text) line'' bytes size _ fits) n room p in
    let left : (4096 - length text) - length bytes ≡ 4096 - length (text ++ bytes) = omega (arith, length-append text bytes) in
    let moved : Under word (next (4096 - length (text ++ bytes)) line'' rest'') (text ++ bytes) line rest line'' rest''
    = subst (λ k. Under word (next k line'' rest'') (text ++ bytes) line rest line'' rest'') left more in
    subst (λ z. Under word (next (4096 - length z) line'' rest'') z line rest line'' rest'') (sym t) moved

pub space-no_feed : (b : ℕ) → is_space b ≡ false → (b == 10) ≡ false
space-no_feed b e = (or_parts (b == 13) (b == 10) ((or_parts (b == 9) ((b == 13) || (b == 10)) ((or_parts (b == 32) ((b == 9) || ((b == 13) || (b == 10))) e).1)).1)).1

pub ends-no_feed : (dollar : Bool) (b : ℕ) → ends dollar b ≡ false → (b == 10) ≡ false
ends-no_feed dollar b e = space-no_feed b ((or_parts (is_space b) ((b == 59) || ((b == 123) && not dollar)) e).0)

pub plain-pair_on : (word : Word) (dollar : Bool) (text text' : List ℕ) (line : ℕ) (rest : List ℕ) (line' : ℕ) (rest' : List ℕ) (b : ℕ) (after : List ℕ) (c : ℕ) (beyond : List ℕ) (line'' : ℕ)
    → Under word (plain dollar (4096 - length text) line' (pieces rest')) text line rest line' rest' → rest' ≡ b ∷ after → b ≡ 92 → after ≡ c ∷ beyond → line'' ≡ line_behind line' c
    → nat_le (length (escape c)) (4096 - length text) ≡ true → text' ≡ text ++ escape c
    → Under word (plain false (4096 - length text') line'' (pieces beyond)) text' line rest line'' beyond
plain-pair_on word dollar text text' line rest line' rest' b after c beyond line'' u e f g h fits t =
    under-on word (λ room l r. plain dollar room l (pieces r)) (λ room l r. plain false room l (pieces r)) text text' (escape c) 2 line rest line' rest' line'' beyond u
    (plain-pair dollar (4096 - length text) line' rest' b after c beyond e f g
    ∙ ap (λ l. fitted (4096 - length text) l (escape c) 2 (plain false ((4096 - length text) - length (escape c)) l (pieces beyond))) (sym h))
    fits t (ap length e ∙ ap (λ r. suc (length r)) g ∙ omega arith) (passed-pair line rest line' rest' b after c beyond line'' u.passed e f g h)

pub plain-byte_on : (word : Word) (dollar : Bool) (text text' : List ℕ) (line : ℕ) (rest : List ℕ) (line' : ℕ) (rest' : List ℕ) (b : ℕ) (after : List ℕ)
    → Under word (plain dollar (4096 - length text) line' (pieces rest')) text line rest line' rest' → rest' ≡ b ∷ after → (b ≡ 92 → ⊥) → ends dollar b ≡ false
    → nat_le 1 (4096 - length text) ≡ true → text' ≡ text ++ b ∷ []
    → Under word (plain (b == 36) (4096 - length text') line' (pieces after)) text' line rest line' after
plain-byte_on word dollar text text' line rest line' rest' b after u e f g fits t =
    under-on word (λ room l r. plain dollar room l (pieces r)) (λ room l r. plain (b == 36) room l (pieces r)) text text' (b ∷ []) 1 line rest line' rest' line' after u
    (plain-byte dollar (4096 - length text) line' rest' b after e f g)
    fits t (ap length e ∙ omega arith) (passed-within_line line rest line' rest' b after u.passed e (ends-no_feed dollar b g))

pub plain-pair_full : (dollar : Bool) (room line : ℕ) (rest : List ℕ) (b : ℕ) (after : List ℕ) (c : ℕ) (beyond : List ℕ) → rest ≡ b ∷ after → b ≡ 92 → after ≡ c ∷ beyond
    → nat_le (length (escape c)) room ≡ false → plain dollar room line (pieces rest) ≡ Faulty TokenTooLong (line_behind line c)
plain-pair_full dollar room line rest b after c beyond e f g full =
    plain-pair dollar room line rest b after c beyond e f g ∙ fitted-full room (line_behind line c) (escape c) 2 _ full

pub plain-byte_full : (dollar : Bool) (room line : ℕ) (rest : List ℕ) (b : ℕ) (after : List ℕ) → rest ≡ b ∷ after → (b ≡ 92 → ⊥) → ends dollar b ≡ false
    → nat_le 1 room ≡ false → plain dollar room line (pieces rest) ≡ Faulty TokenTooLong line
plain-byte_full dollar room line rest b after e f g full =
    plain-byte dollar room line rest b after e f g ∙ fitted-full room line (b ∷ []) 1 _ full

pub plain-ends_there : (word : Word) (dollar : Bool) (room : ℕ) (text : List ℕ) (line : ℕ) (rest : List ℕ) (line' : ℕ) (rest' : List ℕ) (b : ℕ) (after : List ℕ)
    → Under word (plain dollar room line' (pieces rest')) text line rest line' rest' → rest' ≡ b ∷ after → (b ≡ 92 → ⊥) → ends dollar b ≡ true
    → word ≡ Whole text (length rest - length rest')
plain-ends_there word dollar room text line rest line' rest' b after u e f g =
    under-whole word _ text line rest line' rest' 0 u (plain-ends dollar room line' rest' b after e f g) ∙ ap (Whole text) (omega arith)

-- the same of a quoted word

pub quoted-nothing : (quote room line : ℕ) (rest : List ℕ) → rest ≡ [] → quoted quote room line (pieces rest) ≡ Faulty UnexpectedEnd line
unfolding quoted pieces
quoted-nothing quote room line rest e = ap (λ r. quoted quote room line (pieces r)) e

pub quoted-cut : (quote room line : ℕ) (rest : List ℕ) (b : ℕ) (after : List ℕ) → rest ≡ b ∷ after → b ≡ 92 → after ≡ [] → quoted quote room line (pieces rest) ≡ Faulty UnexpectedEnd line
unfolding quoted pieces
quoted-cut quote room line rest b after e f g =
    ap (λ r. quoted quote room line (pieces r)) (e ∙ ap (λ r. b ∷ r) g) ∙ ap (λ t. quoted quote room line ((if t then Cut else Byte b) ∷ [])) (eq-eqb b 92 f)

pub quoted-pair : (quote room line : ℕ) (rest : List ℕ) (b : ℕ) (after : List ℕ) (c : ℕ) (beyond : List ℕ) → rest ≡ b ∷ after → b ≡ 92 → after ≡ c ∷ beyond
    → quoted quote room line (pieces rest) ≡ fitted room (line_behind line c) (escape c) 2 (quoted quote (room - length (escape c)) (line_behind line c) (pieces beyond))
unfolding quoted pieces
quoted-pair quote room line rest b after c beyond e f g =
    ap (λ r. quoted quote room line (pieces r)) (e ∙ ap (λ r. b ∷ r) g) ∙ ap (λ t. quoted quote room line (if t then Pair c ∷ pieces beyond else Byte b ∷ pieces (c ∷ beyond))) (eq-eqb b 92 f)

quoted-at : (quote room line : ℕ) (rest : List ℕ) (b : ℕ) (after : List ℕ) → rest ≡ b ∷ after → (b ≡ 92 → ⊥)
    → quoted quote room line (pieces rest) ≡ (if b == quote then closed line (pieces after) else fitted room (line_behind line b) (b ∷ []) 1 (quoted quote (room - 1) (line_behind line b) (pieces after)))
unfolding quoted
quoted-at quote room line rest b after e f =
    ap (λ r. quoted quote room line (pieces r)) e ∙ ap (quoted quote room line) (pieces-byte b after (ne_eqb b 92 f))

pub quoted-byte : (quote room line : ℕ) (rest : List ℕ) (b : ℕ) (after : List ℕ) → rest ≡ b ∷ after → (b ≡ 92 → ⊥) → (b ≡ quote → ⊥)
    → quoted quote room line (pieces rest) ≡ fitted room (line_behind line b) (b ∷ []) 1 (quoted quote (room - 1) (line_behind line b) (pieces after))
quoted-byte quote room line rest b after e f g =
    quoted-at quote room line rest b after e f
    ∙ ap (λ t. if t then closed line (pieces after) else fitted room (line_behind line b) (b ∷ []) 1 (quoted quote (room - 1) (line_behind line b) (pieces after))) (ne_eqb b quote g)

pub quoted-closes : (quote room line : ℕ) (rest : List ℕ) (b : ℕ) (after : List ℕ) → rest ≡ b ∷ after → (b ≡ 92 → ⊥) → b ≡ quote
    → quoted quote room line (pieces rest) ≡ closed line (pieces after)
quoted-closes quote room line rest b after e f g =
    quoted-at quote room line rest b after e f
    ∙ ap (λ t. if t then closed line (pieces after) else fitted room (line_behind line b) (b ∷ []) 1 (quoted quote (room - 1) (line_behind line b) (pieces after))) (eq-eqb b quote g)

pub quoted-pair_full : (quote room line : ℕ) (rest : List ℕ) (b : ℕ) (after : List ℕ) (c : ℕ) (beyond : List ℕ) → rest ≡ b ∷ after → b ≡ 92 → after ≡ c ∷ beyond
    → nat_le (length (escape c)) room ≡ false → quoted quote room line (pieces rest) ≡ Faulty TokenTooLong (line_behind line c)
quoted-pair_full quote room line rest b after c beyond e f g full =
    quoted-pair quote room line rest b after c beyond e f g ∙ fitted-full room (line_behind line c) (escape c) 2 _ full

pub quoted-byte_full : (quote room line : ℕ) (rest : List ℕ) (b : ℕ) (after : List ℕ) → rest ≡ b ∷ after → (b ≡ 92 → ⊥) → (b ≡ quote → ⊥)
    → nat_le 1 room ≡ false → quoted quote room line (pieces rest) ≡ Faulty TokenTooLong (line_behind line b)
quoted-byte_full quote room line rest b after e f g full =
    quoted-byte quote room line rest b after e f g ∙ fitted-full room (line_behind line b) (b ∷ []) 1 _ full

pub quoted-pair_on : (word : Word) (quote : ℕ) (text text' : List ℕ) (line : ℕ) (rest : List ℕ) (line' : ℕ) (rest' : List ℕ) (b : ℕ) (after : List ℕ) (c : ℕ) (beyond : List ℕ) (line'' : ℕ)
    → Under word (quoted quote (4096 - length text) line' (pieces rest')) text line rest line' rest' → rest' ≡ b ∷ after → b ≡ 92 → after ≡ c ∷ beyond → line'' ≡ line_behind line' c
    → nat_le (length (escape c)) (4096 - length text) ≡ true → text' ≡ text ++ escape c
    → Under word (quoted quote (4096 - length text') line'' (pieces beyond)) text' line rest line'' beyond
quoted-pair_on word quote text text' line rest line' rest' b after c beyond line'' u e f g h fits t =
    let now : ℕ → ℕ → List ℕ → Word = λ room l r. quoted quote room l (pieces r) in
    under-on word now now text text' (escape c) 2 line rest line' rest' line'' beyond u
    (quoted-pair quote (4096 - length text) line' rest' b after c beyond e f g
    ∙ ap (λ l. fitted (4096 - length text) l (escape c) 2 (quoted quote ((4096 - length text) - length (escape c)) l (pieces beyond))) (sym h))
    fits t (ap length e ∙ ap (λ r. suc (length r)) g ∙ omega arith) (passed-pair line rest line' rest' b after c beyond line'' u.passed e f g h)

pub quoted-byte_on : (word : Word) (quote : ℕ) (text text' : List ℕ) (line : ℕ) (rest : List ℕ) (line' : ℕ) (rest' : List ℕ) (b : ℕ) (after : List ℕ) (line'' : ℕ)
    → Under word (quoted quote (4096 - length text) line' (pieces rest')) text line rest line' rest' → rest' ≡ b ∷ after → (b ≡ 92 → ⊥) → (b ≡ quote → ⊥) → line'' ≡ line_behind line' b
    → nat_le 1 (4096 - length text) ≡ true → text' ≡ text ++ b ∷ []
    → Under word (quoted quote (4096 - length text') line'' (pieces after)) text' line rest line'' after
quoted-byte_on word quote text text' line rest line' rest' b after line'' u e f g h fits t =
    let now : ℕ → ℕ → List ℕ → Word = λ room l r. quoted quote room l (pieces r) in
    under-on word now now text text' (b ∷ []) 1 line rest line' rest' line'' after u
    (quoted-byte quote (4096 - length text) line' rest' b after e f g
    ∙ ap (λ l. fitted (4096 - length text) l (b ∷ []) 1 (quoted quote ((4096 - length text) - 1) l (pieces after))) (sym h))
    fits t (ap length e ∙ omega arith) (subst (λ l. Passed line rest l after) (sym h) (passed-byte line rest line' rest' b after u.passed e))

closed-first : (line b : ℕ) (more : List ℕ) → closed line (pieces (b ∷ more)) ≡ (if may_follow b then Whole [] 1 else Faulty BadQuote line)
unfolding closed pieces
closed-first line b [] =
    elim (b == 92) as (λ t. (b == 92) ≡ t → closed line ((if t then Cut else Byte b) ∷ []) ≡ (if may_follow b then Whole [] 1 else Faulty BadQuote line)) [
      | true ↦ λ e. ap (λ x. if may_follow x then Whole [] 1 else Faulty BadQuote line) (sym (eqb-true b 92 e))
      | false ↦ λ e. refl
    ] refl
closed-first line b (c ∷ cs) =
    elim (b == 92) as (λ t. (b == 92) ≡ t → closed line (if t then Pair c ∷ pieces cs else Byte b ∷ pieces (c ∷ cs)) ≡ (if may_follow b then Whole [] 1 else Faulty BadQuote line)) [
      | true ↦ λ e. ap (λ x. if may_follow x then Whole [] 1 else Faulty BadQuote line) (sym (eqb-true b 92 e))
      | false ↦ λ e. refl
    ] refl

pub closed-nothing : (line : ℕ) (after : List ℕ) → after ≡ [] → closed line (pieces after) ≡ Faulty UnexpectedEnd line
unfolding closed pieces
closed-nothing line after e = ap (λ r. closed line (pieces r)) e

pub closed-right : (line : ℕ) (after : List ℕ) (b : ℕ) (more : List ℕ) → after ≡ b ∷ more → may_follow b ≡ true → closed line (pieces after) ≡ Whole [] 1
closed-right line after b more e f =
    ap (λ r. closed line (pieces r)) e ∙ closed-first line b more ∙ ap (λ t. if t then Whole [] 1 else Faulty BadQuote line) f

pub closed-wrong : (line : ℕ) (after : List ℕ) (b : ℕ) (more : List ℕ) → after ≡ b ∷ more → may_follow b ≡ false → closed line (pieces after) ≡ Faulty BadQuote line
closed-wrong line after b more e f =
    ap (λ r. closed line (pieces r)) e ∙ closed-first line b more ∙ ap (λ t. if t then Whole [] 1 else Faulty BadQuote line) f

-- a word ends at its quote as that quote says, which comes right after what was read
pub quoted-closes_there : (word : Word) (quote room : ℕ) (text : List ℕ) (line : ℕ) (rest : List ℕ) (line' : ℕ) (rest' : List ℕ) (b : ℕ) (after : List ℕ) (fault : Option FaultKind)
    → Under word (quoted quote room line' (pieces rest')) text line rest line' rest' → rest' ≡ b ∷ after → (b ≡ 92 → ⊥) → b ≡ quote → (b == 10) ≡ false
    → ((at : ℕ) → MatchOption fault (closed at (pieces after) ≡ Whole [] 1) (λ kind. closed at (pieces after) ≡ Faulty kind at))
    → ReadsWord word fault text line rest line' after
quoted-closes_there word quote room text line rest line' rest' b after None u e f g h m =
    let n : length rest' ≡ suc (length after) = ap length e in
    let within : length rest' ≤ length rest = u.passed.within in (
      under-whole word _ text line rest line' rest' 1 u (quoted-closes quote room line' rest' b after e f g ∙ m line') ∙ ap (Whole text) (omega arith),
      passed-within_line line rest line' rest' b after u.passed e h,
    )
quoted-closes_there word quote room text line rest line' rest' b after (Some kind) u e f g h m =
    under-faulty word _ text line rest line' rest' kind line' u (quoted-closes quote room line' rest' b after e f g ∙ m line')
