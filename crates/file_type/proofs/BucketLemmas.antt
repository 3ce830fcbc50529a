-- Look-ups in buckets find what look-ups in all entries find.
use Rattle.std.proofs.Common.{◌≡◌, ℕ, zero, suc, ◌+◌, ◌<◌, ◌≤◌, ◌⊎◌, true, false, cond, List, [], ◌∷◌, ◌++◌, length, get_or, take, map, replicate, sym, refl, ap, ◌∙◌, subst, inl, inr, ◌%◌, arith}
use Rattle.std.specs.Prelude.{All}
use Rattle.std.specs.Char.{to_ascii_lowercase}
use Rattle.std.specs.Str.{str_eq_ignore_ascii_case}
use Rattle.std.proofs.lemmas.List.{take_more, take_all, map_push, length-replicate, get_or_default}
use Rattle.std.proofs.lemmas.List.Elements.{All-push}
use Rattle.std.proofs.lemmas.Bool.{cases_eq, cond-false, false_from_ne_true}
use Rattle.std.proofs.lemmas.Slice.Eq.{bytes_eq-Decides}
use Rattle.file_type.specs.Types.{type_among}
use Rattle.file_type.specs.Buckets.{hash_after, bucket_of, no_entry, entries_at, AreBuckets, Puts}
use Rattle.file_type.specs.declared.types.TypeEntry.{TypeEntry}

-- the first n entries are in the buckets
pub record Placed (buckets : List (List ℕ)) (entries : List TypeEntry) (n : ℕ) : Type 0 where
  pub some : 0 < length buckets
  pub places : (k : ℕ) → k < length buckets → All (λ place. place < length entries) (get_or buckets k [])
  pub finds : (before wanted : List ℕ) → type_among before (entries_at (get_or buckets (bucket_of wanted (length buckets)) []) entries) wanted ≡ type_among before (take n entries) wanted

-- a last entry decides where it has the extension
type_among-push : (before : List ℕ) (entries : List TypeEntry) (e : TypeEntry) (wanted : List ℕ) → type_among before (entries ++ e ∷ []) wanted ≡ cond (str_eq_ignore_ascii_case e.extension wanted) e.media_type (type_among before entries wanted)
type_among-push before [] e wanted = refl
type_among-push before (x ∷ entries) e wanted = type_among-push (cond (str_eq_ignore_ascii_case x.extension wanted) x.media_type before) entries e wanted

-- extensions that differ in case alone have one bucket
same_bucket : (a b : List ℕ) (count : ℕ) → str_eq_ignore_ascii_case a b ≡ true → bucket_of a count ≡ bucket_of b count
unfolding bucket_of
same_bucket a b count same = ap (λ l. hash_after 0 l % count) ((bytes_eq-Decides (map to_ascii_lowercase a) (map to_ascii_lowercase b)).0 same)

-- entries at a further place
entries_at-push : (places : List ℕ) (n : ℕ) (entries : List TypeEntry) → entries_at (places ++ n ∷ []) entries ≡ entries_at places entries ++ get_or entries n no_entry ∷ []
entries_at-push places n entries = map_push (λ place. get_or entries place no_entry) places n

empty_at : (count k : ℕ) → get_or (replicate {A = List ℕ} count []) k [] ≡ []
empty_at zero k = refl
empty_at (suc count) zero = refl
empty_at (suc count) (suc k) = empty_at count k

pub placed_none : (count : ℕ) (entries : List TypeEntry) → 0 < count → Placed (replicate count []) entries 0
placed_none count entries some =
    let b : List (List ℕ) = replicate count [] in
    record {
      some = omega (arith, length-replicate {A = List ℕ} count []);
      places = λ k within. subst (All (λ place. place < length entries)) (sym (empty_at count k)) (λ i d inside. absurd (omega arith));
      finds = λ before wanted. ap (λ places. type_among before (entries_at places entries) wanted) (empty_at count (bucket_of wanted (length b)));
    }

pub placed_all : (buckets : List (List ℕ)) (entries : List TypeEntry) (n : ℕ) → length entries ≤ n → Placed buckets entries n → AreBuckets buckets entries
placed_all buckets entries n all p = record {
  some = p.some;
  places = p.places;
  finds = λ before wanted. p.finds before wanted ∙ ap (λ es. type_among before es wanted) (take_all n entries all);
}

module _ (old new : List (List ℕ)) (entries : List TypeEntry) (n : ℕ) (placed : Placed old entries n) (inside : n < length entries) (puts : Puts old new (get_or entries n no_entry).extension n) where
  abbrev e : TypeEntry
  e = get_or entries n no_entry

  abbrev h : ℕ
  h = bucket_of e.extension (length old)

  abbrev Good : List ℕ → Type 0
  Good places = All (λ place. place < length entries) places

  places_by : (k : ℕ) → k < length new → (k ≡ h) ⊎ (k ≡ h → ⊥) → Good (get_or new k [])
  places_by k within (inl is) =
      let same : get_or new k [] ≡ get_or old h [] ++ n ∷ [] = ap (λ j. get_or new j []) is ∙ puts.put in
      let low : h < length old = omega (arith, sym is, within, puts.same_count) in
      subst Good (sym same) (All-push (λ place. place < length entries) (get_or old h []) n (placed.places h low) inside)
  places_by k within (inr other) =
      subst Good (sym (puts.others k other)) (placed.places k (omega (arith, within, puts.same_count)))

  abbrev more : (before wanted : List ℕ) → type_among before (take (n + 1) entries) wanted ≡ cond (str_eq_ignore_ascii_case e.extension wanted) e.media_type (type_among before (take n entries) wanted)
  more before wanted = ap (λ es. type_among before es wanted) (take_more entries n no_entry inside) ∙ type_among-push before (take n entries) e wanted

  finds_by : (before wanted : List ℕ) → let k = bucket_of wanted (length old) in (k ≡ h) ⊎ (k ≡ h → ⊥) → type_among before (entries_at (get_or new k []) entries) wanted ≡ type_among before (take (n + 1) entries) wanted
  finds_by before wanted (inl is) =
      let k = bucket_of wanted (length old) in
      let places : get_or new k [] ≡ get_or old k [] ++ n ∷ [] = ap (λ j. get_or new j []) is ∙ puts.put ∙ ap (λ j. get_or old j [] ++ n ∷ []) (sym is) in
      ap (λ ps. type_among before (entries_at ps entries) wanted) places
      ∙ ap (λ es. type_among before es wanted) (entries_at-push (get_or old k []) n entries)
      ∙ type_among-push before (entries_at (get_or old k []) entries) e wanted
      ∙ ap (cond (str_eq_ignore_ascii_case e.extension wanted) e.media_type) (placed.finds before wanted)
      ∙ sym (more before wanted)
  finds_by before wanted (inr other) =
      let k = bucket_of wanted (length old) in
      let differs : str_eq_ignore_ascii_case e.extension wanted ≡ false = false_from_ne_true _ (λ same. other (sym (same_bucket e.extension wanted (length old) same))) in
      ap (λ ps. type_among before (entries_at ps entries) wanted) (puts.others k other)
      ∙ placed.finds before wanted
      ∙ sym (cond-false _ e.media_type (type_among before (take n entries) wanted) differs)
      ∙ sym (more before wanted)

  pub placed_more : Placed new entries (n + 1)
  placed_more = record {
    some = omega (arith, placed.some, puts.same_count);
    places = λ k within. places_by k within (cases_eq k h);
    finds = λ before wanted.
        ap (λ count. type_among before (entries_at (get_or new (bucket_of wanted count) []) entries) wanted) puts.same_count
        ∙ finds_by before wanted (cases_eq (bucket_of wanted (length old)) h);
  }

-- the places in a bucket are entries'
pub bucket_places : (buckets : List (List ℕ)) (entries es : List TypeEntry) (k : ℕ) (bucket places : List ℕ) → AreBuckets buckets entries → k < length buckets → bucket ≡ get_or buckets k bucket → places ≡ bucket → es ≡ entries → All (λ place. place < length es) places
bucket_places buckets entries es k bucket places are within read same all =
    let is : places ≡ get_or buckets k [] = same ∙ read ∙ get_or_default buckets k bucket [] within in
    subst (λ xs. All (λ place. place < length xs) places) (sym all) (subst (All (λ place. place < length entries)) (sym is) (are.places k within))

-- one more entry's place was put
pub placed_put : (old new : List (List ℕ)) (entries : List TypeEntry) (n : ℕ) (entry : TypeEntry) (extension : List ℕ) → Placed old entries n → n < length entries → entry ≡ get_or entries n entry → extension ≡ entry.extension → Puts old new extension n → Placed new entries (n + 1)
placed_put old new entries n entry extension placed inside read same puts =
    let is : extension ≡ (get_or entries n no_entry).extension = same ∙ ap (λ e. e.extension) (read ∙ get_or_default entries n entry no_entry inside) in
    placed_more old new entries n placed inside (subst (λ x. Puts old new x n) is puts)
