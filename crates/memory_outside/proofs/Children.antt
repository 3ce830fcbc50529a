-- The names of a folder, entry by entry.
use Rattle.std.proofs.Common.{◌≡◌, ◌≢◌, ℕ, suc, ◌+◌, ◌<◌, ◌≤◌, Bool, true, false, List, [], ◌∷◌, ◌++◌, length, drop, get_or, refl, sym, ap, subst, ◌∙◌, arith, inl, inr, append_assoc, length-append, drop-cons}
use Rattle.std.specs.Prelude.{◌&&◌, nat_le, Contains, ◌⊎◌, if◌then◌else◌}
use Rattle.std.specs.Str.{bytes_eq}
use Rattle.std.proofs.lemmas.Slice.Eq.{bytes_eq-Decides}
use Rattle.std.proofs.lemmas.List.{append-nil, append_cancel_left, drop-append-le, drop_all}
use Rattle.std.proofs.Math.Seq.{drop-append_seam}
use Rattle.std.proofs.lemmas.List.Elements.{Contains-append_left, Contains-append_cases, Contains-push}
use Rattle.file_tree.specs.Tree.{Item, Tree, AFolder, Nothing, IsChild, child_path}
use Rattle.ngx_outside.specs.Outside.{Names}
use Rattle.memory_outside.specs.Stored.{item_over, item_in, item_of, is_at}
use Rattle.memory_outside.specs.declared.files.Stored.{Stored}
use Rattle.memory_outside.specs.Names.{front_of, IsName, HasPath, AddsName, Adding, AddsNames}

pub child_path_is : (folder name : List ℕ) → child_path folder name ≡ front_of folder ++ 47 ∷ name
child_path_is [] name = refl
child_path_is (b ∷ []) name = refl
child_path_is (b ∷ c ∷ bytes) name = refl

tails_same : (a b : ℕ) (xs ys : List ℕ) → a ∷ xs ≡ b ∷ ys → xs ≡ ys
tails_same a b xs ys e = cc

pub same_name : (folder a b : List ℕ) → child_path folder a ≡ child_path folder b → a ≡ b
same_name folder a b e =
    tails_same 47 47 a b (append_cancel_left (front_of folder) (47 ∷ a) (47 ∷ b) (sym (child_path_is folder a) ∙ e ∙ child_path_is folder b))

pub name_of : {tree : Tree} {folder name : List ℕ} → IsChild tree folder name → IsName name
name_of h = record { some = h.some; one = h.one }

none_within : {X : Type 0} (x : X) → Contains [] x → ⊥
none_within x h = let within : h.0 < 0 = h.1 in omega arith

one_within : {X : Type 0} (x q : X) → Contains (x ∷ []) q → x ≡ q
one_within x q h =
    let within : h.0 < 1 = h.1 in let first : h.0 ≡ 0 = omega arith in
    sym (ap (λ k. get_or (x ∷ []) k q) first) ∙ h.2

-- a path that no name of the folder has
pub adds_none : (tree : Tree) (folder path : List ℕ) (start : ℕ) (out : List (List ℕ)) →
    ((name : List ℕ) → IsName name → path ≢ child_path folder name) → AddsName tree folder path start out out
adds_none tree folder path start out none = record {
  added = [];
  all = sym (append-nil out);
  children = λ name h. absurd (none_within name h);
  own = λ within name child e. absurd (none name (name_of child) e);
}

-- a path at which nothing is
pub adds_absent : (tree : Tree) (folder path : List ℕ) (start : ℕ) (out : List (List ℕ)) → ¬ (tree path ≢ Nothing) → AddsName tree folder path start out out
adds_absent tree folder path start out absent = record {
  added = [];
  all = sym (append-nil out);
  children = λ name h. absurd (none_within name h);
  own = λ within name child e. absurd (absent (λ is. child.there (ap tree (sym e) ∙ is)));
}

-- a name that was added before
pub adds_again : (tree : Tree) (folder path : List ℕ) (start : ℕ) (out : List (List ℕ)) (name : List ℕ) → path ≡ child_path folder name →
    Contains (drop start out) name → AddsName tree folder path start out out
adds_again tree folder path start out name is there = record {
  added = [];
  all = sym (append-nil out);
  children = λ q h. absurd (none_within q h);
  own = λ within q child e. subst (λ (n : List ℕ). Contains (drop start out) n) (same_name folder name q (sym is ∙ e)) there;
}

-- a name that is added now
pub adds_one : (tree : Tree) (folder path : List ℕ) (start : ℕ) (out : List (List ℕ)) (name : List ℕ) → IsName name → path ≡ child_path folder name →
    tree path ≢ Nothing → AddsName tree folder path start out (out ++ name ∷ [])
adds_one tree folder path start out name is e there = record {
  added = name ∷ [];
  all = refl;
  children = λ q h. subst (λ (n : List ℕ). IsChild tree folder n) (one_within name q h) child;
  own = λ within q child' e'.
      subst (λ (n : List ℕ). Contains (drop start (out ++ name ∷ [])) n) (same_name folder name q (sym e ∙ e'))
      (subst (λ (xs : List (List ℕ)). Contains xs name) (sym (drop-append-le start out (name ∷ []) within)) (Contains-push (drop start out) name));
}
  where
    child : IsChild tree folder name
    child = record { some = is.some; one = is.one; there = λ h. there (ap tree e ∙ h) }

-- what is somewhere was stored there
pub has_path : (below : Item) (items : List Stored) (of : ℕ) (path : List ℕ) → item_over below items of path ≢ Nothing → (below ≢ Nothing) ⊎ HasPath items path
unfolding item_over
has_path below [] of path h = inl h
has_path below (s ∷ items) of path h =
    elim (is_at of path s) as (λ b. is_at of path s ≡ b → item_over (if b then item_of s.item else below) items of path ≢ Nothing → (below ≢ Nothing) ⊎ ((s.path ≡ path) ⊎ HasPath items path)) [
      | true ↦ (λ e g. inr (inl ((bytes_eq-Decides s.path path).0 (second (nat_le s.from of) (bytes_eq s.path path) e))))
      | false ↦ (λ e g. behind (has_path below items of path g))
    ] refl h
  where
    second : (a b : Bool) → (a && b) ≡ true → b ≡ true
    second true b e = e
    second false b e = cc

    behind : (below ≢ Nothing) ⊎ HasPath items path → (below ≢ Nothing) ⊎ ((s.path ≡ path) ⊎ HasPath items path)
    behind (inl g) = inl g
    behind (inr g) = inr (inr g)

-- before the first entry
pub adding_begins : (items : List Stored) (of : ℕ) (folder : List ℕ) (out : List (List ℕ)) → Adding (item_in items of) folder items out out
adding_begins items of folder out = record {
  added = [];
  all = sym (append-nil out);
  children = λ q h. absurd (none_within q h);
  left = λ name child. stored (child_path folder name) name (has_path Nothing items of (child_path folder name) child.there);
}
  where
    stored : (path name : List ℕ) → (Nothing ≢ Nothing) ⊎ HasPath items path → Contains [] name ⊎ HasPath items path
    stored path name (inl g) = absurd (g refl)
    stored path name (inr g) = inr g

-- one entry more
pub adding_goes : (tree : Tree) (folder : List ℕ) (s : Stored) (rest : List Stored) (start : ℕ) (out mid new : List (List ℕ)) → start ≡ length out →
    Adding tree folder (s ∷ rest) out mid → AddsName tree folder s.path start mid new → Adding tree folder rest out new
adding_goes tree folder s rest start out mid new is a n = record {
  added = a.added ++ n.added;
  all = whole;
  children = λ q h. child q (Contains-append_cases a.added n.added q h);
  left = λ name c. lefts name c (a.left name c);
}
  where
    whole : new ≡ out ++ (a.added ++ n.added)
    whole = n.all ∙ ap (λ xs. xs ++ n.added) a.all ∙ append_assoc out a.added n.added

    behind : drop start new ≡ a.added ++ n.added
    behind = ap (λ xs. drop start xs) whole ∙ ap (λ k. drop k (out ++ (a.added ++ n.added))) is ∙ drop-append_seam out (a.added ++ n.added)

    within : start ≤ length mid
    within = omega (arith, is, ap length a.all, length-append out a.added)

    child : (q : List ℕ) → Contains a.added q ⊎ Contains n.added q → IsChild tree folder q
    child q (inl h) = a.children q h
    child q (inr h) = n.children q h

    lefts : (name : List ℕ) → IsChild tree folder name → Contains a.added name ⊎ ((s.path ≡ child_path folder name) ⊎ HasPath rest (child_path folder name)) →
        Contains (a.added ++ n.added) name ⊎ HasPath rest (child_path folder name)
    lefts name c (inl h) = inl (Contains-append_left a.added n.added name h)
    lefts name c (inr (inl e)) = inl (subst (λ (xs : List (List ℕ)). Contains xs name) behind (n.own within name c e))
    lefts name c (inr (inr h)) = inr h

-- after the last entry
pub adding_ends : (tree : Tree) (folder : List ℕ) (out new : List (List ℕ)) → Adding tree folder [] out new → AddsNames tree folder out new
adding_ends tree folder out new a = record {
  added = a.added;
  all = a.all;
  names = λ name. (a.children name, λ c. found name (a.left name c));
}
  where
    found : (name : List ℕ) → Contains a.added name ⊎ ⊥ → Contains a.added name
    found name (inl h) = h
    found name (inr h) = absurd h

-- what comes after the folder's front
rest_is : (folder front path rest name : List ℕ) → front ≡ front_of folder → path ≡ front ++ rest → path ≡ child_path folder name → rest ≡ 47 ∷ name
rest_is folder front path rest name is e h =
    append_cancel_left front rest (47 ∷ name) (sym e ∙ h ∙ child_path_is folder name ∙ ap (λ f. f ++ 47 ∷ name) (sym is))

-- no slash comes after the front
pub no_slash : (folder front path slash rest : List ℕ) → front ≡ front_of folder → path ≡ front ++ rest → slash ≡ 47 ∷ [] →
    ((name : List ℕ) → rest ≢ slash ++ name) → (name : List ℕ) → IsName name → path ≢ child_path folder name
no_slash folder front path slash rest is e s none name n h =
    none name (rest_is folder front path rest name is e h ∙ ap (λ f. f ++ name) (sym s))

-- what comes after the slash is no name
pub no_name : (folder front path slash rest found : List ℕ) → front ≡ front_of folder → path ≡ front ++ rest → slash ≡ 47 ∷ [] → rest ≡ slash ++ found →
    ¬ IsName found → (name : List ℕ) → IsName name → path ≢ child_path folder name
no_name folder front path slash rest found is e s r none name n h =
    none (subst IsName (sym (tails_same 47 47 found name (ap (λ f. f ++ found) (sym s) ∙ sym r ∙ rest_is folder front path rest name is e h))) n)

-- the name, as it was found
pub a_name : (folder front path slash rest found : List ℕ) → front ≡ front_of folder → path ≡ front ++ rest → slash ≡ 47 ∷ [] → rest ≡ slash ++ found →
    path ≡ child_path folder found
a_name folder front path slash rest found is e s r =
    e ∙ ap (λ x. front ++ x) (r ∙ ap (λ f. f ++ found) s) ∙ ap (λ f. f ++ 47 ∷ found) is ∙ sym (child_path_is folder found)

-- one entry of a list
pub adding_steps : (tree : Tree) (folder : List ℕ) (items : List Stored) (i : ℕ) (s : Stored) (start : ℕ) (out mid new : List (List ℕ)) → i < length items →
    s ≡ get_or items i s → start ≡ length out → Adding tree folder (drop i items) out mid → AddsName tree folder s.path start mid new →
    Adding tree folder (drop (i + 1) items) out new
adding_steps tree folder items i s start out mid new within at is a n =
    adding_goes tree folder s (drop (i + 1) items) start out mid new is (subst (λ (rest : List Stored). Adding tree folder rest out mid) here a) n
  where
    here : drop i items ≡ s ∷ drop (i + 1) items
    here =
        drop-cons items i s within ∙ ap (λ x. x ∷ drop (suc i) items) (sym at)
        ∙ ap (λ k. s ∷ drop k items) (let e : suc i ≡ i + 1 = omega arith in e)

-- past its end
pub adding_is_over : (tree : Tree) (folder : List ℕ) (items : List Stored) (i : ℕ) (out new : List (List ℕ)) → length items ≤ i →
    Adding tree folder (drop i items) out new → AddsNames tree folder out new
adding_is_over tree folder items i out new past a =
    adding_ends tree folder out new (subst (λ (rest : List Stored). Adding tree folder rest out new) (drop_all i items past) a)

-- what was added are the names that files tell
pub names_told : (tree : Tree) (folder : List ℕ) (old new : List (List ℕ)) → tree folder ≡ AFolder → AddsNames tree folder old new → Names true tree folder old new
names_told tree folder old new there a = record { added = a.added; all = a.all; there = λ _. there; names = λ _ name. a.names name }
