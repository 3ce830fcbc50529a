-- The names of the folders of a script's configurations.
use Rattle.std.proofs.Common.{◌≡◌, ℕ, ◌<◌, get_or, true, List, [], ◌∷◌, refl, sym, ap, subst, ◌∙◌, arith, inl, inr, ◌↔◌}
use Rattle.std.specs.Prelude.{Contains, ◌⊎◌}
use Rattle.std.specs.declared.cmp.Ordering.{Ordering}
use Rattle.std.specs.declared.cmp.Ordering.TheVariants.{Less, Equal, Greater}
use Rattle.std.specs.Ordering.{ordering_reverse}
use Rattle.std.specs.List.{AllByRecursion}
use Rattle.std.specs.List.Sorted.{IsStrictlySortedBy}
use Rattle.std.specs.FinMap.{slice_cmp-IsAntisymmetric, nat_cmp-IsAntisymmetric}
use Rattle.std.proofs.lemmas.Cmp.{nat_list_cmp_total, tied_itself}
use Rattle.std.proofs.lemmas.List.Elements.{Contains-append_left, Contains-append_right, Contains-append_cases, Contains-push}
use Rattle.file_tree.specs.Tree.{Item, AFile, AFolder, ALocked, Nothing, IsChild, node_of}
use Rattle.ngx_outside.specs.Outside.{Names as Listed}
use Rattle.replay_text.specs.declared.parts.Conf.{Conf}
use Rattle.replay_confs.specs.Confs.{conf_tree, names_in}
use Rattle.replay_confs.proofs.Children.{names_told}
use Rattle.conf_include.specs.Listings.{IsListing, byte_order}
use Rattle.ngx_cli.specs.Naming.{placed, put_name, in_order, names_at, FoldersHaveTheirNames}

-- a name is among others
Among : List (List ℕ) → List ℕ → Type 0
Among [] q = ⊥
Among (x ∷ xs) q = (x ≡ q) ⊎ Among xs q

one_within : (x q : List ℕ) → Contains (x ∷ []) q → x ≡ q
one_within x q h =
    let within : h.0 < 1 = h.1 in let first : h.0 ≡ 0 = omega arith in
    sym (ap (λ k. get_or (x ∷ []) k q) first) ∙ h.2

none_within : (q : List ℕ) → Contains [] q → ⊥
none_within q h = let within : h.0 < 0 = h.1 in omega arith

among : (xs : List (List ℕ)) (q : List ℕ) → Contains xs q → Among xs q
unfolding Among
among [] q h = none_within q h
among (x ∷ xs) q h = by_part (among xs q) (Contains-append_cases (x ∷ []) xs q h)
  where
    by_part : (Contains xs q → Among xs q) → Contains (x ∷ []) q ⊎ Contains xs q → (x ≡ q) ⊎ Among xs q
    by_part ih (inl g) = inl (one_within x q g)
    by_part ih (inr g) = inr (ih g)

contained : (xs : List (List ℕ)) (q : List ℕ) → Among xs q → Contains xs q
unfolding Among
contained [] q h = absurd h
contained (x ∷ xs) q (inl e) = Contains-append_left (x ∷ []) xs q (subst (λ (n : List ℕ). Contains (x ∷ []) n) e (Contains-push [] x))
contained (x ∷ xs) q (inr h) = Contains-append_right (x ∷ []) xs q (contained xs q h)

-- the first name of names in order is before the others
below : (x q : List ℕ) (xs : List (List ℕ)) → AllByRecursion (λ y. byte_order x y ≡ Less) xs → Among xs q → byte_order x q ≡ Less
unfolding Among
below x q [] all h = absurd h
below x q (y ∷ ys) all (inl e) = subst (λ (n : List ℕ). byte_order x n ≡ Less) e all.0
below x q (y ∷ ys) all (inr h) = below x q ys all.1 h

all_below : (x : List ℕ) (xs : List (List ℕ)) → ((q : List ℕ) → Among xs q → byte_order x q ≡ Less) → AllByRecursion (λ y. byte_order x y ≡ Less) xs
unfolding Among
all_below x [] each = tt
all_below x (y ∷ ys) each = (each y (inl refl), all_below x ys (λ q h. each q (inr h)))

not_itself : (x : List ℕ) → byte_order x x ≡ Less → ⊥
not_itself x e = let tied : byte_order x x ≡ Equal = tied_itself nat_list_cmp_total x in cc

not_both : (x y : List ℕ) → byte_order x y ≡ Less → byte_order y x ≡ Less → ⊥
not_both x y e f = let other : byte_order x y ≡ Greater = nat_list_cmp_total.antisymm x y ∙ ap ordering_reverse f in cc

same_head : (x y : List ℕ) (xs ys : List (List ℕ)) → AllByRecursion (λ n. byte_order x n ≡ Less) xs → AllByRecursion (λ n. byte_order y n ≡ Less) ys →
    (y ≡ x) ⊎ Among ys x → (x ≡ y) ⊎ Among xs y → x ≡ y
same_head x y xs ys f g (inl e) h = sym e
same_head x y xs ys f g (inr a) (inl e) = e
same_head x y xs ys f g (inr a) (inr b) = absurd (not_both x y (below x y xs f b) (below y x ys g a))

-- what is after the head is among the others' rest
behind_head : (x q : List ℕ) (xs ys : List (List ℕ)) → AllByRecursion (λ n. byte_order x n ≡ Less) xs → Among xs q → (x ≡ q) ⊎ Among ys q → Among ys q
behind_head x q xs ys f h (inl e) = absurd (not_itself x (subst (λ (n : List ℕ). byte_order x n ≡ Less) (sym e) (below x q xs f h)))
behind_head x q xs ys f h (inr a) = a

-- names in order are determined by which they are
unique : (xs ys : List (List ℕ)) → IsStrictlySortedBy byte_order xs → IsStrictlySortedBy byte_order ys → ((q : List ℕ) → Among xs q → Among ys q) → ((q : List ℕ) → Among ys q → Among xs q) → xs ≡ ys
unfolding IsStrictlySortedBy Among
unique [] [] f g there back = refl
unique [] (y ∷ ys) f g there back = absurd (back y (inl refl))
unique (x ∷ xs) [] f g there back = absurd (there x (inl refl))
unique (x ∷ xs) (y ∷ ys) f g there back =
    let head : x ≡ y = same_head x y xs ys f.0 g.0 (there x (inl refl)) (back y (inl refl)) in
    let tail : xs ≡ ys =
    unique xs ys f.1 g.1 (λ q h. behind_head x q xs ys f.0 h (subst (λ (n : List ℕ). (n ≡ q) ⊎ Among ys q) (sym head) (there q (inr h))))
    (λ q h. behind_head y q ys xs g.0 h (subst (λ (n : List ℕ). (n ≡ q) ⊎ Among xs q) head (back q (inr h)))) in
    ap (λ n. n ∷ xs) head ∙ ap (λ ns. y ∷ ns) tail

-- one name more
put_among : (name : List ℕ) (xs : List (List ℕ)) (q : List ℕ) → Among (put_name name xs) q → (name ≡ q) ⊎ Among xs q
unfolding put_name Among
put_among name [] q h = h
put_among name (x ∷ xs) q h = by_order (byte_order name x) (put_among name xs q) h
  where
    later : (name ≡ q) ⊎ Among xs q → (name ≡ q) ⊎ ((x ≡ q) ⊎ Among xs q)
    later (inl e) = inl e
    later (inr a) = inr (inr a)

    by_order : (r : Ordering) → (Among (put_name name xs) q → (name ≡ q) ⊎ Among xs q) → Among (placed r name x xs (put_name name xs)) q → (name ≡ q) ⊎ ((x ≡ q) ⊎ Among xs q)
    by_order Less ih g = g
    by_order Equal ih g = inr g
    by_order Greater ih (inl e) = inr (inl e)
    by_order Greater ih (inr a) = later (ih a)

among_put : (name : List ℕ) (xs : List (List ℕ)) (q : List ℕ) → (name ≡ q) ⊎ Among xs q → Among (put_name name xs) q
unfolding put_name Among
among_put name [] q h = h
among_put name (x ∷ xs) q h = by_order (byte_order name x) refl (among_put name xs q) h
  where
    by_order : (r : Ordering) → byte_order name x ≡ r → ((name ≡ q) ⊎ Among xs q → Among (put_name name xs) q) → (name ≡ q) ⊎ ((x ≡ q) ⊎ Among xs q) → Among (placed r name x xs (put_name name xs)) q
    by_order Less e ih g = g
    by_order Equal e ih (inl h) = inl (sym (slice_cmp-IsAntisymmetric nat_cmp-IsAntisymmetric name x e) ∙ h)
    by_order Equal e ih (inr h) = h
    by_order Greater e ih (inl h) = inr (ih (inl h))
    by_order Greater e ih (inr (inl h)) = inl h
    by_order Greater e ih (inr (inr h)) = inr (ih (inr h))

put_sorted : (name : List ℕ) (xs : List (List ℕ)) → IsStrictlySortedBy byte_order xs → IsStrictlySortedBy byte_order (put_name name xs)
unfolding put_name IsStrictlySortedBy
put_sorted name [] s = (tt, tt)
put_sorted name (x ∷ xs) s = by_order (byte_order name x) refl (put_sorted name xs s.1)
  where
    above : byte_order x name ≡ Less → (q : List ℕ) → (name ≡ q) ⊎ Among xs q → byte_order x q ≡ Less
    above e q (inl h) = subst (λ (n : List ℕ). byte_order x n ≡ Less) h e
    above e q (inr h) = below x q xs s.0 h

    by_order : (r : Ordering) → byte_order name x ≡ r → IsStrictlySortedBy byte_order (put_name name xs) → IsStrictlySortedBy byte_order (placed r name x xs (put_name name xs))
    by_order Less e ih = ((e, all_below name xs (λ q h. nat_list_cmp_total.trans name x q e (below x q xs s.0 h))), s)
    by_order Equal e ih = s
    by_order Greater e ih = (all_below x (put_name name xs) (λ q h. above (nat_list_cmp_total.antisymm x name ∙ ap ordering_reverse e) q (put_among name xs q h)), ih)

sorted : (names : List (List ℕ)) → IsStrictlySortedBy byte_order (in_order names)
unfolding in_order IsStrictlySortedBy
sorted [] = tt
sorted (name ∷ names) = put_sorted name (in_order names) (sorted names)

ordered : (names : List (List ℕ)) (q : List ℕ) → Among names q → Among (in_order names) q
unfolding in_order Among
ordered [] q h = h
ordered (name ∷ names) q (inl e) = among_put name (in_order names) q (inl e)
ordered (name ∷ names) q (inr h) = among_put name (in_order names) q (inr (ordered names q h))

unordered : (names : List (List ℕ)) (q : List ℕ) → Among (in_order names) q → Among names q
unfolding in_order Among
unordered [] q h = h
unordered (name ∷ names) q h = by_part (unordered names q) (put_among name (in_order names) q h)
  where
    by_part : (Among (in_order names) q → Among names q) → (name ≡ q) ⊎ Among (in_order names) q → (name ≡ q) ⊎ Among names q
    by_part ih (inl e) = inl e
    by_part ih (inr g) = inr (ih g)

-- the names that are found in a folder are those that are there
children : (confs : List Conf) (folder : List ℕ) → conf_tree confs folder ≡ AFolder → (name : List ℕ) → Contains (names_in confs folder) name ↔ IsChild (conf_tree confs) folder name
children confs folder is name =
    let told : Listed true (conf_tree confs) folder [] (names_in confs folder) = names_told confs folder [] (names_in confs folder) (sym (ap node_of is)) refl in
    subst (λ (added : List (List ℕ)). Contains added name ↔ IsChild (conf_tree confs) folder name) (sym told.all) (told.names refl name)

in_folder : (confs : List Conf) (folder : List ℕ) → conf_tree confs folder ≡ AFolder → (name : List ℕ) → Contains (in_order (names_in confs folder)) name ↔ IsChild (conf_tree confs) folder name
in_folder confs folder is name = (
  (λ h. (children confs folder is name).0 (contained (names_in confs folder) name (unordered (names_in confs folder) name (among (in_order (names_in confs folder)) name h)))),
  (λ c. contained (in_order (names_in confs folder)) name (ordered (names_in confs folder) name (among (names_in confs folder) name ((children confs folder is name).1 c)))),
)

-- what is at the folder's path decides
listed : (confs : List Conf) (folder : List ℕ) (item : Item) → conf_tree confs folder ≡ item → IsListing (conf_tree confs) folder (names_at item (in_order (names_in confs folder)))
unfolding IsStrictlySortedBy
listed confs folder AFolder is = record { order = sorted (names_in confs folder); names = λ _. in_folder confs folder is; none = λ no. absurd (no is) }
listed confs folder (AFile bytes date) is = record { order = tt; names = λ yes. let e : AFile bytes date ≡ AFolder = sym is ∙ yes in cc; none = λ _. refl }
listed confs folder ALocked is = record { order = tt; names = λ yes. let e : ALocked ≡ AFolder = sym is ∙ yes in cc; none = λ _. refl }
listed confs folder Nothing is = record { order = tt; names = λ yes. let e : Nothing ≡ AFolder = sym is ∙ yes in cc; none = λ _. refl }

only : (confs : List Conf) (folder : List ℕ) (found : List (List ℕ)) (item : Item) → conf_tree confs folder ≡ item → IsListing (conf_tree confs) folder found → names_at item (in_order (names_in confs folder)) ≡ found
only confs folder found AFolder is l =
    unique (in_order (names_in confs folder)) found (sorted (names_in confs folder)) l.order
    (λ q h. among found q ((l.names is q).1 ((in_folder confs folder is q).0 (contained (in_order (names_in confs folder)) q h))))
    (λ q h. among (in_order (names_in confs folder)) q ((in_folder confs folder is q).1 ((l.names is q).0 (contained found q h))))
only confs folder found (AFile bytes date) is l = sym (l.none (λ yes. let e : AFile bytes date ≡ AFolder = sym is ∙ yes in cc))
only confs folder found ALocked is l = sym (l.none (λ yes. let e : ALocked ≡ AFolder = sym is ∙ yes in cc))
only confs folder found Nothing is l = sym (l.none (λ yes. let e : Nothing ≡ AFolder = sym is ∙ yes in cc))

pub folders_have_their_names : FoldersHaveTheirNames
folders_have_their_names confs = (
  (λ folder found l. only confs folder found (conf_tree confs folder) refl l),
  (λ folder. listed confs folder (conf_tree confs folder) refl),
)
