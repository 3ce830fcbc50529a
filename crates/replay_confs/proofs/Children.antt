-- The names in a folder of a script's configuration.
use Rattle.std.proofs.Common.{◌≡◌, ◌≢◌, ℕ, ◌<◌, Bool, true, false, cond, eqb, ◌⊎◌, inl, inr, List, [], ◌∷◌, ◌++◌, get_or, Option, None, Some, refl, sym, ap, ◌∙◌, subst, append_assoc, arith}
use Rattle.std.specs.Prelude.{is_some, Contains, ◌||◌}
use Rattle.std.specs.Str.{bytes_eq}
use Rattle.std.proofs.lemmas.Bool.Decides.{nat_tests}
use Rattle.std.proofs.lemmas.Slice.Eq.{bytes_eq-Decides}
use Rattle.std.proofs.lemmas.List.Elements.{Contains-append_left, Contains-append_right, Contains-append_cases, Contains-push}
use Rattle.file_tree.specs.Tree.{Item, AFile, AFolder, ALocked, Nothing, IsChild, child_path, node_of}
use Rattle.file_tree.specs.declared.job.Node.TheVariants.{Folder}
use Rattle.ngx_outside.specs.Outside.{Names}
use Rattle.replay_text.specs.declared.parts.Conf.{Conf}
use Rattle.replay_confs.specs.Paths.{behind, front_of, below, first_name}
use Rattle.replay_confs.specs.Confs.{text_at, has_below, item_at, conf_tree, some_name, next_name, names_in}
use Rattle.replay_confs.proofs.Fronts.{behind_front, behind_is, behind_both, behind_then}

none_within : {X : Type 0} (x : X) → Contains [] x → ⊥
none_within x h = let within : h.0 < 0 = h.1 in omega arith

one_within : {X : Type 0} (x q : X) → Contains (x ∷ []) q → x ≡ q
one_within x q h =
    let within : h.0 < 1 = h.1 in let first : h.0 ≡ 0 = omega arith in
    sym (ap (λ k. get_or (x ∷ []) k q) first) ∙ h.2

-- a section's file is at this path, or below it
abbrev Lies : List Conf → List ℕ → Type 0
Lies [] p = ⊥
Lies (conf ∷ confs) p = (bytes_eq conf.path p ≡ true) ⊎ ((is_some (below p conf.path) ≡ true) ⊎ Lies confs p)

text_lies : (confs : List Conf) (p bytes : List ℕ) → text_at confs p ≡ Some bytes → Lies confs p
text_lies [] p bytes e = cc
text_lies (conf ∷ confs) p bytes e = go (bytes_eq conf.path p) refl e (text_lies confs p bytes)
  where
    go : (t : Bool) → bytes_eq conf.path p ≡ t → cond t (Some conf.bytes) (text_at confs p) ≡ Some bytes → (text_at confs p ≡ Some bytes → Lies confs p) → Lies (conf ∷ confs) p
    go true is f more = inl is
    go false is f more = inr (inr (more f))

below_lies : (confs : List Conf) (p : List ℕ) → has_below confs p ≡ true → Lies confs p
below_lies [] p e = cc
below_lies (conf ∷ confs) p e = go (is_some (below p conf.path)) refl e (below_lies confs p)
  where
    go : (t : Bool) → is_some (below p conf.path) ≡ t → (t || has_below confs p) ≡ true → (has_below confs p ≡ true → Lies confs p) → Lies (conf ∷ confs) p
    go true is f more = inr (inl is)
    go false is f more = inr (inr (more f))

-- what is somewhere is a section's file, or lies above one
there_lies : (confs : List Conf) (p : List ℕ) → conf_tree confs p ≢ Nothing → Lies confs p
there_lies confs p there = go (text_at confs p) refl (has_below confs p) refl
  where
    go : (t : Option (List ℕ)) → text_at confs p ≡ t → (h : Bool) → has_below confs p ≡ h → Lies confs p
    go (Some bytes) e h f = text_lies confs p bytes e
    go None e true f = below_lies confs p f
    go None e false f = absurd (there (ap (λ t. item_at t (has_below confs p)) e ∙ ap (λ h. item_at None h) f))

lies_either : (confs : List Conf) (p : List ℕ) → Lies confs p → (is_some (text_at confs p) ≡ true) ⊎ (has_below confs p ≡ true)
lies_either [] p l = absurd l
lies_either (conf ∷ confs) p (inl e) = inl (ap (λ t. is_some (cond t (Some conf.bytes) (text_at confs p))) e)
lies_either (conf ∷ confs) p (inr (inl e)) = inr (ap (λ t. t || has_below confs p) e)
lies_either (conf ∷ confs) p (inr (inr l)) = go (bytes_eq conf.path p) (is_some (below p conf.path)) (lies_either confs p l)
  where
    go : (t b : Bool) → (is_some (text_at confs p) ≡ true) ⊎ (has_below confs p ≡ true) → (is_some (cond t (Some conf.bytes) (text_at confs p)) ≡ true) ⊎ ((b || has_below confs p) ≡ true)
    go true b either = inl refl
    go false b (inl e) = inl e
    go false true (inr e) = inr refl
    go false false (inr e) = inr e

lies_there : (confs : List Conf) (p : List ℕ) → Lies confs p → conf_tree confs p ≢ Nothing
lies_there confs p l = go (text_at confs p) (has_below confs p) (lies_either confs p l)
  where
    go : (t : Option (List ℕ)) (h : Bool) → (is_some t ≡ true) ⊎ (h ≡ true) → item_at t h ≢ Nothing
    go (Some bytes) h either = λ e. cc
    go None true either = λ e. cc
    go None false (inl e) = λ f. cc
    go None false (inr e) = λ f. cc

-- a text is its first name, or goes on after a slash
splits : (rest : List ℕ) → (rest ≡ first_name rest) ⊎ (is_some (behind (first_name rest ++ 47 ∷ []) rest) ≡ true)
splits [] = inl refl
splits (b ∷ bs) = go (eqb b 47) refl (splits bs)
  where
    same : {A : Type 0} (x y : A) → cond (eqb b b) x y ≡ x
    same x y = let t : eqb b b ≡ true = grind (arith, nat_tests) in ap (λ c. cond c x y) t

    slash : {A : Type 0} (x y : A) → eqb b 47 ≡ true → cond (eqb 47 b) x y ≡ x
    slash x y e = let t : eqb 47 b ≡ true = grind (arith, nat_tests) in ap (λ c. cond c x y) t

    go : (t : Bool) → eqb b 47 ≡ t → (bs ≡ first_name bs) ⊎ (is_some (behind (first_name bs ++ 47 ∷ []) bs) ≡ true) →
        (b ∷ bs ≡ cond t [] (b ∷ first_name bs)) ⊎ (is_some (behind (cond t [] (b ∷ first_name bs) ++ 47 ∷ []) (b ∷ bs)) ≡ true)
    go true is more = inr (ap is_some (slash (Some bs) None is))
    go false is (inl e) = inl (ap (λ x. b ∷ x) e)
    go false is (inr e) = inr (ap is_some (same (behind (first_name bs ++ 47 ∷ []) bs) None) ∙ e)

-- no slash
apart : (b : ℕ) (bs : List ℕ) → ¬ Contains (b ∷ bs) 47 → eqb b 47 ≡ false
apart b bs none = go (eqb b 47) refl
  where
    go : (t : Bool) → eqb b 47 ≡ t → t ≡ false
    go false is = refl
    go true is = let same : b ≡ 47 = grind (arith, nat_tests) in absurd (none (Contains-append_left (b ∷ []) bs 47 (subst (λ x. Contains (x ∷ []) 47) (sym same) (Contains-push [] 47))))

later : (b : ℕ) (bs : List ℕ) → ¬ Contains (b ∷ bs) 47 → ¬ Contains bs 47
later b bs none h = none (Contains-append_right (b ∷ []) bs 47 h)

whole_name : (name : List ℕ) → ¬ Contains name 47 → first_name name ≡ name
whole_name [] none = refl
whole_name (b ∷ bs) none = ap (λ t. cond t [] (b ∷ first_name bs)) (apart b bs none) ∙ ap (λ x. b ∷ x) (whole_name bs (later b bs none))

cut_name : (name rest : List ℕ) → ¬ Contains name 47 → is_some (behind (name ++ 47 ∷ []) rest) ≡ true → first_name rest ≡ name
cut_name [] [] none e = cc
cut_name [] (c ∷ rest) none e = go (eqb 47 c) refl e
  where
    go : (t : Bool) → eqb 47 c ≡ t → is_some (cond t (Some rest) None) ≡ true → cond (eqb c 47) [] (c ∷ first_name rest) ≡ []
    go true is f = let t : eqb c 47 ≡ true = grind (arith, nat_tests) in ap (λ x. cond x [] (c ∷ first_name rest)) t
    go false is f = cc
cut_name (b ∷ name) [] none e = cc
cut_name (b ∷ name) (c ∷ rest) none e = go (eqb b c) refl e (cut_name name rest (later b name none))
  where
    go : (t : Bool) → eqb b c ≡ t → is_some (cond t (behind (name ++ 47 ∷ []) rest) None) ≡ true → (is_some (behind (name ++ 47 ∷ []) rest) ≡ true → first_name rest ≡ name) → cond (eqb c 47) [] (c ∷ first_name rest) ≡ b ∷ name
    go true is f more =
        let same : b ≡ c = grind (arith, nat_tests) in
        let no : eqb b 47 ≡ false = apart b name none in
        ap (λ x. cond (eqb x 47) [] (x ∷ first_name rest)) (sym same) ∙ ap (λ t. cond t [] (b ∷ first_name rest)) no ∙ ap (λ x. b ∷ x) (more f)
    go false is f more = cc

no_slash : (rest : List ℕ) → ¬ Contains (first_name rest) 47
no_slash [] h = none_within 47 h
no_slash (b ∷ bs) h = go (eqb b 47) refl h (no_slash bs)
  where
    go : (t : Bool) → eqb b 47 ≡ t → Contains (cond t [] (b ∷ first_name bs)) 47 → ¬ Contains (first_name bs) 47 → ⊥
    go true is g more = none_within 47 g
    go false is g more = cases (Contains-append_cases (b ∷ []) (first_name bs) 47 g)
      where
        cases : Contains (b ∷ []) 47 ⊎ Contains (first_name bs) 47 → ⊥
        cases (inl here) = let same : b ≡ 47 = one_within b 47 here in let f : eqb b 47 ≡ true = grind (arith, nat_tests) in cc
        cases (inr there) = more there

-- the path of a name, and what is below it
child_is : (folder name : List ℕ) → child_path folder name ≡ (front_of folder ++ 47 ∷ []) ++ name
child_is folder name = plain folder ∙ sym (append_assoc (front_of folder) (47 ∷ []) name)
  where
    plain : (f : List ℕ) → child_path f name ≡ front_of f ++ 47 ∷ name
    plain [] = refl
    plain (b ∷ []) = refl
    plain (b ∷ c ∷ bytes) = refl

two_front : (front : List ℕ) (n : ℕ) (ns : List ℕ) → front_of (front ++ 47 ∷ n ∷ ns) ≡ front ++ 47 ∷ n ∷ ns
two_front [] n ns = refl
two_front (b ∷ []) n ns = refl
two_front (b ∷ c ∷ bytes) n ns = refl

child_front : (folder name : List ℕ) → name ≢ [] → front_of (child_path folder name) ≡ child_path folder name
child_front folder [] some = absurd (some refl)
child_front folder (n ∷ ns) some =
    let is : child_path folder (n ∷ ns) ≡ front_of folder ++ 47 ∷ n ∷ ns = child_is folder (n ∷ ns) ∙ append_assoc (front_of folder) (47 ∷ []) (n ∷ ns) in
    ap front_of is ∙ two_front (front_of folder) n ns ∙ sym is

below_child : (folder path name : List ℕ) → name ≢ [] → below (child_path folder name) path ≡ behind_then (below folder path) (name ++ 47 ∷ [])
below_child folder path name some =
    ap (λ f. behind (f ++ 47 ∷ []) path) (child_front folder name some ∙ child_is folder name)
    ∙ ap (λ f. behind f path) (append_assoc (front_of folder ++ 47 ∷ []) name (47 ∷ []))
    ∙ behind_both (front_of folder ++ 47 ∷ []) (name ++ 47 ∷ []) path

child_found : (folder path name : List ℕ) → path ≡ child_path folder name → below folder path ≡ Some name
child_found folder path name e = ap (behind (front_of folder ++ 47 ∷ [])) (e ∙ child_is folder name) ∙ behind_front (front_of folder ++ 47 ∷ []) name

found_child : (folder path name : List ℕ) → below folder path ≡ Some name → path ≡ child_path folder name
found_child folder path name e = behind_is (front_of folder ++ 47 ∷ []) path name e ∙ sym (child_is folder name)

one_name : (text name : List ℕ) → Contains (some_name text) name → (text ≡ name) × (text ≢ [])
one_name [] name h = absurd (none_within name h)
one_name (b ∷ bs) name h = (one_within (b ∷ bs) name h, λ e. cc)

-- a name with which a path goes on
pub named_is : (r : Option (List ℕ)) (name : List ℕ) → Contains (next_name r) name → (name ≢ []) × (¬ Contains name 47)
named_is None name h = absurd (none_within name h)
named_is (Some rest) name h =
    let one = one_name (first_name rest) name h in
    (λ e. one.1 (one.0 ∙ e), λ slash. no_slash rest (subst (λ n. Contains n 47) (sym one.0) slash))

named : (folder path name : List ℕ) → Contains (next_name (below folder path)) name → (bytes_eq path (child_path folder name) ≡ true) ⊎ (is_some (below (child_path folder name) path) ≡ true)
named folder path name h = go (below folder path) refl h
  where
    some : name ≢ []
    some = (named_is (below folder path) name h).0

    go : (r : Option (List ℕ)) → below folder path ≡ r → Contains (next_name r) name → (bytes_eq path (child_path folder name) ≡ true) ⊎ (is_some (below (child_path folder name) path) ≡ true)
    go None e g = absurd (none_within name g)
    go (Some rest) e g = cases (splits rest)
      where
        is : first_name rest ≡ name
        is = (one_name (first_name rest) name g).0

        cases : (rest ≡ first_name rest) ⊎ (is_some (behind (first_name rest ++ 47 ∷ []) rest) ≡ true) → (bytes_eq path (child_path folder name) ≡ true) ⊎ (is_some (below (child_path folder name) path) ≡ true)
        cases (inl all) = inl ((bytes_eq-Decides path (child_path folder name)).1 (found_child folder path name (e ∙ ap Some (all ∙ is))))
        cases (inr more) = inr (ap is_some (below_child folder path name some ∙ ap (λ r. behind_then r (name ++ 47 ∷ [])) e) ∙ ap (λ n. is_some (behind (n ++ 47 ∷ []) rest)) (sym is) ∙ more)

has_name : (text name : List ℕ) → text ≡ name → name ≢ [] → Contains (some_name text) name
has_name text [] e some = absurd (some refl)
has_name text (n ∷ ns) e some = subst (λ t. Contains (some_name t) (n ∷ ns)) (sym e) (Contains-push [] (n ∷ ns))

unnamed : (folder path name : List ℕ) → name ≢ [] → ¬ Contains name 47 → (bytes_eq path (child_path folder name) ≡ true) ⊎ (is_some (below (child_path folder name) path) ≡ true) → Contains (next_name (below folder path)) name
unnamed folder path name some none (inl e) =
    subst (λ r. Contains (next_name r) name) (sym (child_found folder path name ((bytes_eq-Decides path (child_path folder name)).0 e)))
    (has_name (first_name name) name (whole_name name none) some)
unnamed folder path name some none (inr e) = go (below folder path) (sym (ap is_some (below_child folder path name some)) ∙ e)
  where
    go : (r : Option (List ℕ)) → is_some (behind_then r (name ++ 47 ∷ [])) ≡ true → Contains (next_name r) name
    go None f = cc
    go (Some rest) f = has_name (first_name rest) name (cut_name name rest none f) some

-- the names of all sections
told_lies : (confs : List Conf) (folder name : List ℕ) → Contains (names_in confs folder) name → Lies confs (child_path folder name) × (name ≢ []) × (¬ Contains name 47)
told_lies [] folder name h = absurd (none_within name h)
told_lies (conf ∷ confs) folder name h = go (Contains-append_cases (next_name (below folder conf.path)) (names_in confs folder) name h) (told_lies confs folder name)
  where
    first : (bytes_eq conf.path (child_path folder name) ≡ true) ⊎ (is_some (below (child_path folder name) conf.path) ≡ true) → Lies (conf ∷ confs) (child_path folder name)
    first (inl e) = inl e
    first (inr e) = inr (inl e)

    go : Contains (next_name (below folder conf.path)) name ⊎ Contains (names_in confs folder) name → (Contains (names_in confs folder) name → Lies confs (child_path folder name) × (name ≢ []) × (¬ Contains name 47)) →
        Lies (conf ∷ confs) (child_path folder name) × (name ≢ []) × (¬ Contains name 47)
    go (inl here) more = let is = named_is (below folder conf.path) name here in (first (named folder conf.path name here), is.0, is.1)
    go (inr there) more = let l = more there in (inr (inr l.0), l.1, l.2)

lies_told : (confs : List Conf) (folder name : List ℕ) → name ≢ [] → ¬ Contains name 47 → Lies confs (child_path folder name) → Contains (names_in confs folder) name
lies_told [] folder name some none l = absurd l
lies_told (conf ∷ confs) folder name some none (inl e) = Contains-append_left (next_name (below folder conf.path)) (names_in confs folder) name (unnamed folder conf.path name some none (inl e))
lies_told (conf ∷ confs) folder name some none (inr (inl e)) = Contains-append_left (next_name (below folder conf.path)) (names_in confs folder) name (unnamed folder conf.path name some none (inr e))
lies_told (conf ∷ confs) folder name some none (inr (inr l)) = Contains-append_right (next_name (below folder conf.path)) (names_in confs folder) name (lies_told confs folder name some none l)

folder_stands : (item : Item) → Folder ≡ node_of item → item ≡ AFolder
folder_stands (AFile bytes date) e = cc
folder_stands AFolder e = refl
folder_stands ALocked e = cc
folder_stands Nothing e = cc

-- these are the names of a folder
pub names_told : (confs : List Conf) (folder : List ℕ) (old new : List (List ℕ)) → Folder ≡ node_of (conf_tree confs folder) → new ≡ old ++ names_in confs folder → Names true (conf_tree confs) folder old new
names_told confs folder old new is all = record {
  added = names_in confs folder;
  all = all;
  there = λ tells. folder_stands (conf_tree confs folder) is;
  names = λ tells name. (to name, from name);
}
  where
    to : (name : List ℕ) → Contains (names_in confs folder) name → IsChild (conf_tree confs) folder name
    to name h = let l = told_lies confs folder name h in record { some = l.1; one = l.2; there = lies_there confs (child_path folder name) l.0 }

    from : (name : List ℕ) → IsChild (conf_tree confs) folder name → Contains (names_in confs folder) name
    from name child = lies_told confs folder name child.some child.one (there_lies confs (child_path folder name) child.there)
