-- What is kept of the directives before, as one more is passed.
use Rattle.std.proofs.Common.{◌≡◌, ℕ, Bool, true, false, ◌||◌, List, [], ◌∷◌, ◌++◌, Option, Some, None, codes, bytes_eq, refl, sym, ap, ◌∙◌}
use Rattle.std.specs.List.{list_any}
use Rattle.std.specs.BTreeSet.{BTreeSet}
use Rattle.std.proofs.lemmas.List.Folds.{list_any-append}
use Rattle.std.proofs.lemmas.Slice.Eq.{bytes_eq-Decides}
use Rattle.conf_text.specs.declared.directive.Directive.{Directive}
use Rattle.http_types.specs.declared.words.Addr.{Addr}
use Rattle.conf_table.specs.Table.{entry_of, rule_in, rows, same_text}
use Rattle.conf_block.specs.Roles.{role_of}
use Rattle.conf_block.specs.Listening.{address_by, in_front, listens_of}
use Rattle.conf_check.specs.Ends.{same_addr, with_end}
use Rattle.conf_check.specs.Ends.{has_end}
use Rattle.conf_check.specs.Ends as ends
use Rattle.conf_block.specs.declared.location.Kind.{Kind}
use Rattle.conf_check.specs.declared.locations.LocationSet.{LocationSet}
use Rattle.conf_block.specs.Locations.{Key}
use Rattle.conf_check.specs.Keys.{key_by, in_front_key, same_key, keys_of}
use Rattle.conf_check.specs.LocationSet.{has_location}
use Rattle.conf_check.specs.Faults.{is_named}
use Rattle.conf_check.specs.Before.{stands_once, with_name, Remembers}

in_front-append : (addr : Option Addr) (xs ys : List Addr) → in_front addr (xs ++ ys) ≡ in_front addr xs ++ ys
in_front-append None xs ys = refl
in_front-append (Some addr) xs ys = refl

listens-append : (ds es : List Directive) → listens_of (ds ++ es) ≡ listens_of ds ++ listens_of es
listens-append [] es = refl
listens-append (d ∷ ds) es =
    ap (in_front (address_by (role_of d.name) d)) (listens-append ds es) ∙ in_front-append (address_by (role_of d.name) d) (listens_of ds) (listens_of es)

or_nothing : (b t : Bool) → t ≡ false → b ≡ (b || (t || false))
or_nothing true t e = refl
or_nothing false t e = sym (ap (λ t. t || false) e)

true_is_not_false : true ≡ false → ⊥
true_is_not_false e = cc

-- a name of which one alone may be there is none of which several may
other_name : (name other : List ℕ) → stands_once (entry_of other) ≡ true → stands_once (entry_of name) ≡ false → bytes_eq name other ≡ false
other_name name other one several =
    elim (bytes_eq name other) as (λ t. bytes_eq name other ≡ t → t ≡ false) [
      | true ↦ λ t. absurd (true_is_not_false (sym one ∙ sym (ap (λ n. stands_once (entry_of n)) ((bytes_eq-Decides name other).0 t)) ∙ several))
      | false ↦ λ t. refl
    ] refl

names-add : (names names' : List (List ℕ)) (d : Directive) (earlier : List Directive) (name : List ℕ) → stands_once (entry_of name) ≡ true
    → list_any (λ n. bytes_eq n name) names ≡ is_named name earlier
    → (s : Bool) → stands_once (entry_of d.name) ≡ s → names' ≡ with_name s names d.name
    → list_any (λ n. bytes_eq n name) names' ≡ is_named name (earlier ++ d ∷ [])
names-add names names' d earlier name one kept true t e =
    ap (λ ns. list_any (λ n. bytes_eq n name) ns) e ∙ list_any-append (λ n. bytes_eq n name) names (d.name ∷ [])
    ∙ ap (λ b. b || (bytes_eq d.name name || false)) kept ∙ sym (list_any-append (λ (d : Directive). bytes_eq d.name name) earlier (d ∷ []))
names-add names names' d earlier name one kept false t e =
    ap (λ ns. list_any (λ n. bytes_eq n name) ns) e ∙ kept ∙ or_nothing (is_named name earlier) (bytes_eq d.name name) (other_name d.name name one t)
    ∙ sym (list_any-append (λ (d : Directive). bytes_eq d.name name) earlier (d ∷ []))

or-swapped : (a b : Bool) → (a || b) ≡ (b || a)
or-swapped true true = refl
or-swapped true false = refl
or-swapped false true = refl
or-swapped false false = refl

or-nothing : (b : Bool) → b ≡ (b || false)
or-nothing true = refl
or-nothing false = refl

end-more : (o : Option Addr) (has : Addr → Bool) (q : Addr) (old : Bool) → has q ≡ old → with_end o has q ≡ (old || list_any (λ a. same_addr a q) (in_front o []))
end-more None has q old e = e ∙ or-nothing old
end-more (Some a) has q old e = ap (λ b. same_addr a q || b) e ∙ or-swapped (same_addr a q) old ∙ ap (λ b. old || b) (or-nothing (same_addr a q))

in_front_key-append : (key : Option Key) (xs ys : List Key) → in_front_key key (xs ++ ys) ≡ in_front_key key xs ++ ys
in_front_key-append None xs ys = refl
in_front_key-append (Some key) xs ys = refl

keys-append : (ds es : List Directive) → keys_of (ds ++ es) ≡ keys_of ds ++ keys_of es
keys-append [] es = refl
keys-append (d ∷ ds) es =
    ap (in_front_key (key_by (role_of d.name) d)) (keys-append ds es) ∙ in_front_key-append (key_by (role_of d.name) d) (keys_of ds) (keys_of es)

pub remembers-add : (names names' : List (List ℕ)) (addrs addrs' : BTreeSet ends.Key) (locations locations' : LocationSet) (d : Directive) (earlier : List Directive)
    → names' ≡ with_name (stands_once (entry_of d.name)) names d.name
    → ((q : Addr) → has_end addrs' q ≡ with_end (address_by (role_of d.name) d) (has_end addrs) q)
    → ((kind : Kind) (text : List ℕ) → has_location locations' kind text ≡ (list_any (same_key kind text) (in_front_key (key_by (role_of d.name) d) []) || has_location locations kind text))
    → Remembers names addrs locations earlier → Remembers names' addrs' locations' (earlier ++ d ∷ [])
remembers-add names names' addrs addrs' locations locations' d earlier n a l r = record {
  once = λ name one. names-add names names' d earlier name one (r.once name one) (stands_once (entry_of d.name)) refl n;
  listens = λ q.
      let more : List Addr = in_front (address_by (role_of d.name) d) [] in
      a q ∙ end-more (address_by (role_of d.name) d) (has_end addrs) q (list_any (λ a. same_addr a q) (listens_of earlier)) (r.listens q)
      ∙ sym (list_any-append (λ a. same_addr a q) (listens_of earlier) more)
      ∙ ap (λ xs. list_any (λ a. same_addr a q) xs) (sym (listens-append earlier (d ∷ [])));
  located = λ kind text.
      let more : List Key = in_front_key (key_by (role_of d.name) d) [] in
      l kind text ∙ ap (λ b. list_any (same_key kind text) more || b) (r.located kind text)
      ∙ or-swapped (list_any (same_key kind text) more) (list_any (same_key kind text) (keys_of earlier))
      ∙ sym (list_any-append (same_key kind text) (keys_of earlier) more)
      ∙ ap (λ xs. list_any (same_key kind text) xs) (sym (keys-append earlier (d ∷ [])));
}

-- these two may be there once
pub root-once : stands_once (entry_of (codes "root")) ≡ true
unfolding entry_of rule_in rows same_text
root-once = refl

pub alias-once : stands_once (entry_of (codes "alias")) ≡ true
unfolding entry_of rule_in rows same_text
alias-once = refl
