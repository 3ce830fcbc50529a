-- An include of `virtual` alone.
use Rattle.std.proofs.Common.{◌≡◌, ℕ, ◌<◌, ◌≤◌, true, false, None, List, [], ◌∷◌, length, slice_index_or, codes, refl, sym, arith, ap}
use Rattle.std.specs.Str.{bytes_eq}
use Rattle.std.proofs.lemmas.Slice.Eq.{bytes_eq-Decides}
use Rattle.ssi_text.specs.declared.part.Param.{Param}
use Rattle.request_meaning.specs.Commands.{included_name, is_waited, param}
use Rattle.ssi_exec.specs.Includes.{go_together}

only_one : (ps : List Param) (p : Param) → 1 ≤ length ps → length ps < 2 → p ≡ slice_index_or ps 0 p → ps ≡ p ∷ []
only_one [] p h k e = absurd (omega arith)
only_one (q ∷ []) p h k e = ap (λ (q : Param). q ∷ []) (sym e)
only_one (q ∷ r ∷ qs) p h k e = absurd (omega arith)

-- what such parameters say
pub record SaysPath (ps : List Param) (path : List ℕ) : Type 0 where
  pub good : go_together ps ≡ true
  pub name : path ≡ included_name ps
  pub stub : None ≡ param (codes "stub") ps
  pub set : None ≡ param (codes "set") ps
  pub waited : false ≡ is_waited ps

of_virtual : (name value : List ℕ) → name ≡ codes "virtual" → SaysPath (record { name = name; value = value } ∷ []) value
unfolding param
of_virtual name value e = rw e (record { good = refl; name = refl; stub = refl; set = refl; waited = refl })

pub says_path : (ps : List Param) (p : Param) → 1 ≤ length ps → length ps < 2 → p ≡ slice_index_or ps 0 p → bytes_eq p.name (codes "virtual") ≡ true → SaysPath ps p.value
says_path ps p h k e f = rw (only_one ps p h k e) (of_virtual p.name p.value ((bytes_eq-Decides p.name (codes "virtual")).0 f))
