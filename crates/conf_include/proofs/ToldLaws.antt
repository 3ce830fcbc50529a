-- What files tell at one moment and at a later one.
use Rattle.std.proofs.Common.{◌≡◌, ℕ, ◌≤◌, refl, sym, ◌∙◌, arith}
use Rattle.file_tree.specs.Tree.{Tree}
use Rattle.ngx_outside.specs.Causes.{Rose}
use Rattle.ngx_outside.specs.Outside.{Grow}
use Rattle.ngx_outside.specs.Seen.{FilesSeen}
use Rattle.conf_include.specs.Told.{Later, IsTold}

pub later_refl : (t : FilesSeen) → Later t t
later_refl t = record { tells = refl; newest = omega arith; faults = omega arith; same = λ of h path. refl; versions = refl }

pub later_then : (a b c : FilesSeen) → Later a b → Later b c → Later a c
later_then a b c h k = record {
  tells = k.tells ∙ h.tells;
  newest = omega (arith, h.newest, k.newest);
  faults = omega (arith, h.faults, k.faults);
  same = λ of within path. k.same of (omega (arith, within, h.newest)) path ∙ h.same of within path;
  versions = k.versions ∙ h.versions;
}

-- what one call of the files leaves
pub later_call : (old new : FilesSeen) → new.tells ≡ old.tells → new.versions ≡ old.versions → Grow old.newest new.newest old.trees new.trees → old.faults ≤ new.faults → Later old new
later_call old new same versions grow later = record { tells = same; newest = grow.rises; faults = later; same = grow.same; versions = versions }

-- where a tree is told as the newest later, it was so before
pub told_before : (of : ℕ) (tree : Tree) (a b : FilesSeen) → Later a b → of ≤ a.newest → IsTold of tree b → IsTold of tree a
told_before of tree a b later within told = record {
  tells = sym later.tells ∙ told.tells;
  newest = omega (arith, within, later.newest, told.newest);
  same = λ path. sym (later.same of within path) ∙ told.same path;
}

-- a rise within a longer time
pub rose_wider : (before before' now now' : ℕ) → before' ≤ before → now ≤ now' → Rose before now → Rose before' now'
rose_wider before before' now now' h k rose = omega (arith, h, k, rose)
