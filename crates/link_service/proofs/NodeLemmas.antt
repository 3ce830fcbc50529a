-- Nodes of a connection run and have their jobs answered, one after another.
use Rattle.std.proofs.Common.{ℕ, ◌≤◌, refl, ap, ◌∙◌, arith}
use Rattle.ngx_outside.specs.Seen.{CoreSeen, FilesSeen}
use Rattle.ngx_outside.specs.Views.{Start}
use Rattle.link_service.specs.Nodes.{Served, Spares}
use Rattle.link_service.proofs.BesideLemmas.{stand_none, stand_then}

-- nothing was done
pub spares_none : (conn : ℕ) (core : CoreSeen) (files : FilesSeen) → Spares conn core core files files
spares_none conn core files = record { views = λ d ne. refl; terms = refl; now = refl; grown = omega arith; versions = refl; tells = refl }

pub served_none : (core : CoreSeen) (files : FilesSeen) → Served core core files files
served_none core files = record { kept = λ links tl tf marks whole ticks k. k; beside = λ links clock. stand_none core.events links files.answers clock }

-- one after the other
pub spares_then : {conn : ℕ} {a b c : CoreSeen} {f g h : FilesSeen} → Spares conn a b f g → Spares conn b c g h → Spares conn a c f h
spares_then s t = record {
  views = λ d ne. t.views d ne ∙ s.views d ne;
  terms = t.terms ∙ s.terms;
  now = t.now ∙ s.now;
  grown = (let x = s.grown in let y = t.grown in omega (arith, x, y));
  versions = t.versions ∙ s.versions;
  tells = t.tells ∙ s.tells;
}

pub served_then : {conn : ℕ} {a b c : CoreSeen} {f g h : FilesSeen} → Spares conn a b f g → Served a b f g → Served b c g h → Served a c f h
served_then p s t = record {
  kept = λ links tl tf marks whole ticks k. t.kept links tl (p.tells ∙ tf) marks whole ticks (s.kept links tl tf marks whole ticks k);
  beside = λ links clock. stand_then (s.beside links clock) (t.beside links clock);
}

-- the core was told no later tree than the files have
pub still_known : {conn : ℕ} {a b : CoreSeen} {f g : FilesSeen} → Spares conn a b f g → a.now.tree ≤ f.newest → b.now.tree ≤ g.newest
still_known s known = let x = s.grown in let e = ap (λ (x : Start). x.tree) s.now in omega (arith, x, e, known)
