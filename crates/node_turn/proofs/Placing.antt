-- Bytes of a node that are placed.
use Rattle.std.proofs.Common.{◌≡◌, ◌≤◌, ◌∷◌, arith, ℕ, ◌+◌, List, [], ◌++◌, length, take, drop, Option, None, Some, refl, sym, ap, ◌∙◌, append-nil, append_assoc, take-append-drop, drop-drop, drop_of_length-le}
use Rattle.acts.specs.Vars.{Vars}
use Rattle.acts.specs.Act.{Done, Write}
use Rattle.page_body.specs.site_model.declared.site.Site.{Site}
use Rattle.request_reply.specs.request_meaning.Serving.{World, Serving, Answer}
use Rattle.request_reply.specs.request_phases.declared.state.Phases.{Phases}
use Rattle.page_body.specs.declared.page.Page.{Page}
use Rattle.node_turn.specs.Nodes.{later, padded, page_at, placed_act, served_act}
use Rattle.node_turn.specs.declared.node.Body.{Body}
use Rattle.node_turn.proofs.Phased.{none_behind}
use Rattle.node_turn.specs.Turns.{Works, PlacesAs}
use Rattle.node_turn.specs.Turns.Works.{Rests, Placed}
use Rattle.node_turn.proofs.Serving.{same_work, both}

module _ (w : World) (site : Site) (p : Phases) (left : ℕ) (answer : Answer) where
  pub placed_so : (page : Option Page) (bytes : List ℕ) (from count : ℕ) (later : List ℕ) →
      PlacesAs (take count (drop from bytes)) (placed_act w site p left answer page (drop from bytes) later) (placed_act w site p left answer page (drop (from + count) bytes) later)
  placed_so None bytes from count later =
      let h = drop from bytes in
      record {
        more = drop count h ++ later;
        rest = Done answer;
        writes = ap (λ t. Write t (Done answer)) (ap (λ t. t ++ later) (sym (take-append-drop count h)) ∙ append_assoc (take count h) (drop count h) later);
        works = λ vars. same_work (ap (λ t. Write (t ++ later) (Done answer)) (drop-drop count from bytes));
      }
  placed_so (Some page) bytes from count later =
      let h = drop from bytes in
      let rest = page_at w site p left answer page later in
      record {
        more = drop count h;
        rest = rest;
        writes = ap (λ t. Write t rest) (sym (take-append-drop count h));
        works = λ vars. same_work (ap (λ t. Write t rest) (drop-drop count from bytes));
      }

  -- so are all that are at hand
  pub whole_so : (page : Option Page) (bytes : List ℕ) (from next : ℕ) (later : List ℕ) → length bytes ≤ next →
      PlacesAs (drop from bytes) (placed_act w site p left answer page (drop from bytes) later) (placed_act w site p left answer page (drop next bytes) later)
  whole_so None bytes from next later e = record {
    more = later;
    rest = Done answer;
    writes = refl;
    works = λ vars. same_work (ap (λ t. Write (t ++ later) (Done answer)) (sym (drop_of_length-le bytes e)));
  }
  whole_so (Some page) bytes from next later e =
      let rest = page_at w site p left answer page later in
      record {
        more = [];
        rest = rest;
        writes = ap (λ t. Write t rest) (sym (append-nil (drop from bytes)));
        works = λ vars. same_work (ap (λ t. Write t rest) (sym (drop_of_length-le bytes e)));
      }

  -- all of them are
  pub all_so : (page : Option Page) (bytes : List ℕ) (from : ℕ) (later : List ℕ) (vars : Vars) → length bytes ≤ from →
      Works vars (placed_act w site p left answer page (drop from bytes) later) (served_act w site p left answer page later)
  all_so None bytes from later vars e = same_work (ap (λ t. Write (t ++ later) (Done answer)) (drop_of_length-le bytes e))
  all_so (Some page) bytes from later vars e =
      both (same_work (ap (λ t. Write t (page_at w site p left answer page later)) (drop_of_length-le bytes e))) (Placed Rests)

  -- and nothing more comes
  pub over_so : (page : Option Page) (bytes : List ℕ) (from : ℕ) (later : List ℕ) (vars : Vars) → length bytes ≤ from → page ≡ None → later ≡ [] →
      Works vars (placed_act w site p left answer page (drop from bytes) later) (Done answer)
  over_so page bytes from later vars e none h =
      both (same_work (ap (λ y. placed_act w site p left answer y (drop from bytes) later) none
      ∙ (ap (λ t. Write (t ++ later) (Done answer)) (drop_of_length-le bytes e) ∙ ap (λ t. Write t (Done answer)) h))) (Placed Rests)

-- nothing more comes of a source with no text and no bytes of a file
pub nothing_later : (b : Body) (text : List ℕ) → length b.source.text ≡ 0 → b.source.left ≡ 0 → later b text ≡ []
nothing_later b text t n = ap (λ m. b.source.text ++ padded m text) n ∙ (none_behind b.source.text text ∙ nil b.source.text t)
  where
    nil : (xs : List ℕ) → length xs ≡ 0 → xs ≡ []
    nil [] h = refl
    nil (x ∷ xs) h = absurd (omega (arith, h))

-- and then the node goes on
pub then_works : (some : List ℕ) (old mid new : Serving Answer) → PlacesAs some old mid → ((vars : Vars) → Works vars mid new) → PlacesAs some old new
then_works some old mid new h g = record { more = h.more; rest = h.rest; writes = h.writes; works = λ vars. both (h.works vars) (g vars) }
