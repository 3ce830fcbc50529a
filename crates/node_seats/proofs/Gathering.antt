-- A node that has a stub, and to which no bytes of subrequests come: it is the same whether they may come.
use Rattle.std.proofs.Common.{◌≡◌, ℕ, suc, ◌==◌, ◌&&◌, nat_lt, Bool, true, false, not, List, None, Some, set, slice_get, refl, sym, ap, ◌∙◌}
use Rattle.std.proofs.lemmas.Bool.{eqb-true}
use Rattle.ngx_pattern.specs.Pattern.{Pattern as SetPattern}
use Rattle.ngx_variables.specs.declared.request.Main.{Main}
use Rattle.site_model.specs.declared.site.Site.{Site}
use Rattle.request_meaning.specs.Serving.{World}
use Rattle.family_meaning.specs.Line.Line.{Nil, Gives}
use Rattle.family_order.specs.Items.Stance.{Apart}
use Rattle.node_line.specs.node_turn.Stages.{is_in_row}
use Rattle.node_line.specs.node_turn.declared.node.Node.{Node}
use Rattle.node_line.specs.node_turn.declared.node.Place.{Place}
use Rattle.node_line.specs.node_turn.declared.node.Place.TheVariants.{Row, Stub, Gathers, Captured}
use Rattle.node_line.specs.Stances.{under}
use Rattle.node_seats.specs.Seats.{Doing, doing_by, is_asked, is_captured, is_inner, line_from, most_levels, place_stance, stance_in, stance_of, stub_in, withheld_text}
use Rattle.node_seats.proofs.Above.{eq_self, false_true, some_same}
use Rattle.node_seats.proofs.Others as others_are
use Rattle.node_seats.proofs.Others.{Changed}
use Rattle.node_seats.proofs.Others.SameOrMore.{Same}
use Rattle.node_seats.proofs.Paths.{path_top}
use Rattle.node_seats.proofs.Rowed.{set_at, set_other}
use Rattle.node_seats.proofs.Seated.{IsBare, line_bare}
use Rattle.node_seats.proofs.Walks.{in_row_heard}

-- its place, before and then: it has the same stub, and the same bytes are withheld
pub record GathersAs (p p' : Place) : Type 0 where
  pub stub : List ℕ
  pub was : stub_in p ≡ Some stub
  pub is : stub_in p' ≡ Some stub
  pub free : is_captured p ≡ false
  pub free_then : is_captured p' ≡ false
  pub apart : is_in_row p ≡ false
  pub apart_then : is_in_row p' ≡ false
  pub text : withheld_text p' ≡ withheld_text p

apart_is : (d : Doing) (nodes : List Node) (levels at : ℕ) (n : Node) (stub : List ℕ) (p : Place) → is_captured p ≡ false → is_in_row p ≡ false → stub_in p ≡ Some stub →
    place_stance d nodes levels at n p ≡ Apart (line_from d nodes (suc levels) at n Nil) stub
apart_is d nodes levels at n stub Row c r s = cc
apart_is d nodes levels at n stub (Stub stub' text) c r s = ap (Apart (line_from d nodes (suc levels) at n Nil)) (same s)
  where
    same : {a b : List ℕ} → Some a ≡ Some b → a ≡ b
    same e = cc
apart_is d nodes levels at n stub (Gathers stub' text) c r s = ap (Apart (line_from d nodes (suc levels) at n Nil)) (same s)
  where
    same : {a b : List ℕ} → Some a ≡ Some b → a ≡ b
    same e = cc
apart_is d nodes levels at n stub (Captured stub' text) c r s = cc

module _ (w : World) (patterns : List SetPattern) (site : Site) (main : Main) (texts : ℕ → List ℕ) (nodes : List Node) (at : ℕ) (old : Node) (p : Place) (there : slice_get nodes at ≡ Some old) (holds : GathersAs old.place p) (free : old.asks ≡ None) (bare : IsBare nodes at old) where
  abbrev new : Node
  new = record old { place = p }

  abbrev then : List Node
  then = set nodes at (record old { place = p })

  at_then : slice_get then at ≡ Some new
  at_then = set_at nodes at (record old { place = p }) old there

  other_then : (c : ℕ) → (c == at) ≡ false → slice_get nodes c ≡ slice_get then c
  other_then c e = sym (set_other nodes at c (record old { place = p }) (λ f. false_true (sym e ∙ ap (λ i. c == i) f ∙ eq_self c)))

  bare_then : IsBare then at new
  bare_then c m here = by (c == at) refl
    where
      none : (b : Bool) → (false && b) ≡ false
      none b = refl

      by : (b : Bool) → (c == at) ≡ b → is_inner at (record old { place = p }) c m ≡ false
      by true e =
          let same : new ≡ m = some_same new m (sym at_then ∙ ap (slice_get then) (sym (eqb-true c at e)) ∙ here) in
          ap (λ b. b && ((m.parent == at) && (nat_lt at c && (not m.over && not (is_asked c old.asks))))) (ap (λ (x : Node). is_captured x.place) (sym same) ∙ holds.free_then)
      by false e = bare c m (other_then c e ∙ here)

  changes : Changed (doing_by w patterns site main texts) nodes (doing_by w patterns site main texts) then at old new
  changes = record {
    there = there;
    then = at_then;
    captured = holds.free_then ∙ sym holds.free;
    parent = refl;
    others = λ j e. Same (other_then j e);
    acts = λ j n e. refl;
    heard = λ j n e. refl;
  }

  pub same_stances : (j : ℕ) → stance_in (doing_by w patterns site main texts) nodes most_levels j ≡ stance_in (doing_by w patterns site main texts) then most_levels j
  same_stances j = by (j == at) refl
    where
      line : (ns : List Node) (n : Node) → n.asks ≡ None → IsBare ns at n → line_from (doing_by w patterns site main texts) ns (suc most_levels) at n Nil ≡ under (withheld_text n.place) (Gives at n.left ((doing_by w patterns site main texts).act at n) Nil)
      line ns n none b = line_bare (doing_by w patterns site main texts) ns (suc most_levels) at n Nil none b

      its : stance_in (doing_by w patterns site main texts) nodes most_levels at ≡ stance_in (doing_by w patterns site main texts) then most_levels at
      its =
          ap (stance_of (doing_by w patterns site main texts) nodes most_levels at) there
          ∙ apart_is (doing_by w patterns site main texts) nodes most_levels at old holds.stub old.place holds.free holds.apart holds.was
          ∙ ap (λ l. Apart l holds.stub) (line nodes old free bare ∙ ap (λ t. under t (Gives at old.left ((doing_by w patterns site main texts).act at old) Nil)) (sym holds.text) ∙ sym (line then new free bare_then))
          ∙ sym (apart_is (doing_by w patterns site main texts) then most_levels at new holds.stub p holds.free_then holds.apart_then holds.is)
          ∙ sym (ap (stance_of (doing_by w patterns site main texts) then most_levels at) at_then)

      by : (b : Bool) → (j == at) ≡ b → stance_in (doing_by w patterns site main texts) nodes most_levels j ≡ stance_in (doing_by w patterns site main texts) then most_levels j
      by true e = ap (stance_in (doing_by w patterns site main texts) nodes most_levels) (eqb-true j at e) ∙ its ∙ ap (stance_in (doing_by w patterns site main texts) then most_levels) (sym (eqb-true j at e))
      by false e =
          others_are.changed_same (doing_by w patterns site main texts) nodes (doing_by w patterns site main texts) then most_levels at old new (sym (in_row_heard most_levels nodes at old holds.free)) changes most_levels at
          (λ i n on other here. absurd (false_true (sym other ∙ path_top most_levels nodes at old i holds.free on))) j e

pub stub_gathers : (stub text : List ℕ) → GathersAs (Stub stub text) (Gathers stub text)
stub_gathers stub text = record { stub = stub; was = refl; is = refl; free = refl; free_then = refl; apart = refl; apart_then = refl; text = refl }

pub gathers_frees : (stub text : List ℕ) → GathersAs (Gathers stub text) (Stub stub text)
gathers_frees stub text = record { stub = stub; was = refl; is = refl; free = refl; free_then = refl; apart = refl; apart_then = refl; text = refl }
