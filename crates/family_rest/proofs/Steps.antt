-- The steps of a family that any steps have led to.
use Rattle.std.proofs.Common.{◌≡◌, inl, ℕ, ◌+◌, arith, List, [], ◌∷◌, ◌++◌, take, None, refl, sym, ap, subst, ◌∙◌, append_assoc, append-nil}
use Rattle.file_tree.specs.Tree.{Tree}
use Rattle.acts.specs.Vars.{Vars}
use Rattle.race_meaning.specs.ngx_variables.declared.request.Main.{Main}
use Rattle.race_meaning.specs.ngx_variables.declared.request.Request.{Request}
use Rattle.family_meaning.specs.request_meaning.Serving.{World}
use Rattle.family_meaning.specs.request_meaning.Counts.{subs}
use Rattle.family_meaning.specs.request_meaning.Replies.{main_script, most_depth}
use Rattle.postpone_filter.specs.Row.{front_of}
use Rattle.family_meaning.specs.Line.{Left, rest, before}
use Rattle.race_meaning.specs.Named.{IsRaceless}
use Rattle.race_meaning.specs.Laws.{AreFit, IsReplyOf}
use Rattle.race_meaning.proofs.Mains.{solo_any}
use Rattle.family_order.specs.Items.{Family, IsWell, items_of, row_items, begun, leaving}
use Rattle.family_order.specs.Acts.{Acts, Goes}
use Rattle.family_order.specs.Acts.Acts.{Thinks, Reads, Learns, Places, Placed, Merges, Opens, Asks, Within, Hears, Ends, WithinStub, Keeps, Decides}
use Rattle.family_order.specs.Acts.Goes.{Stays, Acting, Leaving, Alike}
use Rattle.family_order.proofs.Wells.{well-use}
use Rattle.family_order.proofs.Goings.{shows_line}
use Rattle.family_order.proofs.Rests.{shown_rest}
use Rattle.family_rest.specs.Still.{line_of, still, subs_still}
use Rattle.family_rest.specs.Opened.{opened_by, opened_going}
use Rattle.family_rest.specs.Reached.{Reached}
use Rattle.family_rest.specs.Reached.Reached.{Starts, Acted, Left as Gone, Likened, Forgot}
use Rattle.family_rest.specs.Laws.{SameEnd, Went, ReachedStaysWell, StepsKeepStill}
use Rattle.family_rest.proofs.Lines.{shown, shows_it, still_items}
use Rattle.family_rest.proofs.Steady.{IsKept, kept_past, kept_back, kept_made, line_step}
use Rattle.family_rest.proofs.Rows.{begins, used_items, leaves, alike, counts_begin, counts_leaving, counts_alike}
use Rattle.family_rest.proofs.Counts.{none_more}
use Rattle.family_rest.proofs.Tables.{acts_count}

-- ---- what is reached

reached_well : (w : World) (f : Family) (vars : Vars) → Reached w f vars → IsWell f
reached_well w _ _ (Starts main request) = (shows_line.begins 0 1 most_depth (main_script w main request) (omega arith)).1
reached_well w _ _ (Acted {f} {g} {vars} {vars'} tree r a) = (shows_line.acts w tree f vars g vars' (shown f) (reached_well w f vars r) a (shows_it f)).well
reached_well w _ _ (Gone {f} {vars} count r) = well-use count f (reached_well w f vars r)
reached_well w _ _ (Likened {f} {g} {vars} a r) = a.well (reached_well w f vars r)
reached_well w _ _ (Forgot {f} {vars} r) = let h = reached_well w f vars r in record { row_is = h.row_is; root_is_shown = h.root_is_shown }

reached_goes : (w : World) (tree : Tree) (f : Family) (vars : Vars) (g : Family) (vars' : Vars) → Reached w f vars → Goes w tree f vars g vars' → Reached w g vars'
reached_goes w tree _ _ _ _ r Stays = r
reached_goes w tree _ _ _ _ r (Acting {f} {g} {h} {vars} {vars'} {vars''} a more) = reached_goes w tree g vars' h vars'' (Acted tree r a) more
reached_goes w tree _ _ _ _ r (Leaving {f} {h} {vars} {vars'} count more) = reached_goes w tree (leaving count f) vars h vars' (Gone count r) more
reached_goes w tree _ _ _ _ r (Alike {f} {g} {h} {vars} {vars'} a more) = reached_goes w tree g vars h vars' (Likened a r) more

pub stays_well : ReachedStaysWell
stays_well = record { well = reached_well; goes = reached_goes }

-- ---- where no variable is named

-- no step of a node makes bytes leave
acts_output : (w : World) (tree : Tree) (f : Family) (vars : Vars) (g : Family) (vars' : Vars) → Acts w tree f vars g vars' → f.output ≡ g.output
acts_output w tree _ _ _ _ (Thinks n d) = refl
acts_output w tree _ _ _ _ (Reads n d) = refl
acts_output w tree _ _ _ _ (Learns n d) = refl
acts_output w tree _ _ _ _ (Places n some more d) = refl
acts_output w tree _ _ _ _ (Placed n d) = refl
acts_output w tree _ _ _ _ (Merges n d) = refl
acts_output w tree _ _ _ _ (Opens n d) = refl
acts_output w tree _ _ _ _ (Asks n number d) = refl
acts_output w tree _ _ _ _ (Within n d m) = refl
acts_output w tree _ _ _ _ (Hears n reply d r) = refl
acts_output w tree _ _ _ _ (Ends n d k) = refl
acts_output w tree _ _ _ _ (WithinStub n d m) = refl
acts_output w tree _ _ _ _ (Keeps own stub ahead behind a b o well body some) = o
acts_output w tree _ _ _ _ (Decides n reply d r k) = refl

tail_is : {x y : ℕ} {xs ys : List ℕ} → x ∷ xs ≡ y ∷ ys → xs ≡ ys
tail_is e = cc

same_behind : (a b c : List ℕ) → a ++ b ≡ a ++ c → b ≡ c
same_behind [] b c e = e
same_behind (x ∷ a) b c e = same_behind a b c (tail_is e)

-- what the line comes to that a family shows
shown_still : (w : World) (tree : Tree) (f : Family) (vars : Vars) → rest w tree (shown f) None vars ≡ before f.output (still w tree f vars)
shown_still w tree f vars = shown_rest w tree f (shown f) vars (shows_it f) ∙ ap (before f.output) (sym (still_items w tree f vars))

module _ (w : World) (fit : AreFit w) (race : IsRaceless w.server) where
  record Step (tree : Tree) (f : Family) (vars : Vars) (g : Family) (vars' : Vars) : Type 0 where
    kept : IsKept w (line_of (items_of g)) vars'
    same : SameEnd (still w tree f vars) (still w tree g vars')

  step : (tree : Tree) (f : Family) (vars : Vars) (g : Family) (vars' : Vars) → IsWell f → IsKept w (line_of (items_of f)) vars → Acts w tree f vars g vars' → Step tree f vars g vars'
  step tree f vars g vars' h k a =
      let m = shows_line.acts w tree f vars g vars' (shown f) h a (shows_it f) in
      let s = line_step w fit race tree (shown f) m.next vars vars' m.moves (kept_past w f.output (items_of f) vars k) in
      let was = shown_still w tree f vars in
      let now = shown_rest w tree g m.next vars' m.shows ∙ ap (before g.output) (sym (still_items w tree g vars')) in
      record {
        kept = kept_back w g.output (items_of g) vars' (subst (λ xs. IsKept w (line_of xs) vars') m.shows (kept_made w m.next vars' s.kept));
        same = record {
          answer = sym (ap (λ (r : Left). r.answer) was) ∙ s.same.answer ∙ ap (λ (r : Left). r.answer) now;
          body = same_behind f.output (still w tree f vars).body (still w tree g vars').body
              (sym (ap (λ (r : Left). r.body) was) ∙ s.same.body ∙ ap (λ (r : Left). r.body) now
              ∙ ap (λ z. z ++ (still w tree g vars').body) (sym (acts_output w tree f vars g vars' a)));
        };
      }

  begun_kept : (main : Main) (request : Request) → IsKept w (line_of (items_of (begun w main request))) []
  unfolding line_of row_items
  begun_kept main request = inl (solo_any w fit race main request, refl)

  reached_kept : (f : Family) (vars : Vars) → Reached w f vars → IsKept w (line_of (items_of f)) vars
  reached_kept _ _ (Starts main request) = begun_kept main request
  reached_kept _ _ (Acted {f} {g} {vars} {vars'} tree r a) = (step tree f vars g vars' (reached_well w f vars r) (reached_kept f vars r) a).kept
  reached_kept _ _ (Gone {f} {vars} count r) =
      kept_back w (take count (front_of f.row.pieces)) (items_of (leaving count f)) vars
      (subst (λ xs. IsKept w (line_of xs) vars) (used_items count f) (reached_kept f vars r))
  reached_kept _ _ (Likened {f} {g} {vars} a r) = subst (λ xs. IsKept w (line_of xs) vars) a.items_are (reached_kept f vars r)
  reached_kept _ _ (Forgot {f} {vars} r) = reached_kept f vars r

  acts_still : (tree : Tree) (f : Family) (vars : Vars) (g : Family) (vars' : Vars) → Reached w f vars → Acts w tree f vars g vars' → SameEnd (still w tree f vars) (still w tree g vars')
  acts_still tree f vars g vars' r a = (step tree f vars g vars' (reached_well w f vars r) (reached_kept f vars r) a).same

  goes_still : (tree : Tree) (f : Family) (vars : Vars) (g : Family) (vars' : Vars) → Reached w f vars → Goes w tree f vars g vars' → Went f (still w tree f vars) g (still w tree g vars')
  goes_still tree _ _ _ _ r (Stays {f} {vars}) = record { bytes = []; output = sym (append-nil f.output); answer = refl; body = refl }
  goes_still tree _ _ _ _ r (Acting {f} {g} {h} {vars} {vars'} {vars''} a more) =
      let e = acts_still tree f vars g vars' r a in
      let k = goes_still tree g vars' h vars'' (Acted tree r a) more in
      record {
        bytes = k.bytes;
        output = k.output ∙ ap (λ z. z ++ k.bytes) (sym (acts_output w tree f vars g vars' a));
        answer = e.answer ∙ k.answer;
        body = e.body ∙ k.body;
      }
  goes_still tree _ _ _ _ r (Leaving {f} {h} {vars} {vars'} count more) =
      let gone = take count (front_of f.row.pieces) in
      let e = leaves w tree count f vars in
      let k = goes_still tree (leaving count f) vars h vars' (Gone count r) more in
      record {
        bytes = gone ++ k.bytes;
        output = k.output ∙ append_assoc f.output gone k.bytes;
        answer = ap (λ (r : Left). r.answer) e ∙ k.answer;
        body = ap (λ (r : Left). r.body) e ∙ ap (λ z. gone ++ z) k.body ∙ sym (append_assoc gone k.bytes (still w tree h vars').body);
      }
  goes_still tree _ _ _ _ r (Alike {f} {g} {h} {vars} {vars'} a more) =
      let e = alike w tree f g vars a in
      let k = goes_still tree g vars h vars' (Likened a r) more in
      record {
        bytes = k.bytes;
        output = k.output ∙ ap (λ z. z ++ k.bytes) (sym a.output_is);
        answer = ap (λ (r : Left). r.answer) e ∙ k.answer;
        body = ap (λ (r : Left). r.body) e ∙ k.body;
      }

  whole_still : (tree : Tree) (main : Main) (request : Request) (f : Family) (vars : Vars) → Goes w tree (begun w main request) [] f vars → IsReplyOf w tree main request (before f.output (still w tree f vars))
  whole_still tree main request f vars goes =
      let b = begins w tree main request in
      let k = goes_still tree (begun w main request) [] f vars (Starts main request) goes in
      record {
        answer = sym k.answer ∙ b.answer;
        body = ap (λ z. z ++ (still w tree f vars).body) k.output ∙ sym k.body ∙ b.body;
      }

  -- ---- subrequests that are opened and still asked for

  acts_subs : (tree : Tree) (f : Family) (vars : Vars) (g : Family) (vars' : Vars) → Reached w f vars → (a : Acts w tree f vars g vars') → subs_still w tree f vars ≡ opened_by a + subs_still w tree g vars'
  acts_subs tree f vars g vars' r a = acts_count w fit race tree f vars g vars' (reached_well w f vars r) (reached_kept f vars r) a

  both : (a b n : ℕ) → a + (b + n) ≡ a + b + n
  both a b n = omega arith

  goes_subs : (tree : Tree) (f : Family) (vars : Vars) (g : Family) (vars' : Vars) → Reached w f vars → (s : Goes w tree f vars g vars') → subs_still w tree f vars ≡ opened_going s + subs_still w tree g vars'
  goes_subs tree _ _ _ _ r (Stays {f} {vars}) = none_more (subs_still w tree f vars)
  goes_subs tree _ _ _ _ r (Acting {f} {g} {h} {vars} {vars'} {vars''} a more) =
      acts_subs tree f vars g vars' r a
      ∙ ap (λ z. opened_by a + z) (goes_subs tree g vars' h vars'' (Acted tree r a) more)
      ∙ both (opened_by a) (opened_going more) (subs_still w tree h vars'')
  goes_subs tree _ _ _ _ r (Leaving {f} {h} {vars} {vars'} count more) = counts_leaving w tree count f vars ∙ goes_subs tree (leaving count f) vars h vars' (Gone count r) more
  goes_subs tree _ _ _ _ r (Alike {f} {g} {h} {vars} {vars'} a more) = counts_alike w tree f g vars a ∙ goes_subs tree g vars h vars' (Likened a r) more

  whole_subs : (tree : Tree) (main : Main) (request : Request) (f : Family) (vars : Vars) → (s : Goes w tree (begun w main request) [] f vars) → subs w tree main request ≡ opened_going s + subs_still w tree f vars
  whole_subs tree main request f vars s = sym (counts_begin w tree main request) ∙ goes_subs tree (begun w main request) [] f vars (Starts main request) s

pub keep_still : StepsKeepStill
keep_still = record { acts = acts_still; goes = goes_still; whole = whole_still; counts = acts_subs; counts_going = goes_subs; counts_whole = whole_subs }
