-- A family's line, whose main request is alone still or each of whose nodes is steady, by what the family has.
use Rattle.std.proofs.Common.{◌≡◌, ◌⊎◌, inl, inr, ℕ, List, [], ◌∷◌, ◌++◌, map, None, ap}
use Rattle.file_tree.specs.Tree.{Tree}
use Rattle.acts.specs.Vars.{Vars}
use Rattle.family_meaning.specs.request_meaning.Serving.{World}
use Rattle.family_meaning.specs.Line.{Line, Left, rest}
use Rattle.family_meaning.specs.Line.Line.{Nil, Bytes, Gives, Waits, Stubs}
use Rattle.family_meaning.specs.Moves.{Moves}
use Rattle.family_meaning.specs.Moves.Runs.{Ends, Steps}
use Rattle.race_meaning.specs.Named.{IsRaceless}
use Rattle.race_meaning.specs.Steady.{Shared}
use Rattle.race_meaning.specs.Laws.{AreFit, shared}
use Rattle.race_meaning.proofs.Children.{child_steady, reply_same}
use Rattle.race_meaning.proofs.Lines.{SteadyLine, runs_keep}
use Rattle.race_meaning.proofs.Solos.{SoloLine, Begun, solo_moves}
use Rattle.family_order.specs.Items.{Item, items}
use Rattle.family_order.specs.Items.Item.{Byte}
use Rattle.family_rest.specs.Still.{line_of}
use Rattle.family_rest.specs.Laws.{SameEnd}

-- ---- bytes that come first make no difference, nor does how a line is made of what it has

module _ (s : Shared) where
  steady_past : (bytes : List ℕ) (xs : List Item) → SteadyLine s (line_of xs) → SteadyLine s (line_of (map Byte bytes ++ xs))
  unfolding line_of
  steady_past [] xs h = h
  steady_past (b ∷ bytes) xs h = steady_past bytes xs h

  steady_back : (bytes : List ℕ) (xs : List Item) → SteadyLine s (line_of (map Byte bytes ++ xs)) → SteadyLine s (line_of xs)
  unfolding line_of
  steady_back [] xs h = h
  steady_back (b ∷ bytes) xs h = steady_back bytes xs h

  steady_made : (line : Line) → SteadyLine s line → SteadyLine s (line_of (items line))
  unfolding line_of items
  steady_made Nil h = h
  steady_made (Bytes bytes line) h = steady_past bytes (items line) (steady_made line h)
  steady_made (Gives node left m line) h = (h.0, steady_made line h.1)
  steady_made (Waits node own left k line) h = (h.0, (h.1.0, steady_made line h.1.1))
  steady_made (Stubs own stub line) h = (h.0, steady_made line h.1)

module _ (w : World) where
  -- the main request is alone still, or each node is steady
  abbrev pub IsKept : Line → Vars → Type 0
  IsKept line v = SoloLine w line v ⊎ Begun w line v

  solo_past : (bytes : List ℕ) (xs : List Item) (v : Vars) → SoloLine w (line_of xs) v → SoloLine w (line_of (map Byte bytes ++ xs)) v
  unfolding line_of
  solo_past [] xs v h = h
  solo_past (b ∷ bytes) xs v h = solo_past bytes xs v h

  solo_back : (bytes : List ℕ) (xs : List Item) (v : Vars) → SoloLine w (line_of (map Byte bytes ++ xs)) v → SoloLine w (line_of xs) v
  unfolding line_of
  solo_back [] xs v h = h
  solo_back (b ∷ bytes) xs v h = solo_back bytes xs v h

  nil_made : (line : Line) → line ≡ Nil → line_of (items line) ≡ Nil
  unfolding line_of items
  nil_made line e = ap (λ l. line_of (items l)) e

  solo_made : (line : Line) (v : Vars) → SoloLine w line v → SoloLine w (line_of (items line)) v
  unfolding line_of items
  solo_made Nil v h = h
  solo_made (Bytes bytes line) v h = solo_past bytes (items line) v (solo_made line v h)
  solo_made (Gives node left m line) v h = (h.0, nil_made line h.1)
  solo_made (Waits node own left k line) v h = (h.0, nil_made line h.1)
  solo_made (Stubs own stub line) v h = absurd h

  begun_as : (line line' : Line) (v : Vars) → (b : Begun w line v) → (SteadyLine (shared w.server b.table b.main) line → SteadyLine (shared w.server b.table b.main) line') → Begun w line' v
  begun_as line line' v b f = record { is_so = b.is_so; main = b.main; table = b.table; has = b.has; agree = b.agree; steady = f b.steady }

  pub kept_past : (bytes : List ℕ) (xs : List Item) (v : Vars) → IsKept (line_of xs) v → IsKept (line_of (map Byte bytes ++ xs)) v
  kept_past bytes xs v (inl h) = inl (solo_past bytes xs v h)
  kept_past bytes xs v (inr h) = inr (begun_as (line_of xs) (line_of (map Byte bytes ++ xs)) v h (steady_past (shared w.server h.table h.main) bytes xs))

  pub kept_back : (bytes : List ℕ) (xs : List Item) (v : Vars) → IsKept (line_of (map Byte bytes ++ xs)) v → IsKept (line_of xs) v
  kept_back bytes xs v (inl h) = inl (solo_back bytes xs v h)
  kept_back bytes xs v (inr h) = inr (begun_as (line_of (map Byte bytes ++ xs)) (line_of xs) v h (steady_back (shared w.server h.table h.main) bytes xs))

  pub kept_made : (line : Line) (v : Vars) → IsKept line v → IsKept (line_of (items line)) v
  kept_made line v (inl h) = inl (solo_made line v h)
  kept_made line v (inr h) = inr (begun_as line (line_of (items line)) v h (steady_made (shared w.server h.table h.main) line))

  -- ---- a step, whichever tree answers it

  pub record LineStep (tree : Tree) (line : Line) (v : Vars) (line' : Line) (v' : Vars) : Type 0 where
    pub kept : IsKept line' v'
    pub same : SameEnd (rest w tree line None v) (rest w tree line' None v')

  pub line_step : AreFit w → IsRaceless w.server → (tree : Tree) (line line' : Line) (v v' : Vars) → Moves w tree line v line' v' → IsKept line v → LineStep tree line v line' v'
  line_step fit race tree line line' v v' m (inl h) =
      let g = solo_moves w tree (λ o main table has left c may. child_steady w fit o race main table has left c may) (λ o main table has left. reply_same w fit o race main table has tree left) line line' v v' m h in
      record {
        kept = g.next;
        same = record { answer = ap (λ (r : Left). r.answer) (g.exact None); body = ap (λ (r : Left). r.body) (g.exact None) };
      }
  line_step fit race tree line line' v v' m (inr b) =
      let k = runs_keep (shared w.server b.table b.main) w tree (λ left. reply_same w fit b.is_so race b.main b.table b.has tree left) (λ left c may. child_steady w fit b.is_so race b.main b.table b.has left c may)
      line line' v v' (Steps m Ends) b.steady b.agree in
      let same = k.same v v' None b.agree k.vars in
      record {
        kept = inr (record { is_so = b.is_so; main = b.main; table = b.table; has = b.has; agree = k.vars; steady = k.steady });
        same = record { answer = same.answer; body = same.body };
      }
