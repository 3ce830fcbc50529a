-- Steps of a family, one or many, as those of the line that it shows.
use Rattle.std.proofs.Common.{◌≡◌, ℕ, zero, suc, ◌<◌, List, [], ◌∷◌, ◌++◌, map, take, drop, refl, sym, ap, ◌∙◌, append_assoc, take-append-drop, if◌then◌else◌}
use Rattle.file_tree.specs.Tree.{Tree}
use Rattle.acts.specs.Vars.{Vars}
use Rattle.family_meaning.specs.request_meaning.Serving.{World, Serving, Answer}
use Rattle.postpone_filter.specs.Row.{Piece, front_of, clean, shorter}
use Rattle.family_meaning.specs.Line.{Line}
use Rattle.family_meaning.specs.Line.Line.{Nil, Gives}
use Rattle.family_meaning.specs.Moves.Runs.{Ends, Steps}
use Rattle.family_order.specs.Items.{Stance, stance_items, Family, Shows, IsWell, IsAlike, alone, items_of, items, row_items, leaving}
use Rattle.family_order.specs.Items.Item.{Byte}
use Rattle.family_order.specs.Items.Stance.{Going}
use Rattle.family_order.specs.Acts.{Acts, Goes}
use Rattle.family_order.specs.Acts.Acts.{Thinks, Reads, Learns, Places, Placed, Merges, Opens, Asks, Within, Hears, Ends as Over, WithinStub, Keeps, Decides}
use Rattle.family_order.specs.Acts.Goes.{Stays, Acting, Leaving, Alike}
use Rattle.family_order.specs.Laws.{Moved, Ran, RowShowsLine}
use Rattle.family_order.proofs.Rows.{row_items-clean}
use Rattle.family_order.proofs.Wells.{begun-well, well-use}
use Rattle.family_order.proofs.Stubs.{joins}
use Rattle.family_order.proofs.Shown.{map-append, thinks, reads, learns, places_none, places, merges, opens, asks, within, hears, ends, within_stub, keeps, decides}

acts_move : (w : World) (tree : Tree) (f : Family) (vars : Vars) (f' : Family) (vars' : Vars) (line : Line) → IsWell f → Acts w tree f vars f' vars' → Shows f line → Moved w tree line vars f' vars'
acts_move w tree _ _ _ _ line h (Thinks {f} {vars} {left} {m} n d) e = thinks w tree f line vars h e n left m d
acts_move w tree _ _ _ _ line h (Reads {f} {vars} {left} {name} {k} n d) e = reads w tree f line vars h e n left name k d
acts_move w tree _ _ _ _ line h (Learns {f} {vars} {left} {path} {k} n d) e = learns w tree f line vars h e n left path k d
acts_move w tree _ _ _ _ line h (Places {f} {vars} {left} {m} n some more d) e = places w tree f line vars h e n left some more m d
acts_move w tree _ _ _ _ line h (Placed {f} {vars} {left} {m} n d) e = places_none w tree f line vars h e n left m d
acts_move w tree _ _ _ _ line h (Merges {f} {vars} {left} {first} {second} {m} n d) e = merges w tree f line vars h e n left first second m d
acts_move w tree _ _ _ _ line h (Opens {f} {vars} {left} {child} {m} n d) e = opens w tree f line vars h e n left child m d
acts_move w tree _ _ _ _ line h (Asks {f} {vars} {left} {child} {k} n number d) e = asks w tree f line vars h e n number left child k d
acts_move w tree _ _ _ _ line h (Within {f} {vars} {vars'} {own} {own'} {left} {k} n d m) e = within w tree f line vars h e n left own own' k vars' d m
acts_move w tree _ _ _ _ line h (Hears {f} {vars} {own} {left} {k} n reply d r) e = hears w tree f line vars h e n left own k reply d r
acts_move w tree _ _ _ _ line h (Over {f} {vars} {left} {answer} n d k) e = ends w tree f line vars h e n left answer d k
acts_move w tree _ _ _ _ line h (WithinStub {f} {vars} {vars'} {own} {own'} {stub} n d m) e = within_stub w tree f line vars h e n own own' stub vars' d m
acts_move w tree _ _ _ _ line h (Keeps {f} {g} {vars} own stub ahead behind a b o well body some) e = keeps w tree f line vars h e g own stub ahead behind a b o well body some
acts_move w tree _ _ _ _ line h (Decides {f} {vars} {own} {stub} n reply d r k) e = decides w tree f line vars h e n own stub reply d r k

-- what leaves was in the row
pub used_row : (stance : ℕ → Stance) (count : ℕ) (ps : List Piece) → row_items stance ps ≡ map Byte (take count (front_of ps)) ++ row_items stance (shorter count ps)
unfolding row_items front_of shorter
used_row stance count [] = sym (ap (λ z. map Byte z ++ []) (none count))
  where
    none : (n : ℕ) → ◌≡◌ {A = List ℕ} (take n []) []
    none zero = refl
    none (suc n) = refl
used_row stance count (p ∷ ps) =
    let later = (if p.grows then stance_items p.node (stance p.node) else []) ++ row_items stance ps in
    ap (λ z. map Byte z ++ later) (sym (take-append-drop count p.bytes))
    ∙ ap (λ z. z ++ later) (map-append (take count p.bytes) (drop count p.bytes))
    ∙ append_assoc (map Byte (take count p.bytes)) (map Byte (drop count p.bytes)) later

leaves_line : (count : ℕ) (f : Family) (line : Line) → Shows f line → Shows (leaving count f) line
leaves_line count f line e =
    let gone = take count (front_of f.row.pieces) in
    let rest = row_items f.stance (clean (shorter count f.row.pieces)) in
    e
    ∙ ap (λ z. map Byte f.output ++ z) (used_row f.stance count f.row.pieces ∙ ap (λ z. map Byte gone ++ z) (sym (row_items-clean f.stance (shorter count f.row.pieces))))
    ∙ sym (append_assoc (map Byte f.output) (map Byte gone) rest)
    ∙ ap (λ z. z ++ rest) (sym (map-append f.output gone))

alike_line : (f g : Family) (line : Line) → IsAlike f g → Shows f line → Shows g line
alike_line f g line a e = e ∙ ap (λ z. map Byte f.output ++ z) a.items_are ∙ ap (λ z. map Byte z ++ items_of g) a.output_is

pub goes_run : (w : World) (tree : Tree) (f : Family) (vars : Vars) (f' : Family) (vars' : Vars) (line : Line) → IsWell f → Goes w tree f vars f' vars' → Shows f line → Ran w tree line vars f' vars'
goes_run w tree _ _ _ _ line h Stays e = record { next = line; runs = Ends; shows = e; well = h }
goes_run w tree _ _ _ _ line h (Acting {f} {g} {h = last} {vars} {vars'} {vars''} a more) e =
    let m = acts_move w tree f vars g vars' line h a e in
    let r = goes_run w tree g vars' last vars'' m.next m.well more m.shows in
    record { next = r.next; runs = Steps m.moves r.runs; shows = r.shows; well = r.well }
goes_run w tree _ _ _ _ line h (Leaving {f} {h = last} {vars} {vars'} count more) e =
    goes_run w tree (leaving count f) vars last vars' line (well-use count f h) more (leaves_line count f line e)
goes_run w tree _ _ _ _ line h (Alike {f} {g} {h = last} {vars} {vars'} a more) e =
    goes_run w tree g vars last vars' line (a.well h) more (alike_line f g line a e)

-- steps and then others
goes_both : (w : World) (tree : Tree) (f : Family) (vars : Vars) (g : Family) (vars' : Vars) (h : Family) (vars'' : Vars) → Goes w tree f vars g vars' → Goes w tree g vars' h vars'' → Goes w tree f vars h vars''
goes_both w tree _ _ _ _ h vars'' Stays y = y
goes_both w tree _ _ _ _ last end (Acting {f} {g} {h} {vars} {vars'} {vars''} a more) y = Acting a (goes_both w tree g vars' h vars'' last end more y)
goes_both w tree _ _ _ _ last end (Leaving {f} {h} {vars} {vars'} count more) y = Leaving count (goes_both w tree (leaving count f) vars h vars' last end more y)
goes_both w tree _ _ _ _ last end (Alike {f} {g} {h} {vars} {vars'} a more) y = Alike a (goes_both w tree g vars h vars' last end more y)

-- the start
pub begun_line : (root nodes left : ℕ) (m : Serving Answer) → root < nodes → Shows (alone root nodes (Going left m)) (Gives root left m Nil) × IsWell (alone root nodes (Going left m))
unfolding items row_items
begun_line root nodes left m h = (refl, record { row_is = begun-well root nodes h; root_is_shown = refl })

pub shows_line : RowShowsLine
shows_line = record { begins = begun_line; acts = acts_move; leaves = leaves_line; alike = alike_line; goes = goes_run; joins = joins; both = goes_both }
