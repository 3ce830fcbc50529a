-- The place of a node in a line, and a step there.
use Rattle.std.proofs.Common.{◌≡◌, ℕ, true, List, [], ◌∷◌, ◌++◌, map, refl, sym, ap, ◌∙◌, append_assoc}
use Rattle.file_tree.specs.Tree.{Tree}
use Rattle.acts.specs.Vars.{Vars}
use Rattle.family_meaning.specs.request_meaning.Serving.{World, Serving, Reply, Answer}
use Rattle.family_meaning.specs.Line.{Line, joined}
use Rattle.family_meaning.specs.Line.Line.{Nil, Bytes, Gives, Waits, Stubs}
use Rattle.family_meaning.specs.Moves.{Quiet, Thinks, Moves}
use Rattle.family_meaning.specs.Moves.Quiet.{PastBytes, PastNode, PastWait, Within, PastStub, WithinStub}
use Rattle.family_meaning.specs.Moves.Thinks.{ThereBytes, ThereNode, ThereWait, InWait, ThereStub, InStub}
use Rattle.family_meaning.specs.Moves.Moves.{Quietly, ByTable}
use Rattle.family_order.specs.Items.{Stance, is_shown, Item, items, stance_items}
use Rattle.family_order.specs.Items.Stance.{Going, Waiting, Apart, Hidden}
use Rattle.family_order.specs.Items.Item.{Byte, Node, Stub}

head_is : {A : Type 0} {x y : A} {xs ys : List A} → x ∷ xs ≡ y ∷ ys → x ≡ y
head_is e = cc

tail_is : {A : Type 0} {x y : A} {xs ys : List A} → x ∷ xs ≡ y ∷ ys → xs ≡ ys
tail_is e = cc

-- the line with an item more before it, and with a node more
abbrev pub item_line : Item → Line → Line
item_line (Byte b) line = Bytes (b ∷ []) line
item_line (Node n (Going left m)) line = Gives n left m line
item_line (Node n (Waiting own left k)) line = Waits n own left k line
item_line (Node n (Apart own stub)) line = line
item_line (Node n Hidden) line = line
item_line (Stub own stub) line = Stubs own stub line

abbrev pub stance_line : ℕ → Stance → Line → Line
stance_line n (Going left m) line = Gives n left m line
stance_line n (Waiting own left k) line = Waits n own left k line
stance_line n (Apart own stub) line = Stubs own stub line
stance_line n Hidden line = line

pub items_stance : (n : ℕ) (s : Stance) (line : Line) → items (stance_line n s line) ≡ stance_items n s ++ items line
unfolding items
items_stance n (Going left m) line = refl
items_stance n (Waiting own left k) line = refl
items_stance n (Apart own stub) line = refl
items_stance n Hidden line = refl

abbrev IsNode : Item → Type 0
IsNode (Byte b) = ⊥
IsNode (Node n s) = Unit {0}
IsNode (Stub own stub) = Unit {0}

no_byte : {A : Type 0} (i : Item) (b : ℕ) → IsNode i → Byte b ≡ i → A
no_byte (Byte c) b k e = absurd k
no_byte (Node n s) b k e = cc
no_byte (Stub own stub) b k e = cc

-- bytes that come first come before a node's place
bytes_first : (bytes : List ℕ) (zs xs ys : List Item) (i : Item) → IsNode i → map Byte bytes ++ zs ≡ xs ++ (i ∷ ys) → (later : List Item) × (xs ≡ map Byte bytes ++ later) × (zs ≡ later ++ (i ∷ ys))
bytes_first [] zs xs ys i k e = (xs, refl, e)
bytes_first (b ∷ bytes) zs [] ys i k e = no_byte i b k (head_is e)
bytes_first (b ∷ bytes) zs (x ∷ xs) ys i k e =
    let p = bytes_first bytes zs xs ys i k (tail_is e) in
    (p.0, ap (λ y. y ∷ xs) (sym (head_is e)) ∙ ap (λ ys. Byte b ∷ ys) p.1, p.2)

-- A line that has more between two parts: the lines before it and after it.
pub record Parted (line : Line) (xs : List Item) (between : Line → Line) (ys : List Item) : Type 0 where
  pub before : Line
  pub behind : Line
  pub line_is : line ≡ joined before (between behind)
  pub before_is : items before ≡ xs
  pub behind_is : items behind ≡ ys

abbrev ItemParted : Line → List Item → Item → List Item → Type 0
ItemParted line xs i ys = Parted line xs (item_line i) ys

-- past what a line begins with
past : (line : Line) (wrap : Line → Line) (own xs later : List Item) (i : Item) (ys : List Item) →
    ((before other : Line) → wrap (joined before other) ≡ joined (wrap before) other) → ((before : Line) → items (wrap before) ≡ own ++ items before) →
    xs ≡ own ++ later → ItemParted line later i ys → ItemParted (wrap line) xs i ys
past line wrap own xs later i ys j k e q = record {
  before = wrap q.before;
  behind = q.behind;
  line_is = ap wrap q.line_is ∙ j q.before (item_line i q.behind);
  before_is = k q.before ∙ ap (λ zs. own ++ zs) q.before_is ∙ sym e;
  behind_is = q.behind_is;
}

here : (line : Line) (i j : Item) (ys : List Item) → j ≡ i → items line ≡ ys → ItemParted (item_line j line) [] i ys
unfolding items joined
here line i j ys e h = record {
  before = Nil;
  behind = line;
  line_is = ap (λ x. item_line x line) e;
  before_is = refl;
  behind_is = h;
}

pub place_item : (line : Line) (xs : List Item) (i : Item) (ys : List Item) → IsNode i → items line ≡ xs ++ (i ∷ ys) → ItemParted line xs i ys
unfolding items joined
place_item Nil [] i ys k e = cc
place_item Nil (x ∷ xs) i ys k e = cc
place_item (Bytes bytes line) xs i ys k e =
    let p = bytes_first bytes (items line) xs ys i k e in
    past line (Bytes bytes) (map Byte bytes) xs p.0 i ys (λ before other. refl) (λ before. refl) p.1 (place_item line p.0 i ys k p.2)
place_item (Gives node left m line) [] i ys k e = here line i (Node node (Going left m)) ys (head_is e) (tail_is e)
place_item (Gives node left m line) (x ∷ xs) i ys k e =
    past line (Gives node left m) (Node node (Going left m) ∷ []) (x ∷ xs) xs i ys (λ before other. refl) (λ before. refl) (ap (λ y. y ∷ xs) (sym (head_is e))) (place_item line xs i ys k (tail_is e))
place_item (Waits node own left f line) [] i ys k e = here line i (Node node (Waiting own left f)) ys (head_is e) (tail_is e)
place_item (Waits node own left f line) (x ∷ xs) i ys k e =
    past line (Waits node own left f) (Node node (Waiting own left f) ∷ []) (x ∷ xs) xs i ys (λ before other. refl) (λ before. refl) (ap (λ y. y ∷ xs) (sym (head_is e))) (place_item line xs i ys k (tail_is e))
place_item (Stubs own stub line) [] i ys k e = here line i (Stub own stub) ys (head_is e) (tail_is e)
place_item (Stubs own stub line) (x ∷ xs) i ys k e =
    past line (Stubs own stub) (Stub own stub ∷ []) (x ∷ xs) xs i ys (λ before other. refl) (λ before. refl) (ap (λ y. y ∷ xs) (sym (head_is e))) (place_item line xs i ys k (tail_is e))

-- the place of a node that is shown
pub place : (line : Line) (xs : List Item) (n : ℕ) (s : Stance) (ys : List Item) → is_shown s ≡ true → items line ≡ xs ++ (stance_items n s ++ ys) → Parted line xs (stance_line n s) ys
place line xs n (Going left m) ys h e = place_item line xs (Node n (Going left m)) ys tt e
place line xs n (Waiting own left k) ys h e = place_item line xs (Node n (Waiting own left k)) ys tt e
place line xs n (Apart own stub) ys h e = place_item line xs (Stub own stub) ys tt e
place line xs n Hidden ys h e = cc

pub items-joined : (a b : Line) → items (joined a b) ≡ items a ++ items b
unfolding items joined
items-joined Nil b = refl
items-joined (Bytes bytes a) b = ap (λ zs. map Byte bytes ++ zs) (items-joined a b) ∙ sym (append_assoc (map Byte bytes) (items a) (items b))
items-joined (Gives node left m a) b = ap (λ zs. Node node (Going left m) ∷ zs) (items-joined a b)
items-joined (Waits node own left k a) b = ap (λ zs. Node node (Waiting own left k) ∷ zs) (items-joined a b)
items-joined (Stubs own stub a) b = ap (λ zs. Stub own stub ∷ zs) (items-joined a b)

-- ---- steps

module _ (w : World) (tree : Tree) where
  quiet_past : (a b c : Line) → Quiet w tree b c → Quiet w tree (joined a b) (joined a c)
  unfolding joined
  quiet_past Nil b c q = q
  quiet_past (Bytes bytes a) b c q = PastBytes (quiet_past a b c q)
  quiet_past (Gives node left m a) b c q = PastNode (quiet_past a b c q)
  quiet_past (Waits node own left k a) b c q = PastWait (quiet_past a b c q)
  quiet_past (Stubs own stub a) b c q = PastStub (quiet_past a b c q)

  pub thinks_past : (a b c : Line) (vars vars' : Vars) → Thinks b vars c vars' → Thinks (joined a b) vars (joined a c) vars'
  unfolding joined
  thinks_past Nil b c vars vars' t = t
  thinks_past (Bytes bytes a) b c vars vars' t = ThereBytes (thinks_past a b c vars vars' t)
  thinks_past (Gives node left m a) b c vars vars' t = ThereNode (thinks_past a b c vars vars' t)
  thinks_past (Waits node own left k a) b c vars vars' t = ThereWait (thinks_past a b c vars vars' t)
  thinks_past (Stubs own stub a) b c vars vars' t = ThereStub (thinks_past a b c vars vars' t)

  -- a step of a line after another
  pub moves_past : (a b c : Line) (vars vars' : Vars) → Moves w tree b vars c vars' → Moves w tree (joined a b) vars (joined a c) vars'
  moves_past a _ _ _ _ (Quietly {line} {line'} q) = Quietly (quiet_past a line line' q)
  moves_past a _ _ _ _ (ByTable {line} {line'} {vars} {vars'} t) = ByTable (thinks_past a line line' vars vars' t)

  -- a step of the line of a subrequest for which a node waits
  pub moves_within : (node left : ℕ) (own own' line : Line) (k : Reply → Serving Answer) (vars vars' : Vars) → Moves w tree own vars own' vars' →
      Moves w tree (Waits node own left k line) vars (Waits node own' left k line) vars'
  moves_within node left _ _ line k _ _ (Quietly q) = Quietly (Within q)
  moves_within node left _ _ line k _ _ (ByTable t) = ByTable (InWait t)

  -- a step of the line of a subrequest with a stub
  pub moves_stub : (own own' line : Line) (stub : List ℕ) (vars vars' : Vars) → Moves w tree own vars own' vars' → Moves w tree (Stubs own stub line) vars (Stubs own' stub line) vars'
  moves_stub _ _ line stub _ _ (Quietly q) = Quietly (WithinStub q)
  moves_stub _ _ line stub _ _ (ByTable t) = ByTable (InStub t)
