-- Each file that is read is whole in what is put.
use Rattle.std.proofs.Common.{◌≡◌, ℕ, zero, suc, ◌+◌, ◌≤◌, ◌<◌, Bool, true, false, cond, ltb, leb, List, [], ◌∷◌, ◌++◌, length, filter, get_or, Option, Some, None, is_none, Result, Ok, Err, refl, ap, sym, subst, ◌∙◌, arith, ⊎_elim, append_assoc, append-nil, length-append, eq-eqb, ne_eqb}
use Rattle.std.specs.List.{AllByRecursion}
use Rattle.std.proofs.lemmas.Bool.{cond-true, cond-false, cases_Bool, ltb-true, ltb-false}
use Rattle.file_tree.specs.Tree.{Tree, Item, AFile, AFolder, ALocked, Nothing}
use Rattle.conf_text.specs.declared.directive.Directive.{Directive}
use Rattle.conf_text.specs.declared.fault.ConfFault.{ConfFault}
use Rattle.conf_text.specs.declared.fault.FaultKind.TheVariants.{TooMany}
use Rattle.conf_text.specs.declared.statement.Statement.{Statement}
use Rattle.conf_text.specs.declared.statement.Statement.TheVariants.{Bare, Led}
use Rattle.conf_text.specs.declared.token.Sign.TheVariants.{Semicolon, Open, Close, End, Wrong}
use Rattle.conf_text.specs.Reading.{with_first, directives, reading}
use Rattle.conf_text.specs.Statements.{statements}
use Rattle.conf_text.specs.Tokens.{tokens}
use Rattle.conf_include.specs.Listings.{Names}
use Rattle.conf_include.specs.Expansion.{Spot, spot, Tally, tally, Expansion, ◌>>=◌, deepened, deeper, include_word, with_paths, text_in, directives_in, next_number, most_deep, most_files, fault_about, named_by, put_all, put_word, put_line, put_lines, open_file, put_file, open_main, put_main, located, expansion}
use Rattle.conf_include.proofs.PutLaws.{deeper-deeper, deeper_none, all_cons, all_nil}
use Rattle.conf_include.specs.Laws.{is_of, is_plain, StandsWhole, HasFilesWhole, FilesStandWhole}

-- the directives of the file of a number
abbrev pub own_of : ℕ → List Directive → List Directive
own_of n lines = filter (is_of n) lines

own_by : (n : ℕ) (t : Bool) (x : Directive) (a b c : List Directive) → a ≡ b ++ c → cond t (x ∷ a) a ≡ cond t (x ∷ b) b ++ c
own_by n true x a b c h = ap (λ l. x ∷ l) h
own_by n false x a b c h = h

own_append : (n : ℕ) (xs ys : List Directive) → own_of n (xs ++ ys) ≡ own_of n xs ++ own_of n ys
own_append n [] ys = refl
own_append n (x ∷ xs) ys = own_by n (is_of n x) x (own_of n (xs ++ ys)) (own_of n xs) (own_of n ys) (own_append n xs ys)

own_both : (n : ℕ) (xs ys : List Directive) → own_of n xs ≡ [] → own_of n ys ≡ [] → own_of n (xs ++ ys) ≡ []
own_both n xs ys h k = own_append n xs ys ∙ rw (h, k) refl

own_left : (n : ℕ) (xs ys : List Directive) → own_of n ys ≡ [] → own_of n (xs ++ ys) ≡ own_of n xs
own_left n xs ys h = own_append n xs ys ∙ ap (λ l. own_of n xs ++ l) h ∙ append-nil (own_of n xs)

own_right : (n : ℕ) (xs ys : List Directive) → own_of n xs ≡ [] → own_of n (xs ++ ys) ≡ own_of n ys
own_right n xs ys h = own_append n xs ys ∙ ap (λ l. l ++ own_of n ys) h

deep_by : (k : ℕ) (t : Bool) (x : Directive) (a b : List Directive) → a ≡ deeper k b → cond t (deepened k x ∷ a) a ≡ deeper k (cond t (x ∷ b) b)
deep_by k true x a b h = ap (λ l. deepened k x ∷ l) h
deep_by k false x a b h = h

own_deeper : (n k : ℕ) (xs : List Directive) → own_of n (deeper k xs) ≡ deeper k (own_of n xs)
own_deeper n k [] = refl
own_deeper n k (x ∷ xs) = deep_by k (is_of n x) x (own_of n (deeper k xs)) (own_of n xs) (own_deeper n k xs)

-- a path by its number, where more were read
pub path_before : (ps more : List (List ℕ)) (n : ℕ) → n < length ps → get_or (ps ++ more) n [] ≡ get_or ps n []
path_before [] more n h = absurd (omega arith)
path_before (p ∷ ps) more zero h = refl
path_before (p ∷ ps) more (suc n) h = path_before ps more n (omega arith)

path_at_end : (ps more : List (List ℕ)) (p : List ℕ) → get_or ((ps ++ p ∷ []) ++ more) (length ps) [] ≡ p
path_at_end [] more p = refl
path_at_end (q ∷ ps) more p = path_at_end ps more p

-- the directives of one text are of its number

abbrev OwnIf : ℕ → Result (List Directive) ConfFault → Type 0
OwnIf m (Ok ds) = AllByRecursion (λ d. d.file ≡ m) ds
OwnIf m (Err f) = Unit {0}

first_if : (m : ℕ) (d : Directive) (r : Result (List Directive) ConfFault) → d.file ≡ m → OwnIf m r → OwnIf m (with_first d r)
first_if m d (Ok ds) h k = (h, k)
first_if m d (Err f) h k = tt

test_if : (m : ℕ) (t : Bool) (r : Result (List Directive) ConfFault) (f : ConfFault) → OwnIf m r → OwnIf m (cond t r (Err f))
test_if m true r f h = h
test_if m false r f h = tt

own_if : (m depth : ℕ) (ss : List Statement) → OwnIf m (directives m depth ss)
unfolding directives
own_if m depth [] = tt
own_if m depth (Led line name args Semicolon at ∷ more) = first_if m _ (directives m depth more) refl (own_if m depth more)
own_if m depth (Led line name args Open at ∷ more) = test_if m (ltb depth 32) _ _ (first_if m _ (directives m (depth + 1) more) refl (own_if m (depth + 1) more))
own_if m depth (Led line name args Close at ∷ more) = tt
own_if m depth (Led line name args End at ∷ more) = tt
own_if m depth (Led line name args (Wrong kind) at ∷ more) = tt
own_if m depth (Bare Semicolon at ∷ more) = tt
own_if m depth (Bare Open at ∷ more) = tt
own_if m zero (Bare Close at ∷ more) = tt
own_if m (suc depth) (Bare Close at ∷ more) = own_if m depth more
own_if m zero (Bare End at ∷ more) = tt
own_if m (suc depth) (Bare End at ∷ more) = tt
own_if m depth (Bare (Wrong kind) at ∷ more) = tt

pub reading_own : (m : ℕ) (bytes : List ℕ) (own : List Directive) → reading m bytes ≡ Ok own → AllByRecursion (λ d. d.file ≡ m) own
unfolding reading
reading_own m bytes own h = subst (OwnIf m) h (own_if m 0 (statements (tokens 0 1 bytes)))

-- what was read from one moment to another

pub record Grown (tree : Tree) (t u : Tally) (out : List Directive) : Type 0 where
  pub more : List (List ℕ)
  pub paths : u.paths ≡ t.paths ++ more
  pub before : (n : ℕ) → n < length t.paths → own_of n out ≡ []
  pub beyond : (n : ℕ) → length u.paths ≤ n → own_of n out ≡ []
  pub whole : (n : ℕ) → length t.paths ≤ n → n < length u.paths → StandsWhole tree u.paths out n

grown_none : (tree : Tree) (t : Tally) → Grown tree t t []
grown_none tree t = record { more = []; paths = sym (append-nil t.paths); before = λ n h. refl; beyond = λ n h. refl; whole = λ n h k. absurd (omega (arith, h, k)) }

longer : (tree : Tree) (t u : Tally) (out : List Directive) → Grown tree t u out → length t.paths ≤ length u.paths
longer tree t u out h = let e = ap length h.paths in omega (arith, e, length-append t.paths h.more)

stands_wider : (tree : Tree) (ps more : List (List ℕ)) (qs : List (List ℕ)) (a lines : List Directive) (n : ℕ) → qs ≡ ps ++ more → n < length ps → own_of n lines ≡ own_of n a → StandsWhole tree ps a n → StandsWhole tree qs lines n
stands_wider tree ps more qs a lines n is within same h = record {
  bytes = h.bytes;
  date = h.date;
  own = h.own;
  around = h.around;
  there = ap tree (ap (λ l. get_or l n []) is ∙ path_before ps more n within) ∙ h.there;
  read = h.read;
  whole = same ∙ h.whole;
}

stands_same : (tree : Tree) (qs : List (List ℕ)) (b lines : List Directive) (n : ℕ) → own_of n lines ≡ own_of n b → StandsWhole tree qs b n → StandsWhole tree qs lines n
stands_same tree qs b lines n same h = record { bytes = h.bytes; date = h.date; own = h.own; around = h.around; there = h.there; read = h.read; whole = same ∙ h.whole }

stands_deeper : (tree : Tree) (qs : List (List ℕ)) (a : List Directive) (k n : ℕ) → StandsWhole tree qs a n → StandsWhole tree qs (deeper k a) n
stands_deeper tree qs a k n h = record {
  bytes = h.bytes;
  date = h.date;
  own = h.own;
  around = k + h.around;
  there = h.there;
  read = h.read;
  whole = own_deeper n k a ∙ ap (deeper k) h.whole ∙ deeper-deeper k h.around (filter is_plain h.own);
}

grown_append : (tree : Tree) (t u v : Tally) (a b : List Directive) → Grown tree t u a → Grown tree u v b → Grown tree t v (a ++ b)
grown_append tree t u v a b h k =
    let up = longer tree t u a h in
    let on = longer tree u v b k in
    record {
      more = h.more ++ k.more;
      paths = k.paths ∙ ap (λ l. l ++ k.more) h.paths ∙ append_assoc t.paths h.more k.more;
      before = λ n i. own_both n a b (h.before n i) (k.before n (omega (arith, i, up)));
      beyond = λ n i. own_both n a b (h.beyond n (omega (arith, i, on))) (k.beyond n i);
      whole = λ n i j. ⊎_elim
          (λ e. let early = ltb-true n (length u.paths) e in
          stands_wider tree u.paths k.more v.paths a (a ++ b) n k.paths early (own_left n a b (k.before n early)) (h.whole n i early))
          (λ e. let late = ltb-false n (length u.paths) e in
          stands_same tree v.paths b (a ++ b) n (own_right n a b (h.beyond n late)) (k.whole n late j))
          (cases_Bool (ltb n (length u.paths)));
    }

deeper_empty : (k n : ℕ) (a : List Directive) → own_of n a ≡ [] → own_of n (deeper k a) ≡ []
deeper_empty k n a h = own_deeper n k a ∙ ap (deeper k) h

grown_deeper : (tree : Tree) (t u : Tally) (a : List Directive) (k : ℕ) → Grown tree t u a → Grown tree t u (deeper k a)
grown_deeper tree t u a k h = record {
  more = h.more;
  paths = h.paths;
  before = λ n i. deeper_empty k n a (h.before n i);
  beyond = λ n i. deeper_empty k n a (h.beyond n i);
  whole = λ n i j. stands_deeper tree u.paths a k n (h.whole n i j);
}

abbrev pub GrownIf : Tree → Tally → Expansion → Type 0
GrownIf tree t (Ok x) = Grown tree t x.1 x.0
GrownIf tree t (Err e) = Unit {0}

-- files, one after another

grown_rest : (tree : Tree) (t u : Tally) (a : List Directive) (o : Expansion) → Grown tree t u a → GrownIf tree u o → GrownIf tree t (o >>= λ rest. Ok (a ++ rest.0, rest.1))
grown_rest tree t u a (Ok x) h k = grown_append tree t u x.1 a x.0 h k
grown_rest tree t u a (Err e) h k = tt

grown_first : (tree : Tree) (t : Tally) (o : Expansion) (put : Tally → Expansion) → GrownIf tree t o → ((u : Tally) → GrownIf tree u (put u)) → GrownIf tree t (o >>= λ first. put first.1 >>= λ rest. Ok (first.0 ++ rest.0, rest.1))
grown_first tree t (Ok x) put h k = grown_rest tree t x.1 x.0 (put x.1) h (k x.1)
grown_first tree t (Err e) put h k = tt

files_grown : (tree : Tree) (file : List ℕ → Tally → Expansion) → ((path : List ℕ) (t : Tally) → GrownIf tree t (file path t)) → (paths : List (List ℕ)) (t : Tally) → GrownIf tree t (put_all file paths t)
files_grown tree file each [] t = subst (GrownIf tree t) (sym (all_nil file t)) (grown_none tree t)
files_grown tree file each (p ∷ ps) t =
    subst (GrownIf tree t) (sym (all_cons file p ps t)) (grown_first tree t (file p t) (put_all file ps) (each p t) (λ u. files_grown tree file each ps u))

-- the directives of the file of a number

pub record LinesGrown (tree : Tree) (m : ℕ) (own : List Directive) (t u : Tally) (out : List Directive) : Type 0 where
  pub more : List (List ℕ)
  pub paths : u.paths ≡ t.paths ++ more
  pub itself : own_of m out ≡ filter is_plain own
  pub before : (n : ℕ) → n < length t.paths → (n ≡ m → ⊥) → own_of n out ≡ []
  pub beyond : (n : ℕ) → length u.paths ≤ n → own_of n out ≡ []
  pub whole : (n : ℕ) → length t.paths ≤ n → n < length u.paths → StandsWhole tree u.paths out n

lines_none : (tree : Tree) (m : ℕ) (t : Tally) → LinesGrown tree m [] t t []
lines_none tree m t = record { more = []; paths = sym (append-nil t.paths); itself = refl; before = λ n h k. refl; beyond = λ n h. refl; whole = λ n h k. absurd (omega (arith, h, k)) }

lines_longer : (tree : Tree) (m : ℕ) (own : List Directive) (t u : Tally) (out : List Directive) → LinesGrown tree m own t u out → length t.paths ≤ length u.paths
lines_longer tree m own t u out h = let e = ap length h.paths in omega (arith, e, length-append t.paths h.more)

plain_by : (t : Bool) (x : Directive) (a b c : List Directive) → a ≡ b ++ c → cond t (x ∷ a) a ≡ cond t (x ∷ b) b ++ c
plain_by true x a b c h = ap (λ l. x ∷ l) h
plain_by false x a b c h = h

plain_append : (xs ys : List Directive) → filter is_plain (xs ++ ys) ≡ filter is_plain xs ++ filter is_plain ys
plain_append [] ys = refl
plain_append (x ∷ xs) ys = plain_by (is_plain x) x (filter is_plain (xs ++ ys)) (filter is_plain xs) (filter is_plain ys) (plain_append xs ys)

lines_append : (tree : Tree) (m : ℕ) (xs ys : List Directive) (t u v : Tally) (a b : List Directive) → m < length t.paths → LinesGrown tree m xs t u a → LinesGrown tree m ys u v b → LinesGrown tree m (xs ++ ys) t v (a ++ b)
lines_append tree m xs ys t u v a b early h k =
    let up = lines_longer tree m xs t u a h in
    let on = lines_longer tree m ys u v b k in
    record {
      more = h.more ++ k.more;
      paths = k.paths ∙ ap (λ l. l ++ k.more) h.paths ∙ append_assoc t.paths h.more k.more;
      itself = own_append m a b ∙ rw (h.itself, k.itself) (sym (plain_append xs ys));
      before = λ n i other. own_both n a b (h.before n i other) (k.before n (omega (arith, i, up)) other);
      beyond = λ n i. own_both n a b (h.beyond n (omega (arith, i, on))) (k.beyond n i);
      whole = λ n i j. ⊎_elim
          (λ e. let soon = ltb-true n (length u.paths) e in
          stands_wider tree u.paths k.more v.paths a (a ++ b) n k.paths soon (own_left n a b (k.before n soon (λ same. omega (arith, i, early, same)))) (h.whole n i soon))
          (λ e. let late = ltb-false n (length u.paths) e in
          stands_same tree v.paths b (a ++ b) n (own_right n a b (h.beyond n late)) (k.whole n late j))
          (cases_Bool (ltb n (length u.paths)));
    }

abbrev pub LinesIf : Tree → ℕ → List Directive → Tally → Expansion → Type 0
LinesIf tree m own t (Ok x) = LinesGrown tree m own t x.1 x.0
LinesIf tree m own t (Err e) = Unit {0}

own_one : (n : ℕ) (d : Directive) → (d.file ≡ n → ⊥) → own_of n (d ∷ []) ≡ []
own_one n d h = cond-false _ _ _ (ne_eqb d.file n h)

-- a directive that is no include
plain_grown : (tree : Tree) (m : ℕ) (d : Directive) (t : Tally) → m < length t.paths → d.file ≡ m → is_plain d ≡ true → LinesGrown tree m (d ∷ []) t t (d ∷ [])
plain_grown tree m d t early is plain = record {
  more = [];
  paths = sym (append-nil t.paths);
  itself = cond-true (is_of m d) (d ∷ []) [] (eq-eqb d.file m is) ∙ sym (cond-true (is_plain d) (d ∷ []) [] plain);
  before = λ n i other. own_one n d (λ h. other (sym h ∙ is));
  beyond = λ n i. own_one n d (λ h. omega (arith, h, is, early, i));
  whole = λ n i j. absurd (omega (arith, i, j));
}

-- an include, with the files in its place
include_grown : (tree : Tree) (m : ℕ) (d : Directive) (t u : Tally) (a : List Directive) (k : ℕ) → m < length t.paths → is_plain d ≡ false → Grown tree t u a → LinesGrown tree m (d ∷ []) t u (deeper k a)
include_grown tree m d t u a k early include h =
    let g = grown_deeper tree t u a k h in
    record {
      more = g.more;
      paths = g.paths;
      itself = g.before m early ∙ sym (cond-false (is_plain d) (d ∷ []) [] include);
      before = λ n i other. g.before n i;
      beyond = g.beyond;
      whole = g.whole;
    }

included : (tree : Tree) (m : ℕ) (d : Directive) (t : Tally) (k : ℕ) (o : Expansion) → m < length t.paths → is_plain d ≡ false → GrownIf tree t o → LinesIf tree m (d ∷ []) t (o >>= λ files. Ok (deeper k files.0, files.1))
included tree m d t k (Ok x) early include h = include_grown tree m d t x.1 x.0 k early include h
included tree m d t k (Err e) early include h = tt

word_grown : (tree : Tree) (m : ℕ) (file : Spot → List ℕ → Tally → Expansion) (named : List ℕ → List (List ℕ)) → ((at : Spot) (path : List ℕ) (t : Tally) → GrownIf tree t (file at path t))
    → (d : Directive) (w : Option (List ℕ)) (t : Tally) → m < length t.paths → d.file ≡ m → is_plain d ≡ is_none w → LinesIf tree m (d ∷ []) t (put_word file named d w t)
word_grown tree m file named each d None t early is plain = plain_grown tree m d t early is plain
word_grown tree m file named each d (Some word) t early is plain =
    included tree m d t d.depth (put_all (file (spot d.file d.line)) (named word) t) early plain (files_grown tree (file (spot d.file d.line)) (each (spot d.file d.line)) (named word) t)

line_grown : (tree : Tree) (m : ℕ) (file : Spot → List ℕ → Tally → Expansion) (named : List ℕ → List (List ℕ)) → ((at : Spot) (path : List ℕ) (t : Tally) → GrownIf tree t (file at path t))
    → (d : Directive) (t : Tally) → m < length t.paths → d.file ≡ m → LinesIf tree m (d ∷ []) t (put_line file named d t)
unfolding put_line
line_grown tree m file named each d t early is = word_grown tree m file named each d (include_word d) t early is refl

lines_rest : (tree : Tree) (m : ℕ) (xs ys : List Directive) (t u : Tally) (a : List Directive) (o : Expansion) → m < length t.paths → LinesGrown tree m xs t u a → LinesIf tree m ys u o → LinesIf tree m (xs ++ ys) t (o >>= λ rest. Ok (a ++ rest.0, rest.1))
lines_rest tree m xs ys t u a (Ok x) early h k = lines_append tree m xs ys t u x.1 a x.0 early h k
lines_rest tree m xs ys t u a (Err e) early h k = tt

lines_first : (tree : Tree) (m : ℕ) (xs ys : List Directive) (t : Tally) (o : Expansion) (put : Tally → Expansion) → m < length t.paths → LinesIf tree m xs t o → ((u : Tally) → m < length u.paths → LinesIf tree m ys u (put u))
    → LinesIf tree m (xs ++ ys) t (o >>= λ first. put first.1 >>= λ rest. Ok (first.0 ++ rest.0, rest.1))
lines_first tree m xs ys t (Ok x) put early h k =
    let up = lines_longer tree m xs t x.1 x.0 h in
    lines_rest tree m xs ys t x.1 x.0 (put x.1) early h (k x.1 (omega (arith, early, up)))
lines_first tree m xs ys t (Err e) put early h k = tt

pub lines_grown : (tree : Tree) (m : ℕ) (file : Spot → List ℕ → Tally → Expansion) (named : List ℕ → List (List ℕ)) → ((at : Spot) (path : List ℕ) (t : Tally) → GrownIf tree t (file at path t))
    → (own : List Directive) (t : Tally) → m < length t.paths → AllByRecursion (λ d. d.file ≡ m) own → LinesIf tree m own t (put_all (put_line file named) own t)
lines_grown tree m file named each [] t early all = subst (LinesIf tree m [] t) (sym (all_nil (put_line file named) t)) (lines_none tree m t)
lines_grown tree m file named each (d ∷ own) t early all =
    subst (LinesIf tree m (d ∷ own) t) (sym (all_cons (put_line file named) d own t))
    (lines_first tree m (d ∷ []) own t (put_line file named d t) (put_all (put_line file named) own) early (line_grown tree m file named each d t early all.0)
    (λ u soon. lines_grown tree m file named each own u soon all.1))

-- a file that is opened, and its directives

pub record Opened (tree : Tree) (path : List ℕ) (before : List (List ℕ)) (u : Tally) (own : List Directive) : Type 0 where
  pub bytes : List ℕ
  pub date : ℕ
  pub paths : u.paths ≡ before ++ path ∷ []
  pub there : tree path ≡ AFile bytes date
  pub read : reading (length before) bytes ≡ Ok own

abbrev pub OpenedIf : Tree → List ℕ → List (List ℕ) → Expansion → Type 0
OpenedIf tree path before (Ok x) = Opened tree path before x.1 x.0
OpenedIf tree path before (Err e) = Unit {0}

read_if : (tree : Tree) (path : List ℕ) (before : List (List ℕ)) (bytes : List ℕ) (date size : ℕ) (r : Result (List Directive) ConfFault) → tree path ≡ AFile bytes date → reading (length before) bytes ≡ r
    → OpenedIf tree path before (with_paths (before ++ path ∷ []) r >>= λ lines. Ok (lines, tally (before ++ path ∷ []) size))
read_if tree path before bytes date size (Ok own) there is = record { bytes = bytes; date = date; paths = refl; there = there; read = is }
read_if tree path before bytes date size (Err f) there is = tt

fit_if : (tree : Tree) (path : List ℕ) (before : List (List ℕ)) (bytes : List ℕ) (date : ℕ) (size : List ℕ → ℕ) (e : ConfFault × List (List ℕ)) (fits : Bool) → tree path ≡ AFile bytes date
    → OpenedIf tree path before (cond fits (Ok bytes) (Err e) >>= λ bytes. directives_in (length before) bytes (before ++ path ∷ []) >>= λ lines. Ok (lines, tally (before ++ path ∷ []) (size bytes)))
fit_if tree path before bytes date size e true there = read_if tree path before bytes date (size bytes) (reading (length before) bytes) there refl
fit_if tree path before bytes date size e false there = tt

text_if : (tree : Tree) (path : List ℕ) (before : List (List ℕ)) (at : Spot) (t : Tally) (size : List ℕ → ℕ) (item : Item) → tree path ≡ item
    → OpenedIf tree path before (text_in item at path t >>= λ bytes. directives_in (length before) bytes (before ++ path ∷ []) >>= λ lines. Ok (lines, tally (before ++ path ∷ []) (size bytes)))
text_if tree path before at t size (AFile bytes date) there = fit_if tree path before bytes date size _ _ there
text_if tree path before at t size AFolder there = tt
text_if tree path before at t size ALocked there = tt
text_if tree path before at t size Nothing there = tt

number_if : (tree : Tree) (path : List ℕ) (before : List (List ℕ)) (f : ℕ → Expansion) (e : ConfFault × List (List ℕ)) (many : Bool) → OpenedIf tree path before (f (length before)) → OpenedIf tree path before (cond many (Err e) (Ok (length before)) >>= f)
number_if tree path before f e true h = tt
number_if tree path before f e false h = h

pub open_if : (tree : Tree) (at : Spot) (path : List ℕ) (t : Tally) → OpenedIf tree path t.paths (open_file tree at path t)
unfolding open_file next_number
open_if tree at path t =
    number_if tree path t.paths
    (λ number. text_in (tree path) at path t >>= λ bytes. directives_in number bytes (t.paths ++ path ∷ []) >>= λ lines. Ok (lines, tally (t.paths ++ path ∷ []) (t.size + length bytes)))
    (fault_about TooMany at path, t.paths) (leb most_files (length t.paths))
    (text_if tree path t.paths at t (λ bytes. t.size + length bytes) (tree path) refl)

pub open_main_if : (tree : Tree) (main : List ℕ) → OpenedIf tree main [] (open_main tree main)
unfolding open_main
open_main_if tree main = text_if tree main [] (spot 0 1) (tally (main ∷ []) 0) (λ bytes. length bytes) (tree main) refl

whole_itself : (tree : Tree) (path : List ℕ) (before : List (List ℕ)) (t u : Tally) (own out : List Directive) → Opened tree path before t own → LinesGrown tree (length before) own t u out → StandsWhole tree u.paths out (length before)
whole_itself tree path before t u own out o h = record {
  bytes = o.bytes;
  date = o.date;
  own = own;
  around = 0;
  there = ap tree (ap (λ l. get_or l (length before) []) (h.paths ∙ ap (λ l. l ++ h.more) o.paths) ∙ path_at_end before h.more path) ∙ o.there;
  read = o.read;
  whole = h.itself ∙ sym (deeper_none (filter is_plain own));
}

length_opened : (tree : Tree) (path : List ℕ) (before : List (List ℕ)) (t : Tally) (own : List Directive) → Opened tree path before t own → length t.paths ≡ length before + 1
length_opened tree path before t own o = ap length o.paths ∙ length-append before (path ∷ [])

pub whole_from : (tree : Tree) (path : List ℕ) (before : List (List ℕ)) (t u : Tally) (own out : List Directive) → Opened tree path before t own → LinesGrown tree (length before) own t u out
    → (n : ℕ) → length before ≤ n → n < length u.paths → StandsWhole tree u.paths out n
whole_from tree path before t u own out o h n i j =
    let size = length_opened tree path before t own o in
    ⊎_elim
    (λ e. h.whole n (omega (arith, ltb-true (length before) n e, size)) j)
    (λ e. let same : length before ≡ n = omega (arith, i, ltb-false (length before) n e) in
    subst (StandsWhole tree u.paths out) same (whole_itself tree path before t u own out o h))
    (cases_Bool (ltb (length before) n))

file_of : (tree : Tree) (path : List ℕ) (t v u : Tally) (own out : List Directive) → Opened tree path t.paths v own → LinesGrown tree (length t.paths) own v u out → Grown tree t u out
file_of tree path t v u own out o h =
    let size = length_opened tree path t.paths v own o in
    record {
      more = (path ∷ []) ++ h.more;
      paths = h.paths ∙ ap (λ l. l ++ h.more) o.paths ∙ append_assoc t.paths (path ∷ []) h.more;
      before = λ n i. h.before n (omega (arith, i, size)) (λ same. omega (arith, i, same));
      beyond = h.beyond;
      whole = whole_from tree path t.paths v u own out o h;
    }

file_if : (tree : Tree) (path : List ℕ) (t v : Tally) (own : List Directive) (o : Expansion) → Opened tree path t.paths v own → LinesIf tree (length t.paths) own v o → GrownIf tree t o
file_if tree path t v own (Ok x) opened h = file_of tree path t v x.1 own x.0 opened h
file_if tree path t v own (Err e) opened h = tt

opened_grown : (tree : Tree) (path : List ℕ) (t : Tally) (file : Spot → List ℕ → Tally → Expansion) (named : List ℕ → List (List ℕ)) → ((at : Spot) (path : List ℕ) (t : Tally) → GrownIf tree t (file at path t))
    → (o : Expansion) → OpenedIf tree path t.paths o → GrownIf tree t (o >>= λ opened. put_all (put_line file named) opened.0 opened.1)
opened_grown tree path t file named each (Ok x) opened =
    let size = length_opened tree path t.paths x.1 x.0 opened in
    file_if tree path t x.1 x.0 (put_all (put_line file named) x.0 x.1) opened
    (lines_grown tree (length t.paths) file named each x.0 x.1 (omega (arith, size)) (reading_own (length t.paths) opened.bytes x.0 opened.read))
opened_grown tree path t file named each (Err e) opened = tt

pub file_grown : (tree : Tree) (names : Names) (main : List ℕ) (left : ℕ) (at : Spot) (path : List ℕ) (t : Tally) → GrownIf tree t (put_file tree names main left at path t)
unfolding put_file
file_grown tree names main zero at path t = tt
file_grown tree names main (suc left) at path t =
    opened_grown tree path t (put_file tree names main left) (named_by names main) (file_grown tree names main left) (open_file tree at path t) (open_if tree at path t)

-- a whole configuration

abbrev HasIf : Tree → List ℕ → Expansion → Type 0
HasIf tree main (Ok x) = HasFilesWhole tree main x.0 x.1.paths
HasIf tree main (Err e) = Unit {0}

main_of : (tree : Tree) (main : List ℕ) (v u : Tally) (own out : List Directive) → Opened tree main [] v own → LinesGrown tree 0 own v u out → HasFilesWhole tree main out u.paths
main_of tree main v u own out o h = record {
  others = h.more;
  first = h.paths ∙ ap (λ l. l ++ h.more) o.paths;
  whole = λ n j. whole_from tree main [] v u own out o h n (omega arith) j;
  nothing = h.beyond;
}

main_if : (tree : Tree) (main : List ℕ) (v : Tally) (own : List Directive) (o : Expansion) → Opened tree main [] v own → LinesIf tree 0 own v o → HasIf tree main o
main_if tree main v own (Ok x) opened h = main_of tree main v x.1 own x.0 opened h
main_if tree main v own (Err e) opened h = tt

main_opened : (tree : Tree) (names : Names) (main : List ℕ) (o : Expansion) → OpenedIf tree main [] o → HasIf tree main (o >>= λ opened. put_lines tree names main most_deep opened.0 opened.1)
main_opened tree names main (Ok x) opened =
    let size = length_opened tree main [] x.1 x.0 opened in
    main_if tree main x.1 x.0 (put_lines tree names main most_deep x.0 x.1) opened
    (lines_grown tree 0 (put_file tree names main most_deep) (named_by names main) (file_grown tree names main most_deep) x.0 x.1 (omega (arith, size)) (reading_own 0 opened.bytes x.0 opened.read))
main_opened tree names main (Err e) opened = tt

main_has : (tree : Tree) (names : Names) (main : List ℕ) → HasIf tree main (put_main tree names main)
unfolding put_main
main_has tree names main = main_opened tree names main (open_main tree main) (open_main_if tree main)

pair_same : (r : Result (List Directive × List (List ℕ)) (ConfFault × List ℕ)) (a b : List Directive × List (List ℕ)) → r ≡ Ok a → r ≡ Ok b → a ≡ b
pair_same r a b h k = cc

no_both : (r : Result (List Directive × List (List ℕ)) (ConfFault × List ℕ)) (e : ConfFault × List ℕ) (b : List Directive × List (List ℕ)) → r ≡ Err e → r ≡ Ok b → ⊥
no_both r e b h k = cc

located_has : (tree : Tree) (main : List ℕ) (o : Expansion) (lines : List Directive) (paths : List (List ℕ)) → HasIf tree main o → located o ≡ Ok (lines, paths) → HasFilesWhole tree main lines paths
located_has tree main (Ok x) lines paths h is =
    let same : (x.0, x.1.paths) ≡ (lines, paths) = pair_same (located (Ok x)) (x.0, x.1.paths) (lines, paths) refl is in
    subst (λ (p : List Directive × List (List ℕ)). HasFilesWhole tree main p.0 p.1) same h
located_has tree main (Err e) lines paths h is = absurd (no_both (located (Err e)) (e.0, get_or e.1 e.0.file []) (lines, paths) refl is)

pub stands_whole : FilesStandWhole
unfolding expansion
stands_whole tree names main lines paths is = located_has tree main (put_main tree names main) lines paths (main_has tree names main) is
