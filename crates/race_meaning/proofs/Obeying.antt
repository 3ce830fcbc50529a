-- Rules by which a script is read: what it is known to do from some names on, and the texts that it evaluates.
use Rattle.std.proofs.Common.{◌≡◌, ℕ, ◌&&◌, ◌||◌, Bool, true, false, cond, List, [], ◌∷◌, ◌++◌, bytes_eq, Option, None, Some, refl, ◌∙◌, ap, if◌then◌else◌}
use Rattle.std.specs.List.{list_any, list_all, before_first, after_first}
use Rattle.std.proofs.lemmas.Slice.Eq.{bytes_eq-Decides}
use Rattle.file_tree.specs.Tree.{Item}
use Rattle.acts.specs.Act.{Done, Get, Put, Stat, Call, Write, Inner, ◌>>=◌}
use Rattle.http_types.specs.declared.words.Method.TheVariants.{Get as GetMethod}
use Rattle.ngx_variables.specs.declared.variable.Variable.{Variable}
use Rattle.ngx_variables.specs.declared.variable.Variable.TheVariants.{Uri, DocumentUri, Args, QueryString, IsArgs, DocumentRoot, RequestFilename}
use Rattle.ngx_variables.specs.declared.value.Piece.{Piece}
use Rattle.ngx_variables.specs.declared.value.Piece.TheVariants.{Literal, Group, Builtin, Argument, Field, Cookie, Set}
use Rattle.ngx_variables.specs.declared.request.Main.{Main}
use Rattle.ngx_variables.specs.declared.request.FileRoot.{FileRoot}
use Rattle.ngx_variables.specs.declared.request.Request.{Request}
use Rattle.ngx_variables.specs.declared.request.Role.TheVariants.{Content, Main as MainRole}
use Rattle.ngx_variables.specs.Paths.{text_of}
use Rattle.ngx_variables.specs.Texts.{variable_text, piece_text, pieces_text, no_paths, is_too_long}
use Rattle.ngx_variables.specs.Acts.{inner_piece, inner_pieces, file_paths, piece, value}
use Rattle.family_meaning.specs.file_path.Acts.{located_act}
use Rattle.family_meaning.specs.site_views.Values.{Text}
use Rattle.family_meaning.specs.request_meaning.Serving.{Serving, Child, Reply}
use Rattle.family_meaning.specs.request_meaning.Cuts.{Cut, is_question, onto_path, cut, some_value, target, fit_value}
use Rattle.race_meaning.specs.Reads.{is_piece, in_text}
use Rattle.race_meaning.specs.Named.{is_of_main, is_steady_piece}
use Rattle.race_meaning.specs.Steady.{Names, Covers, along, Rules, Obeys, MayAsk}
use Rattle.race_meaning.proofs.Steadies.{obeys_more, obeys_bind}

-- ---- truth values

pub and_left : (a b : Bool) → (a && b) ≡ true → a ≡ true
and_left true b e = refl
and_left false b e = cc

pub and_right : (a b : Bool) → (a && b) ≡ true → b ≡ true
and_right true b e = e
and_right false b e = cc

pub or_left : (a b : Bool) → a ≡ true → (a || b) ≡ true
or_left true b e = refl
or_left false b e = cc

pub or_right : (a b : Bool) → b ≡ true → (a || b) ≡ true
or_right true b e = refl
or_right false b e = e

pub no_false : {B : Type 0} → false ≡ true → B
no_false e = cc

pub bytes_same : (name : List ℕ) → bytes_eq name name ≡ true
bytes_same name = (bytes_eq-Decides name name).1 refl

pub covers_same : (a : Names) → Covers a a
covers_same a name e = e

pub covers_more : (name : List ℕ) (a : Names) → Covers a (along name a)
covers_more name a other e = either (bytes_eq name other) (a other) e
  where
    either : (t b : Bool) → b ≡ true → cond t true b ≡ true
    either true b e = refl
    either false b e = e

-- ---- rules

-- From these names on the act obeys, with this at its end, where at least that is known still.
pub record From (r : Rules) (known : Names) {A : Type 0} (post : A → Type 0) (m : Serving A) : Type 0 where
  pub obeys : Obeys r known m (λ now a. Covers known now × post a)

abbrev pub anything : {A : Type 0} → A → Type 0
anything a = Unit {0}

pub from_done : {r : Rules} {known : Names} {A : Type 0} {post : A → Type 0} (a : A) → post a → From r known post (Done a)
from_done a h = record { obeys = (λ name e. e, h) }

pub from_get : {r : Rules} {known : Names} {A : Type 0} {post : A → Type 0} {name : List ℕ} {k : Option (List ℕ) → Serving A} → known name ≡ true → ((v : Option (List ℕ)) → From r known post (k v)) → From r known post (Get name k)
from_get e h = record { obeys = (e, λ v. (h v).obeys) }

pub from_put : {r : Rules} {known : Names} {A : Type 0} {post : A → Type 0} {name value : List ℕ} {m : Serving A} → (r.fixed name ≡ true → Some value ≡ r.value name) → From r known post m → From r known post (Put name value m)
from_put {r} {known} {A} {post} {name} {value} {m} e h = record {
  obeys = (e, obeys_more r known (along name known) m _ _ (covers_more name known) h.obeys (λ now more x c g. ((λ other q. c other (g.0 other q)), g.1)));
}

pub from_stat : {r : Rules} {A : Type 0} {post : A → Type 0} {path : List ℕ} {k : Item → Serving A} → ((i : Item) → From r r.kept post (k i)) → From r r.kept post (Stat path k)
from_stat h = record { obeys = λ i. (h i).obeys }

pub from_call : {r : Rules} {A : Type 0} {post : A → Type 0} {child : Child} {k : Reply → Serving A} → MayAsk r child → ((q : Reply) → From r r.kept post (k q)) → From r r.kept post (Call child k)
from_call c h = record { obeys = (c, λ q. (h q).obeys) }

pub from_write : {r : Rules} {A : Type 0} {post : A → Type 0} {bytes : List ℕ} {m : Serving A} → From r r.kept post m → From r r.kept post (Write bytes m)
from_write h = record { obeys = h.obeys }

pub from_inner : {r : Rules} {A : Type 0} {post : A → Type 0} {child : Child} {m : Serving A} → MayAsk r child → child.role ≡ Content → From r r.kept post m → From r r.kept post (Inner child m)
from_inner c e h = record { obeys = ((c, e), h.obeys) }

pub from_bind : {r : Rules} {known : Names} {A B : Type 0} {mid : A → Type 0} {post : B → Type 0} {m : Serving A} {k : A → Serving B} →
    From r known mid m → ((a : A) → mid a → From r known post (k a)) → From r known post (m >>= k)
from_bind {r} {known} {A} {B} {mid} {post} {m} {k} h f = record {
  obeys = obeys_bind r known m k (λ now a. Covers known now × mid a) _ h.obeys
      (λ now a g. obeys_more r known now (k a) _ _ g.0 (f a g.1).obeys (λ now' more x c q. ((λ other e. c other (q.0 other e)), q.1)));
}

pub from_if : {r : Rules} {known : Names} {A : Type 0} {post : A → Type 0} {m n : Serving A} (b : Bool) → (b ≡ true → From r known post m) → (b ≡ false → From r known post n) → From r known post (if b then m else n)
from_if true h g = h refl
from_if false h g = g refl

-- From these names on the act obeys, and this holds at its end of what is known then.
pub record Run (r : Rules) (known : Names) {A : Type 0} (post : Names → A → Type 0) (m : Serving A) : Type 0 where
  pub obeys : Obeys r known m post

pub run_done : {r : Rules} {known : Names} {A : Type 0} {post : Names → A → Type 0} (a : A) → post known a → Run r known post (Done a)
run_done a h = record { obeys = h }

pub run_bind : {r : Rules} {known : Names} {A B : Type 0} {mid : Names → A → Type 0} {post : Names → B → Type 0} {m : Serving A} {k : A → Serving B} →
    Run r known mid m → ((now : Names) (a : A) → mid now a → Run r now post (k a)) → Run r known post (m >>= k)
run_bind {r} {known} {A} {B} {mid} {post} {m} {k} h f = record { obeys = obeys_bind r known m k mid post h.obeys (λ now a g. (f now a g).obeys) }

pub run_after : {r : Rules} {known : Names} {A B : Type 0} {mid : A → Type 0} {post : Names → B → Type 0} {m : Serving A} {k : A → Serving B} →
    From r known mid m → ((now : Names) (a : A) → Covers known now → mid a → Run r now post (k a)) → Run r known post (m >>= k)
run_after {r} {known} {A} {B} {mid} {post} {m} {k} h f = record { obeys = obeys_bind r known m k (λ now a. Covers known now × mid a) post h.obeys (λ now a g. (f now a g.0 g.1).obeys) }

pub run_put : {r : Rules} {known : Names} {A : Type 0} {post : Names → A → Type 0} {name value : List ℕ} {m : Serving A} → (r.fixed name ≡ true → Some value ≡ r.value name) → Run r (along name known) post m → Run r known post (Put name value m)
run_put e h = record { obeys = (e, h.obeys) }

pub run_stat : {r : Rules} {known : Names} {A : Type 0} {post : Names → A → Type 0} {path : List ℕ} {k : Item → Serving A} → ((i : Item) → Run r r.kept post (k i)) → Run r known post (Stat path k)
run_stat h = record { obeys = λ i. (h i).obeys }

pub from_run : {r : Rules} {A : Type 0} {post : A → Type 0} {m : Serving A} → Run r r.kept (λ now a. Covers r.kept now × post a) m → From r r.kept post m
from_run h = record { obeys = h.obeys }

-- ---- texts

abbrev pub KnownPiece : Names → Piece → Type 0
KnownPiece known (Set name) = known name ≡ true
KnownPiece known (Literal bytes) = Unit {0}
KnownPiece known (Group number) = Unit {0}
KnownPiece known (Builtin variable) = Unit {0}
KnownPiece known (Argument name) = Unit {0}
KnownPiece known (Field name) = Unit {0}
KnownPiece known (Cookie name) = Unit {0}

-- every variable of the text is known
abbrev pub Known : Names → Text → Type 0
Known known [] = Unit {0}
Known known (p ∷ ps) = KnownPiece known p × Known known ps

abbrev pub KnownPlace : Names → Option FileRoot → Type 0
KnownPlace known None = Unit {0}
KnownPlace known (Some place) = Known known (text_of place)

known_piece : (known : Names) (p : Piece) → ((name : List ℕ) → is_piece name p ≡ true → known name ≡ true) → KnownPiece known p
known_piece known (Set name) f = f name (bytes_same name)
known_piece known (Literal bytes) f = tt
known_piece known (Group number) f = tt
known_piece known (Builtin variable) f = tt
known_piece known (Argument name) f = tt
known_piece known (Field name) f = tt
known_piece known (Cookie name) f = tt

pub known_text : (known : Names) (text : Text) → ((name : List ℕ) → in_text name text ≡ true → known name ≡ true) → Known known text
unfolding in_text
known_text known [] f = tt
known_text known (p ∷ ps) f = (
  known_piece known p (λ name e. f name (or_left (is_piece name p) (list_any (is_piece name) ps) e)),
  known_text known ps (λ name e. f name (or_right (is_piece name p) (list_any (is_piece name) ps) e)),
)

more_piece : (a b : Names) (p : Piece) → Covers a b → KnownPiece a p → KnownPiece b p
more_piece a b (Set name) c h = c name h
more_piece a b (Literal bytes) c h = tt
more_piece a b (Group number) c h = tt
more_piece a b (Builtin variable) c h = tt
more_piece a b (Argument name) c h = tt
more_piece a b (Field name) c h = tt
more_piece a b (Cookie name) c h = tt

pub more_text : (a b : Names) (text : Text) → Covers a b → Known a text → Known b text
more_text a b [] c h = tt
more_text a b (p ∷ ps) c h = (more_piece a b p c h.0, more_text a b ps c h.1)

pub more_place : (a b : Names) (place : Option FileRoot) → Covers a b → KnownPlace a place → KnownPlace b place
more_place a b None c h = tt
more_place a b (Some place) c h = more_text a b (text_of place) c h

-- no request at all
abbrev pub nobody : Request
nobody = record { method = GetMethod; path = []; args = []; groups = []; place = None; role = MainRole }

-- what a text of literals and variables of the main request evaluates to
abbrev pub steady_text : Main → Text → List ℕ
steady_text main text = pieces_text no_paths main nobody [] text

abbrev pub IsPiece : Main → Piece → List ℕ → Type 0
IsPiece main p b = is_steady_piece p ≡ true → b ≡ piece_text no_paths main nobody [] p

abbrev pub IsText : Main → Text → List ℕ → Type 0
IsText main text b = list_all is_steady_piece text ≡ true → b ≡ steady_text main text

abbrev pub IsFit : Main → Text → Option (List ℕ) → Type 0
IsFit main text None = Unit {0}
IsFit main text (Some b) = IsText main text b

of_main : (main : Main) (request : Request) (v : Variable) → is_of_main v ≡ true → variable_text no_paths main request v ≡ variable_text no_paths main nobody v
unfolding variable_text
of_main main request Uri e = no_false e
of_main main request DocumentUri e = no_false e
of_main main request Args e = no_false e
of_main main request QueryString e = no_false e
of_main main request IsArgs e = no_false e
of_main main request DocumentRoot e = no_false e
of_main main request RequestFilename e = no_false e
of_main main request other e = refl

-- what a text is cut into is known where it is
abbrev KnownSome : Names → Option Text → Type 0
KnownSome known None = Unit {0}
KnownSome known (Some text) = Known known text

abbrev KnownCut : Names → Cut → Type 0
KnownCut known c = Known known c.path × KnownSome known c.args

known_if : (known : Names) (b : Bool) (c d : Cut) → KnownCut known c → KnownCut known d → KnownCut known (if b then c else d)
known_if known true c d h g = h
known_if known false c d h g = g

known_cut : (known : Names) (text : Text) → Known known text → KnownCut known (cut text)
unfolding cut
known_cut known [] h = (tt, tt)
known_cut known (Literal bytes ∷ text) h =
    let rest = known_cut known text h.1 in
    known_if known (list_any is_question bytes)
    (record { path = Literal (before_first is_question bytes) ∷ []; args = Some (Literal (after_first is_question bytes) ∷ text) })
    (onto_path (Literal bytes) (cut text)) ((tt, tt), (tt, h.1)) ((tt, rest.0), rest.1)
known_cut known (p ∷ text) h = let rest = known_cut known text h.1 in ((h.0, rest.0), rest.1)

cut_path : (known : Names) (text : Text) → Known known text → Known known (cut text).path
cut_path known text h = (known_cut known text h).0

cut_args : (known : Names) (text : Text) → Known known text → KnownSome known (cut text).args
cut_args known text h = (known_cut known text h).1

inner_is : (main : Main) (request : Request) (p : Piece) → IsPiece main p (piece_text no_paths main request [] p)
unfolding piece_text
inner_is main request (Literal bytes) e = refl
inner_is main request (Group number) e = no_false e
inner_is main request (Builtin variable) e = of_main main request variable e
inner_is main request (Argument name) e = no_false e
inner_is main request (Field name) e = refl
inner_is main request (Cookie name) e = refl
inner_is main request (Set name) e = no_false e

is_fit : (main : Main) (text : Text) (long : Bool) (bytes : List ℕ) → IsText main text bytes → IsFit main text (if long then None else Some bytes)
is_fit main text true bytes h = tt
is_fit main text false bytes h = h

module _ {r : Rules} {known : Names} (main : Main) (request : Request) where
  from_inner_piece : (p : Piece) → KnownPiece known p → From r known (IsPiece main p) (inner_piece main request p)
  unfolding inner_piece
  from_inner_piece (Set name) h = from_get h (λ v. from_done _ (λ e. no_false e))
  from_inner_piece other h = from_done _ (inner_is main request other)

  from_inner_pieces : (ps : Text) → Known known ps → From r known anything (inner_pieces main request ps)
  unfolding inner_pieces
  from_inner_pieces [] h = from_done _ tt
  from_inner_pieces (p ∷ ps) h = from_bind (from_inner_piece p h.0) (λ a _. from_bind (from_inner_pieces ps h.1) (λ b _. from_done _ tt))

  from_file_paths : (place : Option FileRoot) → KnownPlace known place → From r known anything (file_paths main request place)
  unfolding file_paths
  from_file_paths None h = from_done _ tt
  from_file_paths (Some place) h = from_bind (from_inner_pieces (text_of place) h) (λ a _. from_done _ tt)

  pub from_piece : (p : Piece) → KnownPiece known p → KnownPlace known request.place → From r known (IsPiece main p) (piece main request p)
  unfolding piece
  from_piece (Builtin DocumentRoot) h l = from_bind (from_file_paths request.place l) (λ a _. from_done _ (λ e. no_false e))
  from_piece (Builtin RequestFilename) h l = from_bind (from_file_paths request.place l) (λ a _. from_done _ (λ e. no_false e))
  from_piece other h l = from_inner_piece other h

  pub from_value : (text : Text) → Known known text → KnownPlace known request.place → From r known (IsText main text) (value main request text)
  unfolding value pieces_text
  from_value [] h l = from_done _ (λ e. refl)
  from_value (p ∷ ps) h l =
      from_bind (from_piece p h.0 l) (λ a ha. from_bind (from_value ps h.1 l) (λ b hb. from_done _
      (λ e. ap (λ x. x ++ b) (ha (and_left (is_steady_piece p) (list_all is_steady_piece ps) e))
      ∙ ap (λ x. piece_text no_paths main nobody [] p ++ x) (hb (and_right (is_steady_piece p) (list_all is_steady_piece ps) e)))))

  from_some_value : (text : Option Text) → KnownSome known text → KnownPlace known request.place → From r known anything (some_value main request text)
  unfolding some_value
  from_some_value None h l = from_done _ tt
  from_some_value (Some text) h l = from_bind (from_value text h l) (λ a _. from_done _ tt)

  pub from_fit_value : (text : Text) → Known known text → KnownPlace known request.place → From r known (IsFit main text) (fit_value main request text)
  unfolding fit_value
  from_fit_value text h l = from_bind (from_value text h l) (λ bytes hb. from_done _ (is_fit main text (is_too_long bytes) bytes hb))

  pub from_target : (text : Text) → Known known text → KnownPlace known request.place → From r known anything (target main request text)
  unfolding target
  from_target text h l = from_bind (from_value (cut text).path (cut_path known text h) l) (λ a _. from_bind (from_some_value (cut text).args (cut_args known text h) l) (λ b _. from_done _ tt))

  pub from_located : (place : FileRoot) (uri : List ℕ) → Known known (text_of place) → KnownPlace known request.place → From r known anything (located_act main request place uri)
  unfolding located_act
  from_located place uri h l = from_bind (from_value (text_of place) h l) (λ a _. from_done _ tt)
