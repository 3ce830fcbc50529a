-- What acts ask for: rules by which a script is read, and the acts that ask for nothing but variables and files.
use Rattle.std.proofs.Common.{◌≡◌, ℕ, Bool, true, false, List, [], ◌∷◌, Option, None, Some, refl, if◌then◌else◌}
use Rattle.file_tree.specs.Tree.{Item}
use Rattle.acts.specs.Act.{Done, Get, Put, Stat, Call, Write, Inner, ◌>>=◌}
use Rattle.file_path.specs.ngx_variables.declared.variable.Variable.TheVariants.{DocumentRoot, RequestFilename}
use Rattle.file_path.specs.ngx_variables.declared.value.Piece.{Piece}
use Rattle.file_path.specs.ngx_variables.declared.value.Piece.TheVariants.{Builtin, Set}
use Rattle.file_path.specs.ngx_variables.declared.request.Main.{Main}
use Rattle.file_path.specs.ngx_variables.declared.request.FileRoot.{FileRoot}
use Rattle.file_path.specs.ngx_variables.declared.request.Request.{Request}
use Rattle.file_path.specs.ngx_variables.Paths.{text_of}
use Rattle.file_path.specs.ngx_variables.Acts.{inner_piece, inner_pieces, file_paths, piece, value}
use Rattle.file_path.specs.Acts.{located_act}
use Rattle.site_views.specs.Values.{Text}
use Rattle.request_meaning.specs.Serving.{Serving, Child, Reply}
use Rattle.request_meaning.specs.Cuts.{cut, some_value, target, fit_value}
use Rattle.request_meaning.specs.Laws.{AsksOnly, anything}

-- ---- rules

pub record Only (P : Child → Type 0) {A : Type 0} (post : A → Type 0) (m : Serving A) : Type 0 where
  pub asks : AsksOnly P post m

pub only_done : {P : Child → Type 0} {A : Type 0} {post : A → Type 0} (a : A) → post a → Only P post (Done a)
only_done a h = record { asks = h }

pub only_get : {P : Child → Type 0} {A : Type 0} {post : A → Type 0} {name : List ℕ} {k : Option (List ℕ) → Serving A} → ((v : Option (List ℕ)) → Only P post (k v)) → Only P post (Get name k)
only_get h = record { asks = λ v. (h v).asks }

pub only_put : {P : Child → Type 0} {A : Type 0} {post : A → Type 0} {name value : List ℕ} {m : Serving A} → Only P post m → Only P post (Put name value m)
only_put h = record { asks = h.asks }

pub only_stat : {P : Child → Type 0} {A : Type 0} {post : A → Type 0} {path : List ℕ} {k : Item → Serving A} → ((i : Item) → Only P post (k i)) → Only P post (Stat path k)
only_stat h = record { asks = λ i. (h i).asks }

pub only_call : {P : Child → Type 0} {A : Type 0} {post : A → Type 0} {child : Child} {k : Reply → Serving A} → P child → ((r : Reply) → Only P post (k r)) → Only P post (Call child k)
only_call c h = record { asks = (c, λ r. (h r).asks) }

pub only_write : {P : Child → Type 0} {A : Type 0} {post : A → Type 0} {bytes : List ℕ} {m : Serving A} → Only P post m → Only P post (Write bytes m)
only_write h = record { asks = h.asks }

pub only_inner : {P : Child → Type 0} {A : Type 0} {post : A → Type 0} {child : Child} {m : Serving A} → P child → Only P post m → Only P post (Inner child m)
only_inner c h = record { asks = (c, h.asks) }

asks_bind : (P : Child → Type 0) {A B : Type 0} (mid : A → Type 0) (post : B → Type 0) (m : Serving A) (k : A → Serving B) →
    AsksOnly P mid m → ((a : A) → mid a → AsksOnly P post (k a)) → AsksOnly P post (m >>= k)
unfolding ◌>>=◌
asks_bind P mid post (Done a) k h f = f a h
asks_bind P mid post (Get name g) k h f = λ v. asks_bind P mid post (g v) k (h v) f
asks_bind P mid post (Put name value m) k h f = asks_bind P mid post m k h f
asks_bind P mid post (Stat path g) k h f = λ i. asks_bind P mid post (g i) k (h i) f
asks_bind P mid post (Call child g) k h f = (h.0, λ r. asks_bind P mid post (g r) k (h.1 r) f)
asks_bind P mid post (Write bytes m) k h f = asks_bind P mid post m k h f
asks_bind P mid post (Inner child m) k h f = (h.0, asks_bind P mid post m k h.1 f)

pub only_bind : {P : Child → Type 0} {A B : Type 0} {mid : A → Type 0} {post : B → Type 0} {m : Serving A} {k : A → Serving B} →
    Only P mid m → ((a : A) → mid a → Only P post (k a)) → Only P post (m >>= k)
only_bind {P} {A} {B} {mid} {post} {m} {k} h f = record { asks = asks_bind P mid post m k h.asks (λ a ha. (f a ha).asks) }

pub only_if : {P : Child → Type 0} {A : Type 0} {post : A → Type 0} {m n : Serving A} (b : Bool) → (b ≡ true → Only P post m) → (b ≡ false → Only P post n) → Only P post (if b then m else n)
only_if true h g = h refl
only_if false h g = g refl

-- ---- texts

module _ {P : Child → Type 0} (main : Main) (request : Request) where
  only_inner_piece : (p : Piece) → Only P anything (inner_piece main request p)
  unfolding inner_piece
  only_inner_piece (Set name) = only_get (λ v. only_done _ tt)
  only_inner_piece other = only_done _ tt

  only_inner_pieces : (ps : List Piece) → Only P anything (inner_pieces main request ps)
  unfolding inner_pieces
  only_inner_pieces [] = only_done _ tt
  only_inner_pieces (p ∷ ps) = only_bind (only_inner_piece p) (λ a _. only_bind (only_inner_pieces ps) (λ b _. only_done _ tt))

  only_file_paths : (place : Option FileRoot) → Only P anything (file_paths main request place)
  unfolding file_paths
  only_file_paths None = only_done _ tt
  only_file_paths (Some place) = only_bind (only_inner_pieces (text_of place)) (λ a _. only_done _ tt)

  pub only_piece : (p : Piece) → Only P anything (piece main request p)
  unfolding piece
  only_piece (Builtin DocumentRoot) = only_bind (only_file_paths request.place) (λ a _. only_done _ tt)
  only_piece (Builtin RequestFilename) = only_bind (only_file_paths request.place) (λ a _. only_done _ tt)
  only_piece other = only_inner_piece other

  pub only_value : (text : Text) → Only P anything (value main request text)
  unfolding value
  only_value [] = only_done _ tt
  only_value (p ∷ ps) = only_bind (only_piece p) (λ a _. only_bind (only_value ps) (λ b _. only_done _ tt))

  only_some_value : (text : Option Text) → Only P anything (some_value main request text)
  unfolding some_value
  only_some_value None = only_done _ tt
  only_some_value (Some text) = only_bind (only_value text) (λ a _. only_done _ tt)

  pub only_target : (text : Text) → Only P anything (target main request text)
  unfolding target
  only_target text = only_bind (only_value (cut text).path) (λ a _. only_bind (only_some_value (cut text).args) (λ b _. only_done _ tt))

  pub only_fit_value : (text : Text) → Only P anything (fit_value main request text)
  unfolding fit_value
  only_fit_value text = only_bind (only_value text) (λ a _. only_done _ tt)

  pub only_located : (place : FileRoot) (uri : List ℕ) → Only P anything (located_act main request place uri)
  unfolding located_act
  only_located place uri = only_bind (only_value (text_of place)) (λ a _. only_done _ tt)
