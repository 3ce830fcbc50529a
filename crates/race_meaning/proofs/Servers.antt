-- The levels of a server in which no variable is named: what they read is steady, and a fixed variable gets its one value.
use Rattle.std.proofs.Common.{◌≡◌, ◌⊎◌, inl, inr, ℕ, ◌&&◌, ◌||◌, not, Bool, true, false, List, [], ◌∷◌, ◌++◌, flat_map, bytes_eq, Option, None, Some, is_some, refl, sym, ◌∙◌, ap, subst, if◌then◌else◌}
use Rattle.std.specs.List.{list_any, list_all}
use Rattle.std.proofs.lemmas.Slice.Eq.{bytes_eq-Decides}
use Rattle.acts.specs.Vars.{Vars, look}
use Rattle.ngx_variables.specs.declared.variable.Variable.{Variable}
use Rattle.ngx_variables.specs.declared.variable.Variable.TheVariants.{Uri, DocumentUri, Args, QueryString, IsArgs, DocumentRoot, RequestFilename, RequestUri, RequestMethod, ServerProtocol, RequestLine, Host, ContentLength, ContentType, RemoteAddr, RemotePort, ServerAddr, ServerPort, ServerName, Scheme, Https, DateGmt, DateLocal}
use Rattle.ngx_variables.specs.declared.value.Piece.{Piece}
use Rattle.ngx_variables.specs.declared.value.Piece.TheVariants.{Literal, Group, Builtin, Argument, Field, Cookie, Set as SetPiece}
use Rattle.ngx_variables.specs.declared.request.Main.{Main}
use Rattle.ngx_variables.specs.declared.request.Request.{Request}
use Rattle.ngx_variables.specs.Names.{name_of, variables, variable_named}
use Rattle.ngx_variables.specs.Texts.{piece_text, pieces_text, no_paths, value_text, place_paths}
use Rattle.family_meaning.specs.site_views.Values.{Values, Text, IndexName, PageRule}
use Rattle.family_meaning.specs.site_views.Rewrites.{Program}
use Rattle.family_meaning.specs.site_views.Rewrites.Directive.{Set, If, Rewrite, Return, Stop}
use Rattle.family_meaning.specs.site_views.Views.{LevelView, ServerView}
use Rattle.family_meaning.specs.request_meaning.Documents.{is_visible}
use Rattle.family_meaning.specs.request_meaning.Laws.{AllBlocks}
use Rattle.race_meaning.specs.Levels.{block_values, level_values, levels, programs, all_values}
use Rattle.ngx_variables.specs.Paths.{text_of}
use Rattle.race_meaning.specs.Reads.{in_text, in_tries, in_target, in_values, is_private_in}
use Rattle.race_meaning.specs.Named.{has_parts, is_open, set_text, set_texts, begins_with_set, is_steady_piece, same_piece, same_text, is_one_text, auth_sets_it, is_fixed, is_private, is_shown, is_some_text, is_set, is_named, IsRaceless}
use Rattle.race_meaning.specs.Steady.{Names}
use Rattle.race_meaning.specs.Laws.{is_steady, FirstIs, HasFixed}
use Rattle.race_meaning.proofs.Eaches.{Each, each_any, each_more, each_both, each_all, each_flat, each_map, each_not, each_true, not_left, not_right}
use Rattle.race_meaning.proofs.Obeying.{and_left, and_right, or_left, or_right, no_false, bytes_same, nobody, steady_text, KnownPlace, known_text}
use Rattle.race_meaning.proofs.ObeysPrograms.{AllSets, SetFits, EachPrivate}
use Rattle.race_meaning.proofs.ObeysPhases.{LevelFits, AllAuthSets}

-- ---- texts that are the same

some_same : {A : Type 0} {a b : A} → Some a ≡ Some b → a ≡ b
some_same e = cc

name_is : (v : Variable) → variable_named (name_of v) ≡ Some v
unfolding name_of variables variable_named lib.Utf8.encode
name_is Uri = refl
name_is DocumentUri = refl
name_is Args = refl
name_is QueryString = refl
name_is IsArgs = refl
name_is DocumentRoot = refl
name_is RequestFilename = refl
name_is RequestUri = refl
name_is RequestMethod = refl
name_is ServerProtocol = refl
name_is RequestLine = refl
name_is Host = refl
name_is ContentLength = refl
name_is ContentType = refl
name_is RemoteAddr = refl
name_is RemotePort = refl
name_is ServerAddr = refl
name_is ServerPort = refl
name_is ServerName = refl
name_is Scheme = refl
name_is Https = refl
name_is DateGmt = refl
name_is DateLocal = refl

same_name : (a b : Variable) → bytes_eq (name_of a) (name_of b) ≡ true → a ≡ b
same_name a b e = some_same (sym (name_is a) ∙ ap variable_named ((bytes_eq-Decides (name_of a) (name_of b)).0 e) ∙ name_is b)

-- what a steady piece evaluates to
abbrev steady_piece : Main → Piece → List ℕ
steady_piece main p = piece_text no_paths main nobody [] p

same_piece_text : (a b : Piece) → is_steady_piece a ≡ true → same_piece a b ≡ true → (is_steady_piece b ≡ true) × ((main : Main) → steady_piece main a ≡ steady_piece main b)
same_piece_text (Literal a) (Literal b) s e = (refl, λ main. ap (λ x. steady_piece main (Literal x)) ((bytes_eq-Decides a b).0 e))
same_piece_text (Builtin a) (Builtin b) s e =
    let p = same_name a b e in
    (subst (λ v. is_steady_piece (Builtin v) ≡ true) p s, λ main. ap (λ v. steady_piece main (Builtin v)) p)
same_piece_text (Field a) (Field b) s e = (refl, λ main. ap (λ x. steady_piece main (Field x)) ((bytes_eq-Decides a b).0 e))
same_piece_text (Cookie a) (Cookie b) s e = (refl, λ main. ap (λ x. steady_piece main (Cookie x)) ((bytes_eq-Decides a b).0 e))
same_piece_text (Group a) b s e = no_false s
same_piece_text (Argument a) b s e = no_false s
same_piece_text (SetPiece a) b s e = no_false s
same_piece_text (Literal a) (Group b) s e = no_false e
same_piece_text (Literal a) (Builtin b) s e = no_false e
same_piece_text (Literal a) (Argument b) s e = no_false e
same_piece_text (Literal a) (Field b) s e = no_false e
same_piece_text (Literal a) (Cookie b) s e = no_false e
same_piece_text (Literal a) (SetPiece b) s e = no_false e
same_piece_text (Builtin a) (Literal b) s e = no_false e
same_piece_text (Builtin a) (Group b) s e = no_false e
same_piece_text (Builtin a) (Argument b) s e = no_false e
same_piece_text (Builtin a) (Field b) s e = no_false e
same_piece_text (Builtin a) (Cookie b) s e = no_false e
same_piece_text (Builtin a) (SetPiece b) s e = no_false e
same_piece_text (Field a) (Literal b) s e = no_false e
same_piece_text (Field a) (Group b) s e = no_false e
same_piece_text (Field a) (Builtin b) s e = no_false e
same_piece_text (Field a) (Argument b) s e = no_false e
same_piece_text (Field a) (Cookie b) s e = no_false e
same_piece_text (Field a) (SetPiece b) s e = no_false e
same_piece_text (Cookie a) (Literal b) s e = no_false e
same_piece_text (Cookie a) (Group b) s e = no_false e
same_piece_text (Cookie a) (Builtin b) s e = no_false e
same_piece_text (Cookie a) (Argument b) s e = no_false e
same_piece_text (Cookie a) (Field b) s e = no_false e
same_piece_text (Cookie a) (SetPiece b) s e = no_false e

both_true : (a b : Bool) → a ≡ true → b ≡ true → (a && b) ≡ true
both_true true b e f = f
both_true false b e f = e

same_text_text : (a b : Text) → list_all is_steady_piece a ≡ true → same_text a b ≡ true → (list_all is_steady_piece b ≡ true) × ((main : Main) → steady_text main a ≡ steady_text main b)
unfolding same_text pieces_text
same_text_text [] [] s e = (refl, λ main. refl)
same_text_text (p ∷ a) (q ∷ b) s e =
    let first = same_piece_text p q (and_left (is_steady_piece p) (list_all is_steady_piece a) s) (and_left (same_piece p q) (same_text a b) e) in
    let later = same_text_text a b (and_right (is_steady_piece p) (list_all is_steady_piece a) s) (and_right (same_piece p q) (same_text a b) e) in
    (both_true (is_steady_piece q) (list_all is_steady_piece b) first.0 later.0, λ main. ap (λ x. x ++ steady_text main a) (first.1 main) ∙ ap (λ y. steady_piece main q ++ y) (later.1 main))
same_text_text [] (q ∷ b) s e = no_false e
same_text_text (p ∷ a) [] s e = no_false e

-- ---- the one value of a fixed variable

first_of : Main → List Text → Option (List ℕ)
first_of main [] = None
first_of main (text ∷ texts) = Some (steady_text main text)

record OneText (texts : List Text) (text : Text) : Type 0 where
  steady : list_all is_steady_piece text ≡ true
  value : (main : Main) → Some (steady_text main text) ≡ first_of main texts

one_text : (texts : List Text) → is_one_text texts ≡ true → Each (OneText texts) texts
unfolding first_of
one_text [] e = no_false e
one_text (t ∷ ts) e =
    let s = and_left (list_all is_steady_piece t) (list_all (same_text t) ts) e in (
      record { steady = s; value = λ main. refl },
      each_more (λ x. same_text t x ≡ true) (OneText (t ∷ ts)) ts
          (λ x f. record { steady = (same_text_text t x s f).0; value = λ main. ap Some (sym ((same_text_text t x s f).1 main)) })
          (each_true (same_text t) ts (and_right (list_all is_steady_piece t) (list_all (same_text t) ts) e)),
    )

module _ (server : ServerView) where
  pub fixed_value : Main → List ℕ → Option (List ℕ)
  fixed_value main name = first_of main (set_texts server name)

  -- in this table every fixed variable has its value
  pub record HasValues (main : Main) (vars : Vars) : Type 0 where
    pub at : (name : List ℕ) → is_fixed server name ≡ true → look vars name ≡ fixed_value main name

  -- a table in which fixed variables have the values of their texts has them
  of_first : (main : Main) (vars : Vars) (name : List ℕ) (texts : List Text) → is_some_text texts ≡ true → FirstIs texts (λ text. (request : Request) (others : Vars) → look vars name ≡ Some (value_text main request others text)) →
      look vars name ≡ first_of main texts
  unfolding first_of value_text place_paths
  of_first main vars name [] e h = no_false e
  of_first main vars name (text ∷ texts) e h = h nobody []

  one_is_some : (texts : List Text) → is_one_text texts ≡ true → is_some_text texts ≡ true
  one_is_some [] e = no_false e
  one_is_some (text ∷ texts) e = refl

  fixed_one : (name : List ℕ) → is_fixed server name ≡ true → is_one_text (set_texts server name) ≡ true
  unfolding is_fixed
  fixed_one name e =
      let a = not (list_any (auth_sets_it name) (all_values server)) in
      let b = is_one_text (set_texts server name) in
      let c = begins_with_set name server.level.program in
      and_right a b (and_left (a && b) c e)

  pub has_values : (main : Main) (vars : Vars) → HasFixed server main vars → HasValues main vars
  unfolding fixed_value
  has_values main vars h = record { at = λ name e. of_first main vars name (set_texts server name) (one_is_some (set_texts server name) (fixed_one name e)) (h.at name e) }

  -- ---- what each `set` gives

  -- the variable is set, and if it is fixed this is its one text
  record IsSet (name : List ℕ) (text : Text) : Type 0 where
    some : is_set server name ≡ true
    steady : is_fixed server name ≡ true → list_all is_steady_piece text ≡ true
    value : (main : Main) → is_fixed server name ≡ true → Some (steady_text main text) ≡ fixed_value main name

  each_some : (P : Text → Type 0) (texts : List Text) → (is_some_text texts ≡ true → (text : Text) → P text) → Each P texts
  each_some P [] f = tt
  each_some P (text ∷ texts) f = (f refl text, each_any P texts (f refl))

  is_set_texts : (name : List ℕ) (fixed : Bool) → is_fixed server name ≡ fixed → Each (IsSet name) (set_texts server name)
  unfolding is_set fixed_value
  is_set_texts name true e =
      each_more (λ text. (is_set server name ≡ true) × OneText (set_texts server name) text) (IsSet name) (set_texts server name)
      (λ text h. record { some = h.0; steady = λ _. h.1.steady; value = λ main _. h.1.value main })
      (each_both (λ text. is_set server name ≡ true) (OneText (set_texts server name)) (set_texts server name)
      (each_some (λ text. is_set server name ≡ true) (set_texts server name) (λ s text. s)) (one_text (set_texts server name) (fixed_one name e)))
  is_set_texts name false e =
      each_some (IsSet name) (set_texts server name)
      (λ s text. record { some = s; steady = λ f. no_false (sym e ∙ f); value = λ main f. no_false (sym e ∙ f) })

  here_set : (name : List ℕ) (text : Text) (b : Bool) → b ≡ true → Each (IsSet name) (if b then text ∷ [] else []) → IsSet name text
  here_set name text true e h = h.0
  here_set name text false e h = no_false e

  sets_of : (program : Program) → ((name : List ℕ) → Each (λ d. Each (IsSet name) (set_text name d)) program) → AllSets IsSet program
  sets_of [] f = tt
  sets_of (Set name text ∷ program) f = (here_set name text (bytes_eq name name) (bytes_same name) (f name).0, sets_of program (λ other. (f other).1))
  sets_of (If test negated block values ∷ program) f = sets_of program (λ other. (f other).1)
  sets_of (Rewrite pattern to is_url flag ∷ program) f = sets_of program (λ other. (f other).1)
  sets_of (Return code text ∷ program) f = sets_of program (λ other. (f other).1)
  sets_of (Stop ∷ program) f = sets_of program (λ other. (f other).1)

  -- the sets of every level
  level_sets : Each (λ (l : LevelView). AllSets IsSet l.program) (levels server)
  unfolding set_texts programs
  level_sets =
      each_more (λ (l : LevelView). (name : List ℕ) → Each (λ d. Each (IsSet name) (set_text name d)) l.program) (λ (l : LevelView). AllSets IsSet l.program) (levels server)
      (λ l h. sets_of l.program h)
      (each_all (λ name (l : LevelView). Each (λ d. Each (IsSet name) (set_text name d)) l.program) (levels server)
      (λ name. each_map (λ (p : Program). Each (λ d. Each (IsSet name) (set_text name d)) p) (λ (l : LevelView). l.program) (levels server)
      (each_more (λ (p : Program). Each (IsSet name) (flat_map (set_text name) p)) (λ (p : Program). Each (λ d. Each (IsSet name) (set_text name d)) p) (programs server)
      (λ p h. each_flat (IsSet name) (set_text name) p h)
      (each_flat (IsSet name) (λ (p : Program). flat_map (set_text name) p) (programs server) (is_set_texts name (is_fixed server name) refl)))))

  all_sets : (P Q : List ℕ → Text → Type 0) (program : Program) → ((name : List ℕ) (text : Text) → P name text → Q name text) → AllSets P program → AllSets Q program
  all_sets P Q [] f h = tt
  all_sets P Q (Set name text ∷ program) f h = (f name text h.0, all_sets P Q program f h.1)
  all_sets P Q (If test negated block values ∷ program) f h = all_sets P Q program f h
  all_sets P Q (Rewrite pattern to is_url flag ∷ program) f h = all_sets P Q program f h
  all_sets P Q (Return code text ∷ program) f h = all_sets P Q program f h
  all_sets P Q (Stop ∷ program) f h = all_sets P Q program f h

  -- where all variables are known, a fixed one gets its one value
  fits_fixed : (M : Main → Type 0) (name : List ℕ) (text : Text) → IsSet name text → SetFits (is_fixed server) fixed_value M name text
  fits_fixed M name text h = record { steady = h.steady; gives = λ main m e. h.value main e }

  steady_fixed : (name : List ℕ) → is_set server name ≡ true → is_steady server name ≡ true → is_fixed server name ≡ true
  steady_fixed name s e = by (is_set server name) (is_fixed server name) s e
    where
      by : (a b : Bool) → a ≡ true → (not a || b) ≡ true → b ≡ true
      by true b s e = e
      by false b s e = no_false s

  pub fixed_steady : (name : List ℕ) → is_fixed server name ≡ true → is_steady server name ≡ true
  fixed_steady name e = or_right (not (is_set server name)) (is_fixed server name) e

  -- and so does a steady one, in a table that has these values
  fits_steady : (main : Main) (table : Vars) → HasValues main table → (name : List ℕ) (text : Text) → IsSet name text → SetFits (is_steady server) (λ _. look table) (λ m. m ≡ main) name text
  fits_steady main table v name text h = record {
    steady = λ e. h.steady (steady_fixed name h.some e);
    gives = λ other m e. ap (λ x. Some (steady_text x text)) m ∙ h.value main (steady_fixed name h.some e) ∙ sym (v.at name (steady_fixed name h.some e));
  }

  -- ---- values

  blocks_of : (V : Values → Type 0) (program : Program) → Each V (flat_map block_values program) → AllBlocks V program
  blocks_of V [] h = tt
  blocks_of V (Set name text ∷ program) h = (tt, blocks_of V program h)
  blocks_of V (If test negated block None ∷ program) h = (tt, blocks_of V program h)
  blocks_of V (If test negated block (Some values) ∷ program) h = (h.0, blocks_of V program h.1)
  blocks_of V (Rewrite pattern to is_url flag ∷ program) h = (tt, blocks_of V program h)
  blocks_of V (Return code text ∷ program) h = (tt, blocks_of V program h)
  blocks_of V (Stop ∷ program) h = (tt, blocks_of V program h)

  record HasLevel (V : Values → Type 0) (l : LevelView) : Type 0 where
    values : V l.values
    blocks : AllBlocks V l.program

  level_has : (V : Values → Type 0) → Each V (all_values server) → Each (HasLevel V) (levels server)
  unfolding all_values level_values
  level_has V h =
      each_more (λ (l : LevelView). Each V (level_values l)) (HasLevel V) (levels server) (λ l g. record { values = g.0; blocks = blocks_of V l.program g.1 }) (each_flat V level_values (levels server) h)

  -- no `auth_request_set` sets a fixed variable
  unset : (name : List ℕ) → is_fixed server name ≡ true → Each (λ (v : Values). auth_sets_it name v ≡ false) (all_values server)
  unfolding is_fixed
  unset name e =
      let a = list_any (auth_sets_it name) (all_values server) in
      each_not (auth_sets_it name) (all_values server)
      (by a (and_left (not a) (is_one_text (set_texts server name)) (and_left (not a && is_one_text (set_texts server name)) (begins_with_set name server.level.program) e)))
    where
      by : (b : Bool) → not b ≡ true → b ≡ false
      by true h = cc
      by false h = refl

  auth_set : (s : List (List ℕ × Text)) → ((name : List ℕ) → is_fixed server name ≡ true → list_any (λ (x : List ℕ × Text). bytes_eq x.0 name) s ≡ false) → AllAuthSets (λ name. is_fixed server name ≡ false) s
  auth_set [] f = tt
  auth_set (x ∷ xs) f =
      (by (is_fixed server x.0) refl, auth_set xs (λ name e. not_right (bytes_eq x.0 name) (list_any (λ (x : List ℕ × Text). bytes_eq x.0 name) xs) (f name e)))
    where
      by : (b : Bool) → is_fixed server x.0 ≡ b → is_fixed server x.0 ≡ false
      by true e = no_false (sym (not_left (bytes_eq x.0 x.0) (list_any (λ (y : List ℕ × Text). bytes_eq y.0 x.0) xs) (f x.0 e)) ∙ bytes_same x.0)
      by false e = e

  auth_values : Each (λ (v : Values). AllAuthSets (λ name. is_fixed server name ≡ false) v.auth_sets) (all_values server)
  auth_values =
      each_more (λ (v : Values). (name : List ℕ) → is_fixed server name ≡ true → auth_sets_it name v ≡ false) (λ (v : Values). AllAuthSets (λ name. is_fixed server name ≡ false) v.auth_sets) (all_values server)
      (λ v h. auth_set v.auth_sets h)
      (each_all (λ name (v : Values). is_fixed server name ≡ true → auth_sets_it name v ≡ false) (all_values server) (λ name. by name (is_fixed server name) refl))
    where
      by : (name : List ℕ) (b : Bool) → is_fixed server name ≡ b → Each (λ (v : Values). is_fixed server name ≡ true → auth_sets_it name v ≡ false) (all_values server)
      by name true e = each_more (λ (v : Values). auth_sets_it name v ≡ false) (λ (v : Values). is_fixed server name ≡ true → auth_sets_it name v ≡ false) (all_values server) (λ v h _. h) (unset name e)
      by name false e = each_any (λ (v : Values). is_fixed server name ≡ true → auth_sets_it name v ≡ false) (all_values server) (λ v f. no_false (sym e ∙ f))

  -- ---- an open server in which no variable is named

  -- values read only what is steady, and so do documents
  pub record OpenFits (v : Values) : Type 0 where
    pub reads : (name : List ℕ) → in_values name v ≡ true → is_steady server name ≡ true
    pub shown : v.ssi ≡ true → (name : List ℕ) → is_visible server.visible name ≡ true → is_steady server name ≡ true
    pub auths : AllAuthSets (λ name. is_fixed server name ≡ false) v.auth_sets

  -- where files are is steady
  in_place : (name : List ℕ) (v : Values) → in_text name (text_of v.place) ≡ true → in_values name v ≡ true
  unfolding in_values
  in_place name v e =
      let i = list_any (λ (i : IndexName). in_text name i.text) v.index in
      let t = in_tries name v.tries in
      let p = list_any (λ (r : PageRule). in_target name r.target) v.pages in
      let a = list_any (λ (s : List ℕ × Text). in_text name s.1) v.auth_sets in
      let b = in_text name (text_of v.place) in
      or_left (((b || i) || t) || p) a (or_left ((b || i) || t) p (or_left (b || i) t (or_left b i e)))

  pub open_place : (v : Values) → OpenFits v → KnownPlace (is_steady server) (Some v.place)
  open_place v h = known_text (is_steady server) (text_of v.place) (λ name e. h.reads name (in_place name v e))

  module _ (open_server : is_open server ≡ true) (race : IsRaceless server) where
    -- a variable is steady, or documents don't show it and every read of it is private
    each_name : (name : List ℕ) → (is_steady server name ≡ true) ⊎ ((is_shown server name ≡ false) × (is_private server name ≡ true))
    unfolding is_named
    each_name name = by (is_open server) (is_set server name) (is_fixed server name) (is_shown server name) (is_private server name) open_server (race name)
      where
        by : (o s f d p : Bool) → o ≡ true → (((o && s) && not f) && (d || not p)) ≡ false → ((not s || f) ≡ true) ⊎ ((d ≡ false) × (p ≡ true))
        by false s f d p e h = no_false e
        by true false f d p e h = inl refl
        by true true true d p e h = inl refl
        by true true false true p e h = cc
        by true true false false true e h = inr (refl, refl)
        by true true false false false e h = cc

    private_programs : (name : List ℕ) → is_private server name ≡ true → Each (λ (l : LevelView). is_private_in name false 0 l.program ≡ true) (levels server)
    unfolding is_private programs
    private_programs name e =
        each_map (λ (p : Program). is_private_in name false 0 p ≡ true) (λ (l : LevelView). l.program) (levels server)
        (each_true (is_private_in name false 0) (programs server) (and_right (not (list_any (in_values name) (all_values server))) (list_all (is_private_in name false 0) (programs server)) e))

    private_values : (name : List ℕ) → is_private server name ≡ true → Each (λ (v : Values). in_values name v ≡ false) (all_values server)
    unfolding is_private
    private_values name e =
        each_not (in_values name) (all_values server)
        (by (list_any (in_values name) (all_values server)) (and_left (not (list_any (in_values name) (all_values server))) (list_all (is_private_in name false 0) (programs server)) e))
      where
        by : (b : Bool) → not b ≡ true → b ≡ false
        by true h = cc
        by false h = refl

    hidden_values : (name : List ℕ) → is_shown server name ≡ false → Each (λ (v : Values). v.ssi ≡ true → is_visible server.visible name ≡ true → is_steady server name ≡ true) (all_values server)
    unfolding is_shown
    hidden_values name e = by (list_any (λ (v : Values). v.ssi) (all_values server)) (is_visible server.visible name) refl e refl
      where
        by : (a b : Bool) → list_any (λ (v : Values). v.ssi) (all_values server) ≡ a → (a && b) ≡ false → is_visible server.visible name ≡ b →
            Each (λ (v : Values). v.ssi ≡ true → is_visible server.visible name ≡ true → is_steady server name ≡ true) (all_values server)
        by true true q h g = cc
        by true false q h g = each_any (λ (v : Values). v.ssi ≡ true → is_visible server.visible name ≡ true → is_steady server name ≡ true) (all_values server) (λ v s f. no_false (sym g ∙ f))
        by false b q h g =
            each_more (λ (v : Values). v.ssi ≡ false) (λ (v : Values). v.ssi ≡ true → is_visible server.visible name ≡ true → is_steady server name ≡ true) (all_values server)
            (λ v n s f. no_false (sym n ∙ s)) (each_not (λ (v : Values). v.ssi) (all_values server) q)

    each_private : Each (λ (l : LevelView). EachPrivate (is_steady server) (λ name. false) 0 l.program) (levels server)
    each_private = each_all (λ name (l : LevelView). (is_steady server name ≡ true) ⊎ (is_private_in name false 0 l.program ≡ true)) (levels server) (λ name. by name (each_name name))
      where
        by : (name : List ℕ) → (is_steady server name ≡ true) ⊎ ((is_shown server name ≡ false) × (is_private server name ≡ true)) →
            Each (λ (l : LevelView). (is_steady server name ≡ true) ⊎ (is_private_in name false 0 l.program ≡ true)) (levels server)
        by name (inl e) = each_any (λ (l : LevelView). (is_steady server name ≡ true) ⊎ (is_private_in name false 0 l.program ≡ true)) (levels server) (λ l. inl e)
        by name (inr e) =
            each_more (λ (l : LevelView). is_private_in name false 0 l.program ≡ true) (λ (l : LevelView). (is_steady server name ≡ true) ⊎ (is_private_in name false 0 l.program ≡ true)) (levels server)
            (λ l h. inr h) (private_programs name e.1)

    open_reads : Each (λ (v : Values). (name : List ℕ) → in_values name v ≡ true → is_steady server name ≡ true) (all_values server)
    open_reads = each_all (λ name (v : Values). in_values name v ≡ true → is_steady server name ≡ true) (all_values server) (λ name. by name (each_name name))
      where
        by : (name : List ℕ) → (is_steady server name ≡ true) ⊎ ((is_shown server name ≡ false) × (is_private server name ≡ true)) → Each (λ (v : Values). in_values name v ≡ true → is_steady server name ≡ true) (all_values server)
        by name (inl e) = each_any (λ (v : Values). in_values name v ≡ true → is_steady server name ≡ true) (all_values server) (λ v h. e)
        by name (inr e) = each_more (λ (v : Values). in_values name v ≡ false) (λ (v : Values). in_values name v ≡ true → is_steady server name ≡ true) (all_values server) (λ v h f. no_false (sym h ∙ f)) (private_values name e.1)

    open_shown : Each (λ (v : Values). (name : List ℕ) → v.ssi ≡ true → is_visible server.visible name ≡ true → is_steady server name ≡ true) (all_values server)
    open_shown = each_all (λ name (v : Values). v.ssi ≡ true → is_visible server.visible name ≡ true → is_steady server name ≡ true) (all_values server) (λ name. by name (each_name name))
      where
        by : (name : List ℕ) → (is_steady server name ≡ true) ⊎ ((is_shown server name ≡ false) × (is_private server name ≡ true)) →
            Each (λ (v : Values). v.ssi ≡ true → is_visible server.visible name ≡ true → is_steady server name ≡ true) (all_values server)
        by name (inl e) = each_any (λ (v : Values). v.ssi ≡ true → is_visible server.visible name ≡ true → is_steady server name ≡ true) (all_values server) (λ v s f. e)
        by name (inr e) = hidden_values name e.0

    open_values : Each OpenFits (all_values server)
    open_values =
        each_more
        (λ (v : Values). ((name : List ℕ) → in_values name v ≡ true → is_steady server name ≡ true) × (((name : List ℕ) → v.ssi ≡ true → is_visible server.visible name ≡ true → is_steady server name ≡ true) × AllAuthSets (λ name. is_fixed server name ≡ false) v.auth_sets))
        OpenFits (all_values server) (λ v h. record { reads = h.0; shown = λ s name f. h.1.0 name s f; auths = h.1.1 })
        (each_both (λ (v : Values). (name : List ℕ) → in_values name v ≡ true → is_steady server name ≡ true) _ (all_values server) open_reads (each_both (λ (v : Values). (name : List ℕ) → v.ssi ≡ true → is_visible server.visible name ≡ true → is_steady server name ≡ true) _ (all_values server) open_shown auth_values))

    -- every level is fit for content subrequests
    pub open_levels : (main : Main) (table : Vars) → HasValues main table → Each (LevelFits (is_steady server) (is_steady server) (λ _. look table) OpenFits (λ m. m ≡ main)) (levels server)
    open_levels main table v =
        each_more (λ (l : LevelView). HasLevel OpenFits l × (EachPrivate (is_steady server) (λ name. false) 0 l.program × AllSets IsSet l.program))
        (LevelFits (is_steady server) (is_steady server) (λ _. look table) OpenFits (λ m. m ≡ main)) (levels server)
        (λ l h. record {
          values = h.0.values;
          blocks = h.0.blocks;
          private = h.1.0;
          sets = all_sets IsSet (SetFits (is_steady server) (λ _. look table) (λ m. m ≡ main)) l.program (λ name text i. fits_steady main table v name text i) h.1.1;
        })
        (each_both (HasLevel OpenFits) _ (levels server) (level_has OpenFits open_values) (each_both (λ (l : LevelView). EachPrivate (is_steady server) (λ name. false) 0 l.program) _ (levels server) each_private level_sets))

  -- ---- where every variable is known

  abbrev pub every : Names
  every name = true

  any_levels : (V : Values → Type 0) (M : Main → Type 0) → Each V (all_values server) → Each (LevelFits every (is_fixed server) fixed_value V M) (levels server)
  any_levels V M h =
      each_more (λ (l : LevelView). HasLevel V l × AllSets IsSet l.program) (LevelFits every (is_fixed server) fixed_value V M) (levels server)
      (λ l g. record {
        values = g.0.values;
        blocks = g.0.blocks;
        private = λ name. inl refl;
        sets = all_sets IsSet (SetFits (is_fixed server) fixed_value M) l.program (λ name text i. fits_fixed M name text i) g.1;
      })
      (each_both (HasLevel V) _ (levels server) (level_has V h) level_sets)

  pub open_any : (open_server : is_open server ≡ true) → IsRaceless server → (M : Main → Type 0) → Each (LevelFits every (is_fixed server) fixed_value OpenFits M) (levels server)
  open_any o race M = any_levels OpenFits M (open_values o race)

  -- values of a server that isn't open
  pub record ClosedFits (v : Values) : Type 0 where
    pub ssi : v.ssi ≡ false
    pub before : v.before ≡ None
    pub after : v.after ≡ None
    pub auths : AllAuthSets (λ name. is_fixed server name ≡ false) v.auth_sets

  none_of : {A : Type 0} (o : Option A) → is_some o ≡ false → o ≡ None
  none_of None e = refl
  none_of (Some a) e = cc

  closed_values : is_open server ≡ false → Each ClosedFits (all_values server)
  unfolding is_open
  closed_values e =
      each_more (λ (v : Values). (has_parts v ≡ false) × AllAuthSets (λ name. is_fixed server name ≡ false) v.auth_sets) ClosedFits (all_values server)
      (λ v h. record {
        ssi = not_left v.ssi (is_some v.before) (not_left (v.ssi || is_some v.before) (is_some v.after) h.0);
        before = none_of v.before (not_right v.ssi (is_some v.before) (not_left (v.ssi || is_some v.before) (is_some v.after) h.0));
        after = none_of v.after (not_right (v.ssi || is_some v.before) (is_some v.after) h.0);
        auths = h.1;
      })
      (each_both (λ (v : Values). has_parts v ≡ false) _ (all_values server) (each_not has_parts (all_values server) e) auth_values)

  pub closed_any : is_open server ≡ false → (M : Main → Type 0) → Each (LevelFits every (is_fixed server) fixed_value ClosedFits M) (levels server)
  closed_any e M = any_levels ClosedFits M (closed_values e)

  -- any values at all
  pub record AnyFits (v : Values) : Type 0 where
    pub auths : AllAuthSets (λ name. is_fixed server name ≡ false) v.auth_sets

  pub levels_any : (M : Main → Type 0) → Each (LevelFits every (is_fixed server) fixed_value AnyFits M) (levels server)
  levels_any M = any_levels AnyFits M (each_more _ AnyFits (all_values server) (λ v h. record { auths = h }) auth_values)
