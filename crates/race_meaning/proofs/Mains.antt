-- A main request of a server in which no variable is named: whatever the order of steps, its response is the one that is meant.
use Rattle.std.proofs.Common.{◌≡◌, ◌⊎◌, inl, inr, ℕ, zero, suc, ◌&&◌, ◌||◌, not, Bool, true, false, cond, List, [], ◌∷◌, bytes_eq, Option, None, Some, is_some, refl, sym, ◌∙◌, ap, subst, append-nil, zero-le, if◌then◌else◌}
use Rattle.std.specs.List.{list_any}
use Rattle.std.proofs.lemmas.Slice.Eq.{bytes_eq-Decides}
use Rattle.acts.specs.Vars.{Vars, look, set}
use Rattle.acts.specs.Act.{Done, Write, ◌>>=◌}
use Rattle.acts.proofs.ActLaws.{look_after_set}
use Rattle.ngx_variables.specs.declared.request.Main.{Main}
use Rattle.ngx_variables.specs.declared.request.FileRoot.{FileRoot}
use Rattle.ngx_variables.specs.declared.request.Request.{Request}
use Rattle.ngx_variables.specs.declared.request.Role.{Role}
use Rattle.ngx_variables.specs.declared.request.Role.TheVariants.{Content, Auth, Main as MainRole}
use Rattle.ssi_text.specs.declared.part.Part.{Part}
use Rattle.ssi_text.specs.Marks.{Mark, Byte, Other}
use Rattle.family_meaning.specs.filter_api.Members.{others_of}
use Rattle.family_meaning.specs.site_views.Values.{Values, Text}
use Rattle.family_meaning.specs.site_views.Rewrites.{Directive, Program}
use Rattle.family_meaning.specs.site_views.Rewrites.Directive.{Set, If, Rewrite, Return, Stop}
use Rattle.family_meaning.specs.request_meaning.Serving.{World, Serving, Answer, Asked, Prepared, Standing, From, is_main_role, writes}
use Rattle.family_meaning.specs.request_meaning.Serving.From.{Start, Find, Named}
use Rattle.family_meaning.specs.request_meaning.Serving.Body.{NoBody, Plain}
use Rattle.family_meaning.specs.request_meaning.Cuts.{fit_value}
use Rattle.family_meaning.specs.request_meaning.Answering.{page, page_to, page_answer, has_no_body, facts_of}
use Rattle.family_meaning.specs.request_meaning.Errors.{Decided, Next, outcome_next}
use Rattle.family_meaning.specs.request_meaning.Errors.Outcome.{Gives}
use Rattle.family_meaning.specs.request_meaning.Errors.Next.{Answered, Changed}
use Rattle.family_meaning.specs.request_meaning.Rewriting.{Passed, Ran, Step, set_step, step, on, rewritten, begins_at, program_run}
use Rattle.family_meaning.specs.request_meaning.Rewriting.Ran.{Ends, Returns, Redirects, Drops, Breaks}
use Rattle.family_meaning.specs.request_meaning.Phases.{after_program, find_config, standing, phases_from, round, until, rounds}
use Rattle.family_meaning.specs.request_meaning.Documents.{Doc, begun, is_live}
use Rattle.family_meaning.specs.request_meaning.Bodies.{body, mark, text_part, written, filtered_marks}
use Rattle.family_meaning.specs.request_meaning.Replies.{run, reply, main_script, main_came, main_reply, served, outside, most_changes, most_depth}
use Rattle.family_meaning.specs.request_meaning.Laws.{AllBlocks}
use Rattle.family_meaning.specs.Line.{rest, reply_of}
use Rattle.family_meaning.specs.Line.Line.{Nil, Gives}
use Rattle.family_meaning.specs.Flight
use Rattle.family_meaning.specs.Flight.{Terms, flight_rest, whole_rest, unmade_rest}
use Rattle.family_meaning.specs.error_page.Page.{page_of}
use Rattle.race_meaning.specs.Levels.{levels as levels_of, all_values}
use Rattle.race_meaning.specs.Named.{is_open, is_fixed, is_one_text, set_texts, auth_sets_it, begins_with_set, IsRaceless}
use Rattle.race_meaning.specs.Steady.{Rules}
use Rattle.race_meaning.specs.Laws.{is_steady, AreFit, Confluence, flight_at, OrderKeepsResponse}
use Rattle.race_meaning.proofs.Obeying
use Rattle.race_meaning.proofs.Obeying.{no_false, and_left, and_right, or_left, covers_same, from_done, from_write, from_bind, from_if, from_fit_value, anything, KnownPlace, known_text, steady_text, IsFit, IsText}
use Rattle.race_meaning.proofs.ObeysPrograms
use Rattle.race_meaning.proofs.ObeysPrograms.{AllSets, SetFits, EachPrivate, run_rewritten}
use Rattle.race_meaning.proofs.ObeysPhases
use Rattle.race_meaning.proofs.ObeysPhases.{LevelFits, AuthFits, AllAuthSets}
use Rattle.race_meaning.proofs.Eaches.{Each}
use Rattle.race_meaning.proofs.Found.{own_of, found_of, named_of}
use Rattle.race_meaning.proofs.Servers.{HasValues, fixed_value, every, OpenFits, open_place, open_any, ClosedFits, closed_any}
use Rattle.race_meaning.proofs.Children
use Rattle.race_meaning.proofs.Children.{auth_rules, every_place, child_steady, reply_same, to_any}
use Rattle.race_meaning.proofs.Solos.{set_values, Alone, alone_bind, alone_post, alone_after, alone_solo, Calls, alone_obeys, Solo, ready_solo, solo_keep}

-- a main request may ask for auth subrequests
abbrev is_auth_role : Role → Bool
is_auth_role MainRole = false
is_auth_role Content = false
is_auth_role Auth = true

-- ---- a body of text alone

module _ (w : World) (r : Rules) where
  no_part : {B : Type 0} (p : Part) (ps : List Part) → p ∷ ps ≡ [] → B
  no_part p ps e = cc

  text_obeys : (doc : Doc) (text : List ℕ) (block : Option (List ℕ × List ℕ)) → Obeying.From r r.kept anything (text_part doc text block)
  unfolding text_part
  text_obeys doc text (Some (name, bytes)) = from_done _ tt
  text_obeys doc text None = from_if (is_live doc.branch) (λ _. from_bind (writes_obeys text) (λ a _. from_done _ tt)) (λ _. from_done _ tt)
    where
      writes_obeys : (bytes : List ℕ) → Obeying.From r r.kept anything (writes bytes)
      writes_obeys bytes = from_write (from_done _ tt)

  bytes_obey : (doc : Doc) (xs : List Mark) → others_of xs ≡ [] → Obeying.From r r.kept anything (body w doc xs)
  unfolding body mark
  bytes_obey doc [] e = from_done _ tt
  bytes_obey doc (Byte b ∷ xs) e = from_bind (text_obeys doc (b ∷ []) doc.block) (λ d _. bytes_obey d xs e)
  bytes_obey doc (Other p ∷ xs) e = no_part p (others_of xs) e

-- ---- the phases of a main request

drop_false : (a c : Bool) → a ≡ false → (a || c) ≡ true → c ≡ true
drop_false true c q h = no_false (sym q)
drop_false false c q h = h

module _ (w : World) (V : Values → Type 0) (T : Option FileRoot → Type 0)
    (levels : Each (LevelFits (every w.server) (is_fixed w.server) (fixed_value w.server) V (λ m. Unit {0})) (levels_of w.server))
    (place_has : (v : Values) → V v → T (Some v.place))
    (auth_sets : (v : Values) → V v → AllAuthSets (λ name. is_fixed w.server name ≡ false) v.auth_sets)
    (bodies : (main : Main) (s : Standing) (status : ℕ) (kind bytes : List ℕ) (ssi : Vars) → V s.values → T s.request.place → (v : Vars) → HasValues w.server main v → (answer : Answer) →
    Solo w (body w (begun main s.request s.values most_depth ssi) (filtered_marks w (facts_of s status kind) bytes) >>= λ _. Done answer) v)
  where
    abbrev AnyMain : Main → Type 0
    AnyMain m = Unit {0}

    abbrev AnyRole : Role → Type 0
    AnyRole r = Unit {0}

    -- a body that comes once fixed variables have their values
    abbrev Fits : Main → Serving (Unit {0}) → Type 0
    Fits main m = (v : Vars) → HasValues w.server main v → (answer : Answer) → Solo w (m >>= λ _. Done answer) v

    abbrev rules : Main → Rules
    rules main = record { kept = every w.server; fixed = is_fixed w.server; value = fixed_value w.server main; main = main; asks = is_auth_role }

    fits_done : (main : Main) → Fits main (Done tt)
    unfolding ◌>>=◌
    fits_done main v h answer = tt

    fits_body : (main : Main) (s : Standing) (status : ℕ) (kind bytes : List ℕ) (ssi : Vars) → V s.values → T s.request.place →
        Fits main (Write [] (body w (begun main s.request s.values most_depth ssi) (filtered_marks w (facts_of s status kind) bytes)))
    unfolding ◌>>=◌
    fits_body main s status kind bytes ssi v t vars h answer = inr (bodies main s status kind bytes ssi v t vars h answer)

    fits_writes : (main : Main) (bytes : List ℕ) → Fits main (writes bytes)
    unfolding ◌>>=◌
    fits_writes main bytes v h answer = inr tt

    auth_fits : (r : Role) (v : Values) → AnyRole r → V v → is_main_role r ≡ true → AuthFits (every w.server) (is_fixed w.server) is_auth_role v
    auth_fits r v a h is = record { asked = refl; known = λ name. refl; sets = auth_sets v h }

    own : LevelFits (every w.server) (is_fixed w.server) (fixed_value w.server) V AnyMain w.server.level
    own = own_of _ w.server levels

    phases : ObeysPhases.Fit w most_depth (every w.server) (is_fixed w.server) (fixed_value w.server) is_auth_role AnyRole V T AnyMain Fits
    phases = record {
      place_has = place_has;
      place_known = λ o h. every_place w o;
      reads = λ v h name g. refl;
      auths = auth_fits;
      page_main = λ r main method a m. tt;
      own = own;
      found = λ path f g. found_of _ w.server levels w.finds path f g;
      names = λ name l g. named_of _ w.server levels name l g;
      done = fits_done;
      written = fits_writes;
      body = λ main s status kind bytes ssi m a v t n. fits_body main s status kind bytes ssi v t;
    }

    abbrev OkAsked : Asked → Type 0
    OkAsked a = ObeysPhases.OkAsked phases a

    abbrev OkNext : Main → Next → Type 0
    OkNext main n = ObeysPhases.OkNext phases main n

    good_round : (changes : ℕ) (a : Asked) → OkAsked a → Obeying.From (rules a.main) (every w.server) (OkNext a.main) (round w changes a)
    good_round = ObeysPhases.good_round phases

    abbrev Ok : Standing → Type 0
    Ok s = AnyRole s.request.role × (V s.values × T s.request.place)

    abbrev OkRan : Ran → Type 0
    OkRan r = ObeysPrograms.OkRan w (every w.server) (is_fixed w.server) (fixed_value w.server) is_auth_role AnyRole V T AnyMain place_has (λ x h. every_place w x) r

    good_after : (a : Asked) (r : Ran) → OkRan r → Obeying.From (rules a.main) (every w.server) (λ (d : Decided). Ok d.at) (after_program true r (λ p. find_config w a p.at))
    good_after a r h =
        ObeysPhases.good_after phases a true r (λ p. find_config w a p.at) h
        (λ p hp. ObeysPhases.good_find_config phases a p.at tt tt)

    good_decided : (changes : ℕ) (a : Asked) (d : Decided) → Ok d.at → Obeying.From (rules a.main) (every w.server) (OkNext a.main) (outcome_next w changes a d.at d.outcome)
    good_decided changes a d h = ObeysPhases.good_decided phases changes a d tt h

    -- ---- fixed variables keep their values

    calls : (main : Main) → Calls w (rules main) (HasValues w.server main)
    calls main = record {
      puts = λ name value v f h. set_values w main name value v f h;
      asks = λ c v may h. (is_auth c.role may.0, (subst (λ m. HasValues w.server m v) (sym may.1) h, λ v' p. subst (λ m. HasValues w.server m v') may.1 p));
      inner = λ c may e. no_false (sym (ap is_auth_role e) ∙ may.0);
    }
      where
        is_auth : (r : Role) → is_auth_role r ≡ true → r ≡ Auth
        is_auth MainRole e = no_false e
        is_auth Content e = no_false e
        is_auth Auth e = refl

    alone_good : {A : Type 0} (main : Main) (m : Serving A) (post : A → Type 0) (v : Vars) → Obeying.From (rules main) (every w.server) post m → HasValues w.server main v → Alone w m (λ v' a. HasValues w.server main v' × post a) v
    alone_good main m post v h p = alone_obeys w (rules main) (HasValues w.server main) (calls main) (every w.server) m _ post v h.obeys (λ now a q. q.1) p

    -- ---- the run of `set`s that begins the server's program

    -- a fixed variable is still to be set, or has its value
    abbrev Inv : Main → Program → Vars → Type 0
    Inv main program v = (name : List ℕ) → is_fixed w.server name ≡ true → (begins_with_set name program ≡ true) ⊎ (look v name ≡ fixed_value w.server main name)

    -- fixed variables have their values, or a text was too long and the built-in page is given
    abbrev Started : Main → Vars → Ran → Type 0
    Started main v (Breaks s true) = OkRan (Breaks s true)
    Started main v (Breaks s false) = HasValues w.server main v × OkRan (Breaks s false)
    Started main v (Ends p) = HasValues w.server main v × OkRan (Ends p)
    Started main v (Returns s code text) = HasValues w.server main v × OkRan (Returns s code text)
    Started main v (Redirects s code to) = HasValues w.server main v × OkRan (Redirects s code to)
    Started main v (Drops s) = HasValues w.server main v × OkRan (Drops s)

    to_started : (main : Main) (v : Vars) (r : Ran) → HasValues w.server main v → OkRan r → Started main v r
    to_started main v (Breaks s true) h o = o
    to_started main v (Breaks s false) h o = (h, o)
    to_started main v (Ends p) h o = (h, o)
    to_started main v (Returns s code text) h o = (h, o)
    to_started main v (Redirects s code to) h o = (h, o)
    to_started main v (Drops s) h o = (h, o)

    none_left : (main : Main) (program : Program) (v : Vars) → ((name : List ℕ) → begins_with_set name program ≡ false) → Inv main program v → HasValues w.server main v
    none_left main program v f i = record { at = λ name e. by name (i name e) }
      where
        by : (name : List ℕ) → (begins_with_set name program ≡ true) ⊎ (look v name ≡ fixed_value w.server main name) → look v name ≡ fixed_value w.server main name
        by name (inl e) = no_false (sym (f name) ∙ e)
        by name (inr e) = e

    -- what reads alone keeps the table
    abbrev reading : Rules → Rules
    reading r = record { kept = every w.server; fixed = every w.server; value = λ name. None; main = r.main; asks = λ role. false }

    reads_only : (r : Rules) (v : Vars) → Calls w (reading r) (λ v'. v' ≡ v)
    reads_only r v = record {
      puts = λ name value v' f h. no_value (f refl);
      asks = λ c v' may h. no_false may.0;
      inner = λ c may e. no_false may.0;
    }
      where
        no_value : {B : Type 0} {value : List ℕ} → Some value ≡ None → B
        no_value e = cc

    alone_fit : (main : Main) (request : Request) (text : Text) (v : Vars) → Alone w (fit_value main request text) (λ v' o. (v' ≡ v) × IsFit main text o) v
    alone_fit main request text v =
        let r = reading (rules main) in
        let h : Obeying.From r (every w.server) (IsFit main text) (fit_value main request text) = from_fit_value main request text (known_text (every w.server) text (λ name e. refl)) (every_place w request.place) in
        alone_obeys w r (λ v'. v' ≡ v) (reads_only (rules main) v) (every w.server) (fit_value main request text) _ (IsFit main text) v h.obeys (λ now a q. q.1) refl

    set_inv : (main : Main) (name value : List ℕ) (text : Text) (program : Program) (v : Vars) → SetFits (is_fixed w.server) (fixed_value w.server) AnyMain name text → IsText main text value →
        Inv main (Set name text ∷ program) v → Inv main program (set name value v)
    unfolding begins_with_set
    set_inv main name value text program v f t i other e = by (bytes_eq name other) refl (i other e)
      where
        set_look : (b : Bool) → bytes_eq name other ≡ b → look (set name value v) other ≡ cond b (Some value) (look v other)
        set_look b q = look_after_set name value v other ∙ ap (λ b. cond b (Some value) (look v other)) q

        by : (b : Bool) → bytes_eq name other ≡ b → ((bytes_eq name other || begins_with_set other program) ≡ true) ⊎ (look v other ≡ fixed_value w.server main other) →
            (begins_with_set other program ≡ true) ⊎ (look (set name value v) other ≡ fixed_value w.server main other)
        by true q h =
            let p : name ≡ other = (bytes_eq-Decides name other).0 q in
            let fixed : is_fixed w.server name ≡ true = subst (λ z. is_fixed w.server z ≡ true) (sym p) e in
            inr (set_look true q ∙ ap Some (t (f.steady fixed)) ∙ f.gives main tt fixed ∙ ap (fixed_value w.server main) p)
        by false q (inl h) = inl (drop_false (bytes_eq name other) (begins_with_set other program) q h)
        by false q (inr h) = inr (set_look false q ∙ h)

    other_alone : (main : Main) (program : Program) (p : Passed) (v : Vars) → EachPrivate (every w.server) (λ name. false) 0 program → AllSets (SetFits (is_fixed w.server) (fixed_value w.server) AnyMain) program → AllBlocks V program → Ok p.at →
        HasValues w.server main v → Alone w (rewritten w main true 0 program p) (Started main) v
    other_alone main program p v e a b o h =
        let g = run_rewritten w (every w.server) (is_fixed w.server) (fixed_value w.server) is_auth_role AnyRole V T AnyMain place_has (λ x h. every_place w x) main tt (every w.server) (λ name. false) true 0 0 program p (covers_same (every w.server)) (λ name g. no_false g) zero-le e a b o in
        alone_post w (rewritten w main true 0 program p) (λ v' r. HasValues w.server main v' × OkRan r) (Started main) v (λ v' r q. to_started main v' r q.0 q.1)
        (alone_obeys w (rules main) (HasValues w.server main) (calls main) (every w.server) (rewritten w main true 0 program p) _ OkRan v g.obeys (λ now r q. q.1) h)

    begins_nil : (name : List ℕ) → begins_with_set name [] ≡ false
    unfolding begins_with_set
    begins_nil name = refl

    abbrev is_set_directive : Directive → Bool
    is_set_directive (Set name text) = true
    is_set_directive (If test negated block values) = false
    is_set_directive (Rewrite pattern to is_url flag) = false
    is_set_directive (Return code text) = false
    is_set_directive Stop = false

    begins_other : (d : Directive) (program : Program) (name : List ℕ) → is_set_directive d ≡ false → begins_with_set name (d ∷ program) ≡ false
    unfolding begins_with_set
    begins_other (Set other text) program name e = no_false (sym e)
    begins_other (If test negated block values) program name e = refl
    begins_other (Rewrite pattern to is_url flag) program name e = refl
    begins_other (Return code text) program name e = refl
    begins_other Stop program name e = refl

    abbrev later_step : World → Main → Program → Step → Serving Ran
    later_step w main program s = on s (λ skip q. rewritten w main true skip program q)

    after_set : (main : Main) (name : List ℕ) (text : Text) (program : Program) (p : Passed) (v v' : Vars) (bytes : Option (List ℕ)) → SetFits (is_fixed w.server) (fixed_value w.server) AnyMain name text → Ok p.at → Inv main (Set name text ∷ program) v →
        ((u : Vars) → Inv main program u → Alone w (rewritten w main true 0 program p) (Started main) u) → (v' ≡ v) × IsFit main text bytes →
        Alone w (set_step true name p bytes >>= later_step w main program) (Started main) v'
    unfolding ◌>>=◌
    after_set main name text program p v v' None f o i ih (e, t) = o
    after_set main name text program p v v' (Some value) f o i ih (e, t) = ih (set name value v') (subst (λ x. Inv main program (set name value x)) (sym e) (set_inv main name value text program v f t i))

    start_set : (main : Main) (name : List ℕ) (text : Text) (program : Program) (p : Passed) (v : Vars) → SetFits (is_fixed w.server) (fixed_value w.server) AnyMain name text → Ok p.at → Inv main (Set name text ∷ program) v →
        ((u : Vars) → Inv main program u → Alone w (rewritten w main true 0 program p) (Started main) u) → Alone w (rewritten w main true 0 (Set name text ∷ program) p) (Started main) v
    unfolding rewritten step
    start_set main name text program p v f o i ih =
        alone_after w (fit_value main p.at.request text) (λ bytes. set_step true name p bytes) (later_step w main program) (Started main) v
        (alone_bind w (fit_value main p.at.request text) (λ bytes. set_step true name p bytes >>= later_step w main program) (λ v' o. (v' ≡ v) × IsFit main text o) (Started main) v
        (alone_fit main p.at.request text v) (λ v' bytes h. after_set main name text program p v v' bytes f o i ih h))

    start_alone : (main : Main) (program : Program) (p : Passed) (v : Vars) → AllSets (SetFits (is_fixed w.server) (fixed_value w.server) AnyMain) program → AllBlocks V program → Ok p.at → Inv main program v →
        Alone w (rewritten w main true 0 program p) (Started main) v
    start_alone main [] p v a b o i = other_alone main [] p v (λ name. inl refl) a b o (none_left main [] v begins_nil i)
    start_alone main (Set name text ∷ program) p v a b o i = start_set main name text program p v a.0 o i (λ u iu. start_alone main program p u a.1 b.1 o iu)
    start_alone main (If test negated block values ∷ program) p v a b o i =
        other_alone main (If test negated block values ∷ program) p v (λ name. inl refl) a b o (none_left main (If test negated block values ∷ program) v (λ name. begins_other (If test negated block values) program name refl) i)
    start_alone main (Rewrite pattern to is_url flag ∷ program) p v a b o i =
        other_alone main (Rewrite pattern to is_url flag ∷ program) p v (λ name. inl refl) a b o (none_left main (Rewrite pattern to is_url flag ∷ program) v (λ name. begins_other (Rewrite pattern to is_url flag) program name refl) i)
    start_alone main (Return code text ∷ program) p v a b o i =
        other_alone main (Return code text ∷ program) p v (λ name. inl refl) a b o (none_left main (Return code text ∷ program) v (λ name. begins_other (Return code text) program name refl) i)
    start_alone main (Stop ∷ program) p v a b o i = other_alone main (Stop ∷ program) p v (λ name. inl refl) a b o (none_left main (Stop ∷ program) v (λ name. begins_other Stop program name refl) i)

    fixed_begins : (main : Main) (v : Vars) → Inv main w.server.level.program v
    unfolding is_fixed
    fixed_begins main v name e =
        let a = not (list_any (auth_sets_it name) (all_values w.server)) in
        let b = is_one_text (set_texts w.server name) in
        inl (and_right (a && b) (begins_with_set name w.server.level.program) e)

    -- ---- rounds

    -- the body is alone until it is ready
    abbrev Safe : Vars → Prepared → Type 0
    Safe v p = (ssi : Vars) (answer : Answer) → Solo w (written w most_depth ssi p.answer p.body >>= λ _. Done answer) v

    -- a round that begins elsewhere than at the server's program begins with fixed variables that have their values
    abbrev StartsSo : Main → Vars → From → Type 0
    StartsSo main v Start = Unit {0}
    StartsSo main v Find = HasValues w.server main v
    StartsSo main v (Named values name) = HasValues w.server main v

    abbrev After : Vars → Next → Type 0
    After v (Answered p) = Safe v p
    After v (Changed s b) = OkAsked b × StartsSo b.main v b.from

    starts_so : (main other : Main) (v : Vars) (from : From) → ObeysPhases.SameMain phases main other from →
        HasValues w.server main v → StartsSo other v from
    starts_so main other v Start e h = tt
    starts_so main other v Find e h = subst (λ m. HasValues w.server m v) (sym e) h
    starts_so main other v (Named values name) e h = subst (λ m. HasValues w.server m v) (sym e) h

    to_after : (main : Main) (v : Vars) (n : Next) → HasValues w.server main v × OkNext main n → After v n
    to_after main v (Answered p) (h, o) = λ ssi answer. o ssi v h answer
    to_after main v (Changed s b) (h, o) = (o.1.0, starts_so main b.main v b.from o.1.1 h)

    next_after : (main : Main) (m : Serving Next) (v : Vars) → Alone w m (λ v' n. HasValues w.server main v' × OkNext main n) v → Alone w m After v
    next_after main m v h = alone_post w m (λ v' n. HasValues w.server main v' × OkNext main n) After v (λ v' n q. to_after main v' n q) h

    -- the built-in page is text
    safe_page : (a : Asked) (s : Standing) (code : ℕ) (v : Vars) → Safe v (page a s code)
    unfolding page page_to written ◌>>=◌
    safe_page a s code v ssi answer = by (has_no_body a.main s.request)
      where
        by : (nothing : Bool) → Solo w (written w most_depth ssi (page_answer a s code None) (if nothing then NoBody else Plain (page_of code)) >>= λ _. Done answer) v
        by true = tt
        by false = inr tt

    -- what the phases decide: fixed variables have their values, or the built-in page is given
    abbrev DecidedSo : Main → Vars → Decided → Type 0
    DecidedSo main v d = (HasValues w.server main v × Ok d.at) ⊎ (d.outcome ≡ Gives 500)

    decided_so : (a : Asked) (m : Serving Decided) (v : Vars) → Alone w m (λ v' d. HasValues w.server a.main v' × Ok d.at) v → Alone w m (DecidedSo a.main) v
    decided_so a m v h = alone_post w m (λ v' (d : Decided). HasValues w.server a.main v' × Ok d.at) (DecidedSo a.main) v (λ v' d q. inl q) h

    good_ran : (a : Asked) (r : Ran) (v : Vars) → HasValues w.server a.main v → OkRan r → Alone w (after_program true r (λ p. find_config w a p.at)) (DecidedSo a.main) v
    good_ran a r v h o = decided_so a (after_program true r (λ p. find_config w a p.at)) v (alone_good a.main (after_program true r (λ p. find_config w a p.at)) (λ (d : Decided). Ok d.at) v (good_after a r o) h)

    alone_ran : (a : Asked) (r : Ran) (v : Vars) → Started a.main v r → Alone w (after_program true r (λ p. find_config w a p.at)) (DecidedSo a.main) v
    alone_ran a (Breaks s true) v h = inr refl
    alone_ran a (Breaks s false) v h = good_ran a (Breaks s false) v h.0 h.1
    alone_ran a (Ends p) v h = good_ran a (Ends p) v h.0 h.1
    alone_ran a (Returns s code text) v h = good_ran a (Returns s code text) v h.0 h.1
    alone_ran a (Redirects s code to) v h = good_ran a (Redirects s code to) v h.0 h.1
    alone_ran a (Drops s) v h = good_ran a (Drops s) v h.0 h.1

    gives_next : (changes : ℕ) (a : Asked) (d : Decided) (v : Vars) → d.outcome ≡ Gives 500 → Alone w (outcome_next w changes a d.at d.outcome) After v
    unfolding outcome_next
    gives_next changes a d v e = subst (λ o. Alone w (outcome_next w changes a d.at o) After v) (sym e) (safe_page a d.at 500 v)

    alone_decided : (changes : ℕ) (a : Asked) (v : Vars) (d : Decided) → DecidedSo a.main v d → Alone w (outcome_next w changes a d.at d.outcome) After v
    alone_decided changes a v d (inl h) =
        next_after a.main (outcome_next w changes a d.at d.outcome) v (alone_good a.main (outcome_next w changes a d.at d.outcome) (OkNext a.main) v (good_decided changes a d h.1) h.0)
    alone_decided changes a v d (inr e) = gives_next changes a d v e

    alone_start : (changes : ℕ) (a : Asked) (v : Vars) → Alone w (phases_from w a Start) (DecidedSo a.main) v
    unfolding phases_from program_run
    alone_start changes a v =
        let s = standing a w.server.level.values in
        alone_bind w (rewritten w a.main true 0 w.server.level.program (begins_at s)) (λ r. after_program true r (λ p. find_config w a p.at)) (Started a.main) (DecidedSo a.main) v
        (start_alone a.main w.server.level.program (begins_at s) v own.sets own.blocks (tt, (own.values, place_has w.server.level.values own.values)) (fixed_begins a.main v))
        (λ v' r h. alone_ran a r v' h)

    kept_round : (changes : ℕ) (a : Asked) (v : Vars) → OkAsked a → HasValues w.server a.main v → Alone w (round w changes a) After v
    kept_round changes a v o h = next_after a.main (round w changes a) v (alone_good a.main (round w changes a) (OkNext a.main) v (good_round changes a o) h)

    whole_round : (changes : ℕ) (a : Asked) (v : Vars) → Alone w (phases_from w a a.from >>= λ d. outcome_next w changes a d.at d.outcome) After v → Alone w (round w changes a) After v
    unfolding round
    whole_round changes a v h = h

    alone_round_from : (changes : ℕ) (a : Asked) (from : From) (v : Vars) → a.from ≡ from → OkAsked a → StartsSo a.main v from → Alone w (round w changes a) After v
    alone_round_from changes a Start v e o h =
        whole_round changes a v
        (alone_bind w (phases_from w a a.from) (λ d. outcome_next w changes a d.at d.outcome) (DecidedSo a.main) After v (subst (λ f. Alone w (phases_from w a f) (DecidedSo a.main) v) (sym e) (alone_start changes a v)) (λ v' d hd. alone_decided changes a v' d hd))
    alone_round_from changes a Find v e o h = kept_round changes a v o h
    alone_round_from changes a (Named values name) v e o h = kept_round changes a v o h

    alone_round : (changes : ℕ) (a : Asked) (v : Vars) → OkAsked a → StartsSo a.main v a.from → Alone w (round w changes a) After v
    alone_round changes a v o h = alone_round_from changes a a.from v refl o h

    alone_until : (again : Standing → Asked → Serving Prepared) (v : Vars) (next : Next) → After v next → ((s : Standing) (b : Asked) → OkAsked b → StartsSo b.main v b.from → Alone w (again s b) Safe v) → Alone w (until again next) Safe v
    alone_until again v (Answered p) h f = h
    alone_until again v (Changed s b) h f = f s b h.0 h.1

    alone_rounds : (changes : ℕ) (a : Asked) (v : Vars) → OkAsked a → StartsSo a.main v a.from → Alone w (rounds w changes a) Safe v
    unfolding rounds
    alone_rounds zero a v o h =
        alone_bind w (round w 0 a) (until (λ s b. Done (page b s 500))) After Safe v (alone_round 0 a v o h) (λ v' n hn. alone_until (λ s b. Done (page b s 500)) v' n hn (λ s b ob hb. safe_page b s 500 v'))
    alone_rounds (suc changes) a v o h =
        alone_bind w (round w (suc changes) a) (until (λ s b. rounds w changes b)) After Safe v (alone_round (suc changes) a v o h) (λ v' n hn. alone_until (λ s b. rounds w changes b) v' n hn (λ s b ob hb. alone_rounds changes b v' ob hb))

    pub solo_main : (main : Main) (request : Request) → Solo w (main_script w main request) []
    unfolding main_script served
    solo_main main request =
        alone_solo w (rounds w most_changes (outside main request)) _ Safe [] (alone_rounds most_changes (outside main request) [] (tt, (tt, tt)) tt)
        (λ v p safe. safe [] p.answer)

-- ---- both kinds of servers

module _ (w : World) (fit : AreFit w) (race : IsRaceless w.server) where
  open_solo : is_open w.server ≡ true → (main : Main) (request : Request) → Solo w (main_script w main request) []
  open_solo o main request =
      solo_main w (OpenFits w.server) (KnownPlace (is_steady w.server)) (open_any w.server o race (λ m. Unit {0}))
      (λ v h. open_place w.server v h) (λ v h. h.auths) bodies main request
    where
      bodies : (main : Main) (s : Standing) (status : ℕ) (kind bytes : List ℕ) (ssi : Vars) → OpenFits w.server s.values → KnownPlace (is_steady w.server) s.request.place → (v : Vars) → HasValues w.server main v → (answer : Answer) →
          Solo w (body w (begun main s.request s.values most_depth ssi) (filtered_marks w (facts_of s status kind) bytes) >>= λ _. Done answer) v
      bodies main s status kind bytes ssi ov t v h answer =
          ready_solo w (body w (begun main s.request s.values most_depth ssi) (filtered_marks w (facts_of s status kind) bytes) >>= λ _. Done answer) v (record {
            is_so = o;
            main = main;
            table = v;
            has = h;
            agree = record { at = λ name e. refl };
            steady = to_any {post = anything} (from_bind (Children.fits_body w fit o race main v h main s most_depth status kind bytes ssi ov t) (λ a _. from_done _ tt));
          })

  is_text : (s : Standing) (status : ℕ) (kind bytes : List ℕ) → ClosedFits w.server s.values → others_of (filtered_marks w (facts_of s status kind) bytes) ≡ []
  unfolding facts_of
  is_text s status kind bytes h = fit.text (facts_of s status kind) bytes h.ssi (ap is_some h.before) (ap is_some h.after)

  closed_solo : is_open w.server ≡ false → (main : Main) (request : Request) → Solo w (main_script w main request) []
  closed_solo e main request =
      solo_main w (ClosedFits w.server) (λ o. Unit {0}) (closed_any w.server e (λ m. Unit {0}))
      (λ v h. tt) (λ v h. h.auths) bodies main request
    where
      bodies : (main : Main) (s : Standing) (status : ℕ) (kind bytes : List ℕ) (ssi : Vars) → ClosedFits w.server s.values → Unit {0} → (v : Vars) → HasValues w.server main v → (answer : Answer) →
          Solo w (body w (begun main s.request s.values most_depth ssi) (filtered_marks w (facts_of s status kind) bytes) >>= λ _. Done answer) v
      bodies main s status kind bytes ssi cv t v h answer =
          let r = auth_rules w main in
          let g = bytes_obey w r (begun main s.request s.values most_depth ssi) (filtered_marks w (facts_of s status kind) bytes) (is_text s status kind bytes cv) in
          alone_solo w (body w (begun main s.request s.values most_depth ssi) (filtered_marks w (facts_of s status kind) bytes)) (λ _. Done answer) (λ v' a. HasValues w.server main v' × anything a) v
          (alone_obeys w r (HasValues w.server main) (no_calls main) (every w.server) (body w (begun main s.request s.values most_depth ssi) (filtered_marks w (facts_of s status kind) bytes)) _ anything v g.obeys (λ now a q. tt) h)
          (λ v' a p. tt)
        where
          no_calls : (main : Main) → Calls w (auth_rules w main) (HasValues w.server main)
          no_calls main = record { puts = λ name value v f h. set_values w main name value v f h; asks = λ c v may h. no_false may.0; inner = λ c may e. no_false may.0 }

  pub solo_any : (main : Main) (request : Request) → Solo w (main_script w main request) []
  solo_any main request = by (is_open w.server) refl
    where
      by : (b : Bool) → is_open w.server ≡ b → Solo w (main_script w main request) []
      by true e = open_solo e main request
      by false e = closed_solo e main request

pub confluent : Confluence
unfolding rest main_came
confluent w fit race tree main request line vars runs =
    let e = solo_keep w tree (λ o main table has left c may. child_steady w fit o race main table has left c may) (λ o main table has left. reply_same w fit o race main table has tree left)
    (Gives 0 most_depth (main_script w main request) Nil) line [] vars runs (inl (solo_any w fit race main request, refl)) None in
    record { answer = sym e.answer; body = sym e.body ∙ append-nil (run tree (reply w tree most_depth) (main_script w main request) []).body }

some_rest : (f : Flight.Flight) (a : Option Answer) (body : List ℕ) (b : Answer) (c : List ℕ) → a ≡ Some b → body ≡ c → unmade_rest f a body ≡ whole_rest f.terms (reply_of b c)
some_rest f a body b c e g = ap (λ x. unmade_rest f x body) e ∙ ap (λ x. whole_rest f.terms (reply_of b x)) g

pub keeps_response : OrderKeepsResponse
unfolding flight_rest Flight.begun main_reply
keeps_response w fit race tree main request terms line vars runs =
    let e = confluent w fit race tree main request line vars runs in
    some_rest (flight_at (Flight.begun w main request terms) line vars) _ _ _ _ e.answer e.body
