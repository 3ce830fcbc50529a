-- Content subrequests of a server in which no variable is named are steady; auth subrequests give fixed variables their values.
use Rattle.std.proofs.Common.{◌≡◌, ℕ, zero, suc, ◌||◌, Bool, true, false, List, [], ◌∷◌, Option, None, Some, refl, sym, ◌∙◌, ap, subst}
use Rattle.std.specs.List.{list_any}
use Rattle.file_tree.specs.Tree.{Tree}
use Rattle.acts.specs.Vars.{Vars, look}
use Rattle.http_types.specs.declared.words.Method.{Method}
use Rattle.ngx_variables.specs.declared.request.Main.{Main}
use Rattle.ngx_variables.specs.declared.request.FileRoot.{FileRoot}
use Rattle.ngx_variables.specs.declared.request.Role.{Role}
use Rattle.ngx_variables.specs.declared.request.Role.TheVariants.{Content, Auth, Main as MainRole}
use Rattle.ssi_text.specs.declared.part.Part.{Part}
use Rattle.ssi_text.specs.declared.part.Part.TheVariants as parts
use Rattle.ssi_text.specs.Marks.{Mark, Byte, Other}
use Rattle.family_meaning.specs.filter_api.Members.{others_of}
use Rattle.family_meaning.specs.request_meaning.Serving.{World, Serving, Child, Answer, Standing, is_main_role, is_auth}
use Rattle.family_meaning.specs.request_meaning.Answering.{facts_of, has_no_body}
use Rattle.family_meaning.specs.request_meaning.Errors.{main_with}
use Rattle.family_meaning.specs.request_meaning.Replies.{Came, run, reply, no_reply, script, served, child_asked, most_changes, or_stub, stubbed}
use Rattle.family_meaning.specs.request_meaning.Bodies.{body, filtered_marks}
use Rattle.family_meaning.specs.request_meaning.Documents.{begun}
use Rattle.ngx_variables.specs.Paths.{text_of}
use Rattle.race_meaning.specs.Named.{is_open, is_fixed, IsRaceless}
use Rattle.race_meaning.specs.Steady.{Names, Rules, Obeys, MayAsk, is_content, steady_rules, Steady, SameReply, InnerSame, any}
use Rattle.race_meaning.specs.Laws.{is_steady, shared, is_command, AreFit, Independence}
use Rattle.race_meaning.proofs.Steadies.{obeys_more, run_same, agree_through}
use Rattle.race_meaning.proofs.Obeying
use Rattle.race_meaning.proofs.Obeying.{no_false, from_done, from_write, from_bind, anything, Known, KnownPlace, known_text}
use Rattle.race_meaning.proofs.ObeysPhases.{Fit, good_rounds}
use Rattle.race_meaning.proofs.ObeysDocuments.{FitMarks, FitPart, Visible, good_body}
use Rattle.race_meaning.proofs.Eaches.{not_left, not_right}
use Rattle.race_meaning.proofs.Found.{own_of, found_of, named_of}
use Rattle.race_meaning.proofs.Servers.{HasValues, has_values, fixed_value, OpenFits, open_place, open_levels, AnyFits, levels_any, every}

-- ---- marks

module _ (w : World) (r : Rules) (content : r.asks Content ≡ true) where
  fit_part : (p : Part) → Visible w r content → FitPart w r content p
  fit_part (parts.Text text) v = tt
  fit_part (parts.Command name ps) v = v
  fit_part parts.Bad v = tt
  fit_part parts.Before v = tt
  fit_part parts.After v = tt

  fit_all : (xs : List Mark) → Visible w r content → FitMarks w r content xs
  fit_all [] v = tt
  fit_all (Byte b ∷ xs) v = fit_all xs v
  fit_all (Other p ∷ xs) v = (fit_part p v, fit_all xs v)

  no_command : (p : Part) → is_command p ≡ false → FitPart w r content p
  no_command (parts.Text text) e = tt
  no_command (parts.Command name ps) e = no_false (sym e)
  no_command parts.Bad e = tt
  no_command parts.Before e = tt
  no_command parts.After e = tt

  fit_none : (xs : List Mark) → list_any is_command (others_of xs) ≡ false → FitMarks w r content xs
  fit_none [] e = tt
  fit_none (Byte b ∷ xs) e = fit_none xs e
  fit_none (Other p ∷ xs) e = (no_command p (not_left (is_command p) (list_any is_command (others_of xs)) e), fit_none xs (not_right (is_command p) (list_any is_command (others_of xs)) e))

  -- what the filters make of a body is fit where its level's values are
  pub fit_marks : AreFit w → (s : Standing) (status : ℕ) (kind bytes : List ℕ) → (s.values.ssi ≡ true → Visible w r content) → FitMarks w r content (filtered_marks w (facts_of s status kind) bytes)
  unfolding facts_of
  fit_marks fit s status kind bytes v = by s.values.ssi refl
    where
      by : (b : Bool) → s.values.ssi ≡ b → FitMarks w r content (filtered_marks w (facts_of s status kind) bytes)
      by true e = fit_all (filtered_marks w (facts_of s status kind) bytes) (v e)
      by false e = fit_none (filtered_marks w (facts_of s status kind) bytes) (fit.commands (facts_of s status kind) bytes e)

-- ---- content subrequests

pub to_any : {A : Type 0} {r : Rules} {known : Names} {post : A → Type 0} {m : Serving A} → Obeying.From r known post m → Obeys r known m any
to_any {A} {r} {known} {post} {m} h = obeys_more r known known m _ any (λ n e. e) h.obeys (λ now more x c q. tt)

module _ (w : World) (fit : AreFit w) (open_server : is_open w.server ≡ true) (race : IsRaceless w.server) where
  abbrev pub steady : Names
  steady = is_steady w.server

  abbrev AsContent : Role → Type 0
  AsContent r = r ≡ Content

  module _ (main : Main) (table : Vars) (has : HasValues w.server main table) where
    abbrev pub Fits : Main → Serving (Unit {0}) → Type 0
    Fits other m = Obeying.From (steady_rules (record { steady = steady; table = table; main = other })) steady anything m

    not_main : (r : Role) → AsContent r → is_main_role r ≡ false
    not_main r e = ap is_main_role e

    same_main : (r : Role) (other : Main) (method : Method) → AsContent r → other ≡ main → main_with (is_main_role r) other method ≡ main
    same_main r other method e m = ap (λ b. main_with b other method) (not_main r e) ∙ m

    pub fits_body : (other : Main) (s : Standing) (left status : ℕ) (kind bytes : List ℕ) (ssi : Vars) → OpenFits w.server s.values → KnownPlace steady s.request.place →
        Fits other (body w (begun other s.request s.values left ssi) (filtered_marks w (facts_of s status kind) bytes))
    unfolding begun
    fits_body other s left status kind bytes ssi v t =
        let r = steady_rules (record { steady = steady; table = table; main = other }) in
        good_body w r refl (begun other s.request s.values left ssi) (filtered_marks w (facts_of s status kind) bytes) (fit_marks w r refl fit s status kind bytes (λ e. v.shown e)) (refl, t)

    phases : (left : ℕ) → Fit w left steady steady (λ _. look table) is_content AsContent (OpenFits w.server) (KnownPlace steady) (λ x. x ≡ main) Fits
    phases left =
        let levels = open_levels w.server open_server race main table has in
        record {
          place_has = λ v h. open_place w.server v h;
          place_known = λ o h. h;
          reads = λ v h name g. h.reads name g;
          auths = λ r v a h is. no_false (sym (not_main r a) ∙ is);
          page_main = same_main;
          own = own_of _ w.server levels;
          found = λ path f g. found_of _ w.server levels w.finds path f g;
          names = λ name l g. named_of _ w.server levels name l g;
          done = λ other. from_done _ tt;
          written = λ other bytes. from_write (from_done _ tt);
          body = λ other s status kind bytes ssi x a v t n. from_write (fits_body other s left status kind bytes ssi v t);
        }

    steady_script : (left : ℕ) (c : Child) → c.role ≡ Content → c.main ≡ main → Obeys (steady_rules (record { steady = steady; table = table; main = c.main })) steady (script w left c) any
    unfolding script served
    steady_script left c e m =
        to_any {post = anything} (from_bind (good_rounds (phases left) (λ x y p q. q ∙ sym p) most_changes (child_asked c) (e, (tt, m))) (λ p hp. from_bind (hp c.ssi) (λ a _. from_done _ tt)))

    pub child_steady : (left : ℕ) (c : Child) → MayAsk (steady_rules (shared w.server table main)) c → Steady (shared w.server table main) steady (script w left c) any
    child_steady left c may =
        subst (λ x. Obeys (steady_rules (record { steady = steady; table = table; main = x })) steady (script w left c) any) may.1 (steady_script left c (is_role c.role may.0) may.1)
      where
        is_role : (r : Role) → is_content r ≡ true → r ≡ Content
        is_role MainRole e = no_false e
        is_role Content e = refl
        is_role Auth e = no_false e

    -- ---- independence

    stubbed_same : (c : Child) (r q : Came Answer) → SameReply (shared w.server table main) r q → SameReply (shared w.server table main) (stubbed c r) (stubbed c q)
    stubbed_same c r q h = record { result = h.result; body = ap (λ a. or_stub c.stub a.status r.body) h.result ∙ ap (or_stub c.stub q.result.status) h.body; left = h.left; right = h.right }

    pub reply_same : (tree : Tree) (left : ℕ) → InnerSame (shared w.server table main) (reply w tree left)
    unfolding reply no_reply
    reply_same tree zero c v u may l r = record { result = refl; body = refl; left = l; right = r }
    reply_same tree (suc left) c v u may l r =
        stubbed_same c (run tree (reply w tree left) (script w left c) v) (run tree (reply w tree left) (script w left c) u)
        (run_same (shared w.server table main) tree (reply w tree left) (reply_same tree left) steady (script w left c) any v u (child_steady left c may) l r (agree_through l r))

pub independent : Independence
independent w fit open_server race tree left c e table v u has l r = reply_same w fit open_server race c.main table (has_values w.server c.main table has) tree left c v u (ap is_content e, refl) l r

-- ---- auth subrequests

module _ (w : World) where
  abbrev pub no_role : Role → Bool
  no_role r = false

  -- every variable may be read, fixed ones get their one value, and no subrequest is asked for
  abbrev pub auth_rules : Main → Rules
  auth_rules main = record { kept = every w.server; fixed = is_fixed w.server; value = fixed_value w.server main; main = main; asks = no_role }

  abbrev AsAuth : Role → Type 0
  AsAuth r = r ≡ Auth

  abbrev AnyPlace : Option FileRoot → Type 0
  AnyPlace o = Unit {0}

  abbrev AuthFit : Main → Serving (Unit {0}) → Type 0
  AuthFit main m = Obeying.From (auth_rules main) (every w.server) anything m

  pub every_place : (o : Option FileRoot) → KnownPlace (every w.server) o
  every_place None = tt
  every_place (Some place) = known_text (every w.server) (text_of place) (λ name e. refl)

  auth_no_body : {B : Type 0} (main : Main) (s : Standing) → AsAuth s.request.role → has_no_body main s.request ≡ false → B
  auth_no_body main s e n = no_false (sym (by (is_auth s.request) _ (ap (λ r. auth_role r) e) n))
    where
      auth_role : Role → Bool
      auth_role r = is_auth (record s.request { role = r })

      by : (a b : Bool) → a ≡ true → (a || b) ≡ false → true ≡ false
      by true b e n = n
      by false b e n = no_false e

  auth_phases : (left : ℕ) (main : Main) → Fit w left (every w.server) (is_fixed w.server) (fixed_value w.server) no_role AsAuth (AnyFits w.server) AnyPlace (λ x. x ≡ main) AuthFit
  auth_phases left main =
      let levels = levels_any w.server (λ x. x ≡ main) in
      record {
        place_has = λ v h. tt;
        place_known = λ o h. every_place o;
        reads = λ v h name g. refl;
        auths = λ r v a h is. no_false (sym (ap is_main_role a) ∙ is);
        page_main = λ r other method a m. ap (λ b. main_with b other method) (ap is_main_role a) ∙ m;
        own = own_of _ w.server levels;
        found = λ path f g. found_of _ w.server levels w.finds path f g;
        names = λ name l g. named_of _ w.server levels name l g;
        done = λ other. from_done _ tt;
        written = λ other bytes. from_write (from_done _ tt);
        body = λ other s status kind bytes ssi x a v t n. from_write (auth_no_body other s a n);
      }

  pub auth_obeys : (left : ℕ) (c : Child) → c.role ≡ Auth → Obeys (auth_rules c.main) (every w.server) (script w left c) any
  unfolding script served
  auth_obeys left c e =
      to_any {post = anything} (from_bind (good_rounds (auth_phases left c.main) (λ x y p q. q ∙ sym p) most_changes (child_asked c) (e, (tt, refl))) (λ p hp. from_bind (hp c.ssi) (λ a _. from_done _ tt)))
