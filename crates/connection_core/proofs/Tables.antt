-- One connection among those that are held.
use Rattle.std.proofs.Common.{◌≡◌, ◌≢◌, ℕ, ◌<◌, true, false, cond, eqb, List, [], ◌∷◌, ◌++◌, length, refl, sym, ap, ◌∙◌, arith}
use Rattle.std.specs.List.{AllByRecursion}
use Rattle.std.proofs.lemmas.Bool.Decides.{nat_tests}
use Rattle.ngx_outside.specs.Views.{nobody}
use Rattle.http_connection.specs.declared.conn.Conn.{Conn}
use Rattle.http_connection.specs.Conn.{view_of}
use Rattle.http_connection.specs.Rests.{Serves}
use Rattle.connection_core.specs.Table.{view_in, Below, Above}

same : (a b : ℕ) → a ≡ b → eqb a b ≡ true
same a b e = grind (arith, nat_tests)

differs : (a b : ℕ) → a ≢ b → eqb a b ≡ false
differs a b e = grind (arith, nat_tests)

below_not : (a b : ℕ) → a < b → a ≢ b
below_not a b h e = omega (arith, h, e)

above_not : (a b : ℕ) → b < a → a ≢ b
above_not a b h e = omega (arith, h, e)

-- the connection under its number
pub there : (serves : Serves) (front : List ℕ) (before : List Conn) (c : ℕ) (conn : Conn) (back : List ℕ) (after : List Conn) → length before ≡ length front → Below c front →
    view_in serves (front ++ c ∷ back) (before ++ conn ∷ after) c ≡ view_of serves conn
there serves [] [] c conn back after e b = ap (λ t. cond t (view_of serves conn) (view_in serves back after c)) (same c c refl)
there serves [] (x ∷ before) c conn back after e b = absurd (omega (arith, e))
there serves (f ∷ front) [] c conn back after e b = absurd (omega (arith, e))
there serves (f ∷ front) (x ∷ before) c conn back after e b =
    ap (λ t. cond t (view_of serves x) (view_in serves (front ++ c ∷ back) (before ++ conn ∷ after) c)) (differs f c (below_not f c b.0))
    ∙ there serves front before c conn back after (omega (arith, e)) b.1

-- other numbers don't see it
pub elsewhere : (serves : Serves) (front : List ℕ) (before : List Conn) (c : ℕ) (conn : Conn) (back : List ℕ) (after : List Conn) (q : ℕ) → length before ≡ length front → q ≢ c →
    view_in serves (front ++ c ∷ back) (before ++ conn ∷ after) q ≡ view_in serves (front ++ back) (before ++ after) q
elsewhere serves [] [] c conn back after q e ne = ap (λ t. cond t (view_of serves conn) (view_in serves back after q)) (differs c q (λ h. ne (sym h)))
elsewhere serves [] (x ∷ before) c conn back after q e ne = absurd (omega (arith, e))
elsewhere serves (f ∷ front) [] c conn back after q e ne = absurd (omega (arith, e))
elsewhere serves (f ∷ front) (x ∷ before) c conn back after q e ne =
    ap (λ v. cond (eqb f q) (view_of serves x) v) (elsewhere serves front before c conn back after q (omega (arith, e)) ne)

-- a number that isn't there
pub nowhere : (serves : Serves) (ids : List ℕ) (conns : List Conn) (c : ℕ) → AllByRecursion (λ id. id ≢ c) ids → view_in serves ids conns c ≡ nobody
nowhere serves [] conns c a = refl
nowhere serves (id ∷ ids) [] c a = refl
nowhere serves (id ∷ ids) (conn ∷ conns) c a = ap (λ t. cond t (view_of serves conn) (view_in serves ids conns c)) (differs id c a.0) ∙ nowhere serves ids conns c a.1

pub none_of_two : (front back : List ℕ) (c : ℕ) → Below c front → Above c back → AllByRecursion (λ id. id ≢ c) (front ++ back)
none_of_two [] [] c b a = b
none_of_two [] (x ∷ back) c b a = (above_not x c a.0, none_of_two [] back c b a.1)
none_of_two (f ∷ front) back c b a = (below_not f c b.0, none_of_two front back c b.1 a)

-- numbers that rise
pub data Rising : List ℕ → Type 0 where
  None : Rising []
  More : (id : ℕ) (ids : List ℕ) → Above id ids → Rising ids → Rising (id ∷ ids)
