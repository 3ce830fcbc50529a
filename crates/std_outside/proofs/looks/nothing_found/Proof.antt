-- `nothing_found` writes zeros as a `Found`, and reads them as a `statx`: a place says of a struct what it says of any other with
-- the same fields in the same order, since the logic forgets the names of structs there (`retype`). Assumes `Logic`.
use Rattle.std.proofs.Common.{◌≡◌, ◌<◌, ◌^◌, [], ◌∷◌, refl, lit<, w8, w16, w32, w64}
use Rattle.std.proofs.raw_atomic.Walks.{proved, leaves}
use base.Fraction.{full_share}
use base.Fml.{ftrue, fat}
use lib.IntN.{pos}
use lib.ListN.{replicate}
use mir.Syntax.{Width, w128}
use mir.Val.{Val, vint, vstruct, of_list, WT, Fits, bits}
use contract.Running.{tables}
use borrow.Table.OneValue.{retype}
use types.Kit.{‵, raw, at_ret, ◌$◌, ◌∵◌, !, qed, by, move, drop, use1}
use types.Part.{agg, rep}
use types.Run.{enter, of_opd, lit, addr, from, load, look, stop, no_more, and_then, first, blocks, exec, returns}
use types.ByLocal.{alloc_all, pass_all, free_all, look_at, get, through, sets, sets_last, take_at, give_at, env}
use denote.Array.{Array}
use denote.Laws.{Is}
use denote.Plain.{UInt}
use denote.RattleType.{RattleType}
use denote.Steps.{nothing, owned}
use denote.Struct.Declared as Declared
use denote.Struct.Struct.{Struct, Struct-Makes}
use denote.Triple.Entry.{on_entry}
use denote.Triple.Walked.{walk_of}
use Rattle.libc.specs.contracts.types.statx as told
use Rattle.libc.specs.contracts.types.statx_timestamp as timed
use Rattle.libc.proofs.types.statx.TheLaws as told_laws
use Rattle.std_outside.proofs.looks.Found.TheLaws as found_laws
use Rattle.std_outside.specs.contracts.looks.nothing_found as f
use Rattle.std_outside.proofs.looks.nothing_found.Statement.{statement}
use Rattle.std_outside.proofs.looks.nothing_found.Code as code

-- a pair, so that a tuple of many parts can be read
abbrev ◌▸◌ : {X Y : Type 0} → X → Y → X × Y
x ▸ y = (x, y)

infixr 20 ◌▸◌
-- ---- the zeros as the machine has them
abbrev nil : Width → Val
nil w = vint w 0

abbrev moment : Val
moment = vstruct (of_list (nil w64 ∷ nil w32 ∷ nil w32 ∷ []))

abbrev gap : Val
gap = vstruct (of_list (nil w16 ∷ []))

abbrev rest : Val
rest = vstruct (of_list (replicate 12 (nil w64)))

abbrev zeros : Val
zeros = vstruct (of_list (
    nil w32 ∷ nil w32 ∷ nil w64 ∷ nil w32 ∷ nil w32 ∷ nil w32 ∷ nil w16 ∷ gap ∷ nil w64 ∷ nil w64 ∷ nil w64 ∷ nil w64 ∷
    moment ∷ moment ∷ moment ∷ moment ∷ nil w32 ∷ nil w32 ∷ nil w32 ∷ nil w32 ∷ nil w64 ∷ nil w32 ∷ nil w32 ∷ rest ∷ []))

fits : (w : Width) → Fits w 0
fits w8 = record { fits = lit< tt }
fits w16 = record { fits = lit< tt }
fits w32 = record { fits = lit< tt }
fits w64 = record { fits = lit< tt }
fits w128 = record { fits = lit< tt }

moment_fits : WT moment
moment_fits = fits w64 ▸ fits w32 ▸ fits w32 ▸ tt

gap_fits : WT gap
gap_fits = fits w16 ▸ tt

rest_fits : WT rest
rest_fits =
    fits w64 ▸ fits w64 ▸ fits w64 ▸ fits w64 ▸ fits w64 ▸ fits w64 ▸
    fits w64 ▸ fits w64 ▸ fits w64 ▸ fits w64 ▸ fits w64 ▸ fits w64 ▸ tt

zeros_fit : WT zeros
zeros_fit =
    fits w32 ▸ fits w32 ▸ fits w64 ▸ fits w32 ▸ fits w32 ▸ fits w32 ▸ fits w16 ▸ gap_fits ▸ fits w64 ▸ fits w64 ▸ fits w64 ▸ fits w64 ▸
    moment_fits ▸ moment_fits ▸ moment_fits ▸ moment_fits ▸
    fits w32 ▸ fits w32 ▸ fits w32 ▸ fits w32 ▸ fits w64 ▸ fits w32 ▸ fits w32 ▸ rest_fits ▸ tt

-- ---- the zeros as a `statx`
abbrev Told : RattleType
Told = Struct (Declared.shape told.the_type)

abbrev Timed : RattleType
Timed = Struct (Declared.shape timed.the_type)

abbrev no_moment : (timed.the_type).D
no_moment = (timed.struct).make (pos 0 ▸ 0 ▸ pos 0 ▸ tt) tt

abbrev none : (told.the_type).D
none = (told.struct).make (
    0 ▸ 0 ▸ 0 ▸ 0 ▸ 0 ▸ 0 ▸ 0 ▸ (0 ∷ []) ▸ 0 ▸ 0 ▸ 0 ▸ 0 ▸ no_moment ▸ no_moment ▸ no_moment ▸ no_moment ▸
    0 ▸ 0 ▸ 0 ▸ 0 ▸ 0 ▸ 0 ▸ 0 ▸ replicate 12 0 ▸ tt) tt

-- a value is the number 0, at a width
abbrev is : (w : Width) → (nil w ∷ [] ≡ nil w ∷ []) × 0 < 2 ^ bits w
is w = refl ▸ (fits w).fits

moment_is : Is Timed ((timed.the_type).to no_moment) (moment ∷ [])
moment_is = ((nil w64 ∷ []) ▸ (nil w32 ∷ []) ▸ (nil w32 ∷ []) ▸ tt, refl ▸ (refl ▸ lit< tt) ▸ is w32 ▸ (refl ▸ lit< tt) ▸ tt)

gap_is : Is (Array (UInt w16) 1) (0 ∷ []) (gap ∷ [])
gap_is = (nil w16 ∷ [], (refl ▸ refl) ▸ is w16 ▸ tt)

rest_is : Is (Array (UInt w64) 12) (replicate 12 0) (rest ∷ [])
rest_is = (
  replicate 12 (nil w64),
  (refl ▸ refl) ▸
      is w64 ▸ is w64 ▸ is w64 ▸ is w64 ▸ is w64 ▸ is w64 ▸ is w64 ▸ is w64 ▸ is w64 ▸ is w64 ▸ is w64 ▸ is w64 ▸ tt,
)

zeros_are : Is Told ((told.the_type).to none) (zeros ∷ [])
zeros_are = (
  (nil w32 ∷ []) ▸ (nil w32 ∷ []) ▸ (nil w64 ∷ []) ▸ (nil w32 ∷ []) ▸ (nil w32 ∷ []) ▸ (nil w32 ∷ []) ▸ (nil w16 ∷ []) ▸ (gap ∷ []) ▸
      (nil w64 ∷ []) ▸ (nil w64 ∷ []) ▸ (nil w64 ∷ []) ▸ (nil w64 ∷ []) ▸ (moment ∷ []) ▸ (moment ∷ []) ▸ (moment ∷ []) ▸ (moment ∷ []) ▸
      (nil w32 ∷ []) ▸ (nil w32 ∷ []) ▸ (nil w32 ∷ []) ▸ (nil w32 ∷ []) ▸ (nil w64 ∷ []) ▸ (nil w32 ∷ []) ▸ (nil w32 ∷ []) ▸ (rest ∷ []) ▸ tt,
  refl ▸ is w32 ▸ is w32 ▸ is w64 ▸ is w32 ▸ is w32 ▸ is w32 ▸ is w16 ▸ gap_is ▸ is w64 ▸ is w64 ▸ is w64 ▸ is w64 ▸
      moment_is ▸ moment_is ▸ moment_is ▸ moment_is ▸ is w32 ▸ is w32 ▸ is w32 ▸ is w32 ▸ is w64 ▸ is w32 ▸ is w32 ▸ rest_is ▸ tt,
)

-- ---- the walk
pub nothing_found_spec : {M : Type 1} → statement M
nothing_found_spec 𝓤 𝓛 𝓜 𝓡 wired =
    let c = f.clauses 𝓛 𝓜.mem 𝓡.returns in let W = walk_of 𝓛 f.ended tt c in let 𝓣 = tables 𝓤 𝓛.H 𝓜 𝓡 𝓡.env in
    proved 𝓛 f.ended tt c 𝓜 𝓡 tt f.Key.name code.function (code.unfolded 𝓤 𝓛.H 𝓜 𝓡 wired)
    (λ κs. tt) (λ κs. tt) (λ κs qs bounds a _ are.
    let y : W.Ghost = ((κs, qs, bounds, a, tt), tt) in
    qed 𝓛 (raw (on_entry 𝓛 f.signature κs qs a tt) ∷ ‵ ftrue ∷ []) ∵ drop ! $ drop ! $
    enter ! _ _ _ _ _ $ alloc_all ! (λ l. pass_all ! refl tt $
    -- let nothing = NOTHING;  its parts first
    sets ! (agg ! (and_then ! (lit ! tt) (no_more !))) refl (tt, gap_fits) $
    sets ! (agg ! (and_then ! (lit ! tt) (and_then ! (lit ! tt) (and_then ! (lit ! tt) (no_more !))))) refl (tt, moment_fits) $
    sets ! (agg ! (and_then ! (lit ! tt) (and_then ! (lit ! tt) (and_then ! (lit ! tt) (no_more !))))) refl (tt, moment_fits) $
    sets ! (agg ! (and_then ! (lit ! tt) (and_then ! (lit ! tt) (and_then ! (lit ! tt) (no_more !))))) refl (tt, moment_fits) $
    sets ! (agg ! (and_then ! (lit ! tt) (and_then ! (lit ! tt) (and_then ! (lit ! tt) (no_more !))))) refl (tt, moment_fits) $
    sets ! (rep ! 12 (lit ! tt)) refl (tt, rest_fits) $
    sets ! (agg ! (
    and_then ! (lit ! tt) (and_then ! (lit ! tt) (and_then ! (lit ! tt) (and_then ! (lit ! tt) (
    and_then ! (lit ! tt) (and_then ! (lit ! tt) (and_then ! (lit ! tt) (and_then ! (get ! refl) (
    and_then ! (lit ! tt) (and_then ! (lit ! tt) (and_then ! (lit ! tt) (and_then ! (lit ! tt) (
    and_then ! (get ! refl) (and_then ! (get ! refl) (and_then ! (get ! refl) (and_then ! (get ! refl) (
    and_then ! (lit ! tt) (and_then ! (lit ! tt) (and_then ! (lit ! tt) (and_then ! (lit ! tt) (
    and_then ! (lit ! tt) (and_then ! (lit ! tt) (and_then ! (lit ! tt) (and_then ! (get ! refl) (
    no_more !)))))))))))))))))))))))))) refl (tt, zeros_fit) $
    sets ! (of_opd ! (get ! refl)) refl (tt, zeros_fit) $
    -- &raw const nothing as *const statx
    first ! $ blocks ! $ sets ! (addr ! (from ! (stop !))) refl (tt, tt) $
    -- .read()  the place of `nothing` is one of a `statx` while it is read
    take_at ! 1 $ use1 𝓛 (‵ (fat full_share told_laws.mir (l 1) 0 zeros)) (retype 𝓛 full_share found_laws.mir told_laws.mir refl (l 1) 0 zeros) $
    sets_last ! (of_opd ! (load ! (through ! refl (stop !)) (look ! 0 refl))) refl (tt, zeros_fit) $
    exec ! 𝓣.C 𝓣.Λ (env code.Mir.locals l) code.Mir.t-10 (at_ret _ (W.post y)) $
    use1 𝓛 (‵ (fat full_share found_laws.mir (l 1) 0 zeros)) (retype 𝓛 full_share told_laws.mir found_laws.mir refl (l 1) 0 zeros) $ give_at ! 1 $
    sets ! (of_opd ! (get ! refl)) refl (tt, zeros_fit) $
    returns ! (look_at ! 0 refl) $ free_all ! refl $
    owned ! Told (Is Told) (Struct-Makes 𝓛 (Declared.shape told.the_type) told_laws.the_plain) ((told.the_type).to none) (zeros ∷ []) zeros_are $
    nothing ! $ nothing ! $ nothing ! $ move ! (0 ∷ 1 ∷ 3 ∷ 2 ∷ []) $ by ! (leaves 𝓛 f.ended tt c y zeros none tt tt)))
