-- What the chain of filters that a server has makes of a file that comes block by block.
use Rattle.std.proofs.Common.{◌≡◌, ℕ, ◌<◌, Bool, true, false, List, [], ◌∷◌, ◌++◌, map, length, refl, sym, ap, ◌∙◌, append-nil}
use Rattle.std.proofs.lemmas.List.{map-append}
use Rattle.ssi_text.specs.declared.part.Part.TheVariants.{Before}
use Rattle.ssi_text.specs.Marks.{Mark, Byte, Other}
use Rattle.ssi_text.specs.Split.{split}
use Rattle.filter_api.specs.declared.facts.Facts.{Facts}
use Rattle.filter_api.specs.declared.facts.FilterState.{FilterState}
use Rattle.filter_api.specs.declared.stage.Stage.{Stage}
use Rattle.filter_api.specs.Members.{Member, feeds, fresh, turned}
use Rattle.filter_api.specs.Chains.{feeds_all, stage_feeds, stage_ends, still}
use Rattle.filter_api.proofs.Turns.{still-append, still-begun}
use Rattle.addition_filter.specs.Machine.{addition_machine, addition_finish, is_added}
use Rattle.addition_filter.specs.Surrounds.{feeds-on, feeds-first}
use Rattle.ssi_filter.specs.Machine.{is_split, ssi_machine}
use Rattle.ssi_filter.specs.Splits.{text_state, text_out}
use Rattle.family_meaning.specs.request_meaning.Serving.{World}
use Rattle.family_meaning.specs.request_meaning.Bodies.{machines}
use Rattle.family_meaning.specs.request_meaning.Laws.{shipped}
use Rattle.page_body.specs.Stages.{added_stage, ahead, behind, undecided_marks, shipped_machines, split_stage}

-- the machines of a world with the chain that a server has
pub machines_are : (w : World) (facts : Facts) → w.members ≡ shipped → machines w facts ≡ shipped_machines facts
machines_are w facts e = ap (λ (ms : List Member). map (λ (m : Member). m.machine facts) ms) e

-- ---- the stage of server side includes

-- a block that isn't empty
pub block_splits : (facts : Facts) (on : Bool) (undecided bs : List ℕ) → on ≡ true → 0 < length bs →
    stage_feeds (ssi_machine facts) (split_stage on undecided) (map Byte bs) ≡ (split_stage on (split 0 (undecided ++ bs)).1, (split 0 (undecided ++ bs)).0)
block_splits facts true undecided bs e h =
    let s : FilterState = (split_stage true undecided).state in
    let was = feeds (ssi_machine facts) s (map Byte bs) in
    ap (λ (s : FilterState). let g : Stage = record { on = true; state = s } in (g, was.1)) (text_state facts s bs (split 0 (undecided ++ bs)).1 h refl)
    ∙ ap (λ (out : List Mark). (split_stage true (split 0 (undecided ++ bs)).1, out)) (text_out facts s bs h)
block_splits facts false undecided bs e h = cc

-- ---- the stage of additions

added_passes : (facts : Facts) (on : Bool) (xs : List Mark) → stage_feeds (addition_machine facts) (added_stage on) xs ≡ (added_stage on, xs)
added_passes facts true xs = ap (λ (a : FilterState × List Mark). let g : Stage = record { on = true; state = a.0 } in (g, a.1)) (feeds-on facts (added_stage true).state xs refl)
added_passes facts false xs = refl

added_ends : (facts : Facts) (on : Bool) (xs : List Mark) → stage_ends (addition_machine facts) (added_stage on) xs ≡ xs ++ behind on
added_ends facts true xs = ap (λ (a : FilterState × List Mark). a.1 ++ addition_finish a.0) (feeds-on facts (added_stage true).state xs refl)
added_ends facts false xs = sym (append-nil xs)

added_begins : (facts : Facts) (on : Bool) (xs : List Mark) → stage_ends (addition_machine facts) (record { on = on; state = fresh }) xs ≡ ahead on ++ stage_ends (addition_machine facts) (added_stage on) xs
added_begins facts true [] = refl
added_begins facts true (x ∷ xs) =
    ap (λ (a : FilterState × List Mark). a.1 ++ addition_finish a.0) (feeds-first facts fresh (x ∷ xs) refl refl)
    ∙ ap (λ ys. Other Before ∷ ys) (sym (added_ends facts true (x ∷ xs)))
added_begins facts false xs = refl

-- ---- the whole chain

-- a page begins
pub chain_begins : (facts : Facts) (xs : List Mark) → turned (shipped_machines facts) xs ≡ ahead (is_added facts) ++ still (shipped_machines facts) (split_stage (is_split facts) [] ∷ added_stage (is_added facts) ∷ []) xs
chain_begins facts xs =
    sym (still-begun (shipped_machines facts) xs)
    ∙ added_begins facts (is_added facts) (stage_ends (ssi_machine facts) (split_stage (is_split facts) []) xs)

-- a block comes
pub chain_goes_on : (facts : Facts) (on adds : Bool) (undecided undecided' : List ℕ) (out : List Mark) (block more : List ℕ)
    → split_stage on undecided' ≡ (stage_feeds (ssi_machine facts) (split_stage on undecided) (map Byte block)).0
    → out ≡ (stage_feeds (ssi_machine facts) (split_stage on undecided) (map Byte block)).1
    → still (shipped_machines facts) (split_stage on undecided ∷ added_stage adds ∷ []) (map Byte (block ++ more))
    ≡ out ++ still (shipped_machines facts) (split_stage on undecided' ∷ added_stage adds ∷ []) (map Byte more)
chain_goes_on facts on adds undecided undecided' out block more eh eo =
    let ms = shipped_machines facts in
    let gs : List Stage = split_stage on undecided ∷ added_stage adds ∷ [] in
    let a = stage_feeds (ssi_machine facts) (split_stage on undecided) (map Byte block) in
    let fed : feeds_all ms gs (map Byte block) ≡ (a.0 ∷ added_stage adds ∷ [], a.1) =
    ap (λ (b : Stage × List Mark). let gs : List Stage = a.0 ∷ b.0 ∷ [] in (gs, b.1)) (added_passes facts adds a.1) in
    ap (λ xs. still ms gs xs) (map-append Byte block more)
    ∙ (still-append ms gs (map Byte block) (map Byte more) refl
    ∙ (ap (λ (r : List Stage × List Mark). r.1 ++ still ms r.0 (map Byte more)) fed
    ∙ (ap (λ (g : Stage). a.1 ++ still ms (g ∷ added_stage adds ∷ []) (map Byte more)) (sym eh)
    ∙ ap (λ xs. xs ++ still ms (split_stage on undecided' ∷ added_stage adds ∷ []) (map Byte more)) (sym eo))))

-- the file ends
pub chain_ends : (facts : Facts) (on adds : Bool) (undecided : List ℕ) → still (shipped_machines facts) (split_stage on undecided ∷ added_stage adds ∷ []) [] ≡ undecided_marks on undecided ++ behind adds
chain_ends facts true adds undecided = added_ends facts adds (map Byte undecided)
chain_ends facts false adds undecided = added_ends facts adds []
