-- One line more.
use Rattle.std.proofs.Common.{◌≡◌, ℕ, ◌+◌, ◌<◌, List, [], ◌∷◌, ◌++◌, length, take, get_or, sym, ap, ◌∙◌, subst}
use Rattle.std.proofs.lemmas.List.{take_more}
use Rattle.ngx_outside.specs.Seen.{Terms}
use Rattle.ngx_outside.specs.declared.event.StepAnswer.{StepAnswer}
use Rattle.replay_text.specs.declared.parts.EventLine.{EventLine}
use Rattle.replay_run.specs.Told.{Told, told_after, told_in}
use Rattle.replay_run.specs.Scene.{Stage}
use Rattle.replay_run.proofs.Growing.{told_more}
use Rattle.replay_run.specs.Plays.{LineDoes, Plays, Over, Line, skipped_after, refused_after}

plays_more : (terms : Terms) (lines : List EventLine) (l : EventLine) (a : StepAnswer) (told : Told) (old mid new : Stage) (k r k' r' : ℕ) → Plays terms lines told old k r mid k' r' → LineDoes terms (told_in lines told) l a mid new → Plays terms (lines ++ l ∷ []) told old k r new (skipped_after a k') (refused_after a r')
plays_more terms [] l a told old mid new k r k' r' (Over t s skipped refused) d = Line l [] a told old new new k r (skipped_after a k) (refused_after a r) d (Over (told_after l told) new (skipped_after a k) (refused_after a r))
plays_more terms (x ∷ lines) l a told old mid new k r k' r' (Line m ms b t o next last skipped refused skipped' refused' does p) d =
    Line x (lines ++ l ∷ []) b told old next new k r (skipped_after a k') (refused_after a r') does (plays_more terms lines l a (told_after x told) next mid new (skipped_after b k) (refused_after b r) k' r' p d)

pub plays_on : (terms : Terms) (lines : List EventLine) (i : ℕ) (l : EventLine) (a : StepAnswer) (told told' : Told) (old mid new : Stage) (k r k' r' k'' r'' : ℕ) → i < length lines → l ≡ get_or lines i l → k'' ≡ skipped_after a k' → r'' ≡ refused_after a r' →
    told' ≡ told_in (take i lines) told → Plays terms (take i lines) told old k r mid k' r' → LineDoes terms told' l a mid new → Plays terms (take (i + 1) lines) told old k r new k'' r''
plays_on terms lines i l a told told' old mid new k r k' r' k'' r'' h is e f same p d =
    subst (λ xs. Plays terms xs told old k r new k'' r'') (sym (take_more lines i l h ∙ ap (λ x. take i lines ++ x ∷ []) (sym is)))
    (subst (λ n. Plays terms (take i lines ++ l ∷ []) told old k r new n r'') (sym e) (subst (λ n. Plays terms (take i lines ++ l ∷ []) told old k r new (skipped_after a k') n) (sym f)
    (plays_more terms (take i lines) l a told old mid new k r k' r' p (subst (λ (t : Told). LineDoes terms t l a mid new) same d))))

-- what the files tell after one line more
pub told_on : (lines : List EventLine) (i : ℕ) (l : EventLine) (told told' told'' : Told) → i < length lines → l ≡ get_or lines i l → told' ≡ told_in (take i lines) told → told'' ≡ told_after l told' → told'' ≡ told_in (take (i + 1) lines) told
told_on lines i l told told' told'' h is same next =
    next ∙ ap (told_after l) same ∙ sym (told_more (take i lines) l told) ∙ ap (λ xs. told_in xs told) (sym (take_more lines i l h ∙ ap (λ x. take i lines ++ x ∷ []) (sym is)))
