-- A run of a program writes no slot at or past the program's count of slots, so cells for that count hold each group.
use Rattle.std.proofs.Common.{◌≡◌, ℕ, ◌+◌, ◌<◌, List, length, Some, All, refl, sym, ap, ◌∙◌, subst, ⊎_elim, arith}
use Rattle.std.proofs.lemmas.List.Elements.{All-nil, All-cons, All-weaker}
use Rattle.std.proofs.lemmas.Option.{none-some, same_Some}
use Rattle.regex_hir.specs.Looks.{holds}
use Rattle.regex_hir.specs.Re.{Trace}
use Rattle.regex_hir.proofs.OptionLemmas.{option_or_cases, write_cases}
use Rattle.regex_hir.proofs.AttemptLemmas.{cond_some, option_and_then_some}
use Rattle.regex_nfa.specs.States.{next_on, byte_below, read, visit}
use Rattle.regex_nfa.specs.Run.{state_of, measure, run}
use Rattle.regex_nfa.specs.declared.state.State.{State}
use Rattle.regex_nfa.specs.declared.state.State.TheVariants.{ByteRange, Sparse, Split, Save, Look, Match, Fail}
use Rattle.regex_nfa.specs.declared.nfa.Nfa.{Nfa}
use Rattle.regex_nfa.proofs.RunLemmas.{sound_of, next_on_within, byte_below_some, run_unfold, measure_falls_empty, measure_falls_byte, measure_induction}
use Rattle.regex_meta.specs.Programs.{pattern_of as re_of}
use Rattle.regex_meta.specs.declared.program.Program.{Program}
use Rattle.regex_meta.proofs.ProgramLemmas.{run-attempt}
use Rattle.regex.proofs.GroupLemmas.{HasRoom}

-- the runs of one automaton in bytes of which none at or past `stop` is read
module _ (nfa : Nfa) (bytes : List ℕ) (stop : ℕ) where
  -- the slot of a write is one that the automaton counts
  abbrev IsCounted : ℕ × ℕ → Type 0
  IsCounted write = write.0 < nfa.slot_count

  -- each write of the run from a state at a place, if there is a run, is counted
  abbrev IsTidy : ℕ → ℕ → Type 0
  IsTidy state place = (t : Trace) → run nfa bytes stop state place ≡ Some t → All IsCounted t.writes

  -- the same of all runs that are nearer to their end than the one from here
  abbrev AreTidyNearer : ℕ → ℕ → Type 0
  AreTidyNearer state place = (next later : ℕ) →
      measure nfa bytes stop next later < measure nfa bytes stop state place → IsTidy next later

  tidy-read : (q i : ℕ) (s : State) → state_of nfa q ≡ s → AreTidyNearer q i → (t : Trace) →
      read nfa.transitions.items bytes stop (run nfa bytes stop) s i ≡ Some t → All IsCounted t.writes
  tidy-read q i s is nearer t e =
      let target = option_and_then_some _ _ t e in
      let byte = option_and_then_some (next_on nfa.transitions.items s) (byte_below bytes stop i) target.0 target.1 in
      let edge : next_on nfa.transitions.items (state_of nfa q) byte.0 ≡ Some target.0 =
      ap (λ x. next_on nfa.transitions.items x byte.0) is ∙ byte.2 in
      let inside = (byte_below_some bytes stop i byte.0 byte.1).0 in
      nearer target.0 (i + 1)
      (measure_falls_byte nfa bytes stop target.0 q i inside (next_on_within nfa q byte.0 target.0 edge))
      t target.2

  tidy-visit : (q i : ℕ) (s : State) → state_of nfa q ≡ s → AreTidyNearer q i → (t : Trace) →
      visit nfa.transitions.items bytes stop (run nfa bytes stop) s i ≡ Some t → All IsCounted t.writes
  tidy-visit q i (ByteRange range) is nearer t e = tidy-read q i _ is nearer t e
  tidy-visit q i (Sparse from to) is nearer t e = tidy-read q i _ is nearer t e
  tidy-visit q i (Split first second) is nearer t e =
      let below = sound_of nfa q _ is in
      ⊎_elim
      (nearer first i (measure_falls_empty nfa bytes stop first q i below.0) t)
      (λ other. nearer second i (measure_falls_empty nfa bytes stop second q i below.1) t other.1)
      (option_or_cases _ _ t e)
  tidy-visit q i (Save slot next) is nearer t e =
      let counted = sound_of nfa q _ is in
      let written = write_cases slot i _ t e in
      let rest = nearer next i (measure_falls_empty nfa bytes stop next q i counted.1) written.0 written.1 in
      subst (All IsCounted) (sym written.3) (All-cons IsCounted (slot, i) _ counted.0 rest)
  tidy-visit q i (Look look next) is nearer t e =
      nearer next i (measure_falls_empty nfa bytes stop next q i (sound_of nfa q _ is)) t (cond_some (holds look bytes i) _ t e).1
  tidy-visit q i Match is nearer t e = subst (λ (x : Trace). All IsCounted x.writes) (same_Some _ t e) (All-nil _)
  tidy-visit q i Fail is nearer t e = absurd (none-some t e)

  pub run-tidy : (q i : ℕ) → IsTidy q i
  run-tidy =
      measure_induction nfa bytes stop IsTidy
      (λ q i nearer t e. tidy-visit q i _ refl nearer t (sym (run_unfold nfa bytes stop q i) ∙ e))

-- cells for all slots but the first two have room for the groups of each match
pub program_has_room : (p : Program) (width : ℕ) → width + 2 ≡ p.dfa.nfa.slot_count → HasRoom (re_of p) width
program_has_room p width wide bytes i t found =
    let nfa = p.dfa.nfa in
    All-weaker (λ (w : ℕ × ℕ). w.0 < nfa.slot_count) (λ w. w.0 < width + 2) (λ w below. omega (arith, wide)) t.writes
    (run-tidy nfa bytes (length bytes) nfa.start i t (run-attempt p bytes i ∙ found))
