-- What the commands of an `if` do by how far it has come.
use Rattle.std.proofs.Common.{◌≡◌, true, false, List, codes, refl}
use Rattle.acts.specs.Act.{Done}
use Rattle.ssi_text.specs.declared.part.Param.{Param}
use Rattle.request_meaning.specs.Serving.{World}
use Rattle.request_meaning.specs.Documents.{Doc, Branch, live_oops, oops}
use Rattle.request_meaning.specs.Documents.Branch.{NoIf, InIf}
use Rattle.request_meaning.specs.Commands.{in_branch, opened, if_done, elif_done, else_done, endif_done, text_of}
use Rattle.ssi_exec.specs.declared.branches.Stage.TheVariants.{Outside, BehindElse, Taken, Untaken}
use Rattle.ssi_exec.specs.Stages.{is_outside, stage_of}

module _ (w : World) (doc : Doc) (ps : List Param) where
  pub if_outside : (b : Branch) → is_outside b ≡ true → if_done w doc ps b ≡ opened w doc (text_of (codes "expr") ps)
  unfolding if_done
  if_outside NoIf e = refl
  if_outside (InIf live taken last) e = cc

  pub if_inside : (b : Branch) → is_outside b ≡ false → if_done w doc ps b ≡ live_oops doc
  unfolding if_done
  if_inside NoIf e = cc
  if_inside (InIf live taken last) e = refl

  pub elif_outside : (b : Branch) → stage_of b ≡ Outside → elif_done w doc ps b ≡ oops doc
  unfolding elif_done
  elif_outside NoIf e = refl
  elif_outside (InIf live taken true) e = cc
  elif_outside (InIf live true false) e = cc
  elif_outside (InIf live false false) e = cc

  pub elif_behind : (b : Branch) → stage_of b ≡ BehindElse → elif_done w doc ps b ≡ live_oops doc
  unfolding elif_done
  elif_behind NoIf e = cc
  elif_behind (InIf live taken true) e = refl
  elif_behind (InIf live true false) e = cc
  elif_behind (InIf live false false) e = cc

  pub elif_taken : (b : Branch) → stage_of b ≡ Taken → elif_done w doc ps b ≡ Done (in_branch doc (InIf false true false))
  unfolding elif_done
  elif_taken NoIf e = cc
  elif_taken (InIf live taken true) e = cc
  elif_taken (InIf live true false) e = refl
  elif_taken (InIf live false false) e = cc

  pub elif_untaken : (b : Branch) → stage_of b ≡ Untaken → elif_done w doc ps b ≡ opened w doc (text_of (codes "expr") ps)
  unfolding elif_done
  elif_untaken NoIf e = cc
  elif_untaken (InIf live taken true) e = cc
  elif_untaken (InIf live true false) e = cc
  elif_untaken (InIf live false false) e = refl

module _ (doc : Doc) where
  pub else_outside : (b : Branch) → stage_of b ≡ Outside → else_done doc b ≡ oops doc
  unfolding else_done
  else_outside NoIf e = refl
  else_outside (InIf live taken true) e = cc
  else_outside (InIf live true false) e = cc
  else_outside (InIf live false false) e = cc

  pub else_behind : (b : Branch) → stage_of b ≡ BehindElse → else_done doc b ≡ live_oops doc
  unfolding else_done
  else_behind NoIf e = cc
  else_behind (InIf live taken true) e = refl
  else_behind (InIf live true false) e = cc
  else_behind (InIf live false false) e = cc

  pub else_taken : (b : Branch) → stage_of b ≡ Taken → else_done doc b ≡ Done (in_branch doc (InIf false true true))
  unfolding else_done
  else_taken NoIf e = cc
  else_taken (InIf live taken true) e = cc
  else_taken (InIf live true false) e = refl
  else_taken (InIf live false false) e = cc

  pub else_untaken : (b : Branch) → stage_of b ≡ Untaken → else_done doc b ≡ Done (in_branch doc (InIf true true true))
  unfolding else_done
  else_untaken NoIf e = cc
  else_untaken (InIf live taken true) e = cc
  else_untaken (InIf live true false) e = cc
  else_untaken (InIf live false false) e = refl

  pub endif_outside : (b : Branch) → is_outside b ≡ true → endif_done doc b ≡ oops doc
  unfolding endif_done
  endif_outside NoIf e = refl
  endif_outside (InIf live taken last) e = cc

  pub endif_inside : (b : Branch) → is_outside b ≡ false → endif_done doc b ≡ Done (in_branch doc NoIf)
  unfolding endif_done
  endif_inside NoIf e = cc
  endif_inside (InIf live taken last) e = refl
