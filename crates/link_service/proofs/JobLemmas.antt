-- What the files gave is an answer from all trees that agree with what they tell.
use Rattle.std.proofs.Common.{◌≡◌, ◌≢◌, ℕ, ◌≤◌, true, List, [], sym, ap, ◌∙◌, subst}
use Rattle.std.specs.Borrow.{Bor}
use Rattle.file_tree.specs.Tree.{Trees, Item, node_of, text_of, HoldsBytes, IsFrom}
use Rattle.file_tree.specs.declared.job.Ask.TheVariants as ask
use Rattle.file_tree.specs.declared.job.JobAnswer.TheVariants as answer
use Rattle.ngx_outside.specs.declared.files.Look.{Look}
use Rattle.ngx_outside.specs.Outside.{Found}
use Rattle.ngx_outside.specs.Runs.{Agree}
use Rattle.ngx_outside.specs.Seen.{FilesSeen}
use Rattle.link_service.specs.Seen.{Grown}
use Rattle.link_service.proofs.AccountLemmas.{agree_narrow}

pub found_from : (files files' : FilesSeen) (trees : Trees) (path : List ℕ) (of : ℕ) (look : Look) (text : Bor (List ℕ)) → Grown files files' → Agree files'.trees files'.newest trees → of ≤ files.newest →
    Found (files.trees of) path files'.block look → (text.now ≢ [] → (look.whole ≡ true) × (files'.block ≡ text.now)) → IsFrom trees (ask.Stat path of) (answer.Stat look.node text)
found_from files files' trees path of look text g a within f t =
    let same : trees of path ≡ files.trees of path = (agree_narrow files files' g trees a).same of within path in
    (f.0 ∙ sym (ap node_of same), λ some. ap text_of same ∙ (f.1 (t some).0 ∙ (t some).1))

pub block_from : (files files' : FilesSeen) (trees : Trees) (path : List ℕ) (start count of : ℕ) (block : Bor (List ℕ)) → Grown files files' → Agree files'.trees files'.newest trees → of ≤ files.newest → HoldsBytes (files.trees of path) start count block.now →
    IsFrom trees (ask.Read path start count of) (answer.Read block)
block_from files files' trees path start count of block g a within h =
    subst (λ (i : Item). HoldsBytes i start count block.now) (sym ((agree_narrow files files' g trees a).same of within path)) h
