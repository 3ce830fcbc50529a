use Rattle.std.proofs.Common.{sym, ◌∙◌, ap, codes}
use Rattle.std.specs.Str.{bytes_eq}
use Rattle.ssi_exec.proofs.Alone as alone
use Rattle.ssi_exec.proofs.asked.read_alone.Goals as goal

pub returns-else-not-is_word : goal.returns-else-not-is_word
returns-else-not-is_word c =
    let p = c.p-item.result in
    let is = ap (λ n. bytes_eq n (codes "virtual")) (sym c.as_slice.ensures) ∙ (sym c.is_word.ensures ∙ c.if-not-is_word.false) in
    let says = alone.says_path c.args.ps.now p c.in-len1.len_at_least c.in-len1.len_below c.p-item.is is in
    (says.good, record { name = c.as_slice-in-len1.ensures ∙ says.name; stub = says.stub; set = says.set; waited = says.waited })
