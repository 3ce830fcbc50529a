-- What links in memory tell of their answers.
use Rattle.std.specs.Prelude.{List, Option}
use Rattle.ngx_outside.specs.Records.{LinkAnswer, Noticed, Read, Written}
use Rattle.memory_outside.specs.declared.answers.Answers.{Answers}
use Rattle.memory_outside.specs.Answered.{told_by}
use Rattle.memory_links.specs.declared.answers.LinkTold.{LinkTold}
use Rattle.memory_links.specs.declared.answers.LinkTold.TheVariants as link

abbrev pub link_answer : LinkTold → LinkAnswer
link_answer (link.Noticed notice) = Noticed notice
link_answer (link.Read id input bytes) = Read id input bytes
link_answer (link.Written id output) = Written id output

abbrev pub links_told : Answers LinkTold → Option (List LinkAnswer)
links_told a = told_by link_answer a.whole a.kept.items
