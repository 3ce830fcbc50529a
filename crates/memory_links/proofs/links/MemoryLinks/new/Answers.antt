use Rattle.memory_links.proofs.Ids.{absent_none}
use Rattle.memory_links.proofs.Ids.{crowd_none}
use Rattle.memory_links.proofs.links.MemoryLinks.new.Goals as goal

pub returns-clause-unused : goal.returns-clause-unused
returns-clause-unused c = λ id. (absent_none c.new.result.items id c.new.ensures.items).used

pub returns-clause-none_open : goal.returns-clause-none_open
returns-clause-none_open c = λ id. (absent_none c.new.result.items id c.new.ensures.items).held

pub returns-clause-crowd : goal.returns-clause-crowd
returns-clause-crowd c = crowd_none c.new.result.items c.new.ensures.items
