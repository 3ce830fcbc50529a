use Rattle.std.proofs.Common.{refl, ◌∙◌, subst}
use Rattle.race_places.specs.Index.{at}
use Rattle.race_places.specs.Places.{AreInOrder}
use Rattle.race_places.proofs.told.placed_one.Goals as goal

pub returns : goal.returns
returns c =
    record {
      server = refl;
      name = c.in_ok-name.ensures ∙ c.as_slice.ensures;
      documents = refl;
      set_at = subst (λ n. AreInOrder (at c.args.sets.now n) c.in_ok-set_at.set_at.items) c.as_slice-2.ensures c.in_ok-set_at.ensures;
      read_at = subst (λ n. AreInOrder (at c.args.reads.now n) c.in_ok-read_at.read_at.items) c.as_slice-3.ensures c.in_ok-read_at.ensures;
    }
