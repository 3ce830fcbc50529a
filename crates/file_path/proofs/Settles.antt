-- Finding a path as acts gives where the file is, and changes no variable.
use Rattle.acts.specs.Act.{Done, settled}
use Rattle.ngx_variables.proofs.Settles.{then_does}
use Rattle.ngx_variables.specs.Paths.{text_of}
use Rattle.ngx_variables.specs.Texts.{value_text}
use Rattle.ngx_variables.specs.Acts.{value, ValueSettles}
use Rattle.file_path.specs.Located.{located, located_at}
use Rattle.file_path.specs.Acts.{located_act, LocatedSettles, SettlesBehindLocated}

pub located_settles : {C R : Type 0} → ValueSettles C R → LocatedSettles C R
unfolding located_act located_at settled
located_settles {C} {R} settles main request vars place uri =
    then_does vars (value {C = C} {R = R} main request (text_of place)) (λ text. Done (located place text uri main.folder)) (value_text main request vars (text_of place)) (settles main request vars (text_of place))

pub settles_behind_located : {C R A : Type 0} → ValueSettles C R → SettlesBehindLocated C R A
settles_behind_located {C} {R} {A} settles main request vars place uri k =
    then_does vars (located_act {C = C} {R = R} main request place uri) k (located_at main request vars place uri) (located_settles settles main request vars place uri)
