use Rattle.std.proofs.Common.{refl}
use Rattle.hyd_cases_of_definitions.proofs.losses.pipe_metres.Goals as goal
use Rattle.std.proofs.lemmas.Bool.{leb-true}

pub returns-clause-below : goal.returns-clause-below
returns-clause-below c = λ length diameter roughness minor long wide rough none. record {
  minor_within = rw (wide, none) (record { crossed = leb-true _ _ refl });
  friction_within = rw (long, wide, rough, none) (record { crossed = leb-true _ _ refl });
}

pub returns-clause-above : goal.returns-clause-above
returns-clause-above c = λ length diameter roughness minor long wide rough none. rw (long, wide, rough, none)
    (record { crossed = leb-true _ _ refl })
