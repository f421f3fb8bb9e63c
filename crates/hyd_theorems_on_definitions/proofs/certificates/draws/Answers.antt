use Rattle.std.proofs.Common.{arith}
use Rattle.std.proofs.lemmas.Int.{ints}
use Rattle.hyd_spec_certificates.specs.declared.Side.TheVariants.{Upper, Lower}
use Rattle.hyd_theorems_on_definitions.proofs.HeldFlows.{drawn_within}
use Rattle.hyd_theorems_on_definitions.proofs.certificates.draws.Goals as goal

pub returns-clause-enough_head : goal.returns-clause-enough_head
returns-clause-enough_head c project S time intervals levels tanks links held q assignment grid u here compared
    certificate at enough =
    let l = drawn_within project S time intervals levels tanks links held.junction q assignment grid compared Lower
    held.head u
    here certificate at (omega (arith, ints, enough)) in
    omega (arith, ints, l)

pub returns-clause-too_little_head : goal.returns-clause-too_little_head
returns-clause-too_little_head c project S time intervals levels tanks links held q assignment grid u here compared
    certificate at enough =
    drawn_within project S time intervals levels tanks links held.junction q assignment grid compared Upper held.head u
    here certificate at enough
