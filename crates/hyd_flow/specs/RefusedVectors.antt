-- Why the vectors of one named link are refused.
use Rattle.std.specs.Prelude.{◌≡◌, Some, slice_get}
use Rattle.hyd_spec_certificates.specs.declared.Problem.TheVariants.{Main}
use Rattle.hyd_spec_certificates.specs.declared.Side.TheVariants.{Upper, Lower}
use Rattle.hyd_spec_certificates.specs.PeriodNetwork.{Grid, GridLink}
use Rattle.hyd_spec_certificates.specs.Certificate.{FailsFirst}
use Rattle.hyd_spec_certificates.specs.RecordAndStanding.{Record, vector_on}
use Rattle.hyd_spec_flows.specs.FlowParts.{NamedLink, HasItsVector, held_for}
use Rattle.hyd_spec_flows.specs.declared.FlowFails.{FlowFails}
use Rattle.hyd_spec_flows.specs.declared.FlowFails.TheVariants.{Name, Vector}

-- The first of the two vectors of the link, UPPER before LOWER, that isn't what it has to be, and the junction at which
-- it fails first.
abbrev pub FailsAt : Grid → Record → NamedLink → FlowFails → Type 0
FailsAt grid row named (Name number) = ⊥
FailsAt grid row named (Vector number side junction) =
    (number ≡ named.link) × ((side ≡ Lower → HasItsVector grid row named Upper)
    × ((link : GridLink) × ((slice_get grid.links number ≡ Some link)
    × FailsFirst (Some (held_for row link side)) grid Main side (vector_on side named.held) junction)))
