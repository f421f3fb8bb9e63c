-- What the calls hold: at every scale, the flows of every assignment of a period whose tank levels lie in the
-- intervals of its grid, and what is so at its heads.
-- Source: this program's, from the bounds of heads (Rheinboldt 1970).
use Rattle.std.specs.Prelude.{◌≡◌, Bool, ℕ, ℤ, ◌+ℤ◌, ◌-ℤ◌, List}
use Rattle.hyd_num.specs.declared.spans.Span.{Span}
use Rattle.hyd_num.specs.declared.flow_units.FlowUnit.{FlowUnit}
use Rattle.hyd_net.specs.ListView.{ListView}
use Rattle.hyd_net.specs.NetworkRanges.{HasSizes}
use Rattle.hyd_net.specs.RoundedFileNumbers.{IsKindMade}
use Rattle.hyd_spec.specs.ProgramTypes.{Project, HeadPoint, Pattern, LinkKind, LinkState}
use Rattle.hyd_spec.specs.declared.TankState.{TankState}
use Rattle.hyd_spec.specs.Assignment.{Assignment, head_at, flow_at, node_heads}
use Rattle.hyd_spec.specs.Tank.{tank_inflow}
use Rattle.hyd_spec_certificates.specs.SpansAsIntervals.{flows_of}
use Rattle.hyd_spec_certificates.specs.declared.Problem.TheVariants.{Main, Pinned}
use Rattle.hyd_spec_certificates.specs.declared.Side.TheVariants.{Upper, Lower}
use Rattle.hyd_spec_certificates.specs.Interval.{Interval}
use Rattle.hyd_spec_certificates.specs.PeriodNetwork.{Grid, GridLink}
use Rattle.hyd_spec_certificates.specs.Certificate.{IsCertificate}
use Rattle.hyd_spec_certificates.specs.declared.StatusWord.{StatusWord}
use Rattle.hyd_spec_certificates.specs.StatusesOfLinks.{StatusHolds}
use Rattle.hyd_theorems_on_definitions.specs.LyingInIntervals.{IsCompared, LiesIn}

-- between a LOWER and an UPPER certificate with all tanks alike the flow of a link lies in a span
abbrev pub HoldsFlow : Grid → List ℤ → List ℤ → ℕ → Span → Type 0
HoldsFlow grid below above link span = (project : Project) (S time : ℕ) (intervals : List Interval) (levels : List ℤ)
    (tanks : List TankState) (links : List LinkState) (assignment : Assignment)
    → IsCompared project S time intervals levels tanks links assignment grid
    → IsCertificate grid Main Lower below → IsCertificate grid Main Upper above
    → LiesIn S (flows_of span) (flow_at assignment.flows link)

-- where two such certificates have these heads at a junction, its demand flow and emitter flow together lie in a span
abbrev pub HoldsOutflow : Grid → ℕ → ℤ → ℤ → Span → Type 0
HoldsOutflow grid junction low high span = (project : Project) (S time : ℕ) (intervals : List Interval)
    (levels : List ℤ) (tanks : List TankState) (links : List LinkState) (assignment : Assignment) (below above : List ℤ)
    → IsCompared project S time intervals levels tanks links assignment grid
    → IsCertificate grid Main Lower below → IsCertificate grid Main Upper above
    → head_at below junction ≡ low → head_at above junction ≡ high
    → LiesIn S (flows_of span) (flow_at assignment.demands junction +ℤ flow_at assignment.emitters junction)

-- between two certificates that pin a tank its inflow lies in a span
abbrev pub HoldsInflow : Grid → ℕ → List ℤ → List ℤ → Span → Type 0
HoldsInflow grid tank below above span = (project : Project) (S time : ℕ) (intervals : List Interval) (levels : List ℤ)
    (tanks : List TankState) (links : List LinkState) (assignment : Assignment)
    → IsCompared project S time intervals levels tanks links assignment grid
    → IsCertificate grid (Pinned tank) Lower below → IsCertificate grid (Pinned tank) Upper above
    → LiesIn S (flows_of span) (tank_inflow project tank assignment.flows)

-- between two certificates with all tanks alike a status word holds of a link in its state, where its numbers are made
-- of the file's and are in range
abbrev pub HoldsStatus
    : Grid → List ℤ → List ℤ → Bool → List (ListView HeadPoint) → LinkKind → LinkState → GridLink → StatusWord → Type 0
HoldsStatus grid below above us bends kind state link word = (project : Project) (S time : ℕ)
    (intervals : List Interval) (levels : List ℤ) (tanks : List TankState) (links : List LinkState)
    (assignment : Assignment)
    (unit : FlowUnit) (patterns : List Pattern)
    → IsCompared project S time intervals levels tanks links assignment grid
    → IsCertificate grid Main Lower below → IsCertificate grid Main Upper above
    → IsKindMade unit kind → HasSizes unit patterns bends kind
    → let heads = node_heads project S time levels assignment.heads in
    StatusHolds us bends word kind state S (head_at heads link.from -ℤ head_at heads link.to)
