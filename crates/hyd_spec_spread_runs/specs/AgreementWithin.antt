-- What a run for a spread claims of the histories within it.
-- Source: this program's.
use Rattle.std.specs.Prelude.{◌≡◌, ℕ, ◌≤◌, ◌<ℤ◌, ◌+ℤ◌, List, [], ◌∷◌, Some, slice_get, ⊤}
use Rattle.hyd_spec.specs.ProgramTypes.{Project, Tank}
use Rattle.hyd_spec.specs.Lists.{Each}
use Rattle.hyd_spec.specs.Scale.{at_scale}
use Rattle.hyd_spec.specs.Assignment.{head_at, flow_at}
use Rattle.hyd_spec.specs.Tank.{tank_inflow}
use Rattle.hyd_spec.specs.PeriodLength.{Period}
use Rattle.hyd_spec_certificates.specs.PeriodNetwork.{GridJunction, GridLink}
use Rattle.hyd_spec_certificates.specs.FlowIntervals.{flow_box}
use Rattle.hyd_spec_certificates.specs.Decided.{links_at, heads_below, heads_above, inflow_of_tank}
use Rattle.hyd_spec_spread.specs.Spreads.{Spread}
use Rattle.hyd_spec_spread.specs.HistoriesWithin.{HoldsParts, IsHistoryWithin}
use Rattle.hyd_spec_spread_runs.specs.OutermostPairs.{spanned, spanning, outflow_over}
use Rattle.hyd_spec_spread_runs.specs.RunsForSpreads.{FoundOver}

-- A period of a history agrees with what was found for a spread: it begins at the record's time, has its length and its
-- states, has its heads strictly between the record's vectors, and its flows, tank inflows and outflows lie in the
-- boxes of both grids.
pub record AgreesOver (project : Project) (S : ℕ) (period : Period) (found : FoundOver) : Type 0 where
  pub time : period.time ≡ found.row.time
  pub length_is : period.length ≡ found.row.length
  pub tanks : period.tanks ≡ found.standing.tanks
  pub links : period.links ≡ links_at project found.standing
  pub above_lower : Each period.assignment.heads (λ j h. at_scale S (head_at found.row.main.lower j) <ℤ h)
  pub below_upper : Each period.assignment.heads (λ j h. h <ℤ at_scale S (head_at found.row.main.upper j))
  pub flows : Each (spanned found.pair).links (λ l (link : GridLink). HoldsParts S
      (flow_box link (heads_below (spanned found.pair) (spanning found.pair found.row))
      (heads_above (spanned found.pair) (spanning found.pair found.row))) (flow_at period.assignment.flows l))
  pub inflows : Each project.tanks.list (λ k (tank : Tank). HoldsParts S
      (inflow_of_tank project (spanned found.pair) (spanning found.pair found.row) k)
      (tank_inflow project k period.assignment.flows))
  pub outflows : (j : ℕ) (upper lower : GridJunction) → slice_get found.pair.upper.junctions j ≡ Some upper
      → slice_get found.pair.lower.junctions j ≡ Some lower → HoldsParts S
      (outflow_over upper lower (head_at found.row.main.lower j) (head_at found.row.main.upper j))
      (flow_at period.assignment.demands j +ℤ flow_at period.assignment.emitters j)

-- The periods agree with what was found, one after another, as far as both go.
abbrev pub AllAgreeOver : Project → ℕ → List Period → List FoundOver → Type 0
AllAgreeOver project S [] founds = ⊤
AllAgreeOver project S (period ∷ periods) [] = ⊤
AllAgreeOver project S (period ∷ periods) (found ∷ founds) =
    AgreesOver project S period found × AllAgreeOver project S periods founds

-- Every history within the spread, at every scale, agrees with what was found.
abbrev pub EveryHistoryWithinAgrees : Project → Spread → List FoundOver → Type 0
EveryHistoryWithinAgrees project spread founds =
    (S : ℕ) → 1 ≤ S → (history : List Period) → IsHistoryWithin project spread S history
    → AllAgreeOver project S history founds
