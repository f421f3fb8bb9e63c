-- What a run for a spread with a slack claims of the histories within the spread that keep what they reach.
-- Source: this program's.
use Rattle.std.specs.Prelude.{◌≡◌, ℕ, ◌+◌, ◌≤◌, ◌<ℤ◌, ◌+ℤ◌, List, [], ◌∷◌, Some, slice_get, ⊤}
use Rattle.hyd_spec.specs.ProgramTypes.{Project, Tank}
use Rattle.hyd_spec.specs.Lists.{Each}
use Rattle.hyd_spec.specs.Scale.{at_scale}
use Rattle.hyd_spec.specs.Assignment.{head_at, flow_at}
use Rattle.hyd_spec.specs.Tank.{tank_inflow}
use Rattle.hyd_spec.specs.PeriodLength.{Period}
use Rattle.hyd_spec_certificates.specs.PeriodNetwork.{GridJunction, GridLink}
use Rattle.hyd_spec_certificates.specs.FlowIntervals.{flow_box}
use Rattle.hyd_spec_certificates.specs.Decided.{links_at, heads_below, heads_above, inflow_of_tank}
use Rattle.hyd_spec_open_ends.specs.KeptLevels.{KeepsWhatItReaches}
use Rattle.hyd_spec_spread.specs.Spreads.{Spread}
use Rattle.hyd_spec_spread.specs.HistoriesWithin.{HoldsParts, IsHistoryWithin}
use Rattle.hyd_spec_spread_runs.specs.OutermostPairs.{spanned, spanning, outflow_over}
use Rattle.hyd_spec_open_spreads.specs.OpenRunsForSpreads.{OpenFoundOver}

-- A history at scale S of networks within the spread that keeps what it reaches. Carried levels and the levels of
-- controls are said by the words for the file's network, as its next stocks are.
pub record IsKeepingHistoryWithin (project : Project) (spread : Spread) (S : ℕ) (history : List Period) : Type 0 where
  pub within : IsHistoryWithin project spread S history
  pub keeps : KeepsWhatItReaches project S history

-- A period of a history agrees with what was found for a spread: it begins in one of the seconds that the record names,
-- lasts between its two lengths, has its states, has its heads strictly between the record's vectors, and its flows,
-- tank inflows and outflows lie in the boxes of both grids.
pub record AgreesOpenlyOver (project : Project) (S : ℕ) (period : Period) (here : OpenFoundOver) : Type 0 where
  pub begins_after : here.found.row.time ≤ period.time
  pub begins_by : period.time ≤ here.found.row.time + here.found.late
  pub lasts_from : here.found.shortest ≤ period.length
  pub lasts_to : period.length ≤ here.found.row.length
  pub tanks : period.tanks ≡ here.standing.known.tanks
  pub links : period.links ≡ links_at project here.standing.known
  pub above_lower : Each period.assignment.heads (λ j h. at_scale S (head_at here.found.row.main.lower j) <ℤ h)
  pub below_upper : Each period.assignment.heads (λ j h. h <ℤ at_scale S (head_at here.found.row.main.upper j))
  pub flows : Each (spanned here.pair).links (λ l (link : GridLink). HoldsParts S
      (flow_box link (heads_below (spanned here.pair) (spanning here.pair here.found.row))
      (heads_above (spanned here.pair) (spanning here.pair here.found.row))) (flow_at period.assignment.flows l))
  pub inflows : Each project.tanks.list (λ k (tank : Tank). HoldsParts S
      (inflow_of_tank project (spanned here.pair) (spanning here.pair here.found.row) k)
      (tank_inflow project k period.assignment.flows))
  pub outflows : (j : ℕ) (upper lower : GridJunction) → slice_get here.pair.upper.junctions j ≡ Some upper
      → slice_get here.pair.lower.junctions j ≡ Some lower → HoldsParts S
      (outflow_over upper lower (head_at here.found.row.main.lower j) (head_at here.found.row.main.upper j))
      (flow_at period.assignment.demands j +ℤ flow_at period.assignment.emitters j)

-- The periods agree with what was found, one after another, as far as both go.
abbrev pub AllAgreeOpenlyOver : Project → ℕ → List Period → List OpenFoundOver → Type 0
AllAgreeOpenlyOver project S [] founds = ⊤
AllAgreeOpenlyOver project S (period ∷ periods) [] = ⊤
AllAgreeOpenlyOver project S (period ∷ periods) (here ∷ founds) =
    AgreesOpenlyOver project S period here × AllAgreeOpenlyOver project S periods founds

-- Every history within the spread that keeps what it reaches, at every scale, agrees with what was found.
abbrev pub EveryKeepingHistoryWithinAgrees : Project → Spread → List OpenFoundOver → Type 0
EveryKeepingHistoryWithinAgrees project spread founds =
    (S : ℕ) → 1 ≤ S → (history : List Period) → IsKeepingHistoryWithin project spread S history
    → AllAgreeOpenlyOver project S history founds
