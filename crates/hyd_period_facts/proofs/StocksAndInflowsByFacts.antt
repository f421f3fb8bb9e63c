-- What facts say of the stocks of tanks and of what flows into them.
use Rattle.std.proofs.Common.{◌≡◌, ℕ, ◌+◌, List, ap, ◌∙◌, arith}
use Rattle.std.specs.Prelude.{Some, slice_get, slice_index_or}
use Rattle.hyd_spec.specs.ProgramTypes.{Project, Tank}
use Rattle.hyd_spec_certificates.specs.Interval.{Interval}
use Rattle.hyd_spec_certificates.specs.PeriodNetwork.{Grid}
use Rattle.hyd_spec_certificates.specs.RecordAndStanding.{Record, Standing}
use Rattle.hyd_spec_certificates.specs.Stocks.{Stocks}
use Rattle.hyd_spec_certificates.specs.Decided.{stocks_of_tank, inflow_of_tank, nowhere}
use Rattle.hyd_lemmas.proofs.ListsOptionsAndResults.{numbered_at}
use Rattle.hyd_period_facts.specs.declared.facts.Facts.{Facts}
use Rattle.hyd_period_facts.specs.FactsBeforeEnd.{AreStarted, stocks_in, inflow_in}

pub stocks_are : (project : Project) (grid : Grid) (standing : Standing) (row : Record) (facts : Facts)
    → AreStarted project grid standing row facts → (k : ℕ) → stocks_in facts k ≡ stocks_of_tank standing k
stocks_are project grid standing row facts started k =
    ap (λ (levels : List Interval). let s : Stocks = record {
      level = slice_index_or levels k nowhere;
      volume =
          (stocks_in facts k).volume;
    } in s) started.levels
    ∙ ap (λ (volumes : List Interval). let s : Stocks = record {
      level = slice_index_or standing.levels k nowhere;
      volume = slice_index_or volumes k nowhere;
    } in s) started.volumes

pub inflow_is : (project : Project) (grid : Grid) (standing : Standing) (row : Record) (facts : Facts)
    → AreStarted project grid standing row facts → (k : ℕ) (tank : Tank) → slice_get project.tanks.list k ≡ Some tank
    → inflow_in facts k ≡ inflow_of_tank project grid row k
inflow_is project grid standing row facts started k tank at =
    ap (λ (inflows : List Interval). slice_index_or inflows k nowhere) started.inflows
    ∙ numbered_at (λ k (tank : Tank). inflow_of_tank project grid row k) 0 project.tanks.list k tank nowhere at
    ∙ ap (inflow_of_tank project grid row) (let same : 0 + k ≡ k = omega arith in same)
