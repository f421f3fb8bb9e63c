-- Where a period begins at a tidy standing, some stock lies between the ends of each interval of its facts.
use Rattle.std.proofs.Common.{◌≡◌, ℕ, List, ap, sym, ◌∙◌, subst}
use Rattle.std.specs.Prelude.{slice_index_or}
use Rattle.hyd_spec.specs.ProgramTypes.{Project}
use Rattle.hyd_spec_certificates.specs.Interval.{Interval}
use Rattle.hyd_spec_certificates.specs.RecordAndStanding.{Standing}
use Rattle.hyd_spec_certificates.specs.Stocks.{Stocks}
use Rattle.hyd_spec_certificates.specs.Decided.{stocks_of_tank, nowhere}
use Rattle.hyd_theorems_on_definitions.specs.LyingInIntervals.{HasStock}
use Rattle.hyd_theorems_on_nesting.specs.StandingsOfRuns.{IsTidy}
use Rattle.hyd_period_facts.specs.declared.facts.Facts.{Facts}
use Rattle.hyd_period_facts.specs.FactsBeforeEnd.{stocks_in}
use Rattle.hyd_period_end.specs.FactsBeforeVectors.{AreBegun}

pub stocks-begun : (project : Project) (standing : Standing) (facts : Facts) → AreBegun project standing facts
    → (k : ℕ) → stocks_in facts k ≡ stocks_of_tank standing k
stocks-begun project standing facts begun k =
    ap (λ (levels : List Interval). let s : Stocks = record {
      level = slice_index_or levels k nowhere;
      volume = (stocks_in facts k).volume;
    } in s) begun.levels
    ∙ ap (λ (volumes : List Interval). let s : Stocks = record {
      level = slice_index_or standing.levels k nowhere;
      volume = slice_index_or volumes k nowhere;
    } in s) begun.volumes

pub there-of : (project : Project) (standing : Standing) (facts : Facts) → AreBegun project standing facts
    → IsTidy project standing → (k : ℕ) → HasStock (stocks_in facts k)
there-of project standing facts begun tidy k =
    subst HasStock (sym (stocks-begun project standing facts begun k)) (tidy.ordered k)
