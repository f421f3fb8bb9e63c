-- Rows that say nothing give no spread, with which a run begins.
use Rattle.std.proofs.Common.{◌≡◌, [], map, sym, ap, subst, ◌∙◌}
use Rattle.std.specs.Prelude.{All}
use Rattle.std.proofs.lemmas.List.Elements.{All-nil}
use Rattle.hyd_net.specs.Sound.{IsSound}
use Rattle.hyd_spec.specs.ProgramTypes.{Project}
use Rattle.hyd_spec_open_ends.specs.OpenStandings.{initial_open_standing}
use Rattle.hyd_spec_open_spreads.specs.OpenRunsForSpreads.{open_standing_within}
use Rattle.hyd_spec_spread.specs.Spreads.{Spread, IsSpread, no_spread}
use Rattle.hyd_spec_spread_rows.specs.RangesOfEnds.{AreFactors, AreOffsets}
use Rattle.hyd_spec_spread_rows.specs.TextsOfSpreads.{factors_from, interval_from}
use Rattle.hyd_spec_spread_runs.specs.RunsForSpreads.{StartIsDecided}
use Rattle.hyd_theorems_on_open_spreads.proofs.OpenRunsAlone.{open-standing-alone}
use Rattle.hyd_theorems_on_spread.proofs.NoSpread.{none-is-spread}
use Rattle.hyd_theorems_on_spread_runs.proofs.RunsAlone.{start-alone}
use Rattle.hyd_open_sim_start.specs.StandingsOfOpenRuns.{IsStanding, standing_for}
use Rattle.hyd_open_sim_start.specs.declared.standing.Standing.{Standing as Here}
use Rattle.hyd_spread_rows.specs.SpreadsRead.{spread_of}
use Rattle.hyd_spread_rows.specs.declared.resolved.SpreadRows.{SpreadRows}
use Rattle.hyd_spread_start.specs.StartsOfRuns.{BeginsRun}

module _ (rows : SpreadRows) (demands : rows.demands.items ≡ []) (emitters : rows.emitters.items ≡ [])
    (heads : rows.heads.items ≡ []) (levels : rows.levels.items ≡ []) where
  pub says-none : spread_of rows ≡ no_spread
  says-none = λ i. record {
    demands = map factors_from (demands i);
    emitters = map factors_from (emitters i);
    heads = map interval_from (heads i);
    levels = map interval_from (levels i);
  }

  pub begins-alone : (project : Project) → IsSound project → (standing : Here)
      → standing_for standing ≡ initial_open_standing project → IsStanding project standing
      → BeginsRun project (record { rows = rows; standing = standing })
  begins-alone project sound standing initial is = record {
    spread = subst (IsSpread project) (sym says-none) (none-is-spread project sound);
    range = record {
      demands = subst (All AreFactors) (sym demands) (All-nil AreFactors);
      emitters = subst (All AreFactors) (sym emitters) (All-nil AreFactors);
      heads = subst (All AreOffsets) (sym heads) (All-nil AreOffsets);
    };
    decided = subst (StartIsDecided project) (sym says-none) (start-alone project);
    initial = initial ∙ sym (open-standing-alone project)
        ∙ sym (ap (λ (s : Spread). open_standing_within project s) says-none);
    standing = is;
  }
