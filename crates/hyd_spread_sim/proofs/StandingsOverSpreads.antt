-- A run for a spread can go on behind a period that was made.
use Rattle.std.proofs.Common.{◌≡◌, ◌≤◌, ℕ, subst, sym}
use Rattle.hyd_net.specs.ListView.{ListView}
use Rattle.hyd_spec.specs.ProgramTypes.{Project}
use Rattle.hyd_spec_certificates.specs.declared.Event.{Event}
use Rattle.hyd_spec_certificates.specs.declared.Side.{Side}
use Rattle.hyd_spec_certificates.specs.declared.Side.TheVariants.{Upper, Lower}
use Rattle.hyd_spec_spread_runs.specs.OutermostPairs.{grid_on}
use Rattle.hyd_theorems_on_definitions.specs.SoundLawsAndGrids.{IsSteady}
use Rattle.hyd_period_network.specs.NetAsPeriodNetwork.{grid_of}
use Rattle.hyd_spec_open_ends.specs.OpenStandings.{OpenStanding}
use Rattle.hyd_cert.specs.RecordView.{row_of}
use Rattle.hyd_open_certificates.specs.declared.open_row.OpenRow.{OpenRow}
use Rattle.hyd_open_period_end.specs.declared.open_period_end.OpenPeriodEnd.{OpenPeriodEnd}
use Rattle.hyd_open_sim.specs.EndedPeriods.{next_standing}
use Rattle.hyd_open_sim.specs.declared.open_settings.OpenSettings.{OpenSettings}
use Rattle.hyd_open_sim_start.specs.StandingsOfOpenRuns.{standing_for}
use Rattle.hyd_open_sim_start.specs.declared.standing.Standing.{Standing as Here}
use Rattle.hyd_period_facts.specs.declared.facts.Facts.{Facts}
use Rattle.hyd_spread_networks.specs.NetsOfSpreads.{SpreadNetsView, pair_of}
use Rattle.hyd_spread_vectors.specs.VectorsOfBothNetworks.{Told}
use Rattle.hyd_spread_sim.specs.DuePeriods.{IsDoneOver, IsSharpOver}
use Rattle.hyd_spread_sim.specs.MadeOver.{IsMadeOver}
use Rattle.hyd_spread_sim.specs.SpreadSteps.{LeadsOver, IsAdvancedOver}

-- both nets are steady
pub steady-both : (nets : SpreadNetsView) → IsSteady (grid_of nets.upper) → IsSteady (grid_of nets.lower)
    → (side : Side) → IsSteady (grid_on side (pair_of nets))
steady-both nets upper lower Upper = upper
steady-both nets upper lower Lower = lower

-- what was made, and the standing behind it
module _ (project : Project) (here : Here) (nets : SpreadNetsView) (found : OpenRow) (facts : Facts)
    (close : OpenPeriodEnd) (now : Here) (left : OpenPeriodEnd)
    (same : standing_for now ≡ next_standing project here close) (first : left.first ≡ close.first)
    (late : left.late ≡ close.late) (opened : left.opened ≡ close.opened) where
  pub leads-of : (slack : ℕ) → IsMadeOver project slack here nets found facts close
      → LeadsOver project (standing_for here) nets found facts left.first left.late left.opened.list (standing_for now)
  leads-of slack made =
      subst (LeadsOver project (standing_for here) nets found facts left.first left.late left.opened.list) (sym same)
      (subst (λ (n : ℕ). LeadsOver project (standing_for here) nets found facts n left.late left.opened.list
      (next_standing project here close)) (sym first)
      (subst (λ (n : ℕ). LeadsOver project (standing_for here) nets found facts close.first n left.opened.list
      (next_standing project here close)) (sym late)
      (subst (λ (l : ListView Event). LeadsOver project (standing_for here) nets found facts close.first close.late
      l.list (next_standing project here close)) (sym opened) (record {
        valid = made.valid;
        facts_are = made.over.facts_are;
        have = made.over.have;
        order = made.order;
        states = made.states;
        links = made.links;
      }))))

  pub advanced-of : (told : Told) (settings : OpenSettings)
      → IsDoneOver told project settings here nets found facts close
      → IsAdvancedOver told project settings (standing_for here) nets found facts left.first left.late
      left.opened.list (standing_for now)
  advanced-of told settings done = record {
    leads = leads-of settings.slack done.made;
    within = subst (λ (s : OpenStanding). s.late ≤ settings.slack) (sym same) done.made.over.within;
    sharp = subst (IsSharpOver told project settings nets.spread (standing_for here) (pair_of nets) (row_of found.row))
        (sym same) done.sharp;
  }
