-- Records of the village that are refused as those of a run with a slack.
use Rattle.std.proofs.Common.{◌≢◌, ℕ, refl, lit≤}
use Rattle.hyd_spec.specs.ProgramTypes.{Project}
use Rattle.hyd_spec_certificates.specs.declared.Problem.TheVariants.{Main}
use Rattle.hyd_spec_certificates.specs.declared.Side.TheVariants.{Upper}
use Rattle.hyd_spec_certificates.specs.PeriodNetwork.{Grid}
use Rattle.hyd_spec_certificates.specs.RecordAndStanding.{Record}
use Rattle.hyd_spec_certificates.specs.declared.CertRefused.TheVariants.{Fails, Length}
use Rattle.hyd_spec_certificates.specs.RefusedRecords.{IsRefused}
use Rattle.hyd_spec_open_ends.specs.OpenStandings.{OpenStanding, OpenRecord}
use Rattle.hyd_spec_open_ends.specs.OpenEnds.{Way, EndsIn, by_rules, by_instant, by_watched}
use Rattle.hyd_spec_open_refusals.specs.RefusedOpenRecords.{IsRefusedOpenly, LeavesMatterOpen, end, tank, control}
use Rattle.hyd_spec_open_refusals.specs.RefusedOpenRecords.{at_end}
use Rattle.hyd_spec_open_refusals.specs.RefusedOpenRecords.{HasLengths}
use Rattle.hyd_cases_of_runs.specs.Village.{usual, village}
use Rattle.hyd_cases_of_runs.specs.VillageRun.{standing_0, standing_4, grid_4, row_4}
use Rattle.hyd_cases_of_runs.specs.VillageRefusals.{low_row, far_row}
use Rattle.hyd_cases_of_runs.proofs.VillageGrids.{grid_at}
use Rattle.hyd_cases_of_runs.proofs.VillageCertificates.{certificates}
use Rattle.hyd_cases_of_runs.proofs.VillageRecords.{in_range}
use Rattle.hyd_cases_of_runs.proofs.VillageRefusals.{low_refused, far_refused}
use Rattle.hyd_cases_of_open_ends.specs.VillageOpenly.{since, opens}

-- ---- vectors and demands are refused as without a slack

fails-too : (row : Record) (shortest junction : ℕ) → IsRefused village standing_0 row (Fails 0 Main Upper junction)
    → IsRefusedOpenly village (since standing_0 0) (opens row 0 shortest) (Fails 0 Main Upper junction)
fails-too row shortest junction is =
    let grid = is.refused_by.0 in
    let has = is.refused_by.1.0 in
    record {
      period_is = refl;
      refused_by = (
        grid,
        (
          record {
            in_place = record {
              unfinished = refl;
              due = record { number = has.in_place.due.number; time = has.in_place.due.time; late = refl };
            };
            in_range = has.in_range;
            is_grid = has.is_grid;
          },
          is.refused_by.1.1,
        ),
      );
    }

pub low_refused_openly : IsRefusedOpenly village (since standing_0 0) (opens low_row 0 5) (Fails 0 Main Upper 0)
low_refused_openly = fails-too low_row 5 0 low_refused

pub far_refused_openly : IsRefusedOpenly village (since standing_0 0) (opens far_row 0 5) (Fails 0 Main Upper 1)
far_refused_openly = fails-too far_row 5 1 far_refused

-- ---- the end of the run

ends-not-last : (project : Project) (grid : Grid) (standing : OpenStanding) (row : Record) (way : Way)
    → EndsIn project grid standing row way → standing.known.time ≢ project.times.duration
ends-not-last project grid standing row _ (by_rules x first after in_time closed) = x.not_last
ends-not-last project grid standing row _ (by_instant x same none) = x.not_last
ends-not-last project grid standing row _ (by_watched x before none) = x.not_last

no-matters : (found : OpenRecord) → LeavesMatterOpen village grid_4 (since standing_4 0) found → ⊥
no-matters found (end other none) = other refl
no-matters found (tank levels number left is) =
    ends-not-last village grid_4 (since standing_4 0) found.row left.way left.ends refl
no-matters found (control levels number left is) =
    ends-not-last village grid_4 (since standing_4 0) found.row left.way left.ends refl

pub other_lengths : (longest shortest : ℕ)
    → (HasLengths (opens (record row_4 { length = longest }) 0 shortest) 0 0 → ⊥)
    → IsRefusedOpenly village (since standing_4 0) (opens (record row_4 { length = longest }) 0 shortest) (Length 4)
other_lengths longest shortest other = record {
  period_is = refl;
  refused_by = (
    grid_4,
    (
      record {
        has_grid = record {
          in_place = record { unfinished = refl; due = record { number = refl; time = refl; late = refl } };
          in_range = in_range usual 16 (lit≤ tt) (lit≤ tt);
          is_grid = grid_at usual standing_4 _ _ _ _ refl refl refl refl;
        };
        certificates = certificates usual grid_4 (record row_4 { length = longest }) _ refl refl refl refl refl;
      },
      (no-matters (opens (record row_4 { length = longest }) 0 shortest), at_end refl other),
    ),
  );
}
