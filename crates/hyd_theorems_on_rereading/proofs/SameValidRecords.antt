-- Valid records are valid of alike parts, and lead on to the same standings.
use Rattle.std.proofs.Common.{◌≡◌, ℕ, List, sym, ap, subst, ◌∙◌}
use Rattle.hyd_spec.specs.ProgramTypes.{Project, Tank, LinkState}
use Rattle.hyd_spec.specs.Tank.{Walls, kept_volume, walls_of}
use Rattle.hyd_spec_certificates.specs.Interval.{Interval, exactly}
use Rattle.hyd_spec_certificates.specs.PeriodNetwork.{Grid}
use Rattle.hyd_spec_certificates.specs.RecordAndStanding.{Record, Standing, initial_standing}
use Rattle.hyd_spec_certificates.specs.Valid.{LeavesLinks, by_rules, by_clock, Continues, Finishes, LeadsOn, continues}
use Rattle.hyd_spec_certificates.specs.Valid.{finishes, IsValid, AreValidFrom, none, more, AreValid}
use Rattle.hyd_theorems_on_rereading.proofs.PartsWithSpares.{Inner, with_inner, AreAlike}
use Rattle.hyd_theorems_on_rereading.proofs.SameQuantities.{same_map, same_walls}
use Rattle.hyd_theorems_on_rereading.proofs.SameLinkStatesAtStart.{same_links_at}
use Rattle.hyd_theorems_on_rereading.proofs.SameDecidedMatters.{same_levels, same_volumes, same_commanded}
use Rattle.hyd_theorems_on_rereading.proofs.SameGridsAndCertificates.{demands_on, grid_on, certificates_on}
use Rattle.hyd_theorems_on_rereading.proofs.SamePeriodEnds.{ends_by_rules, ends_without}

module _ (p : Project) (x y : Inner) (alike : AreAlike x y) where
  -- ---- the next standing

  leaves_on : (grid : Grid) (standing : Standing) (row : Record) (seconds : ℕ) (links : List LinkState)
      → LeavesLinks (with_inner p x) grid standing row seconds links
      → LeavesLinks (with_inner p y) grid standing row seconds links
  leaves_on grid standing row _ _ (by_rules {seconds = seconds} ends) =
      subst (λ (ls : List LinkState). LeavesLinks (with_inner p y) grid standing row seconds ls)
      (sym (same_commanded p x y alike grid standing row seconds))
      (by_rules (ends_by_rules p grid standing row x y alike seconds ends))
  leaves_on grid standing row _ _ (by_clock {seconds = seconds} ends) =
      subst (λ (ls : List LinkState). LeavesLinks (with_inner p y) grid standing row seconds ls)
      (sym (same_links_at p x y alike standing))
      (by_clock (ends_without p grid standing row x y alike seconds ends))

  continues_on : (grid : Grid) (standing : Standing) (row : Record) (next : Standing)
      → Continues (with_inner p x) grid standing row next → Continues (with_inner p y) grid standing row next
  continues_on grid standing row next is = record {
    not_last = is.not_last;
    leaves_links = leaves_on grid standing row row.length next.commanded is.leaves_links;
    levels = is.levels ∙ same_levels p x y alike grid standing row row.length;
    volumes = is.volumes ∙ same_volumes p x y alike grid standing row row.length;
    tanks = is.tanks;
    controls = is.controls;
    number = is.number;
    time = is.time;
    unfinished = is.unfinished;
  }

  finishes_on : (standing : Standing) (row : Record) (next : Standing)
      → Finishes (with_inner p x) standing row next → Finishes (with_inner p y) standing row next
  finishes_on standing row next is =
      record { is_last = is.is_last; no_length = is.no_length; next_is = is.next_is }

  leads_on : (grid : Grid) (standing : Standing) (row : Record) (next : Standing)
      → LeadsOn (with_inner p x) grid standing row next → LeadsOn (with_inner p y) grid standing row next
  leads_on grid standing row next (continues is) = continues (continues_on grid standing row next is)
  leads_on grid standing row next (finishes is) = finishes (finishes_on standing row next is)

  -- ---- records

  pub valid_on : (standing : Standing) (grid : Grid) (row : Record) (next : Standing)
      → IsValid (with_inner p x) standing grid row next → IsValid (with_inner p y) standing grid row next
  valid_on standing grid row next is = record {
    unfinished = is.unfinished;
    number = is.number;
    time = is.time;
    demands = demands_on p x y alike standing.time is.demands;
    is_grid = grid_on p x y alike standing grid is.is_grid;
    certificates = certificates_on p x y alike grid row is.certificates;
    leads_on = leads_on grid standing row next is.leads_on;
  }

  valid_from_on : (standing : Standing) (rows : List Record) (last : Standing)
      → AreValidFrom (with_inner p x) standing rows last → AreValidFrom (with_inner p y) standing rows last
  valid_from_on _ _ _ none = none
  valid_from_on standing _ last (more {next = next} {row = row} {rows = rows} grid is on) =
      more grid (valid_on standing grid row next is) (valid_from_on next rows last on)

  -- ---- the start

  same_volume : (tank : Tank)
      → exactly (kept_volume (walls_of (with_inner p x) tank) tank.initial)
      ≡ exactly (kept_volume (walls_of (with_inner p y) tank) tank.initial)
  same_volume tank = ap (λ (walls : Walls). exactly (kept_volume walls tank.initial)) (same_walls p x y alike tank)

  pub same_initial : initial_standing (with_inner p x) ≡ initial_standing (with_inner p y)
  same_initial =
      ap (λ (volumes : List Interval). record (initial_standing (with_inner p x)) { volumes = volumes })
      (same_map (λ (tank : Tank). exactly (kept_volume (walls_of (with_inner p x) tank) tank.initial))
      (λ (tank : Tank). exactly (kept_volume (walls_of (with_inner p y) tank) tank.initial)) same_volume p.tanks.list)

  pub records_on : (rows : List Record) (last : Standing) → AreValid (with_inner p x) rows last
      → AreValid (with_inner p y) rows last
  records_on rows last valid =
      subst (λ (s : Standing). AreValidFrom (with_inner p y) s rows last) same_initial
      (valid_from_on (initial_standing (with_inner p x)) rows last valid)
