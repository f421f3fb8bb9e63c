-- Without a spread a record is refused where it is refused without one, and for the same cause.
use Rattle.std.proofs.Common.{ℕ, List, sym, subst, ◌∙◌, refl}
use Rattle.std.specs.Prelude.{None}
use Rattle.hyd_net.specs.Sound.{IsSound}
use Rattle.hyd_spec.specs.ProgramTypes.{Project}
use Rattle.hyd_spec_certificates.specs.declared.CertRefused.{CertRefused}
use Rattle.hyd_spec_certificates.specs.declared.CertRefused.TheVariants.{Place, Demand, Fails, Open as MatterOpen}
use Rattle.hyd_spec_certificates.specs.declared.CertRefused.TheVariants.{Length, After}
use Rattle.hyd_spec_certificates.specs.declared.Problem.{Problem}
use Rattle.hyd_spec_certificates.specs.declared.Side.{Side}
use Rattle.hyd_spec_certificates.specs.declared.Side.TheVariants.{Upper}
use Rattle.hyd_spec_certificates.specs.Certificate.{IsCertificate, FailsFirst}
use Rattle.hyd_spec_certificates.specs.Interval.{Interval}
use Rattle.hyd_spec_certificates.specs.PeriodNetwork.{Grid}
use Rattle.hyd_spec_certificates.specs.RecordAndStanding.{Record, vector_of}
use Rattle.hyd_spec_certificates.specs.RefusedRecords.{IsFirstToFail}
use Rattle.hyd_spec_open_ends.specs.OpenEnds.{longest_length, shortest_length}
use Rattle.hyd_spec_open_ends.specs.OpenStandings.{OpenStanding, OpenRecord}
use Rattle.hyd_spec_open_refusals.specs.RefusedOpenRecords.{AreLevelsLeft, LeavesMatterOpen, end, tank, control}
use Rattle.hyd_spec_open_refusals.specs.RefusedOpenRecords.{HasLengths, HasOtherLengths, at_end, before_end}
use Rattle.hyd_spec_open_refusals.specs.RefusedOpenRecords.{HasItsGridOpenly, IsCertifiedOpenly, IsRefusedOpenlyBy}
use Rattle.hyd_spec_open_refusals.specs.RefusedOpenRecords.{IsRefusedOpenly}
use Rattle.hyd_spec_spread.specs.Spreads.{no_spread}
use Rattle.hyd_spec_spread_refusals.specs.RefusedSpreadRecords.{IsFirstToFailOver, LeavesMatterOpenOver}
use Rattle.hyd_spec_spread_refusals.specs.RefusedSpreadRecords.{HasOtherLengthsOver, HasItsPair, IsCertifiedOver}
use Rattle.hyd_spec_spread_refusals.specs.RefusedSpreadRecords.{IsRefusedOverBy, IsRefusedOver}
use Rattle.hyd_spec_spread_runs.specs.OutermostPairs.{Pair, spanned, spanning}
use Rattle.hyd_spec_spread_runs.specs.RunsForSpreads.{ArePairAt}
use Rattle.hyd_theorems_on_open_spreads.proofs.SameBoxesOpenly.{way-same, arrives-same, levels-same}
use Rattle.hyd_theorems_on_spread_promises.proofs.OneNetwork.{own_grid, one_twice, one_on, demands_alone, demands_over}
use Rattle.hyd_theorems_on_spread_runs.proofs.RunsAlone.{both, boxes-alone}
use Rattle.hyd_theorems_on_spread_runs.proofs.SameBoxes.{SameBoxes, turned}

-- ---- matters and lengths of records with the same boxes

module _ (project : Project) (standing : OpenStanding) (g h : Grid) (r q : Record) (same : SameBoxes project g h r q)
    (late shortest : ℕ) where
  abbrev with-row : Record → OpenRecord
  with-row row = record { row = row; late = late; shortest = shortest }

  -- whatever their lengths
  lasting-same : (length : ℕ) → SameBoxes project g h (record r { length = length }) (record q { length = length })
  lasting-same length = record {
    below = same.below;
    above = same.above;
    flows = same.flows;
    inflows = same.inflows;
    length_is = refl;
  }

  left-to : (levels : List Interval) → AreLevelsLeft project g standing (with-row r) levels
      → AreLevelsLeft project h standing (with-row q) levels
  left-to levels are = record {
    way = are.way;
    ends = way-same project standing g h r q same are.way are.ends;
    reached = are.reached;
    arrives = arrives-same project standing g h r q same are.way are.reached are.arrives;
    levels_are = are.levels_are
        ∙ levels-same project standing g h (record r { length = longest_length are.way })
        (record q { length = longest_length are.way }) (lasting-same (longest_length are.way)) late
        (shortest_length standing.late are.way) are.reached;
  }

  matter-to : LeavesMatterOpen project g standing (with-row r) → LeavesMatterOpen project h standing (with-row q)
  matter-to (end not_last none) = end not_last (λ way ends. none way
      (way-same project standing h g q r (turned project g h r q same) way ends))
  matter-to (tank levels number are first) = tank levels number (left-to levels are) first
  matter-to (control levels number are first) = control levels number (left-to levels are) first

  lengths-back : (least most : ℕ) → HasLengths (with-row q) least most → HasLengths (with-row r) least most
  lengths-back least most has = (has.0, same.length_is ∙ has.1)

  lengths-to : HasOtherLengths project g standing (with-row r) → HasOtherLengths project h standing (with-row q)
  lengths-to (at_end is_last other) = at_end is_last (λ has. other (lengths-back 0 0 has))
  lengths-to (before_end way ends other) = before_end way (way-same project standing g h r q same way ends)
      (λ has. other (lengths-back (shortest_length standing.late way) (longest_length way) has))

module _ (project : Project) (standing : OpenStanding) (grid : Grid) (found : OpenRecord) where
  abbrev there : SameBoxes project (spanned (both grid)) grid (spanning (both grid) found.row) found.row
  there = boxes-alone project grid found.row

  matter-alone : LeavesMatterOpenOver project (both grid) standing found
      → LeavesMatterOpen project grid standing found
  matter-alone left_open = matter-to project standing (spanned (both grid)) grid (spanning (both grid) found.row)
      found.row there found.late found.shortest left_open

  matter-over : LeavesMatterOpen project grid standing found
      → LeavesMatterOpenOver project (both grid) standing found
  matter-over left_open = matter-to project standing grid (spanned (both grid)) found.row
      (spanning (both grid) found.row)
      (turned project (spanned (both grid)) grid (spanning (both grid) found.row) found.row there) found.late
      found.shortest left_open

  lengths-alone : HasOtherLengthsOver project (both grid) standing found → HasOtherLengths project grid standing found
  lengths-alone other = lengths-to project standing (spanned (both grid)) grid (spanning (both grid) found.row)
      found.row there found.late found.shortest other

-- ---- the cause

module _ (project : Project) (sound : IsSound project) (standing : OpenStanding) (found : OpenRecord) where
  has-grid : (pair : Pair) → HasItsPair project no_spread standing pair found
      → HasItsGridOpenly project standing pair.upper found
  has-grid pair has = record {
    in_place = has.in_place;
    in_range = demands_alone project standing.known.time has.in_range;
    is_grid = own_grid project sound standing.known pair has.are_pair Upper;
  }

  certified : (pair : Pair) → IsCertifiedOver project no_spread standing pair found
      → IsCertifiedOpenly project standing pair.upper found
  certified pair is = record {
    has_grid = has-grid pair is.has_pair;
    certificates = record {
      pinned_each = is.certificates.pinned_each;
      each = λ problem side of. subst (λ (g : Grid). IsCertificate g problem side (vector_of found.row problem side))
          (one_on project sound standing.known pair is.has_pair.are_pair side)
          (is.certificates.each problem side of);
    };
  }

  first-to-fail : (pair : Pair) → ArePairAt project no_spread standing.known pair → (problem : Problem) (side : Side)
      (junction : ℕ) → IsFirstToFailOver project pair found.row problem side junction
      → IsFirstToFail project pair.upper found.row problem side junction
  first-to-fail pair are problem side junction first = record {
    is_problem = first.is_problem;
    earlier = λ before other is less.
        subst (λ (g : Grid). IsCertificate g before other (vector_of found.row before other))
        (one_on project sound standing.known pair are other) (first.earlier before other is less);
    fails = subst (λ (g : Grid). FailsFirst None g problem side (vector_of found.row problem side) junction)
        (one_on project sound standing.known pair are side) first.fails;
  }

  module _ (pair : Pair) (are : ArePairAt project no_spread standing.known pair) where
    matter : LeavesMatterOpenOver project pair standing found → LeavesMatterOpen project pair.upper standing found
    matter left_open = matter-alone project standing pair.upper found
        (subst (λ (p : Pair). LeavesMatterOpenOver project p standing found)
        (one_twice project sound standing.known pair are) left_open)

    no-matter : (LeavesMatterOpenOver project pair standing found → ⊥)
        → LeavesMatterOpen project pair.upper standing found → ⊥
    no-matter closed left_open = closed (subst (λ (p : Pair). LeavesMatterOpenOver project p standing found)
        (sym (one_twice project sound standing.known pair are))
        (matter-over project standing pair.upper found left_open))

    other-lengths : HasOtherLengthsOver project pair standing found
        → HasOtherLengths project pair.upper standing found
    other-lengths other = lengths-alone project standing pair.upper found
        (subst (λ (p : Pair). HasOtherLengthsOver project p standing found)
        (one_twice project sound standing.known pair are) other)

  refused-by : (cause : CertRefused) → IsRefusedOverBy project no_spread standing found cause
      → IsRefusedOpenlyBy project standing found cause
  refused-by (After period) over = over
  refused-by (Place period) over = over
  refused-by (Demand period) over =
      (over.0, λ in_range. over.1 (demands_over project standing.known.time in_range))
  refused-by (Fails period problem side junction) (pair, (has, first)) =
      (pair.upper, (has-grid pair has, first-to-fail pair has.are_pair problem side junction first))
  refused-by (MatterOpen period) (pair, (is, left_open)) =
      (pair.upper, (certified pair is, matter pair is.has_pair.are_pair left_open))
  refused-by (Length period) (pair, (is, (closed, other))) = (
    pair.upper,
    (
      certified pair is,
      (no-matter pair is.has_pair.are_pair closed, other-lengths pair is.has_pair.are_pair other),
    ),
  )

  pub refused_alone : (cause : CertRefused) → IsRefusedOver project no_spread standing found cause
      → IsRefusedOpenly project standing found cause
  refused_alone cause refused = record {
    period_is = refused.period_is;
    refused_by = refused-by cause refused.refused_by;
  }
