-- What is put of a junction and of a reservoir is its line by its places in both grids.
use Rattle.std.proofs.Common.{◌≡◌, ℕ, ◌<◌, ℤ, pos, List, length, Option, Some, None, refl, sym, subst}
use Rattle.std.specs.Prelude.{slice_get, slice_index_or, IfSome}
use Rattle.std.proofs.lemmas.Option.{slice_get-get_or}
use Rattle.hyd_num.specs.declared.spans.Span.{Span}
use Rattle.hyd_spec.specs.ProgramTypes.{Project}
use Rattle.hyd_spec.specs.Assignment.{head_at}
use Rattle.hyd_spec_certificates.specs.SpansAsIntervals.{flows_of}
use Rattle.hyd_spec_certificates.specs.Interval.{Interval}
use Rattle.hyd_spec_certificates.specs.PeriodNetwork.{GridJunction}
use Rattle.hyd_spec_reports.specs.ReportLine.{line_text}
use Rattle.hyd_spec_spread_runs.specs.OutermostPairs.{outflow_over}
use Rattle.hyd_bounds.specs.VectorsInOrder.{IsSpan}
use Rattle.hyd_report.specs.NodeAndLinkLines.{junction_at, reservoir_between}
use Rattle.hyd_report.proofs.LineLemmas.{span_is}
use Rattle.hyd_spread_report.specs.LinesOverBothSides.{junction_over}

module _ (uppers lowers : List GridJunction) (project : Project) (P : List ℕ → Type 0) (j : ℕ)
    (low high elevation : ℤ) (flow : Span) (within : j < length lowers)
    (boxes : (above below : GridJunction) → slice_get uppers j ≡ Some above → slice_get lowers j ≡ Some below
    → IsSpan flow (outflow_over above below low high)) where
  heads : Interval
  heads = record { lo = low; hi = high }

  here_put : (o : Option GridJunction) → slice_get uppers j ≡ o → IfSome o (λ here. elevation ≡ here.elevation)
      → P (line_text project (junction_at project j elevation heads (flows_of flow)))
      → IfSome o (λ here. P (line_text project (junction_over project j here (slice_index_or lowers j here) low high)))
  unfolding heads
  here_put None is at puts = tt
  here_put (Some here) is at puts =
      let below = slice_index_or lowers j here in
      let box : flows_of flow ≡ outflow_over here below low high =
      span_is flow (outflow_over here below low high) (boxes here below is (slice_get-get_or lowers j here within)) in
      subst (λ (e : ℤ). P (line_text project (junction_at project j e heads (outflow_over here below low high)))) at
      (subst (λ (z : Interval). P (line_text project (junction_at project j elevation heads z))) box puts)

  pub junction_put : IfSome (slice_get uppers j) (λ here. elevation ≡ here.elevation)
      → P (line_text project (junction_at project j elevation (record { lo = low; hi = high }) (flows_of flow)))
      → IfSome (slice_get uppers j) (λ here. P (line_text project (junction_over project j here
      (slice_index_or lowers j here) low high)))
  unfolding heads
  junction_put at puts = here_put (slice_get uppers j) refl at puts

pub reservoir_put : (uppers lowers : List ℤ) (project : Project) (P : List ℕ → Type 0) (r : ℕ) (least greatest : ℤ)
    → r < length uppers → least ≡ head_at lowers r → greatest ≡ head_at uppers r
    → P (line_text project (reservoir_between project r (record { lo = least; hi = greatest })))
    → IfSome (slice_get uppers r) (λ here. P (line_text project (reservoir_between project r
    (record { lo = head_at lowers r; hi = here }))))
reservoir_put uppers lowers project P r least greatest within low_is high_is puts =
    let at : slice_get uppers r ≡ Some (head_at uppers r) = slice_get-get_or uppers r (pos 0) within in
    subst (λ (o : Option ℤ). IfSome o (λ here. P (line_text project (reservoir_between project r
    (record { lo = head_at lowers r; hi = here }))))) (sym at)
    (subst (λ (z : ℤ). P (line_text project (reservoir_between project r (record { lo = head_at lowers r; hi = z }))))
    high_is
    (subst (λ (z : ℤ). P (line_text project (reservoir_between project r (record { lo = z; hi = greatest })))) low_is
    puts))
