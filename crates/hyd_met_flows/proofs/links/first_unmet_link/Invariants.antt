use Rattle.std.proofs.Common.{◌≡◌, ◌<◌, ℕ, ℤ}
use Rattle.std.specs.Prelude.{Some, slice_get, slice_index_or}
use Rattle.hyd_spec_certificates.specs.PeriodNetwork.{GridLink}
use Rattle.hyd_spec_witnesses.specs.MetPeriods.{LinkIsMet}
use Rattle.hyd_period_network.specs.NetAsPeriodNetwork.{grid_of, states_of}
use Rattle.hyd_laws_at_scale.specs.Scales.{parts_of}
use Rattle.hyd_witness_texts.specs.MomentView.{moment_of}
use Rattle.hyd_met_flows.specs.Periods.{period_in, IsSmallFlow}
use Rattle.hyd_met_flows.proofs.links.first_unmet_link.Given as goal

-- the links so far are met
abbrev pub invariant-loop-link : goal.invariant-loop-link
invariant-loop-link l = record {
  met : (k : ℕ) (here : GridLink) → k < l.link → slice_get (grid_of l.net).links k ≡ Some here
      → LinkIsMet l.project (parts_of l.scale) (period_in (moment_of l.moment) l.tanks (states_of l.net)) k here;
  small : (k : ℕ) (d : ℤ) → k < l.link → IsSmallFlow (slice_index_or l.moment.flows.list k d);
}
