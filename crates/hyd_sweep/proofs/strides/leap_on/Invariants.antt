use Rattle.std.proofs.Common.{◌+◌, ◌-◌, ◌≤◌, ℕ}
use Rattle.hyd_period_network.specs.NetAsPeriodNetwork.{grid_of}
use Rattle.hyd_sweep.specs.Leaps.{LeapsLeadTo}
use Rattle.hyd_sweep.specs.Strides.{IsStride, reach, LiesWithin}
use Rattle.hyd_sweep.proofs.strides.leap_on.Given as goal

abbrev pub invariant-loop-tried : goal.invariant-loop-tried
invariant-loop-tried l = record {
  leads : LeapsLeadTo l.held (grid_of l.net) l.problem l.side l.initial.u l.u;
  stride : IsStride l.stride;
  far : (spent : ℕ) × ((spent + reach l.stride (40 - l.tried) ≤ 1048575) × LiesWithin l.side spent l.ways l.initial.u
      l.u);
}
