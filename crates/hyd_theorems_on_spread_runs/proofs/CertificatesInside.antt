-- The vectors of a record that is valid for a spread are certificates for each spread inside it, and of the network.
use Rattle.hyd_net.specs.Sound.{IsSound}
use Rattle.hyd_spec.specs.ProgramTypes.{Project}
use Rattle.hyd_spec_certificates.specs.PeriodNetwork.{Grid}
use Rattle.hyd_spec_certificates.specs.RecordAndStanding.{Record, Standing, vector_of}
use Rattle.hyd_spec_certificates.specs.Decided.{links_at, acts_on}
use Rattle.hyd_spec_certificates.specs.Valid.{AreCertificates, IsGridAt}
use Rattle.hyd_spec_spread.specs.Spreads.{Spread, IsSpread, IsInside}
use Rattle.hyd_spec_spread.specs.NetworksWithin.{own_data}
use Rattle.hyd_spec_spread_runs.specs.OutermostPairs.{Pair, grid_on}
use Rattle.hyd_spec_spread_runs.specs.RunsForSpreads.{ArePairAt, AreCertificatesOver, IsValidOver}
use Rattle.hyd_theorems_on_definitions.specs.SoundLawsAndGrids.{AreCapacitiesMade}
use Rattle.hyd_theorems_on_histories.specs.Agreement.{IsKept}
use Rattle.hyd_theorems_on_histories.proofs.AgreementAfterPeriod.{made-states}
use Rattle.hyd_theorems_on_histories.proofs.CommandedLinkStates.{started_own}
use Rattle.hyd_theorems_on_spread.proofs.CertificatesInward.{goes-inward}
use Rattle.hyd_theorems_on_spread.proofs.LinksWithin.{outermost-sound, network-sound}
use Rattle.hyd_theorems_on_spread.proofs.OutermostGrids.{beyond-spread, beyond-network}
use Rattle.hyd_theorems_on_spread.proofs.OwnNetwork.{own-within}

its-capacities : (project : Project) → IsSound project → (standing : Standing) → IsKept project standing
    → AreCapacitiesMade project (links_at project standing)
its-capacities project sound standing kept = record {
  emitters = sound.made.emitters;
  kinds = sound.made.links;
  sizes = sound.quantities.links;
  states = made-states project project.links.list (links_at project standing)
      (started_own project sound standing.time (acts_on standing.levels) standing.commanded kept.states);
}

pub inside-another : (project : Project) → IsSound project → (inner outer : Spread) → IsInside project inner outer
    → (standing : Standing) (pair : Pair) (row : Record) (next : Standing) → IsKept project standing
    → IsValidOver project outer standing pair row next → (narrow : Pair) → ArePairAt project inner standing narrow
    → AreCertificatesOver project narrow row
inside-another project sound inner outer inside standing pair row next kept valid narrow are = record {
  pinned_each = valid.certificates.pinned_each;
  each = λ problem side is.
      goes-inward side problem (grid_on side pair) (grid_on side narrow) (vector_of row problem side)
      (outermost-sound project inner side standing.time standing.levels standing.tanks (links_at project standing)
      (grid_on side narrow) (its-capacities project sound standing kept) (are side))
      (beyond-spread project inner outer standing.time standing.levels standing.tanks (links_at project standing)
      problem side (grid_on side pair) (grid_on side narrow) inside (valid.are_pair side) (are side))
      (valid.certificates.each problem side is);
}

pub of-the-network : (project : Project) → IsSound project → (spread : Spread) → IsSpread project spread
    → (standing : Standing) (pair : Pair) (row : Record) (next : Standing) → IsKept project standing
    → IsValidOver project spread standing pair row next → (grid : Grid) → IsGridAt project standing grid
    → AreCertificates project grid row
of-the-network project sound spread is_spread standing pair row next kept valid grid is_grid = record {
  pinned_each = valid.certificates.pinned_each;
  each = λ problem side is.
      goes-inward side problem (grid_on side pair) grid (vector_of row problem side)
      (network-sound project spread (own_data project) standing.time standing.levels standing.tanks
      (links_at project standing) grid (its-capacities project sound standing kept)
      (own-within project sound spread is_spread standing.time) is_grid)
      (beyond-network project spread standing.time standing.levels standing.tanks (links_at project standing) problem
      side (own_data project) (grid_on side pair) grid (valid.are_pair side)
      (own-within project sound spread is_spread standing.time) is_grid)
      (valid.certificates.each problem side is);
}
