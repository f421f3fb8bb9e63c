-- The nets of both sides by themselves and together, and records with the heads of reservoirs.
use Rattle.std.proofs.Common.{◌≡◌, ap, sym, subst, ◌∙◌, map}
use Rattle.hyd_spec.specs.ProgramTypes.{Project}
use Rattle.hyd_spec_certificates.specs.declared.Side.TheVariants.{Upper, Lower}
use Rattle.hyd_spec_certificates.specs.RecordAndStanding.{Record}
use Rattle.hyd_spec_spread_runs.specs.OutermostPairs.{Pair, spanned, spanning, with_reservoirs}
use Rattle.hyd_spec_spread_runs.specs.RunsForSpreads.{AreCertificatesOver}
use Rattle.hyd_theorems_on_definitions.specs.SoundLawsAndGrids.{TanksInOrder}
use Rattle.hyd_period_facts.specs.declared.facts.Facts.{Facts}
use Rattle.hyd_period_length.specs.declared.readings.Readings.{Readings}
use Rattle.hyd_period_network.specs.NetView.{NetView}
use Rattle.hyd_period_end.specs.OpenMatters.{SharesVectors}
use Rattle.hyd_open_period_end.specs.LookedAt.{AreLookedAt}
use Rattle.hyd_open_period_end.proofs.PeriodsLookedAt.{looked-shared}
use Rattle.hyd_spread_bounds.specs.BothSides.{pair_of, IsOrderedPair}
use Rattle.hyd_spread_networks.specs.NetsOfSpreads.{SpreadNetsView, AreNetsOf, pair_of as pair_on}
use Rattle.hyd_spread_readings.specs.NetsInPeriods.{AreInPeriod}

-- ---- nets

module _ (nets : SpreadNetsView) (upper lower : NetView) (above : upper ≡ nets.upper) (below : lower ≡ nets.lower) where
  same-pair : pair_of upper lower ≡ pair_on nets
  same-pair = ap (λ (u : NetView). pair_of u lower) above ∙ ap (λ (l : NetView). pair_of nets.upper l) below

  pub in-period : (project : Project) → AreNetsOf project nets → IsOrderedPair (pair_on nets)
      → TanksInOrder (pair_on nets).lower → AreInPeriod project upper lower
  in-period project of pair levels =
      subst (λ (u : NetView). AreInPeriod project u lower) (sym above)
      (subst (λ (l : NetView). AreInPeriod project nets.upper l) (sym below) (record {
        upper_of = of.each Upper;
        lower_of = of.each Lower;
        pair = pair;
        levels = levels;
      }))

  pub certificates-on : (project : Project) (row : Record) → AreCertificatesOver project (pair_on nets) row
      → AreCertificatesOver project (pair_of upper lower) row
  certificates-on project row are = subst (λ (p : Pair). AreCertificatesOver project p row) (sym same-pair) are

  pub looked-on : (project : Project) (row : Record) (facts : Facts) (readings : Readings)
      → AreLookedAt project (spanned (pair_of upper lower)) (spanning (pair_of upper lower) row) facts readings
      → AreLookedAt project (spanned (pair_on nets)) (spanning (pair_on nets) row) facts readings
  looked-on project row facts readings are =
      subst (λ (p : Pair). AreLookedAt project (spanned p) (spanning p row) facts readings) same-pair are

-- ---- records

-- with the heads of reservoirs, records share their vectors as without them
shares-spanning : (pair : Pair) (one other : Record) → SharesVectors one other
    → SharesVectors (spanning pair one) (spanning pair other)
shares-spanning pair one other share = record {
  main = ap (with_reservoirs pair) share.main;
  pinned = ap (map (with_reservoirs pair)) share.pinned;
}

-- and are looked at alike
pub looked-spanning : (project : Project) (pair : Pair) (facts : Facts) (readings : Readings) (row other : Record)
    → SharesVectors other row → AreLookedAt project (spanned pair) (spanning pair row) facts readings
    → AreLookedAt project (spanned pair) (spanning pair other) facts readings
looked-spanning project pair facts readings row other share looked =
    looked-shared project (spanned pair) facts readings (spanning pair row) (spanning pair other)
    (shares-spanning pair other row share) looked
