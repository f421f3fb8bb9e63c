-- Lines of the town's report.
use Rattle.std.specs.Prelude.{pos, neg_ℤ, List, [], ◌∷◌}
use Rattle.hyd_spec.specs.declared.TankState.TheVariants.{Between}
use Rattle.hyd_spec_certificates.specs.declared.StatusWord.TheVariants.{Open as WordOpen, Closed as WordClosed}
use Rattle.hyd_spec_certificates.specs.declared.StatusWord.TheVariants.{Active as WordActive}
use Rattle.hyd_spec.specs.Law.{Shut}
use Rattle.hyd_spec_certificates.specs.PeriodNetwork.{GridLink}
use Rattle.hyd_spec_reports.specs.ReportLine.{ReportLine, TimeLine, JunctionLine, ReservoirLine, TankLine, LinkLine}

-- The place of the pump, closed.
abbrev pub lift : GridLink
lift = record { from = 2; to = 0; law = Shut }

-- The lines of the report time 2:00.
abbrev pub lines_at_two : List ReportLine
lines_at_two =
    TimeLine 7200
    ∷ JunctionLine 0
    (record { lo = pos 449923; hi = pos 449924 }) (record {
      lo = pos 349923;
      hi = pos 349924;
    }) (record { lo = pos 2999999; hi = pos 3000001 })
    ∷ JunctionLine 1
    (record { lo = pos 215076; hi = pos 215077 }) (record {
      lo = pos 165076;
      hi = pos 165077;
    }) (record { lo = pos 8639999; hi = pos 8640001 })
    ∷ ReservoirLine 0 (record { lo = pos 600000; hi = pos 600000 })
    ∷ TankLine 0
    (record { lo = pos 449923; hi = pos 449924 }) (record {
      lo = pos 49923;
      hi = pos 49924;
    }) (record { lo = pos 4639992; hi = pos 4640001 }) Between
    ∷ TankLine 1
    (record { lo = pos 215076; hi = pos 215077 }) (record {
      lo = pos 15076;
      hi = pos 15077;
    }) (record { lo = neg_ℤ (pos 4640002); hi = neg_ℤ (pos 4639993) }) Between
    ∷ LinkLine 0 (record { lo = neg_ℤ (pos 1); hi = pos 1 }) WordClosed
    ∷ LinkLine 1 (record { lo = pos 11639999; hi = pos 11640001 }) WordActive
    ∷ LinkLine 2 (record { lo = neg_ℤ (pos 61713263); hi = pos 75713270 }) WordOpen
    ∷ LinkLine 3 (record { lo = pos 3999999; hi = pos 4000001 }) WordActive
    ∷ LinkLine 4 (record { lo = neg_ℤ (pos 63902924); hi = pos 73182919 }) WordActive ∷ []
