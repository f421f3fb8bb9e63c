-- What a tank holds whose level is known within limits.
use Rattle.hyd_spec.specs.Tank.{Walls, kept_volume}
use Rattle.hyd_spec_certificates.specs.Interval.{Interval}
use Rattle.hyd_spec_certificates.specs.Stocks.{Stocks}

-- the levels, and the volumes that are kept at both ends
abbrev pub stocks_between : Walls → Interval → Stocks
stocks_between walls level =
    record { level = level; volume = record { lo = kept_volume walls level.lo; hi = kept_volume walls level.hi } }
