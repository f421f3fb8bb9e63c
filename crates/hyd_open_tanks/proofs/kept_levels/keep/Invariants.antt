use Rattle.std.proofs.Common.{◌≡◌, take}
use Rattle.hyd_spec_certificates.specs.SpansAsIntervals.{levels_of}
use Rattle.hyd_spec_open_ends.specs.StocksOverLengths.{kept}
use Rattle.hyd_open_tanks.proofs.kept_levels.keep.Given as goal

abbrev pub invariant-loop-control : goal.invariant-loop-control
invariant-loop-control l = levels_of l.levels
    ≡ kept (take l.control-index l.control-items) l.tank (levels_of l.carried) (levels_of l.fn.next)
