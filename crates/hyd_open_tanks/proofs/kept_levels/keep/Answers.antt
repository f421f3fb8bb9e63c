use Rattle.std.proofs.Common.{◌∙◌, ap, sym}
use Rattle.hyd_spec_certificates.specs.SpansAsIntervals.{levels_of}
use Rattle.hyd_spec_certificates.specs.Interval.{Interval}
use Rattle.hyd_spec_open_ends.specs.StocksOverLengths.{kept_when}
use Rattle.hyd_open_tanks.proofs.KeptSoFar.{kept_more, kept_all}
use Rattle.hyd_open_tanks.proofs.kept_levels.keep.Goals as goal

pub loop-control-preserved : goal.loop-control-preserved
loop-control-preserved c =
    let carried = levels_of c.args.carried in
    c.keep_when-levels.ensures
    ∙ ap (λ (x : Interval). kept_when c.args.tank carried c.control-item.result.when x) c.loop-control.invariant
    ∙ sym (kept_more c.as_slice-control-items.result.now c.loop-control.control-index c.args.tank carried
    (levels_of c.args.next) c.control-item.result c.loop-control-test.true c.control-item.is)

pub returns : goal.returns
returns c =
    c.loop-control.invariant
    ∙ kept_all c.as_slice-control-items.result.now c.args.project.now.controls.list c.loop-control.control-index
    c.args.tank (levels_of c.args.carried) (levels_of c.args.next) c.loop-control-test.false
    c.as_slice-control-items.ensures
