use Rattle.std.proofs.Common.{◌*◌, ◌+◌, ◌/◌, ◌%◌}
use Rattle.hyd_stocks_at_scale.proofs.VolumeCurves.{share_is, quotient_small}
use Rattle.hyd_stocks_at_scale.proofs.volume_curve.share.Goals as goal

pub returns-clause-value : goal.returns-clause-value
returns-clause-value c = share_is c.args.rise c.args.beyond c.args.width

pub returns-clause-small : goal.returns-clause-small
returns-clause-small c =
    let rise = c.args.rise in
    let beyond = c.args.beyond in
    let width = c.args.width in
    quotient_small rise beyond width (rise * (beyond / width) + rise * (beyond % width) / width)
    (rise * (beyond % width) % width) c.requires.some (share_is rise beyond width) c.requires.within c.requires.rise
