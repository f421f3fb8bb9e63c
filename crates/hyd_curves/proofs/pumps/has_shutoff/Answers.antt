use Rattle.std.proofs.Common.{◌∙◌, arith}
use Rattle.hyd_curves.proofs.PumpLemmas.{other_shutoff, three_shutoff}
use Rattle.hyd_curves.proofs.pumps.has_shutoff.Goals as goal

pub returns-in-len3 : goal.returns-in-len3
returns-in-len3 c =
    c.is_drop_in_range.ensures
    ∙ three_shutoff c.args.us c.args.points.now c.a-item-then-points-lt4.result c.b-item.result (omega arith)
    c.a-item-then-points-lt4.is c.b-item.is

pub returns-in_default-2 : goal.returns-in_default-2
returns-in_default-2 c = other_shutoff c.args.us c.args.points.now (λ e. omega arith) (λ e. omega arith)
