use Rattle.std.proofs.Common.{◌<◌, length, arith, ap}
use Rattle.hyd_link_names.proofs.LinksOfNames.{joins_by_second, joins_not_by_first}
use Rattle.hyd_link_names.proofs.lookup.joins_two_junctions.Goals as goal

pub returns-then-found-junctions : goal.returns-then-found-junctions
returns-then-found-junctions c =
    let inside : c.args.link < length c.as_slice.result.now = omega (arith, ap length c.as_slice.ensures) in
    joins_by_second c.args.project.now c.as_slice.result.now c.args.link c.index-as_slice-link.result
    c.len-junctions.result c.as_slice.ensures c.index-as_slice-link.is inside c.len-junctions.ensures
    c.if-found-junctions.true

pub returns-else-found-junctions : goal.returns-else-found-junctions
returns-else-found-junctions c =
    let inside : c.args.link < length c.as_slice.result.now = omega (arith, ap length c.as_slice.ensures) in
    joins_not_by_first c.args.project.now c.as_slice.result.now c.args.link c.index-as_slice-link.result
    c.len-junctions.result c.as_slice.ensures c.index-as_slice-link.is inside c.len-junctions.ensures
    c.if-found-junctions.false
