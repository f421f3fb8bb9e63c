use Rattle.hyd_build_links_controls_and_rules.proofs.PumpLemmas.{one_point, free_one, law_one, three_points, falls, drop_above, free_three}
use Rattle.hyd_build_links_controls_and_rules.proofs.PumpLemmas.{law_three}
use Rattle.hyd_build_links_controls_and_rules.proofs.pump_laws.pump_law.Goals as goal

pub capacity-requires-clause-free : goal.capacity-requires-clause-free
capacity-requires-clause-free c =
    free_one c.args.unit c.args.points.now c.point-item.result
    (one_point c.args.points.now c.point-item.result c.in-len1.len_at_least c.in-len1.len_below c.point-item.is)
    c.requires

pub returns-in-len1 : goal.returns-in-len1
returns-in-len1 c =
    law_one c.args.unit c.args.points.now c.point-item.result c.capacity.result c.four_thirds.result
    (one_point c.args.points.now c.point-item.result c.in-len1.len_at_least c.in-len1.len_below c.point-item.is)
    c.capacity.ensures.made c.capacity.ensures.origin (rw (← c.is_us.ensures) c.four_thirds.ensures)

pub capacity-requires-in-len3-clause-drop : goal.capacity-requires-in-len3-clause-drop
capacity-requires-in-len3-clause-drop c =
    let ps = c.args.points.now in
    let three = three_points ps c.first-item.result c.second-item.result c.in-len3.len_at_least c.in-len3.len_below
    c.first-item.is c.second-item.is in
    drop_above c.first-item.result.y c.second-item.result.y c.difference.result
    (falls c.args.unit ps c.first-item.result c.second-item.result three c.requires) c.difference.ensures

pub capacity-requires-in-len3-clause-free : goal.capacity-requires-in-len3-clause-free
capacity-requires-in-len3-clause-free c =
    let ps = c.args.points.now in
    let three = three_points ps c.first-item.result c.second-item.result c.in-len3.len_at_least c.in-len3.len_below
    c.first-item.is c.second-item.is in
    free_three c.args.unit ps c.first-item.result c.second-item.result c.difference.result three c.requires
    c.difference.ensures

pub returns-in-len3 : goal.returns-in-len3
returns-in-len3 c =
    let ps = c.args.points.now in
    let three = three_points ps c.first-item.result c.second-item.result c.in-len3.len_at_least c.in-len3.len_below
    c.first-item.is c.second-item.is in
    law_three c.args.unit ps c.first-item.result c.second-item.result c.difference.result c.capacity-in-len3.result
    c.exactly.result three c.difference.ensures c.capacity-in-len3.ensures.made c.capacity-in-len3.ensures.origin
    (rw (← c.is_us-in-len3.ensures) c.exactly.ensures)
