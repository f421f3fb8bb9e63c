use Rattle.std.proofs.Common.{refl, ◌∙◌}
use Rattle.hyd_spec_lines.specs.Lines.{row_of}
use Rattle.hyd_spec_input.specs.SectionsAndTables.{curve_named}
use Rattle.hyd_build_links_controls_and_rules.specs.RowsToBuildLinksFrom.{rows_from}
use Rattle.hyd_build_links_controls_and_rules.proofs.NumberLemmas.{pump_bend}
use Rattle.hyd_build_links_controls_and_rules.proofs.PumpLemmas.{pump_made}
use Rattle.hyd_build_links_controls_and_rules.proofs.PipePumpAndValveFacts.{no_fault, pump_facts}
use Rattle.hyd_build_links_controls_and_rules.proofs.pumps.pump_kind.Goals as goal
use Rattle.hyd_curves.proofs.StraightLineCurveLemmas.{many_points}

pub unreachable-requires : goal.unreachable-requires
unreachable-requires c =
    no_fault _ _ (pump_facts c.args.text.now.text c.args.given.now c.args.line.now c.requires).own c.in_default.ensures

pub number-requires : goal.number-requires
number-requires c =
    let rows = rows_from c.args.text.now.text c.args.given.now in
    let name = c.in-Ok.pump.curve.now in
    rw c.requires.right.bends
    (pump_bend rows c.requires.among.place (row_of c.args.text.now.text c.args.line.now) name c.requires.among.is
    c.requires.of c.in-Ok.ensures.1.curve
    (many_points c.named-points.result.now (curve_named rows name)
    (c.named-points.ensures rows c.requires.right.points) c.if-points-ge4.true))

pub pump_law-law-requires : goal.pump_law-law-requires
pump_law-law-requires c =
    let rows = rows_from c.args.text.now.text c.args.given.now in
    (pump_facts c.args.text.now.text c.args.given.now c.args.line.now c.requires).points c.named-points.result.now
    c.in-Ok.pump.curve.now c.in-Ok.ensures.1.curve (c.named-points.ensures rows c.requires.right.points)
    c.if-points-ge4.false

pub returns : goal.returns
returns c =
    let rows = rows_from c.args.text.now.text c.args.given.now in
    let row = row_of c.args.text.now.text c.args.line.now in
    let name = c.in-Ok.pump.curve.now in
    let points = c.named-points.ensures rows c.requires.right.points in
    let bent = (pump_facts c.args.text.now.text c.args.given.now c.args.line.now c.requires).straight
    c.named-points.result.now name points c.if-points-ge4.false in
    pump_made rows row c.args.given.now.unit c.named-points.result.now name c.pump_law-law.result
    c.pattern_number-pattern.result c.in-Ok.ensures.1.curve points bent c.requires.right.unit_is c.pump_law-law.ensures
    (c.pattern_number-pattern.ensures rows c.requires.right.patterns
    ∙ rw c.in-Ok.ensures.1.pattern refl)
