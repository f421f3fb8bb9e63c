use Rattle.std.proofs.Common.{◌∙◌, unsigned_abs, arith, SFits}
use Rattle.std.specs.Int.{w128}
use Rattle.std.proofs.lemmas.Int.{ints, to_z-of_z, fits_signed_from_abs}
use Rattle.hyd_num.proofs.Integers.{times_rises}
use Rattle.hyd_tank.proofs.Contents.{parts_from, parts_are, held_is}
use Rattle.hyd_tank.proofs.contents_of_tanks.held_after.Goals as goal

pub clamp-requires : goal.clamp-requires
clamp-requires c =
    let b = c.args.motion.breadth in
    let range = c.requires.motion.breadth in
    let least = parts_from c.in_parts-least.result b c.args.bounds.least c.in_parts-least.ensures.value range
    (omega (arith, ints)) (omega (arith, ints)) in
    let most = parts_from c.in_parts-most.result b c.args.bounds.most c.in_parts-most.ensures.value range
    (omega (arith, ints)) (omega (arith, ints)) in
    let rises = times_rises (unsigned_abs b) c.args.bounds.least c.args.bounds.most (omega (arith, ints)) in
    omega (
      arith,
      ints,
      least,
      most,
      rises,
      parts_are b c.args.bounds.least range.at_least,
      parts_are b c.args.bounds.most range.at_least,
      c.in_parts-least.ensures.small,
      c.in_parts-most.ensures.small,
    )

pub returns : goal.returns
returns c =
    let b = c.args.motion.breadth in
    let range = c.requires.motion.breadth in
    let drive : SFits w128 c.args.motion.drive = fits_signed_from_abs w128 c.args.motion.drive (omega (arith, ints)) in
    to_z-of_z w128 c.clamp.result (record { sfits = c.clamp.type_inv })
    ∙ held_is b c.args.motion.drive c.args.content c.args.inflow c.args.bounds.least c.args.bounds.most
    c.in_parts-least.result c.in_parts-most.result c.in_parts.result c.saturating_mul-change.result
    c.saturating_add.result c.clamp.result range
    (omega (arith, ints)) (omega (arith, ints)) (omega (arith, ints)) (omega (arith, ints)) (omega (arith, ints))
    (omega (arith, ints))
    drive c.ranges.inflow (record { sfits = c.saturating_mul-change.type_inv }) (record {
      sfits = c.saturating_add.type_inv;
    })
    (parts_from c.in_parts-least.result b c.args.bounds.least c.in_parts-least.ensures.value range
    (omega (arith, ints)) (omega (arith, ints)))
    (parts_from c.in_parts-most.result b c.args.bounds.most c.in_parts-most.ensures.value range (omega (arith, ints))
    (omega (arith, ints)))
    (parts_from c.in_parts.result b c.args.content c.in_parts.ensures.value range (omega (arith, ints))
    (omega (arith, ints)))
    c.saturating_mul-change.ensures c.saturating_add.ensures c.clamp.ensures.value
