use Rattle.std.proofs.Common.{w64, SFits, ◌∙◌, rules}
use Rattle.std.specs.Int.{w128}
use Rattle.std.proofs.lemmas.Int.{to_z-of_z}
use Rattle.hyd_laws_at_scale.proofs.straight_lines.bent.Goals as goal

pub returns : goal.returns
returns c =
    let least : SFits w64 c.args.law.now.least = search rules in
    let most : SFits w64 c.args.law.now.most = search rules in
    let l = to_z-of_z w64 c.args.law.now.least least in
    let m = to_z-of_z w64 c.args.law.now.most most in
    let d = to_z-of_z w64 c.args.d c.ranges.d in
    let f = to_z-of_z w128 c.floor_at.result (record { sfits = c.floor_at.type_inv }) in
    let g = to_z-of_z w128 c.ceiling_at.result (record { sfits = c.ceiling_at.type_inv }) in
    let floor = rw (c.as_slice-knots.ensures, d) at c.floor_at.ensures in
    let ceiling = rw (c.as_slice-knots.ensures, d) at c.ceiling_at.ensures in
    record {
      in_range = record { difference = c.requires.difference; parts = tt };
      low_is = c.window_of.ensures.low ∙ (to_z-of_z w128 c.held.result (record { sfits = c.held.type_inv })
          ∙ (rw (l, m, f, floor) at c.held.ensures.value));
      high_is = c.window_of.ensures.high ∙ (to_z-of_z w128 c.held-2.result (record { sfits = c.held-2.type_inv })
          ∙ (rw (l, m, g, ceiling) at c.held-2.ensures.value));
    }
