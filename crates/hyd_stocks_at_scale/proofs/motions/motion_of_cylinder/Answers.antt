use Rattle.std.proofs.Common.{◌≡◌, ◌*◌, ◌*ℤ◌, pos, ap, ◌∙◌, arith, to_z, of_z, unsigned_abs, ℤ, rules}
use Rattle.std.specs.Int.{w128}
use Rattle.std.proofs.lemmas.Int.{ints, to_z-of_z}
use Rattle.hyd_spec.specs.Tank.{exact_content}
use Rattle.hyd_tank.specs.StockIntervals.{cylinder}
use Rattle.hyd_stocks_at_scale.specs.Motions.{stock_of}
use Rattle.hyd_stocks_at_scale.proofs.ContentsInShares.{cylinder_shares, shares_along}
use Rattle.hyd_stocks_at_scale.proofs.motions.motion_of_cylinder.Goals as goal

pub returns : goal.returns
returns c =
    let area = unsigned_abs c.args.tank.now.area in
    let breadth = to_z w128 (of_z w128 c.breadth_of_cylinder-breadth.result) in
    let b : breadth ≡ pos (27 * area) =
    to_z-of_z w128 c.breadth_of_cylinder-breadth.result (record { sfits = c.breadth_of_cylinder-breadth.type_inv })
    ∙ c.breadth_of_cylinder-breadth.ensures.value in
    let level = to_z-of_z w128 c.args.stock.level (search rules) in
    let s = to_z-of_z w128 c.in_shares.result (record { sfits = c.in_shares.type_inv }) in
    let r = to_z-of_z w128 c.rate_of.result (record { sfits = c.rate_of.type_inv }) in
    let q = to_z-of_z w128 c.args.inflow c.ranges.inflow in
    let start : to_z w128 (of_z w128 c.in_shares.result) ≡ pos (27 * area) *ℤ c.args.stock.level =
    s ∙ (c.in_shares.ensures.value ∙ (ap (λ (z : ℤ). z *ℤ to_z w128 (of_z w128 c.args.stock.level)) b
    ∙ ap (λ (z : ℤ). pos (27 * area) *ℤ z) level)) in
    let rate : to_z w128 (of_z w128 c.rate_of.result) ≡ pos 312500000000 *ℤ c.args.inflow =
    r ∙ (c.rate_of.ensures.value ∙ ap (λ (z : ℤ). pos 312500000000 *ℤ z) q) in
    let range = c.breadth_of_cylinder-breadth.ensures.range in
    let is = c.requires.tank.area.at_least in
    record {
      ranges = record {
        breadth = record {
          at_least = omega (arith, ints, range.at_least);
          at_most = omega
              (arith, ints, range.at_most, range.at_least);
        };
        start = rw s c.in_shares.ensures.small;
        rate = rw r c.rate_of.ensures.small;
      };
      breadth = b;
      exact = λ seconds. shares_along breadth (pos (27 * area)) _ (pos (27 * area) *ℤ c.args.stock.level) _
          (pos 312500000000 *ℤ c.args.inflow) seconds
          (exact_content (cylinder c.args.tank.now) (stock_of c.args.stock) c.args.inflow seconds) b start rate
          (cylinder_shares area (stock_of c.args.stock) c.args.inflow seconds (omega (arith, ints, is)));
    }
