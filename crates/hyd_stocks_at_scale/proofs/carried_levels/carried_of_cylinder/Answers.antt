use Rattle.std.proofs.Common.{◌≡◌, ℤ, pos, ◌*ℤ◌, sym, ap, subst, ◌∙◌, arith, to_z, of_z, w64}
use Rattle.std.specs.Int.{w128}
use Rattle.std.proofs.lemmas.Int.{ints, to_z-of_z}
use Rattle.hyd_num.specs.Rational.{Rational, whole}
use Rattle.hyd_lemmas.proofs.BooleanTests.{le-yes, le-no}
use Rattle.hyd_spec.specs.Scale.{at_scale}
use Rattle.hyd_spec.specs.Tank.{Bounds, level_bounds, exact_content}
use Rattle.hyd_tank.specs.StockIntervals.{cylinder}
use Rattle.hyd_laws_at_scale.specs.Scales.{parts_of}
use Rattle.hyd_stocks_at_scale.specs.ExactLevels.{IsLevel}
use Rattle.hyd_stocks_at_scale.specs.Motions.{IsInShares, exact_shares}
use Rattle.hyd_stocks_at_scale.proofs.NextContents.{at_least_from, at_most_from, less_from, more_from, below_too}
use Rattle.hyd_stocks_at_scale.proofs.NextContents.{above_too}
use Rattle.hyd_stocks_at_scale.proofs.ContentsInShares.{from_shares, up_to_shares}
use Rattle.hyd_stocks_at_scale.proofs.ExactLevels.{placed_most, placed_least, placed_inside, exactly}
use Rattle.hyd_stocks_at_scale.proofs.ExactLevels.{not_negative}
use Rattle.hyd_stocks_at_scale.proofs.carried_levels.carried_of_cylinder.Goals as goal

pub returns-then-shares-in_shares : goal.returns-then-shares-in_shares
returns-then-shares-in_shares c = λ stock q0 moves.
    let S = parts_of c.args.scale in
    let tank = c.args.tank.now in
    let breadth = c.args.motion.breadth in
    let exact = exact_shares c.args.motion c.args.seconds in
    let range = c.requires.motion.breadth in
    let lb = c.level_bounds-levels.ensures.value in
    let lr = c.level_bounds-levels.ensures.range in
    let shares = c.shares_after-shares.result in
    let b : to_z w128 (of_z w128 c.args.motion.breadth) ≡ c.args.motion.breadth =
    omega (arith, ints, range.at_least, range.at_most) in
    let z = to_z-of_z w128 c.shares_after-shares.result (record { sfits = c.shares_after-shares.type_inv }) in
    let top : to_z w64 (of_z w64 c.level_bounds-levels.result.most) ≡ c.level_bounds-levels.result.most =
    omega (arith, ints, lr.from, lr.apart, lr.up_to) in
    let m : to_z w128 (of_z w128 c.in_parts-most.result) ≡ at_scale (parts_of c.args.scale) c.args.tank.now.maximum =
    to_z-of_z w128 c.in_parts-most.result (record { sfits = c.in_parts-most.type_inv })
    ∙ (c.in_parts-most.ensures.value ∙ (ap (λ (y : ℤ). at_scale (parts_of c.args.scale) y) top
    ∙ ap (λ (k : Bounds). at_scale (parts_of c.args.scale) k.most) lb)) in
    let r = to_z-of_z w128 c.in_shares.result (record { sfits = c.in_shares.type_inv }) in
    let most = rw (b, m) at c.in_shares.ensures.value in
    let most-at = breadth *ℤ (pos S *ℤ tank.maximum) in
    let h = at_least_from exact shares c.in_shares.result most-at (to_z w128 (of_z w128 c.in_shares.result))
    (to_z w128 (of_z w128 c.shares_after-shares.result)) c.shares_after-shares.ensures r z most
    c.in_shares.ensures.small
    (le-yes (to_z w128 (of_z w128 c.in_shares.result)) (to_z w128 (of_z w128 c.shares_after-shares.result))
    c.if-shares-in_shares.true) in
    let x = exact_content (cylinder tank) stock q0 c.args.seconds in
    let is : IsInShares c.args.motion.breadth (exact_shares c.args.motion c.args.seconds)
    (exact_content (cylinder c.args.tank.now) stock q0 c.args.seconds) = moves.exact c.args.seconds in
    let full = from_shares breadth exact x range.at_least is (pos S *ℤ tank.maximum) h in
    placed_most (λ (v : Rational). IsLevel c.whole_level.result v) S (level_bounds tank) (level_bounds tank) x x full
    (subst (λ (y : ℤ). IsLevel c.whole_level.result (whole y)) m c.whole_level.ensures)

pub returns-then-shares-in_shares-2 : goal.returns-then-shares-in_shares-2
returns-then-shares-in_shares-2 c = λ stock q0 moves.
    let S = parts_of c.args.scale in
    let tank = c.args.tank.now in
    let breadth = c.args.motion.breadth in
    let exact = exact_shares c.args.motion c.args.seconds in
    let range = c.requires.motion.breadth in
    let lb = c.level_bounds-levels.ensures.value in
    let lr = c.level_bounds-levels.ensures.range in
    let shares = c.shares_after-shares.result in
    let b : to_z w128 (of_z w128 c.args.motion.breadth) ≡ c.args.motion.breadth =
    omega (arith, ints, range.at_least, range.at_most) in
    let z = to_z-of_z w128 c.shares_after-shares.result (record { sfits = c.shares_after-shares.type_inv }) in
    let top : to_z w64 (of_z w64 c.level_bounds-levels.result.most) ≡ c.level_bounds-levels.result.most =
    omega (arith, ints, lr.from, lr.apart, lr.up_to) in
    let m : to_z w128 (of_z w128 c.in_parts-most.result) ≡ at_scale (parts_of c.args.scale) c.args.tank.now.maximum =
    to_z-of_z w128 c.in_parts-most.result (record { sfits = c.in_parts-most.type_inv })
    ∙ (c.in_parts-most.ensures.value ∙ (ap (λ (y : ℤ). at_scale (parts_of c.args.scale) y) top
    ∙ ap (λ (k : Bounds). at_scale (parts_of c.args.scale) k.most) lb)) in
    let r = to_z-of_z w128 c.in_shares.result (record { sfits = c.in_shares.type_inv }) in
    let most = rw (b, m) at c.in_shares.ensures.value in
    let most-at = breadth *ℤ (pos S *ℤ tank.maximum) in
    let bottom : to_z w64 (of_z w64 c.level_bounds-levels.result.least) ≡ c.level_bounds-levels.result.least =
    omega (arith, ints, lr.from, lr.apart, lr.up_to) in
    let k : to_z w128 (of_z w128 c.in_parts-least.result) ≡ at_scale (parts_of c.args.scale) c.args.tank.now.minimum =
    to_z-of_z w128 c.in_parts-least.result (record { sfits = c.in_parts-least.type_inv })
    ∙ (c.in_parts-least.ensures.value ∙ (ap (λ (y : ℤ). at_scale (parts_of c.args.scale) y) bottom
    ∙ ap (λ (e : Bounds). at_scale (parts_of c.args.scale) e.least) lb)) in
    let q = to_z-of_z w128 c.in_shares-2.result (record { sfits = c.in_shares-2.type_inv }) in
    let least = rw (b, k) at c.in_shares-2.ensures.value in
    let least-at = breadth *ℤ (pos S *ℤ tank.minimum) in
    let s = less_from exact shares c.in_shares.result most-at (to_z w128 (of_z w128 c.in_shares.result))
    (to_z w128 (of_z w128 c.shares_after-shares.result)) c.shares_after-shares.ensures r z most
    c.in_shares.ensures.small
    (le-no (to_z w128 (of_z w128 c.in_shares.result)) (to_z w128 (of_z w128 c.shares_after-shares.result))
    c.if-shares-in_shares.false) in
    let h = at_most_from exact shares c.in_shares-2.result least-at (to_z w128 (of_z w128 c.in_shares-2.result))
    (to_z w128 (of_z w128 c.shares_after-shares.result)) c.shares_after-shares.ensures q z least
    c.in_shares-2.ensures.small
    (le-yes (to_z w128 (of_z w128 c.shares_after-shares.result)) (to_z w128 (of_z w128 c.in_shares-2.result))
    c.if-shares-in_shares-2.true) in
    let x = exact_content (cylinder tank) stock q0 c.args.seconds in
    let is : IsInShares c.args.motion.breadth (exact_shares c.args.motion c.args.seconds)
    (exact_content (cylinder c.args.tank.now) stock q0 c.args.seconds) = moves.exact c.args.seconds in
    let short = below_too S (level_bounds tank) breadth exact x range.at_least is (pos 0) (pos S *ℤ tank.maximum) s in
    let empty = up_to_shares breadth exact x range.at_least is (pos S *ℤ tank.minimum) h in
    placed_least (λ (v : Rational). IsLevel c.whole_level-then-shares-in_shares-2.result v) S (level_bounds tank)
    (level_bounds tank) x x short empty
    (subst (λ (y : ℤ). IsLevel c.whole_level-then-shares-in_shares-2.result (whole y)) k
    c.whole_level-then-shares-in_shares-2.ensures)

pub level_of_shares-requires-clause-shares : goal.level_of_shares-requires-clause-shares
level_of_shares-requires-clause-shares c =
    let S = parts_of c.args.scale in
    let tank = c.args.tank.now in
    let breadth = c.args.motion.breadth in
    let exact = exact_shares c.args.motion c.args.seconds in
    let range = c.requires.motion.breadth in
    let lb = c.level_bounds-levels.ensures.value in
    let lr = c.level_bounds-levels.ensures.range in
    let shares = c.shares_after-shares.result in
    let b : to_z w128 (of_z w128 c.args.motion.breadth) ≡ c.args.motion.breadth =
    omega (arith, ints, range.at_least, range.at_most) in
    let z = to_z-of_z w128 c.shares_after-shares.result (record { sfits = c.shares_after-shares.type_inv }) in
    let top : to_z w64 (of_z w64 c.level_bounds-levels.result.most) ≡ c.level_bounds-levels.result.most =
    omega (arith, ints, lr.from, lr.apart, lr.up_to) in
    let m : to_z w128 (of_z w128 c.in_parts-most.result) ≡ at_scale (parts_of c.args.scale) c.args.tank.now.maximum =
    to_z-of_z w128 c.in_parts-most.result (record { sfits = c.in_parts-most.type_inv })
    ∙ (c.in_parts-most.ensures.value ∙ (ap (λ (y : ℤ). at_scale (parts_of c.args.scale) y) top
    ∙ ap (λ (k : Bounds). at_scale (parts_of c.args.scale) k.most) lb)) in
    let r = to_z-of_z w128 c.in_shares.result (record { sfits = c.in_shares.type_inv }) in
    let most = rw (b, m) at c.in_shares.ensures.value in
    let most-at = breadth *ℤ (pos S *ℤ tank.maximum) in
    let bottom : to_z w64 (of_z w64 c.level_bounds-levels.result.least) ≡ c.level_bounds-levels.result.least =
    omega (arith, ints, lr.from, lr.apart, lr.up_to) in
    let k : to_z w128 (of_z w128 c.in_parts-least.result) ≡ at_scale (parts_of c.args.scale) c.args.tank.now.minimum =
    to_z-of_z w128 c.in_parts-least.result (record { sfits = c.in_parts-least.type_inv })
    ∙ (c.in_parts-least.ensures.value ∙ (ap (λ (y : ℤ). at_scale (parts_of c.args.scale) y) bottom
    ∙ ap (λ (e : Bounds). at_scale (parts_of c.args.scale) e.least) lb)) in
    let q = to_z-of_z w128 c.in_shares-2.result (record { sfits = c.in_shares-2.type_inv }) in
    let least = rw (b, k) at c.in_shares-2.ensures.value in
    let least-at = breadth *ℤ (pos S *ℤ tank.minimum) in
    let s = less_from exact shares c.in_shares.result most-at (to_z w128 (of_z w128 c.in_shares.result))
    (to_z w128 (of_z w128 c.shares_after-shares.result)) c.shares_after-shares.ensures r z most
    c.in_shares.ensures.small
    (le-no (to_z w128 (of_z w128 c.in_shares.result)) (to_z w128 (of_z w128 c.shares_after-shares.result))
    c.if-shares-in_shares.false) in
    let past = le-no (to_z w128 (of_z w128 c.shares_after-shares.result)) (to_z w128 (of_z w128 c.in_shares-2.result))
    c.if-shares-in_shares-2.false in
    let short = le-no (to_z w128 (of_z w128 c.in_shares.result)) (to_z w128 (of_z w128 c.shares_after-shares.result))
    c.if-shares-in_shares.false in
    let h = more_from exact shares c.in_shares-2.result least-at (to_z w128 (of_z w128 c.in_shares-2.result))
    (to_z w128 (of_z w128 c.shares_after-shares.result)) c.shares_after-shares.ensures q z least
    c.in_shares-2.ensures.small past in
    let low = not_negative breadth S tank.minimum range.at_least c.requires.tank.levels.lowest in
    omega (arith, ints, past, q, least, low)

pub returns : goal.returns
returns c = λ stock q0 moves.
    let S = parts_of c.args.scale in
    let tank = c.args.tank.now in
    let breadth = c.args.motion.breadth in
    let exact = exact_shares c.args.motion c.args.seconds in
    let range = c.requires.motion.breadth in
    let lb = c.level_bounds-levels.ensures.value in
    let lr = c.level_bounds-levels.ensures.range in
    let shares = c.shares_after-shares.result in
    let b : to_z w128 (of_z w128 c.args.motion.breadth) ≡ c.args.motion.breadth =
    omega (arith, ints, range.at_least, range.at_most) in
    let z = to_z-of_z w128 c.shares_after-shares.result (record { sfits = c.shares_after-shares.type_inv }) in
    let top : to_z w64 (of_z w64 c.level_bounds-levels.result.most) ≡ c.level_bounds-levels.result.most =
    omega (arith, ints, lr.from, lr.apart, lr.up_to) in
    let m : to_z w128 (of_z w128 c.in_parts-most.result) ≡ at_scale (parts_of c.args.scale) c.args.tank.now.maximum =
    to_z-of_z w128 c.in_parts-most.result (record { sfits = c.in_parts-most.type_inv })
    ∙ (c.in_parts-most.ensures.value ∙ (ap (λ (y : ℤ). at_scale (parts_of c.args.scale) y) top
    ∙ ap (λ (k : Bounds). at_scale (parts_of c.args.scale) k.most) lb)) in
    let r = to_z-of_z w128 c.in_shares.result (record { sfits = c.in_shares.type_inv }) in
    let most = rw (b, m) at c.in_shares.ensures.value in
    let most-at = breadth *ℤ (pos S *ℤ tank.maximum) in
    let bottom : to_z w64 (of_z w64 c.level_bounds-levels.result.least) ≡ c.level_bounds-levels.result.least =
    omega (arith, ints, lr.from, lr.apart, lr.up_to) in
    let k : to_z w128 (of_z w128 c.in_parts-least.result) ≡ at_scale (parts_of c.args.scale) c.args.tank.now.minimum =
    to_z-of_z w128 c.in_parts-least.result (record { sfits = c.in_parts-least.type_inv })
    ∙ (c.in_parts-least.ensures.value ∙ (ap (λ (y : ℤ). at_scale (parts_of c.args.scale) y) bottom
    ∙ ap (λ (e : Bounds). at_scale (parts_of c.args.scale) e.least) lb)) in
    let q = to_z-of_z w128 c.in_shares-2.result (record { sfits = c.in_shares-2.type_inv }) in
    let least = rw (b, k) at c.in_shares-2.ensures.value in
    let least-at = breadth *ℤ (pos S *ℤ tank.minimum) in
    let s = less_from exact shares c.in_shares.result most-at (to_z w128 (of_z w128 c.in_shares.result))
    (to_z w128 (of_z w128 c.shares_after-shares.result)) c.shares_after-shares.ensures r z most
    c.in_shares.ensures.small
    (le-no (to_z w128 (of_z w128 c.in_shares.result)) (to_z w128 (of_z w128 c.shares_after-shares.result))
    c.if-shares-in_shares.false) in
    let past = le-no (to_z w128 (of_z w128 c.shares_after-shares.result)) (to_z w128 (of_z w128 c.in_shares-2.result))
    c.if-shares-in_shares-2.false in
    let short = le-no (to_z w128 (of_z w128 c.in_shares.result)) (to_z w128 (of_z w128 c.shares_after-shares.result))
    c.if-shares-in_shares.false in
    let h = more_from exact shares c.in_shares-2.result least-at (to_z w128 (of_z w128 c.in_shares-2.result))
    (to_z w128 (of_z w128 c.shares_after-shares.result)) c.shares_after-shares.ensures q z least
    c.in_shares-2.ensures.small past in
    let x = exact_content (cylinder tank) stock q0 c.args.seconds in
    let is : IsInShares c.args.motion.breadth (exact_shares c.args.motion c.args.seconds)
    (exact_content (cylinder c.args.tank.now) stock q0 c.args.seconds) = moves.exact c.args.seconds in
    let same = exactly exact shares c.shares_after-shares.ensures
    (omega (arith, ints, past, short, r, q, z, c.in_shares.ensures.small, c.in_shares-2.ensures.small)) in
    let own = subst (λ (y : ℤ). IsInShares breadth y x) (sym (z ∙ same)) is in
    let level = c.level_of_shares.ensures x (subst (λ (y : ℤ). IsInShares y
    (to_z w128 (of_z w128 c.shares_after-shares.result)) x) (sym b) own) in
    placed_inside (λ (v : Rational). IsLevel c.level_of_shares.result v) S (level_bounds tank) (level_bounds tank) x x
    (below_too S (level_bounds tank) breadth exact x range.at_least is (pos 0) (pos S *ℤ tank.maximum) s)
    (above_too S (level_bounds tank) breadth exact x range.at_least is (pos 0) (pos S *ℤ tank.minimum) h) level
