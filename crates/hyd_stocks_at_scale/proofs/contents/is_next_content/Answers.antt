use Rattle.std.proofs.Common.{◌≡◌, ℤ, pos, ◌*ℤ◌, sym, ap, subst, ◌∙◌, arith, to_z, of_z, w64}
use Rattle.std.specs.Int.{w128}
use Rattle.std.proofs.lemmas.Int.{ints, to_z-of_z}
use Rattle.hyd_spec.specs.Scale.{at_scale}
use Rattle.hyd_spec.specs.Tank.{IsPlaced}
use Rattle.hyd_lemmas.proofs.BooleanTests.{le-yes, le-no, lt-yes, lt-no}
use Rattle.hyd_laws_at_scale.specs.Scales.{parts_of}
use Rattle.hyd_stocks_at_scale.specs.Contents.{bounds_of, IsNearBy}
use Rattle.hyd_stocks_at_scale.specs.Motions.{LiesAs, exact_shares}
use Rattle.std.proofs.Common.{unsigned_abs, ◌≤◌}
use Rattle.hyd_stocks_at_scale.specs.Motions.{content_limit}
use Rattle.hyd_stocks_at_scale.proofs.Tests.{on_true}
use Rattle.hyd_stocks_at_scale.proofs.Tests.{also_true, also_false}
use Rattle.hyd_stocks_at_scale.proofs.NextContents.{full, empty, between, near_is, near_back, at_least_from}
use Rattle.hyd_stocks_at_scale.proofs.NextContents.{at_most_from, less_from, more_from, near_along}
use Rattle.hyd_stocks_at_scale.proofs.contents.is_next_content.Goals as goal

pub returns-then-shares-in_shares-clause-yes : goal.returns-then-shares-in_shares-clause-yes
returns-then-shares-in_shares-clause-yes c = λ x is.
    let S = parts_of c.args.scale in
    let bounds = c.args.bounds in
    let breadth = c.args.motion.breadth in
    let exact = exact_shares c.args.motion c.args.seconds in
    let range = c.requires.motion.breadth in
    let limits = c.requires.bounds in
    let shares = c.shares_after-shares.result in
    let b : to_z w128 (of_z w128 c.args.motion.breadth) ≡ c.args.motion.breadth =
    omega (arith, ints, range.at_least, range.at_most) in
    let z = to_z-of_z w128 c.shares_after-shares.result (record { sfits = c.shares_after-shares.type_inv }) in
    let n = to_z-of_z w128 c.args.next c.ranges.next in
    let top : to_z w64 (of_z w64 c.args.bounds.most) ≡ c.args.bounds.most =
    omega (arith, ints, limits.from, limits.apart, limits.up_to) in
    let m : to_z w128 (of_z w128 c.in_parts-most.result) ≡ at_scale (parts_of c.args.scale) c.args.bounds.most =
    to_z-of_z w128 c.in_parts-most.result (record { sfits = c.in_parts-most.type_inv })
    ∙ (c.in_parts-most.ensures.value ∙ ap (λ (y : ℤ). at_scale (parts_of c.args.scale) y) top) in
    let r = to_z-of_z w128 c.in_shares.result (record { sfits = c.in_shares.type_inv }) in
    let most = rw (b, m) at c.in_shares.ensures.value in
    let most-at = breadth *ℤ (pos S *ℤ bounds.most) in
    let h = at_least_from exact shares c.in_shares.result most-at (to_z w128 (of_z w128 c.in_shares.result))
    (to_z w128 (of_z w128 c.shares_after-shares.result)) c.shares_after-shares.ensures r z most
    c.in_shares.ensures.small
    (le-yes (to_z w128 (of_z w128 c.in_shares.result)) (to_z w128 (of_z w128 c.shares_after-shares.result))
    c.if-shares-in_shares.true) in
    let is-next = full S (bounds_of bounds) breadth exact x range.at_least is c.args.next h in
    also_true c.is_same.result (to_z w128 (of_z w128 c.args.next) ≡ to_z w128 (of_z w128 c.in_parts-most.result))
    (IsPlaced (parts_of c.args.scale) (bounds_of c.args.bounds) (bounds_of c.args.bounds) x x c.args.next)
    c.is_same.ensures.yes (λ e. is-next.1 (sym n ∙ (e ∙ m)))

pub returns-then-shares-in_shares-clause-no : goal.returns-then-shares-in_shares-clause-no
returns-then-shares-in_shares-clause-no c = λ x is.
    let S = parts_of c.args.scale in
    let bounds = c.args.bounds in
    let breadth = c.args.motion.breadth in
    let exact = exact_shares c.args.motion c.args.seconds in
    let range = c.requires.motion.breadth in
    let limits = c.requires.bounds in
    let shares = c.shares_after-shares.result in
    let b : to_z w128 (of_z w128 c.args.motion.breadth) ≡ c.args.motion.breadth =
    omega (arith, ints, range.at_least, range.at_most) in
    let z = to_z-of_z w128 c.shares_after-shares.result (record { sfits = c.shares_after-shares.type_inv }) in
    let n = to_z-of_z w128 c.args.next c.ranges.next in
    let top : to_z w64 (of_z w64 c.args.bounds.most) ≡ c.args.bounds.most =
    omega (arith, ints, limits.from, limits.apart, limits.up_to) in
    let m : to_z w128 (of_z w128 c.in_parts-most.result) ≡ at_scale (parts_of c.args.scale) c.args.bounds.most =
    to_z-of_z w128 c.in_parts-most.result (record { sfits = c.in_parts-most.type_inv })
    ∙ (c.in_parts-most.ensures.value ∙ ap (λ (y : ℤ). at_scale (parts_of c.args.scale) y) top) in
    let r = to_z-of_z w128 c.in_shares.result (record { sfits = c.in_shares.type_inv }) in
    let most = rw (b, m) at c.in_shares.ensures.value in
    let most-at = breadth *ℤ (pos S *ℤ bounds.most) in
    let h = at_least_from exact shares c.in_shares.result most-at (to_z w128 (of_z w128 c.in_shares.result))
    (to_z w128 (of_z w128 c.shares_after-shares.result)) c.shares_after-shares.ensures r z most
    c.in_shares.ensures.small
    (le-yes (to_z w128 (of_z w128 c.in_shares.result)) (to_z w128 (of_z w128 c.shares_after-shares.result))
    c.if-shares-in_shares.true) in
    let is-next = full S (bounds_of bounds) breadth exact x range.at_least is c.args.next h in
    also_false c.is_same.result (to_z w128 (of_z w128 c.args.next) ≡ to_z w128 (of_z w128 c.in_parts-most.result))
    (IsPlaced (parts_of c.args.scale) (bounds_of c.args.bounds) (bounds_of c.args.bounds) x x c.args.next)
    c.is_same.ensures.no (λ p. n ∙ (is-next.0 p ∙ sym m))

pub returns-then-shares-in_shares-2-clause-yes : goal.returns-then-shares-in_shares-2-clause-yes
returns-then-shares-in_shares-2-clause-yes c = λ x is.
    let S = parts_of c.args.scale in
    let bounds = c.args.bounds in
    let breadth = c.args.motion.breadth in
    let exact = exact_shares c.args.motion c.args.seconds in
    let range = c.requires.motion.breadth in
    let limits = c.requires.bounds in
    let shares = c.shares_after-shares.result in
    let b : to_z w128 (of_z w128 c.args.motion.breadth) ≡ c.args.motion.breadth =
    omega (arith, ints, range.at_least, range.at_most) in
    let z = to_z-of_z w128 c.shares_after-shares.result (record { sfits = c.shares_after-shares.type_inv }) in
    let n = to_z-of_z w128 c.args.next c.ranges.next in
    let top : to_z w64 (of_z w64 c.args.bounds.most) ≡ c.args.bounds.most =
    omega (arith, ints, limits.from, limits.apart, limits.up_to) in
    let m : to_z w128 (of_z w128 c.in_parts-most.result) ≡ at_scale (parts_of c.args.scale) c.args.bounds.most =
    to_z-of_z w128 c.in_parts-most.result (record { sfits = c.in_parts-most.type_inv })
    ∙ (c.in_parts-most.ensures.value ∙ ap (λ (y : ℤ). at_scale (parts_of c.args.scale) y) top) in
    let r = to_z-of_z w128 c.in_shares.result (record { sfits = c.in_shares.type_inv }) in
    let most = rw (b, m) at c.in_shares.ensures.value in
    let most-at = breadth *ℤ (pos S *ℤ bounds.most) in
    let bottom : to_z w64 (of_z w64 c.args.bounds.least) ≡ c.args.bounds.least =
    omega (arith, ints, limits.from, limits.apart, limits.up_to) in
    let k : to_z w128 (of_z w128 c.in_parts-least.result) ≡ at_scale (parts_of c.args.scale) c.args.bounds.least =
    to_z-of_z w128 c.in_parts-least.result (record { sfits = c.in_parts-least.type_inv })
    ∙ (c.in_parts-least.ensures.value ∙ ap (λ (y : ℤ). at_scale (parts_of c.args.scale) y) bottom) in
    let q = to_z-of_z w128 c.in_shares-2.result (record { sfits = c.in_shares-2.type_inv }) in
    let least = rw (b, k) at c.in_shares-2.ensures.value in
    let least-at = breadth *ℤ (pos S *ℤ bounds.least) in
    let s = less_from exact shares c.in_shares.result most-at (to_z w128 (of_z w128 c.in_shares.result))
    (to_z w128 (of_z w128 c.shares_after-shares.result)) c.shares_after-shares.ensures r z most
    c.in_shares.ensures.small
    (le-no (to_z w128 (of_z w128 c.in_shares.result)) (to_z w128 (of_z w128 c.shares_after-shares.result))
    c.if-shares-in_shares.false) in
    let h = at_most_from exact shares c.in_shares-2.result least-at (to_z w128 (of_z w128 c.in_shares-2.result))
    (to_z w128 (of_z w128 c.shares_after-shares.result)) c.shares_after-shares.ensures q z least
    c.in_shares-2.ensures.small
    (le-yes (to_z w128 (of_z w128 c.shares_after-shares.result)) (to_z w128 (of_z w128 c.in_shares-2.result))
    c.if-shares-in_shares-2.true) in
    let is-next = empty S (bounds_of bounds) breadth exact x range.at_least is c.args.next s h in
    also_true c.is_same-then-shares-in_shares-2.result (to_z w128 (of_z w128 c.args.next)
    ≡ to_z w128 (of_z w128 c.in_parts-least.result))
    (IsPlaced (parts_of c.args.scale) (bounds_of c.args.bounds) (bounds_of c.args.bounds) x x c.args.next)
    c.is_same-then-shares-in_shares-2.ensures.yes (λ e. is-next.1 (sym n ∙ (e ∙ k)))

pub returns-then-shares-in_shares-2-clause-no : goal.returns-then-shares-in_shares-2-clause-no
returns-then-shares-in_shares-2-clause-no c = λ x is.
    let S = parts_of c.args.scale in
    let bounds = c.args.bounds in
    let breadth = c.args.motion.breadth in
    let exact = exact_shares c.args.motion c.args.seconds in
    let range = c.requires.motion.breadth in
    let limits = c.requires.bounds in
    let shares = c.shares_after-shares.result in
    let b : to_z w128 (of_z w128 c.args.motion.breadth) ≡ c.args.motion.breadth =
    omega (arith, ints, range.at_least, range.at_most) in
    let z = to_z-of_z w128 c.shares_after-shares.result (record { sfits = c.shares_after-shares.type_inv }) in
    let n = to_z-of_z w128 c.args.next c.ranges.next in
    let top : to_z w64 (of_z w64 c.args.bounds.most) ≡ c.args.bounds.most =
    omega (arith, ints, limits.from, limits.apart, limits.up_to) in
    let m : to_z w128 (of_z w128 c.in_parts-most.result) ≡ at_scale (parts_of c.args.scale) c.args.bounds.most =
    to_z-of_z w128 c.in_parts-most.result (record { sfits = c.in_parts-most.type_inv })
    ∙ (c.in_parts-most.ensures.value ∙ ap (λ (y : ℤ). at_scale (parts_of c.args.scale) y) top) in
    let r = to_z-of_z w128 c.in_shares.result (record { sfits = c.in_shares.type_inv }) in
    let most = rw (b, m) at c.in_shares.ensures.value in
    let most-at = breadth *ℤ (pos S *ℤ bounds.most) in
    let bottom : to_z w64 (of_z w64 c.args.bounds.least) ≡ c.args.bounds.least =
    omega (arith, ints, limits.from, limits.apart, limits.up_to) in
    let k : to_z w128 (of_z w128 c.in_parts-least.result) ≡ at_scale (parts_of c.args.scale) c.args.bounds.least =
    to_z-of_z w128 c.in_parts-least.result (record { sfits = c.in_parts-least.type_inv })
    ∙ (c.in_parts-least.ensures.value ∙ ap (λ (y : ℤ). at_scale (parts_of c.args.scale) y) bottom) in
    let q = to_z-of_z w128 c.in_shares-2.result (record { sfits = c.in_shares-2.type_inv }) in
    let least = rw (b, k) at c.in_shares-2.ensures.value in
    let least-at = breadth *ℤ (pos S *ℤ bounds.least) in
    let s = less_from exact shares c.in_shares.result most-at (to_z w128 (of_z w128 c.in_shares.result))
    (to_z w128 (of_z w128 c.shares_after-shares.result)) c.shares_after-shares.ensures r z most
    c.in_shares.ensures.small
    (le-no (to_z w128 (of_z w128 c.in_shares.result)) (to_z w128 (of_z w128 c.shares_after-shares.result))
    c.if-shares-in_shares.false) in
    let h = at_most_from exact shares c.in_shares-2.result least-at (to_z w128 (of_z w128 c.in_shares-2.result))
    (to_z w128 (of_z w128 c.shares_after-shares.result)) c.shares_after-shares.ensures q z least
    c.in_shares-2.ensures.small
    (le-yes (to_z w128 (of_z w128 c.shares_after-shares.result)) (to_z w128 (of_z w128 c.in_shares-2.result))
    c.if-shares-in_shares-2.true) in
    let is-next = empty S (bounds_of bounds) breadth exact x range.at_least is c.args.next s h in
    also_false c.is_same-then-shares-in_shares-2.result (to_z w128 (of_z w128 c.args.next)
    ≡ to_z w128 (of_z w128 c.in_parts-least.result))
    (IsPlaced (parts_of c.args.scale) (bounds_of c.args.bounds) (bounds_of c.args.bounds) x x c.args.next)
    c.is_same-then-shares-in_shares-2.ensures.no (λ p. n ∙ (is-next.0 p ∙ sym k))

pub returns-then-next-least-clause-no : goal.returns-then-next-least-clause-no
returns-then-next-least-clause-no c = λ x is p.
    let S = parts_of c.args.scale in
    let bounds = c.args.bounds in
    let breadth = c.args.motion.breadth in
    let exact = exact_shares c.args.motion c.args.seconds in
    let range = c.requires.motion.breadth in
    let limits = c.requires.bounds in
    let shares = c.shares_after-shares.result in
    let b : to_z w128 (of_z w128 c.args.motion.breadth) ≡ c.args.motion.breadth =
    omega (arith, ints, range.at_least, range.at_most) in
    let z = to_z-of_z w128 c.shares_after-shares.result (record { sfits = c.shares_after-shares.type_inv }) in
    let n = to_z-of_z w128 c.args.next c.ranges.next in
    let top : to_z w64 (of_z w64 c.args.bounds.most) ≡ c.args.bounds.most =
    omega (arith, ints, limits.from, limits.apart, limits.up_to) in
    let m : to_z w128 (of_z w128 c.in_parts-most.result) ≡ at_scale (parts_of c.args.scale) c.args.bounds.most =
    to_z-of_z w128 c.in_parts-most.result (record { sfits = c.in_parts-most.type_inv })
    ∙ (c.in_parts-most.ensures.value ∙ ap (λ (y : ℤ). at_scale (parts_of c.args.scale) y) top) in
    let r = to_z-of_z w128 c.in_shares.result (record { sfits = c.in_shares.type_inv }) in
    let most = rw (b, m) at c.in_shares.ensures.value in
    let most-at = breadth *ℤ (pos S *ℤ bounds.most) in
    let bottom : to_z w64 (of_z w64 c.args.bounds.least) ≡ c.args.bounds.least =
    omega (arith, ints, limits.from, limits.apart, limits.up_to) in
    let k : to_z w128 (of_z w128 c.in_parts-least.result) ≡ at_scale (parts_of c.args.scale) c.args.bounds.least =
    to_z-of_z w128 c.in_parts-least.result (record { sfits = c.in_parts-least.type_inv })
    ∙ (c.in_parts-least.ensures.value ∙ ap (λ (y : ℤ). at_scale (parts_of c.args.scale) y) bottom) in
    let q = to_z-of_z w128 c.in_shares-2.result (record { sfits = c.in_shares-2.type_inv }) in
    let least = rw (b, k) at c.in_shares-2.ensures.value in
    let least-at = breadth *ℤ (pos S *ℤ bounds.least) in
    let s = less_from exact shares c.in_shares.result most-at (to_z w128 (of_z w128 c.in_shares.result))
    (to_z w128 (of_z w128 c.shares_after-shares.result)) c.shares_after-shares.ensures r z most
    c.in_shares.ensures.small
    (le-no (to_z w128 (of_z w128 c.in_shares.result)) (to_z w128 (of_z w128 c.shares_after-shares.result))
    c.if-shares-in_shares.false) in
    let h = more_from exact shares c.in_shares-2.result least-at (to_z w128 (of_z w128 c.in_shares-2.result))
    (to_z w128 (of_z w128 c.shares_after-shares.result)) c.shares_after-shares.ensures q z least
    c.in_shares-2.ensures.small
    (le-no (to_z w128 (of_z w128 c.shares_after-shares.result)) (to_z w128 (of_z w128 c.in_shares-2.result))
    c.if-shares-in_shares-2.false) in
    let is-next = between S (bounds_of bounds) breadth exact x range.at_least is c.args.next s h in
    let a = (is-next.0 p).above_least in
    let less = lt-yes (to_z w128 (of_z w128 c.args.next)) (to_z w128 (of_z w128 c.in_parts-least.result))
    c.if-next-least.true in
    omega (arith, ints, a, less, n, k)

pub returns-then-next-most-clause-no : goal.returns-then-next-most-clause-no
returns-then-next-most-clause-no c = λ x is p.
    let S = parts_of c.args.scale in
    let bounds = c.args.bounds in
    let breadth = c.args.motion.breadth in
    let exact = exact_shares c.args.motion c.args.seconds in
    let range = c.requires.motion.breadth in
    let limits = c.requires.bounds in
    let shares = c.shares_after-shares.result in
    let b : to_z w128 (of_z w128 c.args.motion.breadth) ≡ c.args.motion.breadth =
    omega (arith, ints, range.at_least, range.at_most) in
    let z = to_z-of_z w128 c.shares_after-shares.result (record { sfits = c.shares_after-shares.type_inv }) in
    let n = to_z-of_z w128 c.args.next c.ranges.next in
    let top : to_z w64 (of_z w64 c.args.bounds.most) ≡ c.args.bounds.most =
    omega (arith, ints, limits.from, limits.apart, limits.up_to) in
    let m : to_z w128 (of_z w128 c.in_parts-most.result) ≡ at_scale (parts_of c.args.scale) c.args.bounds.most =
    to_z-of_z w128 c.in_parts-most.result (record { sfits = c.in_parts-most.type_inv })
    ∙ (c.in_parts-most.ensures.value ∙ ap (λ (y : ℤ). at_scale (parts_of c.args.scale) y) top) in
    let r = to_z-of_z w128 c.in_shares.result (record { sfits = c.in_shares.type_inv }) in
    let most = rw (b, m) at c.in_shares.ensures.value in
    let most-at = breadth *ℤ (pos S *ℤ bounds.most) in
    let bottom : to_z w64 (of_z w64 c.args.bounds.least) ≡ c.args.bounds.least =
    omega (arith, ints, limits.from, limits.apart, limits.up_to) in
    let k : to_z w128 (of_z w128 c.in_parts-least.result) ≡ at_scale (parts_of c.args.scale) c.args.bounds.least =
    to_z-of_z w128 c.in_parts-least.result (record { sfits = c.in_parts-least.type_inv })
    ∙ (c.in_parts-least.ensures.value ∙ ap (λ (y : ℤ). at_scale (parts_of c.args.scale) y) bottom) in
    let q = to_z-of_z w128 c.in_shares-2.result (record { sfits = c.in_shares-2.type_inv }) in
    let least = rw (b, k) at c.in_shares-2.ensures.value in
    let least-at = breadth *ℤ (pos S *ℤ bounds.least) in
    let s = less_from exact shares c.in_shares.result most-at (to_z w128 (of_z w128 c.in_shares.result))
    (to_z w128 (of_z w128 c.shares_after-shares.result)) c.shares_after-shares.ensures r z most
    c.in_shares.ensures.small
    (le-no (to_z w128 (of_z w128 c.in_shares.result)) (to_z w128 (of_z w128 c.shares_after-shares.result))
    c.if-shares-in_shares.false) in
    let h = more_from exact shares c.in_shares-2.result least-at (to_z w128 (of_z w128 c.in_shares-2.result))
    (to_z w128 (of_z w128 c.shares_after-shares.result)) c.shares_after-shares.ensures q z least
    c.in_shares-2.ensures.small
    (le-no (to_z w128 (of_z w128 c.shares_after-shares.result)) (to_z w128 (of_z w128 c.in_shares-2.result))
    c.if-shares-in_shares-2.false) in
    let is-next = between S (bounds_of bounds) breadth exact x range.at_least is c.args.next s h in
    let a = (is-next.0 p).below_most in
    let less = lt-yes (to_z w128 (of_z w128 c.in_parts-most.result)) (to_z w128 (of_z w128 c.args.next))
    c.if-next-most.true in
    omega (arith, ints, a, less, n, m)

pub returns-clause-yes : goal.returns-clause-yes
returns-clause-yes c = λ x is.
    let S = parts_of c.args.scale in
    let bounds = c.args.bounds in
    let breadth = c.args.motion.breadth in
    let exact = exact_shares c.args.motion c.args.seconds in
    let range = c.requires.motion.breadth in
    let limits = c.requires.bounds in
    let shares = c.shares_after-shares.result in
    let b : to_z w128 (of_z w128 c.args.motion.breadth) ≡ c.args.motion.breadth =
    omega (arith, ints, range.at_least, range.at_most) in
    let z = to_z-of_z w128 c.shares_after-shares.result (record { sfits = c.shares_after-shares.type_inv }) in
    let n = to_z-of_z w128 c.args.next c.ranges.next in
    let top : to_z w64 (of_z w64 c.args.bounds.most) ≡ c.args.bounds.most =
    omega (arith, ints, limits.from, limits.apart, limits.up_to) in
    let m : to_z w128 (of_z w128 c.in_parts-most.result) ≡ at_scale (parts_of c.args.scale) c.args.bounds.most =
    to_z-of_z w128 c.in_parts-most.result (record { sfits = c.in_parts-most.type_inv })
    ∙ (c.in_parts-most.ensures.value ∙ ap (λ (y : ℤ). at_scale (parts_of c.args.scale) y) top) in
    let r = to_z-of_z w128 c.in_shares.result (record { sfits = c.in_shares.type_inv }) in
    let most = rw (b, m) at c.in_shares.ensures.value in
    let most-at = breadth *ℤ (pos S *ℤ bounds.most) in
    let bottom : to_z w64 (of_z w64 c.args.bounds.least) ≡ c.args.bounds.least =
    omega (arith, ints, limits.from, limits.apart, limits.up_to) in
    let k : to_z w128 (of_z w128 c.in_parts-least.result) ≡ at_scale (parts_of c.args.scale) c.args.bounds.least =
    to_z-of_z w128 c.in_parts-least.result (record { sfits = c.in_parts-least.type_inv })
    ∙ (c.in_parts-least.ensures.value ∙ ap (λ (y : ℤ). at_scale (parts_of c.args.scale) y) bottom) in
    let q = to_z-of_z w128 c.in_shares-2.result (record { sfits = c.in_shares-2.type_inv }) in
    let least = rw (b, k) at c.in_shares-2.ensures.value in
    let least-at = breadth *ℤ (pos S *ℤ bounds.least) in
    let s = less_from exact shares c.in_shares.result most-at (to_z w128 (of_z w128 c.in_shares.result))
    (to_z w128 (of_z w128 c.shares_after-shares.result)) c.shares_after-shares.ensures r z most
    c.in_shares.ensures.small
    (le-no (to_z w128 (of_z w128 c.in_shares.result)) (to_z w128 (of_z w128 c.shares_after-shares.result))
    c.if-shares-in_shares.false) in
    let h = more_from exact shares c.in_shares-2.result least-at (to_z w128 (of_z w128 c.in_shares-2.result))
    (to_z w128 (of_z w128 c.shares_after-shares.result)) c.shares_after-shares.ensures q z least
    c.in_shares-2.ensures.small
    (le-no (to_z w128 (of_z w128 c.shares_after-shares.result)) (to_z w128 (of_z w128 c.in_shares-2.result))
    c.if-shares-in_shares-2.false) in
    let is-next = between S (bounds_of bounds) breadth exact x range.at_least is c.args.next s h in
    let from = lt-no (to_z w128 (of_z w128 c.args.next)) (to_z w128 (of_z w128 c.in_parts-least.result))
    c.if-next-least.false in
    let to = lt-no (to_z w128 (of_z w128 c.in_parts-most.result)) (to_z w128 (of_z w128 c.args.next))
    c.if-next-most.false in
    let lies = subst (λ (y : ℤ). LiesAs exact y) (sym z) c.shares_after-shares.ensures in
    also_true c.is_near.result
    (IsNearBy (parts_of c.args.scale) (to_z w128 (of_z w128 c.args.motion.breadth)) (to_z w128 (of_z w128 c.args.next))
    (exact_shares c.args.motion c.args.seconds))
    (IsPlaced (parts_of c.args.scale) (bounds_of c.args.bounds) (bounds_of c.args.bounds) x x c.args.next)
    (c.is_near.ensures.yes exact lies)
    (λ near. is-next.1 (near_is S (bounds_of bounds) breadth exact x range.at_least is c.args.next
    (near_along S (to_z w128 (of_z w128 c.args.motion.breadth)) breadth (to_z w128 (of_z w128 c.args.next)) c.args.next
    exact b n near) (omega (arith, ints, from, n, k)) (omega (arith, ints, to, n, m))))

pub returns-clause-no : goal.returns-clause-no
returns-clause-no c = λ x is.
    let S = parts_of c.args.scale in
    let bounds = c.args.bounds in
    let breadth = c.args.motion.breadth in
    let exact = exact_shares c.args.motion c.args.seconds in
    let range = c.requires.motion.breadth in
    let limits = c.requires.bounds in
    let shares = c.shares_after-shares.result in
    let b : to_z w128 (of_z w128 c.args.motion.breadth) ≡ c.args.motion.breadth =
    omega (arith, ints, range.at_least, range.at_most) in
    let z = to_z-of_z w128 c.shares_after-shares.result (record { sfits = c.shares_after-shares.type_inv }) in
    let n = to_z-of_z w128 c.args.next c.ranges.next in
    let top : to_z w64 (of_z w64 c.args.bounds.most) ≡ c.args.bounds.most =
    omega (arith, ints, limits.from, limits.apart, limits.up_to) in
    let m : to_z w128 (of_z w128 c.in_parts-most.result) ≡ at_scale (parts_of c.args.scale) c.args.bounds.most =
    to_z-of_z w128 c.in_parts-most.result (record { sfits = c.in_parts-most.type_inv })
    ∙ (c.in_parts-most.ensures.value ∙ ap (λ (y : ℤ). at_scale (parts_of c.args.scale) y) top) in
    let r = to_z-of_z w128 c.in_shares.result (record { sfits = c.in_shares.type_inv }) in
    let most = rw (b, m) at c.in_shares.ensures.value in
    let most-at = breadth *ℤ (pos S *ℤ bounds.most) in
    let bottom : to_z w64 (of_z w64 c.args.bounds.least) ≡ c.args.bounds.least =
    omega (arith, ints, limits.from, limits.apart, limits.up_to) in
    let k : to_z w128 (of_z w128 c.in_parts-least.result) ≡ at_scale (parts_of c.args.scale) c.args.bounds.least =
    to_z-of_z w128 c.in_parts-least.result (record { sfits = c.in_parts-least.type_inv })
    ∙ (c.in_parts-least.ensures.value ∙ ap (λ (y : ℤ). at_scale (parts_of c.args.scale) y) bottom) in
    let q = to_z-of_z w128 c.in_shares-2.result (record { sfits = c.in_shares-2.type_inv }) in
    let least = rw (b, k) at c.in_shares-2.ensures.value in
    let least-at = breadth *ℤ (pos S *ℤ bounds.least) in
    let s = less_from exact shares c.in_shares.result most-at (to_z w128 (of_z w128 c.in_shares.result))
    (to_z w128 (of_z w128 c.shares_after-shares.result)) c.shares_after-shares.ensures r z most
    c.in_shares.ensures.small
    (le-no (to_z w128 (of_z w128 c.in_shares.result)) (to_z w128 (of_z w128 c.shares_after-shares.result))
    c.if-shares-in_shares.false) in
    let h = more_from exact shares c.in_shares-2.result least-at (to_z w128 (of_z w128 c.in_shares-2.result))
    (to_z w128 (of_z w128 c.shares_after-shares.result)) c.shares_after-shares.ensures q z least
    c.in_shares-2.ensures.small
    (le-no (to_z w128 (of_z w128 c.shares_after-shares.result)) (to_z w128 (of_z w128 c.in_shares-2.result))
    c.if-shares-in_shares-2.false) in
    let is-next = between S (bounds_of bounds) breadth exact x range.at_least is c.args.next s h in
    let from = lt-no (to_z w128 (of_z w128 c.args.next)) (to_z w128 (of_z w128 c.in_parts-least.result))
    c.if-next-least.false in
    let to = lt-no (to_z w128 (of_z w128 c.in_parts-most.result)) (to_z w128 (of_z w128 c.args.next))
    c.if-next-most.false in
    let lies = subst (λ (y : ℤ). LiesAs exact y) (sym z) c.shares_after-shares.ensures in
    also_false c.is_near.result
    (IsNearBy (parts_of c.args.scale) (to_z w128 (of_z w128 c.args.motion.breadth)) (to_z w128 (of_z w128 c.args.next))
    (exact_shares c.args.motion c.args.seconds))
    (IsPlaced (parts_of c.args.scale) (bounds_of c.args.bounds) (bounds_of c.args.bounds) x x c.args.next)
    (c.is_near.ensures.no exact lies)
    (λ p. near_along S breadth (to_z w128 (of_z w128 c.args.motion.breadth)) c.args.next
    (to_z w128 (of_z w128 c.args.next)) exact (sym b) (sym n)
    (near_back S (bounds_of bounds) breadth exact x range.at_least is c.args.next (is-next.0 p)))

pub returns-then-shares-in_shares-clause-small : goal.returns-then-shares-in_shares-clause-small
returns-then-shares-in_shares-clause-small c =
    let n = to_z-of_z w128 c.args.next c.ranges.next in
    let m = to_z-of_z w128 c.in_parts-most.result (record { sfits = c.in_parts-most.type_inv }) in
    also_true c.is_same.result (to_z w128 (of_z w128 c.args.next) ≡ to_z w128 (of_z w128 c.in_parts-most.result))
    (unsigned_abs c.args.next ≤ content_limit) c.is_same.ensures.yes
    (λ e. omega (arith, ints, e, n, m, c.in_parts-most.ensures.small))

pub returns-then-shares-in_shares-2-clause-small : goal.returns-then-shares-in_shares-2-clause-small
returns-then-shares-in_shares-2-clause-small c =
    let n = to_z-of_z w128 c.args.next c.ranges.next in
    let m = to_z-of_z w128 c.in_parts-least.result (record { sfits = c.in_parts-least.type_inv }) in
    also_true c.is_same-then-shares-in_shares-2.result (to_z w128 (of_z w128 c.args.next)
    ≡ to_z w128 (of_z w128 c.in_parts-least.result))
    (unsigned_abs c.args.next ≤ content_limit) c.is_same-then-shares-in_shares-2.ensures.yes
    (λ e. omega (arith, ints, e, n, m, c.in_parts-least.ensures.small))

pub returns-clause-small : goal.returns-clause-small
returns-clause-small c =
    let n = to_z-of_z w128 c.args.next c.ranges.next in
    let k = to_z-of_z w128 c.in_parts-least.result (record { sfits = c.in_parts-least.type_inv }) in
    let m = to_z-of_z w128 c.in_parts-most.result (record { sfits = c.in_parts-most.type_inv }) in
    let from = lt-no (to_z w128 (of_z w128 c.args.next)) (to_z w128 (of_z w128 c.in_parts-least.result))
    c.if-next-least.false in
    let to = lt-no (to_z w128 (of_z w128 c.in_parts-most.result)) (to_z w128 (of_z w128 c.args.next))
    c.if-next-most.false in
    on_true c.is_near.result (unsigned_abs c.args.next ≤ content_limit)
    (λ e. omega (arith, ints, from, to, n, k, m, c.in_parts-least.ensures.small, c.in_parts-most.ensures.small))
