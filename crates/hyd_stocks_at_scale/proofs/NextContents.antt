-- Which contents a next period may begin with, by the exact content in shares.
use Rattle.std.proofs.Common.{◌≡◌, ℕ, ◌↔◌, ℤ, pos, ◌+ℤ◌, ◌-ℤ◌, ◌*ℤ◌, ◌≤ℤ◌, ◌<ℤ◌, Bool, false, sym, subst}
use Rattle.std.proofs.Common.{arith, ◌≤◌, unsigned_abs}
use Rattle.std.specs.Prelude.{MatchBool}
use Rattle.std.proofs.Math.IntN.{*ℤ_comm}
use Rattle.std.proofs.lemmas.Int.{ints, by_lt_z}
use Rattle.std.proofs.lemmas.Bool.{MatchBool-at_true, MatchBool-at_false}
use Rattle.hyd_num.proofs.Integers.{times_plus, times_minus}
use Rattle.hyd_num.specs.Rational.{Rational, is_at_most, whole}
use Rattle.hyd_spec.specs.Scale.{at_scale, missed_stock_ticks}
use Rattle.hyd_spec.specs.Tank.{Bounds, IsPlaced, IsNear, is_at_minimum}
use Rattle.hyd_lemmas.proofs.BooleanTests.{le-not}
use Rattle.hyd_theorems_on_definitions.proofs.ValuesByContent.{above-from, below-from}
use Rattle.hyd_stocks_at_scale.specs.Motions.{IsInShares, LiesAs, share_limit}
use Rattle.hyd_stocks_at_scale.specs.Contents.{IsNearBy}
use Rattle.hyd_stocks_at_scale.proofs.ContentsInShares.{from_shares, to_shares, up_to_shares, below_shares}

above-not : (S : ℕ) (t : ℤ) (x : Rational) → x.num <ℤ (pos x.den *ℤ (pos S *ℤ t))
    → is_at_most (whole (at_scale S t)) x ≡ false
above-not S t x h = le-not ((pos S *ℤ t) *ℤ pos x.den) (x.num *ℤ pos 1)
    (omega (arith, ints, h, *ℤ_comm (pos S *ℤ t) (pos x.den)))

below-not : (S : ℕ) (t : ℤ) (x : Rational) → (pos x.den *ℤ (pos S *ℤ t)) <ℤ x.num
    → is_at_most x (whole (at_scale S t)) ≡ false
below-not S t x h = le-not (x.num *ℤ pos 1) ((pos S *ℤ t) *ℤ pos x.den)
    (omega (arith, ints, h, *ℤ_comm (pos S *ℤ t) (pos x.den)))

-- ---- what may go with a content, by its three cases

module _ (S : ℕ) (contents range : Bounds) (x inside : Rational) (next : ℤ) where
  Below : Type 0
  Below = MatchBool (is_at_minimum S contents x) (next ≡ at_scale S range.least) (IsNear S range inside next)

  pub placed_full : (pos x.den *ℤ (pos S *ℤ contents.most)) ≤ℤ x.num → IsPlaced S contents range x inside next ↔
      (next ≡ at_scale S range.most)
  placed_full h =
      let e = above-from S contents.most x h in (
        (λ p. MatchBool-at_true _ _ e p),
        (λ p. subst (λ (b : Bool). MatchBool b (next ≡ at_scale S range.most)
            (MatchBool (is_at_minimum S contents x) (next ≡ at_scale S range.least) (IsNear S range inside next)))
            (sym e) p),
      )

  pub placed_empty : x.num <ℤ (pos x.den *ℤ (pos S *ℤ contents.most))
      → x.num ≤ℤ (pos x.den *ℤ (pos S *ℤ contents.least)) → IsPlaced S contents range x inside next ↔
      (next ≡ at_scale S range.least)
  placed_empty s h =
      let e = above-not S contents.most x s in
      let f = below-from S contents.least x h in (
        (λ p. MatchBool-at_true _ _ f (MatchBool-at_false _ _ e p)),
        (λ p. subst (λ (b : Bool). MatchBool b (next ≡ at_scale S range.most)
            (MatchBool (is_at_minimum S contents x) (next ≡ at_scale S range.least) (IsNear S range inside next)))
            (sym e)
            (subst (λ (b : Bool). MatchBool b (next ≡ at_scale S range.least) (IsNear S range inside next)) (sym f)
            p)),
      )

  pub placed_near : x.num <ℤ (pos x.den *ℤ (pos S *ℤ contents.most))
      → (pos x.den *ℤ (pos S *ℤ contents.least)) <ℤ x.num → IsPlaced S contents range x inside next ↔
      IsNear S range inside next
  placed_near s h =
      let e = above-not S contents.most x s in
      let f = below-not S contents.least x h in (
        (λ p. MatchBool-at_false _ _ f (MatchBool-at_false _ _ e p)),
        (λ p. subst (λ (b : Bool). MatchBool b (next ≡ at_scale S range.most)
            (MatchBool (is_at_minimum S contents x) (next ≡ at_scale S range.least) (IsNear S range inside next)))
            (sym e)
            (subst (λ (b : Bool). MatchBool b (next ≡ at_scale S range.least) (IsNear S range inside next)) (sym f)
            p)),
      )

-- ---- the same by shares

module _ (S : ℕ) (bounds : Bounds) (breadth shares : ℤ) (x : Rational) (broad : pos 1 ≤ℤ breadth)
    (is : IsInShares breadth shares x) (next : ℤ) where
  pub below_too : (y : ℤ) → shares <ℤ (breadth *ℤ y) → x.num <ℤ (pos x.den *ℤ y)
  below_too y h = by_lt_z x.num (pos x.den *ℤ y) (λ lt. lt)
      (λ ge. absurd (let a = to_shares breadth shares x broad is y ge in omega (arith, ints, a, h)))

  pub above_too : (y : ℤ) → (breadth *ℤ y) <ℤ shares → (pos x.den *ℤ y) <ℤ x.num
  above_too y h = by_lt_z (pos x.den *ℤ y) x.num (λ lt. lt)
      (λ ge. absurd (let a = below_shares breadth shares x broad is y ge in omega (arith, ints, a, h)))

  pub full : (breadth *ℤ (pos S *ℤ bounds.most)) ≤ℤ shares → IsPlaced S bounds bounds x x next ↔
      (next ≡ at_scale S bounds.most)
  full h = placed_full S bounds bounds x x next (from_shares breadth shares x broad is (pos S *ℤ bounds.most) h)

  pub empty : shares <ℤ (breadth *ℤ (pos S *ℤ bounds.most)) → shares ≤ℤ (breadth *ℤ (pos S *ℤ bounds.least))
      → IsPlaced S bounds bounds x x next ↔ (next ≡ at_scale S bounds.least)
  empty s h = placed_empty S bounds bounds x x next (below_too (pos S *ℤ bounds.most) s)
      (up_to_shares breadth shares x broad is (pos S *ℤ bounds.least) h)

  pub near_is : IsNearBy S breadth next shares → at_scale S bounds.least ≤ℤ next → next ≤ℤ at_scale S bounds.most
      → IsNear S bounds x next
  near_is near low high =
      let m = pos S *ℤ pos missed_stock_ticks in
      let a = up_to_shares breadth shares x broad is (next +ℤ m) near.above in
      let b = from_shares breadth shares x broad is (next -ℤ m) near.below in
      record {
        near_below = omega (arith, ints, a, times_plus x.den next m);
        near_above = omega (arith, ints, b, times_minus x.den next m);
        above_least = low;
        below_most = high;
      }

  pub near_back : IsNear S bounds x next → IsNearBy S breadth next shares
  near_back near =
      let m = pos S *ℤ pos missed_stock_ticks in
      let a = near.near_below in
      let b = near.near_above in
      record {
        below = to_shares breadth shares x broad is (next -ℤ m) (omega (arith, ints, b, times_minus x.den next m));
        above = below_shares breadth shares x broad is (next +ℤ m) (omega (arith, ints, a, times_plus x.den next m));
      }

  pub between : shares <ℤ (breadth *ℤ (pos S *ℤ bounds.most)) → (breadth *ℤ (pos S *ℤ bounds.least)) <ℤ shares
      → IsPlaced S bounds bounds x x next ↔ IsNear S bounds x next
  between s h = placed_near S bounds bounds x x next (below_too (pos S *ℤ bounds.most) s)
      (above_too (pos S *ℤ bounds.least) h)

-- ---- by a number that lies on the same sides as the exact one

module _ (exact z r y rr zz : ℤ) (lies : LiesAs exact z) (r-is : rr ≡ r) (z-is : zz ≡ z) (is : r ≡ y)
    (small : unsigned_abs r ≤ share_limit) where
  pub at_least_from : rr ≤ℤ zz → y ≤ℤ exact
  at_least_from h =
      let a = (lies.at_least r (omega (arith, small))).0 (omega (arith, ints, h, r-is, z-is)) in
      omega (arith, ints, a, is)

  pub at_most_from : zz ≤ℤ rr → exact ≤ℤ y
  at_most_from h =
      let a = (lies.at_most r (omega (arith, small))).0 (omega (arith, ints, h, r-is, z-is)) in
      omega (arith, ints, a, is)

  pub at_least_back : y ≤ℤ exact → rr ≤ℤ zz
  at_least_back h =
      let a = (lies.at_least r (omega (arith, small))).1 (omega (arith, ints, h, is)) in
      omega (arith, ints, a, r-is, z-is)

  pub at_most_back : exact ≤ℤ y → zz ≤ℤ rr
  at_most_back h =
      let a = (lies.at_most r (omega (arith, small))).1 (omega (arith, ints, h, is)) in
      omega (arith, ints, a, r-is, z-is)

  pub less_from : zz <ℤ rr → exact <ℤ y
  less_from h = by_lt_z exact y (λ lt. lt) (λ ge. absurd (let a = at_least_back ge in omega (arith, ints, a, h)))

  pub more_from : rr <ℤ zz → y <ℤ exact
  more_from h = by_lt_z y exact (λ lt. lt) (λ ge. absurd (let a = at_most_back ge in omega (arith, ints, a, h)))

-- near the same by equal numbers
pub near_along : (S : ℕ) (bb b nn n exact : ℤ) → bb ≡ b → nn ≡ n → IsNearBy S bb nn exact → IsNearBy S b n exact
near_along S bb b nn n exact e f near =
    subst (λ (z : ℤ). IsNearBy S b z exact) f (subst (λ (z : ℤ). IsNearBy S z nn exact) e near)
