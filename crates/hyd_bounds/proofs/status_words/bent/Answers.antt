use Rattle.std.proofs.Common.{◌≡◌, ◌∙◌, ap, ap₂, w64, to_z, of_z, arith, ℤ, false}
use Rattle.std.specs.Int.{w128}
use Rattle.std.proofs.lemmas.Int.{ints}
use Rattle.hyd_num.specs.Rational.{ceiling}
use Rattle.hyd_net.specs.Curves.{value_at}
use Rattle.hyd_spec_certificates.specs.StatusesOfLinks.{by_drive}
use Rattle.hyd_law.specs.KnotsOfStraightLines.{places}
use Rattle.hyd_period_network.specs.ExactLaw.{is_nothing}
use Rattle.hyd_bounds.proofs.StatusWordByOwnLaw.{curve-word, some-most, some-least}
use Rattle.hyd_bounds.proofs.status_words.bent.Goals as goal
use Rattle.hyd_bounds.proofs.status_words.bent.Goals.{else-held-eq0-via-then-held-eq0+else-held-eq0-2}
use Rattle.hyd_bounds.proofs.status_words.bent.Goals.{else-held-eq0-via-else-held-eq0}

-- the curve passes something
passes : (c : goal.After-by_drive) → is_nothing c.args.held.now.least c.args.held.now.most ≡ false
passes c = elim c.else-held-eq0.branch [
  | else-held-eq0-via-then-held-eq0+else-held-eq0-2 w ↦ some-most c.args.held.now.least c.args.held.now.most
      (λ e. w.if-held-eq0-2.false (ap (of_z w64) e))
  | else-held-eq0-via-else-held-eq0 w ↦ some-least c.args.held.now.least c.args.held.now.most
      (λ e. w.if-held-eq0.false (ap (of_z w64) e))
]

pub returns : goal.returns
returns c =
    let knots = places c.args.held.now.inner.knots.list in
    let least = c.high.ensures.value ∙ ap (λ (x : ℤ). ceiling (value_at 1 knots x))
    (let kept : to_z w64 (of_z w64 c.args.least) ≡ c.args.least = omega (arith, ints) in kept) in
    let greatest = c.high-2.ensures.value ∙ ap (λ (x : ℤ). ceiling (value_at 1 knots x))
    (let kept : to_z w64 (of_z w64 c.args.greatest) ≡ c.args.greatest = omega (arith, ints) in kept) in
    let least_small = c.high.ensures.small in
    let greatest_small = c.high-2.ensures.small in
    let a : to_z w128 (of_z w128 c.high.result) ≡ ceiling (value_at 1 knots c.args.least) =
    omega (arith, ints, least, least_small) in
    let b : to_z w128 (of_z w128 c.high-2.result) ≡ ceiling (value_at 1 knots c.args.greatest) =
    omega (arith, ints, greatest, greatest_small) in
    rw (passes c) (c.by_drive.ensures ∙ (ap₂ (λ (x y : ℤ). by_drive (record {
      lo = x;
      hi = y;
    })) a b ∙ curve-word knots c.args.least c.args.greatest))
