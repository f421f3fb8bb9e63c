use Rattle.std.proofs.Common.{◌≡◌, ◌≤◌, ◌+◌, ℕ, ℤ, pos, ◌+ℤ◌, ◌*ℤ◌, ◌≤ℤ◌, map, ap, arith, to_z, of_z, w64}
use Rattle.std.specs.Prelude.{slice_index_or}
use Rattle.std.proofs.lemmas.Int.{ints}
use Rattle.std.proofs.lemmas.List.{length-map}
use Rattle.hyd_spec_certificates.specs.SpansAsIntervals.{levels_of}
use Rattle.hyd_spec_certificates.specs.Interval.{width as width_of}
use Rattle.hyd_spec_certificates.specs.Decided.{nowhere}
use Rattle.hyd_sim.proofs.IntervalWidths.{each-within, not-each, one-more}
use Rattle.hyd_open_sim_start.proofs.narrow_vectors.are_steady.Goals as goal

pub returns-then-now-most-clause-grown : goal.returns-then-now-most-clause-grown
returns-then-now-most-clause-grown c = λ e.
    let i : ℕ = c.loop-tank.tank in
    let long = length-map c.args.after.now levels_of in
    let test = c.loop-tank-test.true in
    let over = c.if-now-most.true in
    let now = ap (λ (z : ℤ). pos 100 *ℤ z) c.width_at-now.ensures.width in
    let before = ap (λ (z : ℤ). pos 200 *ℤ z) c.width_at.ensures.width in
    let from = c.from.ensures in
    not-each (λ k level. (pos 100 *ℤ width_of level)
    ≤ℤ ((pos 200 *ℤ width_of (slice_index_or (map levels_of c.args.before.now) k nowhere)) +ℤ c.args.width))
    (map levels_of c.args.after.now) i (omega (arith, long, test))
    (λ le. omega (arith, ints, over, now, before, from, le))

pub loop-tank-preserved : goal.loop-tank-preserved
loop-tank-preserved c =
    let under = c.if-now-most.false in
    let now = ap (λ (z : ℤ). pos 100 *ℤ z) c.width_at-now.ensures.width in
    let before = ap (λ (z : ℤ). pos 200 *ℤ z) c.width_at.ensures.width in
    let from = c.from.ensures in
    one-more (λ k. (pos 100 *ℤ width_of (slice_index_or (map levels_of c.args.after.now) k nowhere))
    ≤ℤ ((pos 200 *ℤ width_of (slice_index_or (map levels_of c.args.before.now) k nowhere))
    +ℤ to_z w64 (of_z w64 c.args.width)))
    c.loop-tank.tank (omega (arith, ints, under, now, before, from)) c.loop-tank.invariant

pub returns-clause-steady : goal.returns-clause-steady
returns-clause-steady c = λ e.
    let long = length-map c.args.after.now levels_of in
    let test = c.loop-tank-test.false in
    let width : to_z w64 (of_z w64 c.args.width) ≡ c.args.width = omega (arith, ints) in
    each-within (λ k level. (pos 100 *ℤ width_of level)
    ≤ℤ ((pos 200 *ℤ width_of (slice_index_or (map levels_of c.args.before.now) k nowhere)) +ℤ c.args.width))
    (map levels_of c.args.after.now) c.loop-tank.tank (omega (arith, long, test))
    (λ k less. (let at = c.loop-tank.invariant k less in omega (arith, ints, at, width)))
