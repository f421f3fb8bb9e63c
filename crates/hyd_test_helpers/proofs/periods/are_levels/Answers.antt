use Rattle.std.proofs.Common.{ℕ, ◌<◌, pos, List, length, inl, inr, slice_index_or, sym, subst, ap, ◌∙◌, arith}
use Rattle.std.proofs.lemmas.Bool.{cases_eq}
use Rattle.hyd_spec.specs.ProgramTypes.{Tank}
use Rattle.hyd_spec_certificates.specs.declared.LevelSpan.{LevelSpan}
use Rattle.hyd_period_network.specs.NetsSetToPeriods.{IsSpanOf}
use Rattle.hyd_lemmas.proofs.ListsOptionsAndResults.{any_default}
use Rattle.hyd_test_helpers.proofs.periods.are_levels.Goals as goal

pub loop-k-preserved : goal.loop-k-preserved
loop-k-preserved c n tank span lt =
    let tanks = c.as_slice-tanks.result.now in
    let levels = c.args.levels.now in
    let k = c.loop-k.k in
    let same = c.if-levels-tanks.false in
    let here : k < length tanks = c.loop-k-test.true in
    let there : k < length levels = omega (arith, same, here) in
    let nothing : LevelSpan = record { lo = pos 0; hi = pos 0 } in
    elim (cases_eq n k) as (λ _. IsSpanOf (slice_index_or tanks n tank) (slice_index_or levels n span)) [
      | inl e ↦ subst (λ (m : ℕ). IsSpanOf (slice_index_or tanks m tank) (slice_index_or levels m span)) (sym e)
          (subst (λ (t : Tank). IsSpanOf t (slice_index_or levels k span))
          (c.index-tanks-k.is ∙ any_default tanks k c.index-tanks-k.result tank here)
          (subst (λ (s : LevelSpan). IsSpanOf c.index-tanks-k.result s) (any_default levels k nothing span there)
          (c.is_span.ensures c.if-not-is_span.false)))
      | inr ne ↦ c.loop-k.invariant n tank span (omega (arith, lt, ne))
    ]

pub returns : goal.returns
returns c holds =
    let n = ap length c.as_slice-tanks.ensures in
    let same = c.if-levels-tanks.false in
    record {
      each = omega (arith, n, same);
      spans = λ k tank span lt. subst (λ (ts : List Tank). IsSpanOf (slice_index_or ts k tank)
          (slice_index_or c.args.levels.now k span)) c.as_slice-tanks.ensures
          (c.loop-k.invariant k tank span (omega (arith, lt, same, c.loop-k-test.false)));
    }
