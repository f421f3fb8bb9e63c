use Rattle.std.proofs.Common.{◌≡◌, ◌<◌, List, [], ◌∷◌, ◌++◌, length, sym, ap, subst, ◌∙◌, arith, to_z, of_z, w64}
use Rattle.std.specs.Prelude.{slice_index_or}
use Rattle.std.proofs.lemmas.List.{length-append}
use Rattle.hyd_net.specs.NetworkRanges.{IsTank}
use Rattle.hyd_spec.specs.ProgramTypes.{Tank}
use Rattle.hyd_spec_certificates.specs.declared.LevelSpan.{LevelSpan}
use Rattle.hyd_period_network.specs.NetsSetToPeriods.{IsSpanOf}
use Rattle.hyd_course.proofs.SpansOfTanks.{span_of, span_more}
use Rattle.hyd_course.proofs.set_net.all_levels.Goals as goal

pub loop-tank-preserved : goal.loop-tank-preserved
loop-tank-preserved c =
    let project = c.args.project.now in
    let tanks = c.as_slice-tanks.result.now in
    let here = c.tank-item.result in
    let i = c.loop-tank.tank-index in
    let span : LevelSpan =
    record { lo = to_z w64 (of_z w64 here.minimum); hi = to_z w64 (of_z w64 here.maximum) } in
    let pushed : c.push.new.self.items ≡ c.loop-tank.levels.items ++ (span ∷ []) = c.in_ok-push.ensures.items in
    let long = c.loop-tank.invariant.each in
    let within : i < length tanks = omega arith in
    let inside : i < length project.tanks.list = (let e = ap length c.as_slice-tanks.ensures in
    omega (arith, within, e)) in
    let same = c.tank-item.is
    ∙ ap (λ (ts : List Tank). slice_index_or ts i here) c.as_slice-tanks.ensures in
    let is = subst (IsTank project.shapes.list) (sym same) (c.requires.quantities.tanks i here inside) in
    record {
      each = (let added = ap length pushed in
          let one = length-append c.loop-tank.levels.items (span ∷ []) in
          omega (arith, added, one, long));
      spans = span_more tanks c.loop-tank.levels.items c.push.new.self.items i here span pushed long within
          c.tank-item.is (span_of project.shapes.list here is) c.loop-tank.invariant.spans;
    }

pub returns : goal.returns
returns c =
    let tanks = c.as_slice-tanks.result.now in
    let each = c.loop-tank.invariant.each in
    let long : length c.loop-tank.levels.items ≡ length tanks = omega arith in
    record {
      each = long ∙ ap length c.as_slice-tanks.ensures;
      spans = λ k tank span lt.
          subst (λ (ts : List Tank). IsSpanOf (slice_index_or ts k tank)
          (slice_index_or c.loop-tank.levels.items k span))
          c.as_slice-tanks.ensures (c.loop-tank.invariant.spans k tank span (omega (arith, lt, each)));
    }
