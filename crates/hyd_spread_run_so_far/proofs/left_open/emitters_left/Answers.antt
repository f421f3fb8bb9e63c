-- One more where it is left open.
use Rattle.std.proofs.Common.{◌<◌, ℕ, Bool, length, sym, ◌∙◌, arith, ◌&&◌}
use Rattle.std.specs.Prelude.{is_some}
use Rattle.hyd_spec.specs.ProgramTypes.{Junction}
use Rattle.hyd_spec_spread.specs.Spreads.{emitter_factors}
use Rattle.hyd_spec_spread_reports.specs.TextsOfSpreadReports.{are_several}
use Rattle.hyd_spread_rows.specs.SpreadsRead.{spread_of}
use Rattle.hyd_spread_run_so_far.proofs.CountsOfSpreads.{counted, passed, counted-all}
use Rattle.hyd_spread_run_so_far.proofs.left_open.emitters_left.Goals.{then-is_emitter_left, else-is_emitter_left}
use Rattle.hyd_spread_run_so_far.proofs.left_open.emitters_left.Goals as goal

pub loop-j-preserved : goal.loop-j-preserved
loop-j-preserved c =
    let left : ℕ → Junction → Bool = λ j junction. is_some junction.emitter
    && are_several (emitter_factors (spread_of c.args.rows.now) j) in
    let xs = c.args.project.now.junctions.list in
    let inside : c.loop-j.j < length xs = omega (arith, c.loop-j-test.true, c.len-j-end.ensures) in
    let few = c.loop-j.invariant.few in
    let is = c.is_emitter_left.ensures in
    elim c.if-is_emitter_left.branch [
      | then-is_emitter_left w ↦ (
          let more = w.count-is in record {
            counted = more ∙ counted left xs c.loop-j.j c.loop-j.count inside
                (λ x at. sym (is x at) ∙ w.if-is_emitter_left.true) c.loop-j.invariant.counted;
            few = omega (arith, more, few);
          }
          )
      | else-is_emitter_left w ↦ (
          let same = w.count-is in record {
            counted = same ∙ passed left xs c.loop-j.j c.loop-j.count inside
                (λ x at. sym (is x at) ∙ w.if-is_emitter_left.false) c.loop-j.invariant.counted;
            few = omega (arith, same, few);
          }
          )
    ]

pub returns : goal.returns
returns c =
    let left : ℕ → Junction → Bool = λ j junction. is_some junction.emitter
    && are_several (emitter_factors (spread_of c.args.rows.now) j) in
    let xs = c.args.project.now.junctions.list in
    counted-all left xs c.loop-j.j c.loop-j.count
    (omega (arith, c.loop-j-test.false, c.len-j-end.ensures)) c.loop-j.invariant.counted
