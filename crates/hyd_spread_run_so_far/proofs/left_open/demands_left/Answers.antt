-- One more where it is left open.
use Rattle.std.proofs.Common.{◌≡◌, ◌<◌, ℕ, Bool, List, length, map, ap, sym, ◌∙◌, arith}
use Rattle.std.specs.Prelude.{Some, slice_get, slice_index_or}
use Rattle.hyd_spec.specs.ProgramTypes.{Junction}
use Rattle.hyd_spec_spread.specs.Spreads.{one_alone, demand_factors}
use Rattle.hyd_spec_spread_rows.specs.TextsOfSpreads.{factors_from}
use Rattle.hyd_spec_spread_rows.specs.declared.Ends.{Ends}
use Rattle.hyd_spec_spread_reports.specs.TextsOfSpreadReports.{are_several}
use Rattle.hyd_spread_rows.specs.SpreadsRead.{spread_of}
use Rattle.hyd_spread_run_so_far.proofs.CountsOfSpreads.{counted, passed, counted-all}
use Rattle.hyd_spread_run_so_far.proofs.left_open.demands_left.Goals.{then-are_several, else-are_several}
use Rattle.hyd_spread_run_so_far.proofs.left_open.demands_left.Goals as goal

pub loop-j-preserved : goal.loop-j-preserved
loop-j-preserved c =
    let left : ℕ → Junction → Bool = λ j junction. are_several (demand_factors (spread_of c.args.rows.now) j) in
    let xs = c.args.project.now.junctions.list in
    let inside : c.loop-j.j < length xs = omega (arith, c.loop-j-test.true, c.len-j-end.ensures) in
    let few = c.loop-j.invariant.few in
    let is = λ (x : Junction) (at : slice_get xs c.loop-j.j ≡ Some x). c.are_several.ensures
    ∙ ap (λ (rows : List Ends). are_several (slice_index_or (map factors_from rows) c.loop-j.j one_alone))
    c.deref.ensures.value in
    elim c.if-are_several.branch [
      | then-are_several w ↦ (
          let more = w.count-is in record {
            counted = more ∙ counted left xs c.loop-j.j c.loop-j.count inside
                (λ x at. sym (is x at) ∙ w.if-are_several.true) c.loop-j.invariant.counted;
            few = omega (arith, more, few);
          }
          )
      | else-are_several w ↦ (
          let same = w.count-is in record {
            counted = same ∙ passed left xs c.loop-j.j c.loop-j.count inside
                (λ x at. sym (is x at) ∙ w.if-are_several.false) c.loop-j.invariant.counted;
            few = omega (arith, same, few);
          }
          )
    ]

pub returns : goal.returns
returns c =
    let left : ℕ → Junction → Bool = λ j junction. are_several (demand_factors (spread_of c.args.rows.now) j) in
    let xs = c.args.project.now.junctions.list in
    counted-all left xs c.loop-j.j c.loop-j.count
    (omega (arith, c.loop-j-test.false, c.len-j-end.ensures)) c.loop-j.invariant.counted
