-- One more where it is left open.
use Rattle.std.proofs.Common.{◌≡◌, ◌<◌, ℕ, Bool, List, length, map, ap, sym, ◌∙◌, arith}
use Rattle.std.specs.Prelude.{Some, slice_get, slice_index_or}
use Rattle.hyd_spec.specs.ProgramTypes.{Tank}
use Rattle.hyd_spec_certificates.specs.Interval.{exactly}
use Rattle.hyd_spec_spread.specs.Spreads.{level_interval}
use Rattle.hyd_spec_spread_rows.specs.TextsOfSpreads.{interval_from}
use Rattle.hyd_spec_spread_rows.specs.declared.Ends.{Ends}
use Rattle.hyd_spec_spread_reports.specs.TextsOfSpreadReports.{is_wide}
use Rattle.hyd_spread_rows.specs.SpreadsRead.{spread_of}
use Rattle.hyd_spread_run_so_far.proofs.CountsOfSpreads.{counted, passed, counted-all}
use Rattle.hyd_spread_run_so_far.proofs.left_open.levels_left.Goals.{then-is_wide, else-is_wide}
use Rattle.hyd_spread_run_so_far.proofs.left_open.levels_left.Goals as goal

pub loop-k-preserved : goal.loop-k-preserved
loop-k-preserved c =
    let left : ℕ → Tank → Bool = λ k tank. is_wide (level_interval (spread_of c.args.rows.now) k tank) in
    let xs = c.args.project.now.tanks.list in
    let inside : c.loop-k.k < length xs = omega (arith, c.loop-k-test.true, c.len-k-end.ensures) in
    let few = c.loop-k.invariant.few in
    let is = λ (x : Tank) (at : slice_get xs c.loop-k.k ≡ Some x). c.is_wide.ensures x.initial
    ∙ ap (λ (rows : List Ends). is_wide (slice_index_or (map interval_from rows) c.loop-k.k (exactly x.initial)))
    c.deref.ensures.value in
    elim c.if-is_wide.branch [
      | then-is_wide w ↦ (
          let more = w.count-is in record {
            counted = more ∙ counted left xs c.loop-k.k c.loop-k.count inside
                (λ x at. sym (is x at) ∙ w.if-is_wide.true) c.loop-k.invariant.counted;
            few = omega (arith, more, few);
          }
          )
      | else-is_wide w ↦ (
          let same = w.count-is in record {
            counted = same ∙ passed left xs c.loop-k.k c.loop-k.count inside
                (λ x at. sym (is x at) ∙ w.if-is_wide.false) c.loop-k.invariant.counted;
            few = omega (arith, same, few);
          }
          )
    ]

pub returns : goal.returns
returns c =
    let left : ℕ → Tank → Bool = λ k tank. is_wide (level_interval (spread_of c.args.rows.now) k tank) in
    let xs = c.args.project.now.tanks.list in
    counted-all left xs c.loop-k.k c.loop-k.count
    (omega (arith, c.loop-k-test.false, c.len-k-end.ensures)) c.loop-k.invariant.counted
