-- One more where it is left open.
use Rattle.std.proofs.Common.{◌≡◌, ◌<◌, ℕ, Bool, List, length, map, ap, sym, ◌∙◌, arith, pos}
use Rattle.std.specs.Prelude.{Some, slice_get, slice_index_or}
use Rattle.hyd_spec.specs.ProgramTypes.{Reservoir}
use Rattle.hyd_spec_certificates.specs.Interval.{exactly}
use Rattle.hyd_spec_spread.specs.Spreads.{head_offsets}
use Rattle.hyd_spec_spread_rows.specs.TextsOfSpreads.{interval_from}
use Rattle.hyd_spec_spread_rows.specs.declared.Ends.{Ends}
use Rattle.hyd_spec_spread_reports.specs.TextsOfSpreadReports.{is_wide}
use Rattle.hyd_spread_rows.specs.SpreadsRead.{spread_of}
use Rattle.hyd_spread_run_so_far.proofs.CountsOfSpreads.{counted, passed, counted-all}
use Rattle.hyd_spread_run_so_far.proofs.left_open.heads_left.Goals.{then-is_wide, else-is_wide}
use Rattle.hyd_spread_run_so_far.proofs.left_open.heads_left.Goals as goal

pub loop-r-preserved : goal.loop-r-preserved
loop-r-preserved c =
    let left : ℕ → Reservoir → Bool = λ r reservoir. is_wide (head_offsets (spread_of c.args.rows.now) r) in
    let xs = c.args.project.now.reservoirs.list in
    let inside : c.loop-r.r < length xs = omega (arith, c.loop-r-test.true, c.len-r-end.ensures) in
    let few = c.loop-r.invariant.few in
    let is = λ (x : Reservoir) (at : slice_get xs c.loop-r.r ≡ Some x). c.is_wide.ensures (pos 0)
    ∙ ap (λ (rows : List Ends). is_wide (slice_index_or (map interval_from rows) c.loop-r.r (exactly (pos 0))))
    c.deref.ensures.value in
    elim c.if-is_wide.branch [
      | then-is_wide w ↦ (
          let more = w.count-is in record {
            counted = more ∙ counted left xs c.loop-r.r c.loop-r.count inside
                (λ x at. sym (is x at) ∙ w.if-is_wide.true) c.loop-r.invariant.counted;
            few = omega (arith, more, few);
          }
          )
      | else-is_wide w ↦ (
          let same = w.count-is in record {
            counted = same ∙ passed left xs c.loop-r.r c.loop-r.count inside
                (λ x at. sym (is x at) ∙ w.if-is_wide.false) c.loop-r.invariant.counted;
            few = omega (arith, same, few);
          }
          )
    ]

pub returns : goal.returns
returns c =
    let left : ℕ → Reservoir → Bool = λ r reservoir. is_wide (head_offsets (spread_of c.args.rows.now) r) in
    let xs = c.args.project.now.reservoirs.list in
    counted-all left xs c.loop-r.r c.loop-r.count
    (omega (arith, c.loop-r-test.false, c.len-r-end.ensures)) c.loop-r.invariant.counted
