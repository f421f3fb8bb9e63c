use Rattle.std.proofs.Common.{◌≡◌, ◌≤◌, List, length, map, take}
use Rattle.std.specs.Prelude.{Ok}
use Rattle.std.specs.List.{AllZip}
use Rattle.hyd_spec.specs.Lists.{joined}
use Rattle.hyd_io.specs.TextPutIn.{Puts}
use Rattle.hyd_spec_targets_within.specs.PromisesWithinSpreads.{ClosureWithin, IsClosureWithin, closure_text}
use Rattle.hyd_targets.specs.ClosuresPutOut.{pipes_among}
use Rattle.hyd_spread_targets.specs.InquiriesWithin.{IsOpenWithin, spread_for, target_within}
use Rattle.hyd_spread_targets.proofs.closures_within.put_closures_within.Given as goal

-- the closures of the pipes so far were put
abbrev pub invariant-loop-link : goal.invariant-loop-link
invariant-loop-link g l = record {
  so_far : (closures : List ClosureWithin) × (AllZip (IsClosureWithin l.project (spread_for l.fn.inquiry)
      (target_within l.project l.fn.inquiry) l.fn.rounds) (pipes_among (take l.link l.links)) closures
      × ((l.count ≡ length closures) × Puts g.D.Desk.files g.D.Desk.rest g.D.Desk.written g.D.Desk.printed
      g.D.Desk.target g.D.Desk.ready g.D.Desk.counts g.D.Desk.openings
      (joined (map (closure_text l.project) closures)) (Ok tt) l.fn.pen l.pen l.fn.desk l.desk));
  open_still : IsOpenWithin l.project l.inquiry;
  spread : spread_for l.inquiry ≡ spread_for l.fn.inquiry;
  pressure : l.inquiry.pressure ≡ l.fn.inquiry.pressure;
  most : l.count ≤ l.link;
}
