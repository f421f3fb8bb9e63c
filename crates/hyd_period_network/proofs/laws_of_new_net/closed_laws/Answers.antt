use Rattle.std.proofs.Common.{List, [], ◌∷◌, length, map, subst, ap, ℕ, arith}
use Rattle.std.proofs.lemmas.List.{length-append}
use Rattle.hyd_spec.specs.NodeNumbers.{nodes_before_tanks}
use Rattle.hyd_spec.specs.ProgramTypes.{Link}
use Rattle.hyd_period_network.specs.BothLaws.{IsFree, AreFree}
use Rattle.hyd_period_network.specs.LawsInSettings.{AreClosed, AreBothClosed}
use Rattle.hyd_period_network.specs.NetsSetToPeriods.{ends_of}
use Rattle.hyd_period_network.specs.declared.both_laws.BothLaws.{BothLaws}
use Rattle.hyd_period_network.proofs.ClosedLaws.{with_more}
use Rattle.hyd_period_network.proofs.LawsOfBoth.{free_by_ends}
use Rattle.hyd_period_network.proofs.laws_of_new_net.closed_laws.Goals as goal

pub loop-link-preserved : goal.loop-link-preserved
loop-link-preserved c =
    let added = ap length c.in_ok-push.ensures.items in
    let one = length-append c.loop-link.laws.items (c.in_ok-closed_both.field-0 ∷ []) in
    let before = nodes_before_tanks c.args.project.now in
    record {
      count = omega (arith, added, one, c.loop-link.invariant.count);
      closed = with_more (λ (l : Link) (b : BothLaws). AreBothClosed c.args.project.now.bends.list l.kind b)
          c.as_slice-links.result.now c.loop-link.laws.items
          c.push.new.self.items c.loop-link.link-index c.link-item.result c.in_ok-closed_both.field-0
          c.in_ok-push.ensures.items c.loop-link.invariant.count c.loop-link.invariant.closed (omega arith)
          (subst (λ (l : Link). AreBothClosed c.args.project.now.bends.list l.kind c.in_ok-closed_both.field-0)
          c.link-item.is c.in_ok-closed_both.ensures.closed);
      free = with_more (λ (l : Link) (b : BothLaws). IsFree before l.from l.to b)
          c.as_slice-links.result.now c.loop-link.laws.items
          c.push.new.self.items c.loop-link.link-index c.link-item.result c.in_ok-closed_both.field-0
          c.in_ok-push.ensures.items c.loop-link.invariant.count c.loop-link.invariant.free (omega arith)
          (subst (λ (l : Link). IsFree before l.from l.to c.in_ok-closed_both.field-0)
          c.link-item.is c.in_ok-closed_both.ensures.free);
    }

pub returns-clause-closed : goal.returns-clause-closed
returns-clause-closed c =
    subst (λ (ls : List Link). AreClosed c.args.project.now ls c.loop-link.laws.items) c.as_slice-links.ensures
    (λ (k : ℕ) (link : Link) (b : BothLaws) within. c.loop-link.invariant.closed k link b (omega (arith, within)))

pub returns-clause-free : goal.returns-clause-free
returns-clause-free c =
    subst (λ (ls : List Link). AreFree (nodes_before_tanks c.args.project.now) (map ends_of ls)
    c.loop-link.laws.items) c.as_slice-links.ensures
    (free_by_ends (nodes_before_tanks c.args.project.now) c.as_slice-links.result.now c.loop-link.laws.items
    (λ (k : ℕ) (link : Link) (b : BothLaws) within. c.loop-link.invariant.free k link b (omega (arith, within))))
