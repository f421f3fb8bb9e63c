use Rattle.std.proofs.Common.{◌≡◌, ℕ, ◌<◌, length, slice_index_or}
use Rattle.hyd_spec.specs.NodeNumbers.{nodes_before_tanks}
use Rattle.hyd_spec.specs.ProgramTypes.{Link}
use Rattle.hyd_period_network.specs.BothLaws.{IsFree}
use Rattle.hyd_period_network.specs.LawsInSettings.{AreBothClosed}
use Rattle.hyd_period_network.specs.declared.both_laws.BothLaws.{BothLaws}
use Rattle.hyd_period_network.proofs.laws_of_new_net.closed_laws.Given as goal

abbrev pub invariant-loop-link : goal.invariant-loop-link
invariant-loop-link l = record {
  count : length l.laws.items ≡ l.link-index;
  closed : (k : ℕ) (link : Link) (both : BothLaws) → k < l.link-index
      → AreBothClosed l.project.bends.list (slice_index_or l.links k link).kind (slice_index_or l.laws.items k both);
  free : (k : ℕ) (link : Link) (both : BothLaws) → k < l.link-index
      → IsFree (nodes_before_tanks l.project) (slice_index_or l.links k link).from (slice_index_or l.links k link).to
      (slice_index_or l.laws.items k both);
}
