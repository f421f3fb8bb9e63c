use Rattle.std.proofs.Common.{◌≡◌, ◌++◌, ℕ, length, take, drop, ◌∙◌}
use Rattle.hyd_period_network.proofs.OverwrittenLists.{refilled}
use Rattle.hyd_period_length.specs.Endings.{ForPeriod}
use Rattle.hyd_period_end.specs.EndOfPeriod.{Decides}
use Rattle.hyd_period_end.proofs.EndedPeriods.{if-ok, read-at}
use Rattle.hyd_period_end.proofs.end_and_what_follows.decide_end.Goals as goal

pub returns-clause-decides : goal.returns-clause-decides
returns-clause-decides c =
    let facts = c.args.facts.now in
    let links : take c.copy_from_slice.new.self.len (c.decide.new.links
    ++ drop (length c.decide.new.links) c.copy_from_slice.new.self.items) ≡ c.decide.new.links =
    refilled c.copy_from_slice.new.self.len c.decide.new.links _
    (c.decide.ensures.same_links ∙ c.deref_mut-2.ensures.len) in
    rw links (if-ok
    (λ (seconds : ℕ). ForPeriod c.args.project.now facts c.as_slice-2.result.now c.as_slice-3.result.now
    c.as_slice-4.result.now (λ grid standing row. Decides c.args.project.now grid standing row seconds
    c.decide.new.links facts.changes.list c.decide.new.facts.changes.list))
    (λ (seconds : ℕ). ForPeriod c.args.project.now facts c.args.readings.now.low.list c.args.readings.now.high.list
    c.args.readings.now.flows.list (λ grid standing row. Decides c.args.project.now grid standing row seconds
    c.decide.new.links facts.changes.list c.decide.new.facts.changes.list)) c.decide.result
    (λ seconds all grid standing row started read. all grid standing row started
    (read-at grid row _ _ _ _ _ _ c.as_slice-2.ensures c.as_slice-3.ensures c.as_slice-4.ensures read))
    c.decide.ensures.decides)
