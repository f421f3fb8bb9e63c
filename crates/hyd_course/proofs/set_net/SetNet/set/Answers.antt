use Rattle.std.proofs.Common.{sym, subst, ◌∙◌}
use Rattle.std.proofs.lemmas.List.{with_items_is}
use Rattle.hyd_spec.specs.PumpPatternsAndSimpleControls.{started, acts_at}
use Rattle.hyd_theorems_on_histories.proofs.CommandedLinkStates.{started_own}
use Rattle.hyd_period_network.specs.LawsInSettings.{AreStates}
use Rattle.hyd_laws_at_scale.specs.Scales.{parts_of}
use Rattle.hyd_course.proofs.OwnLinkStates.{state_each, settable}
use Rattle.hyd_course.proofs.set_net.SetNet.set.Goals as goal

pub put_links-requires-clause-each_state : goal.put_links-requires-clause-each_state
put_links-requires-clause-each_state c =
    state_each c.args.project.now c.args.project.now.links.list c.args.commanded.now c.requires.states

pub set_period-requires-clause-states : goal.set_period-requires-clause-states
set_period-requires-clause-states c =
    let project = c.args.project.now in
    let acts = acts_at (parts_of c.args.scale) c.args.levels.now in
    subst (AreStates project)
    (sym (c.deref.ensures.value ∙ (with_items_is c.args.self.now.links c.put_links.new.links
    (c.put_links.auto.links ∙ c.deref_mut-2.ensures.len) ∙ c.put_links.ensures)))
    (settable project (started project c.args.time acts c.args.commanded.now)
    (started_own project c.requires.sound c.args.time acts c.args.commanded.now c.requires.states))
