use Rattle.std.proofs.Common.{◌∙◌, List, length, sym, ap, subst}
use Rattle.hyd_spec.specs.declared.TankState.{TankState}
use Rattle.hyd_laws_at_scale.specs.Scales.{parts_of}
use Rattle.hyd_witness_texts.specs.MomentView.{moment_of}
use Rattle.hyd_middle_flows.specs.CandidateParts.{IsSetFor}
use Rattle.hyd_witness.proofs.CandidateLemmas.{no_fault, set_for}
use Rattle.hyd_witness.proofs.candidate.put_flows.Goals as goal

pub set-requires-clause-each_level : goal.set-requires-clause-each_level
set-requires-clause-each_level c = ap length c.as_slice-levels.ensures ∙ c.requires.moment.levels.one_each

pub returns-in-Ok-clause-middle : goal.returns-in-Ok-clause-middle
returns-in-Ok-clause-middle c = λ reached row stands has.
    c.put_flows_halfway.ensures.middle reached row has
    (subst (λ (tanks : List TankState). IsSetFor c.args.project.now reached (moment_of c.args.into.now)
    c.set.new.self.net tanks) (sym c.deref-in-Ok.ensures.value)
    (set_for c.args.project.now reached (moment_of c.args.into.now) (parts_of c.halves.result)
    c.as_slice-levels.result.now c.deref.result.now c.set.new.self c.halves.ensures c.as_slice-levels.ensures
    (c.deref.ensures.value ∙ stands.commanded) c.in-Ok.ensures.set))

pub returns-in-Err-clause-middle : goal.returns-in-Err-clause-middle
returns-in-Err-clause-middle c = λ reached row stands has.
    absurd (no_fault c.args.project.now c.args.into.now.time c.in-Err.field-0.junction c.in-Err.field-0.value
    c.requires.demands c.in-Err.ensures.refused)
