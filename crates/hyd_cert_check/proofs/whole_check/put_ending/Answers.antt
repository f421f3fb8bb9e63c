-- The last line.
use Rattle.std.proofs.Common.{◌∙◌, ℕ, ap, sym, subst}
use Rattle.hyd_net.specs.Sound.{IsSound}
use Rattle.hyd_spec.specs.ProgramTypes.{Project}
use Rattle.hyd_sim.specs.RunView.{standing_of}
use Rattle.hyd_cert_check.specs.RecordByRecord.{conclusion_line}
use Rattle.hyd_cert_check.specs.declared.outcome.CheckFault.TheVariants.{Output}
use Rattle.hyd_cert_check.proofs.PenLemmas.{not_cert, put-in, put-cut-off, put-as, cut-off-as}
use Rattle.hyd_cert_check.proofs.WholeCheckLemmas.{last-whole, last-cut-short, whole-as}
use Rattle.hyd_cert_check.proofs.whole_check.put_ending.Goals as goal

pub put_conclusion-requires : goal.put_conclusion-requires
put_conclusion-requires g c = record {
  sound = subst IsSound (sym c.project.ensures.project) c.project.ensures.is_sim.sound;
  ready = not_cert _ _ c.requires.to;
}

pub returns-in-Ok : goal.returns-in-Ok
returns-in-Ok g c = λ start reader read.
    let sim = c.args.sim.now in
    let text = ap (λ (p : Project). conclusion_line p c.number.result c.args.conclusion) c.project.ensures.project
    ∙ ap (λ (n : ℕ). conclusion_line sim.project n c.args.conclusion) c.number.ensures in
    whole-as sim.project _ _ start _ (sym c.end_of.ensures)
    (last-whole sim.project c.args.conclusion (standing_of sim).number start _ _ c.project.ensures.is_sim.sound read
    (put-as _ _ _ _ text (put-in _ reader reader _ _ _ _ c.requires c.in-Ok.ensures)))

pub returns-in-Err : goal.returns-in-Err
returns-in-Err g c = λ start reader read.
    let sim = c.args.sim.now in
    let text = ap (λ (p : Project). conclusion_line p c.number.result c.args.conclusion) c.project.ensures.project
    ∙ ap (λ (n : ℕ). conclusion_line sim.project n c.args.conclusion) c.number.ensures in
    last-cut-short sim.project c.args.conclusion (standing_of sim).number start _ _ c.project.ensures.is_sim.sound read
    (Output c.in-Err.fault)
    (cut-off-as (Output c.in-Err.fault) _ _ _ _ text (put-cut-off _ c.in-Err.fault reader reader _ _ _ _ c.requires
    c.in-Err.ensures))
