use Rattle.std.proofs.Common.{ℕ, subst, sym}
use Rattle.std.proofs.lemmas.Slice.Zip.{AllZip-long}
use Rattle.hyd_spec_witnesses.specs.declared.MetClause.TheVariants.{Emitter, Balance}
use Rattle.hyd_spec_witnesses.specs.MetPeriods.{period_of}
use Rattle.hyd_spec_witnesses.specs.WitnessText.{AreValues}
use Rattle.hyd_period_network.specs.Demands.{IsNetJunction}
use Rattle.hyd_period_network.specs.NetAsPeriodNetwork.{grid_of}
use Rattle.hyd_laws_at_scale.specs.Scales.{parts_of}
use Rattle.hyd_witness_texts.specs.MomentView.{moment_of}
use Rattle.hyd_course.proofs.UnmetClauses.{unmet_by}
use Rattle.hyd_course.proofs.flows.first_unmet_junction.Goals as goal

pub first_unmet_demand-requires-clause-heads : goal.first_unmet_demand-requires-clause-heads
first_unmet_demand-requires-clause-heads c =
    subst (λ (n : ℕ). AreValues n c.args.moment.now.heads.list)
    (sym (AllZip-long IsNetJunction c.args.project.now.junctions.list c.args.set.now.net.junctions
    c.requires.set.of.junctions)) c.requires.moment.heads

pub first_unmet_demand-requires-clause-demands : goal.first_unmet_demand-requires-clause-demands
first_unmet_demand-requires-clause-demands c =
    subst (λ (n : ℕ). AreValues n c.args.moment.now.demands.list)
    (sym (AllZip-long IsNetJunction c.args.project.now.junctions.list c.args.set.now.net.junctions
    c.requires.set.of.junctions)) c.requires.moment.demands

pub first_unmet_emitter-requires-clause-heads : goal.first_unmet_emitter-requires-clause-heads
first_unmet_emitter-requires-clause-heads c =
    subst (λ (n : ℕ). AreValues n c.args.moment.now.heads.list)
    (sym (AllZip-long IsNetJunction c.args.project.now.junctions.list c.args.set.now.net.junctions
    c.requires.set.of.junctions)) c.requires.moment.heads

pub first_unmet_emitter-requires-clause-emitters : goal.first_unmet_emitter-requires-clause-emitters
first_unmet_emitter-requires-clause-emitters c =
    subst (λ (n : ℕ). AreValues n c.args.moment.now.emitters.list)
    (sym (AllZip-long IsNetJunction c.args.project.now.junctions.list c.args.set.now.net.junctions
    c.requires.set.of.junctions)) c.requires.moment.emitters

pub returns-in-Some-first_unmet_emitter-clause-unmet : goal.returns-in-Some-first_unmet_emitter-clause-unmet
returns-in-Some-first_unmet_emitter-clause-unmet c = λ reached links.
    let project = c.args.project.now in
    let S = parts_of c.args.scale in
    let moment = moment_of c.args.moment.now in
    let period = period_of project S reached moment in
    let told = c.at-in-Some-first_unmet_emitter in
    unmet_by project S reached moment told.result Emitter c.in-Some-first_unmet_emitter.junction told.ensures.clause
    told.ensures.number (
      (grid_of c.args.set.now.net).junctions,
      (
        record { links = links; demands = c.in_default.ensures.none period.tanks period.links },
        c.in-Some-first_unmet_emitter.ensures.some period.tanks period.links,
      ),
    )

pub returns-in-Some-first_unbalanced-clause-unmet : goal.returns-in-Some-first_unbalanced-clause-unmet
returns-in-Some-first_unbalanced-clause-unmet c = λ reached links.
    let project = c.args.project.now in
    let S = parts_of c.args.scale in
    let moment = moment_of c.args.moment.now in
    let period = period_of project S reached moment in
    let told = c.at-in-Some-first_unbalanced in
    unmet_by project S reached moment told.result Balance c.in-Some-first_unbalanced.junction told.ensures.clause
    told.ensures.number (
      (grid_of c.args.set.now.net).junctions,
      (
        record {
          demands = record { links = links; demands = c.in_default.ensures.none period.tanks period.links };
          emitters = c.in_default-first_unmet_emitter.ensures.none period.tanks period.links;
        },
        c.in-Some-first_unbalanced.ensures.some period.tanks period.links,
      ),
    )

pub returns-clause-met : goal.returns-clause-met
returns-clause-met c = λ reached links.
    let period = period_of c.args.project.now (parts_of c.args.scale) reached (moment_of c.args.moment.now) in
    record {
      emitters = record {
        demands = record { links = links; demands = c.in_default.ensures.none period.tanks period.links };
        emitters = c.in_default-first_unmet_emitter.ensures.none period.tanks period.links;
      };
      balance = c.in_default-first_unbalanced.ensures.none period.tanks period.links;
    }
