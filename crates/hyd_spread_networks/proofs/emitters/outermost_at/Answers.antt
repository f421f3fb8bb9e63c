use Rattle.std.proofs.Common.{ℕ, [], None, Some, pos, sym, subst}
use Rattle.std.specs.Prelude.{Option}
use Rattle.std.proofs.lemmas.Result.{err_from_is_err_and}
use Rattle.hyd_spec.specs.ProgramTypes.{Capacity}
use Rattle.hyd_net.specs.declared.nodes.Junction.{Junction}
use Rattle.hyd_spec_spread.specs.OutermostGrids.{IsOutermostEmitter}
use Rattle.hyd_spec_spread_rows.specs.TextsOfSpreads.{factors_from}
use Rattle.hyd_spread_networks.proofs.ListsByNumber.{got}
use Rattle.hyd_spread_networks.proofs.EmitterLemmas.{emitter_at, emitter_there}
use Rattle.hyd_spread_networks.proofs.emitters.outermost_at.Goals as goal

abbrev nothing : Junction
nothing = record { elevation = pos 0; demands = record { list = []; spare = 0 }; emitter = None }

pub outermost-requires-clause-made : goal.outermost-requires-clause-made
outermost-requires-clause-made c =
    let js = c.args.project.now.junctions.list in
    let j : ℕ = c.args.junction in
    let at = got js j nothing c.requires.junction in
    (emitter_there c.args.project.now c.requires.sound j _ c.in-Some.own at
    (emitter_at js c.as_slice.result.now j _ _ c.as_slice.ensures c.requires.junction c.in-Some.is _ at)).1

pub returns-in_err-outermost-in-Some-clause-refused : goal.returns-in_err-outermost-in-Some-clause-refused
returns-in_err-outermost-in-Some-clause-refused c =
    let js = c.args.project.now.junctions.list in
    let j : ℕ = c.args.junction in
    let out = err_from_is_err_and c.from_residual.result c.from_residual.ensures.1 in
    rw out.1 (λ junction at. (
      c.in-Some.own,
      (
        emitter_at js c.as_slice.result.now j _ _ c.as_slice.ensures c.requires.junction c.in-Some.is junction at,
        c.in_err-outermost-in-Some.ensures.refused,
      ),
    ))

pub returns-in_ok-outermost-in-Some-clause-outermost : goal.returns-in_ok-outermost-in-Some-clause-outermost
returns-in_ok-outermost-in-Some-clause-outermost c = λ junction at.
    let js = c.args.project.now.junctions.list in
    let j : ℕ = c.args.junction in
    let e = emitter_at js c.as_slice.result.now j _ _ c.as_slice.ensures c.requires.junction c.in-Some.is junction at in
    subst (λ (own : Option Capacity). IsOutermostEmitter (factors_from c.args.factors) own
    (Some c.in_ok-outermost-in-Some.field-0)) (sym e) c.in_ok-outermost-in-Some.ensures.reaches

pub returns-in-None-clause-outermost : goal.returns-in-None-clause-outermost
returns-in-None-clause-outermost c = λ junction at.
    let js = c.args.project.now.junctions.list in
    let j : ℕ = c.args.junction in
    let e = emitter_at js c.as_slice.result.now j _ _ c.as_slice.ensures c.requires.junction c.in-None.is junction at in
    subst (λ (own : Option Capacity). IsOutermostEmitter (factors_from c.args.factors) own None) (sym e) tt
