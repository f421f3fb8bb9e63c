use Rattle.std.proofs.Common.{◌≡◌, ℤ, ℕ, pos, sym, subst, refl}
use Rattle.std.specs.Int.{w128}
use Rattle.std.specs.Prelude.{slice_get, Option, Some, None}
use Rattle.std.specs.Option.{option_map, option_copied}
use Rattle.std.proofs.lemmas.Int.{to_z-of_z}
use Rattle.hyd_spec.specs.Law.{QuadraticLaw}
use Rattle.hyd_spec.specs.ProgramTypes.{Capacity}
use Rattle.hyd_spec_certificates.specs.PeriodNetwork.{GridJunction}
use Rattle.hyd_spec_witnesses.specs.EnclosingFunctionsAtScale.{IsInRange}
use Rattle.hyd_spec_witnesses.specs.MetPeriods.{pressure_of}
use Rattle.hyd_spec_witnesses.specs.MiddleCandidate.{halves, IsHalfwayEmitted}
use Rattle.hyd_period_network.specs.NetAsPeriodNetwork.{grid_of, capacity_of}
use Rattle.hyd_laws_at_scale.specs.Scales.{parts_of}
use Rattle.hyd_laws_at_scale.specs.Windows.{IsWindow, IsAnswer}
use Rattle.hyd_laws_at_scale.specs.declared.windows.Window.{Window}
use Rattle.hyd_witness_texts.specs.MomentView.{moment_of}
use Rattle.hyd_met_flows.specs.Periods.{period_in}
use Rattle.hyd_met_flows.proofs.NearFlows.{answer, there}
use Rattle.hyd_middle_flows.proofs.WindowsHalved.{law_halfway}
use Rattle.hyd_middle_flows.proofs.outflows.middle_emitter.Goals as goal

pub returns-in-Some-clause-halfway : goal.returns-in-Some-clause-halfway
returns-in-Some-clause-halfway c = λ tanks links here at.
    let S = parts_of c.halves-in-Some.result in
    let period = period_in (moment_of c.args.moment.now) tanks links in
    let j = c.args.junction in
    let p = c.pressure_of-pressure.result in
    let q = c.halfway.result in
    let window = c.emitter_window.result in
    let kept = to_z-of_z w128 p (record { sfits = c.pressure_of-pressure.type_inv }) in
    let is : p ≡ pressure_of halves period j here = subst (λ (s : ℕ). p ≡ pressure_of s period j here)
    c.halves.ensures (c.pressure_of-pressure.ensures tanks links here at) in
    let law = QuadraticLaw c.in-Some.law.now.cap in
    let emitter = there (slice_get (grid_of c.args.net.now).junctions j) here
    (λ (g : GridJunction). g.emitter ≡ option_map capacity_of (option_copied c.emitter_law.result)) at
    c.emitter_law.ensures.grid in
    let mine = answer window (λ (w : Window). IsWindow S law p w) (IsInRange S law p → ⊥)
    (rw kept at c.emitter_window.ensures.some) (rw kept at c.emitter_window.ensures.none) in
    let given = subst (λ (s : ℕ). IsAnswer s law p window) c.halves-in-Some.ensures mine in
    let own : here.emitter ≡ Some c.in-Some.law.now.cap = (rw c.in-Some.is at emitter) in
    subst (IsHalfwayEmitted here.emitter (pressure_of halves period j here))
    (sym (to_z-of_z w128 q (record { sfits = c.halfway.type_inv })))
    (subst (λ (z : ℤ). IsHalfwayEmitted here.emitter z q) is
    (subst (λ (e : Option Capacity). IsHalfwayEmitted e p q) (sym own)
    (law_halfway law p window q (record { some = c.halfway.ensures.some; none = c.halfway.ensures.none }) given)))

pub returns-in-None-clause-halfway : goal.returns-in-None-clause-halfway
returns-in-None-clause-halfway c = λ tanks links here at.
    let period = period_in (moment_of c.args.moment.now) tanks links in
    let j = c.args.junction in
    let emitter = there (slice_get (grid_of c.args.net.now).junctions j) here
    (λ (g : GridJunction). g.emitter ≡ option_map capacity_of (option_copied c.emitter_law.result)) at
    c.emitter_law.ensures.grid in
    let own : ◌≡◌ {A = Option Capacity} here.emitter None = (rw c.in-None.is at emitter) in
    subst (λ (e : Option Capacity). IsHalfwayEmitted e (pressure_of halves period j here) (pos 0))
    (sym own) refl
