use Rattle.std.proofs.Common.{◌≡◌, ℕ, ◌+◌, ◌++◌, List, [], ◌∷◌, length, map, Option, Some, None, IfSome, pos}
use Rattle.std.proofs.Common.{slice_index_or, ap, sym, subst, ◌∙◌, arith}
use Rattle.std.proofs.lemmas.List.{length_push}
use Rattle.hyd_spec.specs.ProgramTypes.{Capacity}
use Rattle.hyd_net.specs.declared.nodes.Junction.{Junction}
use Rattle.hyd_theorems_on_definitions.specs.SoundLawsAndGrids.{IsSoundCapacity}
use Rattle.hyd_spec_spread.specs.Spreads.{Factors, one_alone}
use Rattle.hyd_spec_spread_rows.specs.declared.Ends.{Ends}
use Rattle.hyd_spec_spread_rows.specs.TextsOfSpreads.{factors_from}
use Rattle.hyd_spread_rows.specs.SpreadsRead.{spread_of}
use Rattle.hyd_spread_networks.specs.RefusedSpreads.{IsRefusedEmitter}
use Rattle.hyd_spread_networks.proofs.ListsByNumber.{got, more_pushed}
use Rattle.hyd_spread_networks.proofs.EmitterLemmas.{AreOutermostTo, more_outermost, all_outermost, first_emitter}
use Rattle.hyd_spread_networks.proofs.emitters.outermost_emitters.Goals as goal

abbrev factors_in : ℕ → List Ends → Factors
factors_in i rows = slice_index_or (map factors_from rows) i one_alone

pub loop-junction-preserved : goal.loop-junction-preserved
loop-junction-preserved c =
    let project = c.args.project.now in
    let spread = spread_of c.args.rows.now in
    let i : ℕ = c.loop-junction.junction in
    let before = c.loop-junction.invariant in
    let emitters : List (Option Capacity) = c.loop-junction.emitters.items in
    let emitter : Option Capacity = c.in-Ok.emitter in
    let added : c.add.new.emitters.items ≡ emitters ++ emitter ∷ [] = c.in_ok-add-in-Ok.ensures.added in
    let n = ap length added in
    let m = length_push emitters emitter in
    let same : length emitters ≡ i = before.count in
    record {
      count = omega (arith, n, m, same);
      outermost = subst (λ (es : List (Option Capacity)). AreOutermostTo project spread (i + 1) es) (sym added)
          (more_outermost project spread i (factors_from c.factors_at.result) emitters emitter same
          (c.factors_at.ensures.value ∙ ap (factors_in i) c.deref.ensures.value) c.in-Ok.ensures.outermost before.outermost);
      sound = λ k e lt. subst (λ (es : List (Option Capacity)). IfSome (slice_index_or es k e) IsSoundCapacity) (sym added)
          (more_pushed (λ (q : ℕ) (x : Option Capacity). IfSome x IsSoundCapacity) emitters emitter
          (λ q d less. before.sound q d (omega (arith, less, same))) c.in-Ok.ensures.sound k e (omega (arith, lt, same)));
    }

abbrev nothing : Junction
nothing = record { elevation = pos 0; demands = record { list = []; spare = 0 }; emitter = None }

pub returns-in-Err-clause-refused : goal.returns-in-Err-clause-refused
returns-in-Err-clause-refused c =
    let project = c.args.project.now in
    let spread = spread_of c.args.rows.now in
    let i : ℕ = c.loop-junction.junction in
    let junction = slice_index_or project.junctions.list i nothing in
    let at = got project.junctions.list i nothing (omega (arith, c.len-junction-end.ensures)) in
    let same = c.factors_at.ensures.value ∙ ap (factors_in i) c.deref.ensures.value in
    first_emitter project spread i junction c.loop-junction.emitters.items at
    (subst (λ (f : Factors). (own : Capacity) × ((junction.emitter ≡ Some own) × IsRefusedEmitter f own)) same
    (c.in-Err.ensures.refused junction at)) c.loop-junction.invariant.outermost

pub returns-clause-outermost : goal.returns-clause-outermost
returns-clause-outermost c =
    let project = c.args.project.now in
    let before = c.loop-junction.invariant in
    let n = c.len-junction-end.ensures in
    all_outermost project (spread_of c.args.rows.now) c.loop-junction.emitters.items (omega (arith, before.count, n))
    (λ k junction e lt at. before.outermost k junction e (omega (arith, lt, n)) at)
