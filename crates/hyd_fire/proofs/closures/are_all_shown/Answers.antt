use Rattle.std.proofs.Common.{◌≡◌, sym, subst, arith, ℕ, inl, inr}
use Rattle.std.specs.Prelude.{Some, slice_get}
use Rattle.std.proofs.lemmas.Bool.{cases_eq}
use Rattle.std.proofs.lemmas.Option.{slice_get_within}
use Rattle.hyd_spec_certificates.specs.declared.LevelSpan.{LevelSpan}
use Rattle.hyd_lemmas.proofs.ListsOptionsAndResults.{item_is}
use Rattle.hyd_fire.specs.StudyView.{StudyView}
use Rattle.hyd_fire.specs.SidesOfClosures.{IsShownBy}
use Rattle.hyd_fire.proofs.closures.are_all_shown.Goals as goal

pub loop-junction-preserved : goal.loop-junction-preserved
loop-junction-preserved c =
    let targets = c.args.targets.now in
    let sides = c.args.sides in
    let i = c.loop-junction.junction in
    let left : StudyView = record { upper = c.args.upper.now; lower = c.args.lower.now } in
    record {
      shown = λ j target lt at. elim (cases_eq j i) [
        | inl e ↦ subst (λ (m : ℕ). IsShownBy left sides m target) (sym e)
            (subst (λ (t : LevelSpan). IsShownBy left sides i t)
            (item_is targets i target _ (subst (λ (m : ℕ). slice_get targets m ≡ Some target) e at))
            (c.is_shown.ensures.0 c.if-not-is_shown.false))
        | inr ne ↦ c.loop-junction.invariant.shown j target (omega (arith, lt, ne)) at
      ];
    }

pub returns : goal.returns
returns c all j target at =
    let a = c.loop-junction-test.false in
    let b = c.junctions-junction-end.ensures.count in
    let d = c.requires.targets in
    let within = slice_get_within c.args.targets.now j target at in
    c.loop-junction.invariant.shown j target (omega (arith, within, a, b, d)) at
