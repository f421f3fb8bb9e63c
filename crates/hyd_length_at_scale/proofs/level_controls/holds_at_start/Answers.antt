use Rattle.std.proofs.Common.{◌≡◌, ◌∙◌, ℤ, List, Bool, pos, ap, sym, subst, to_z, of_z}
use Rattle.std.specs.Prelude.{slice_index_or}
use Rattle.std.specs.Int.{w64, w128}
use Rattle.std.proofs.lemmas.Int.{to_z-of_z}
use Rattle.hyd_num.specs.Rational.{whole}
use Rattle.hyd_spec.specs.Scale.{at_scale}
use Rattle.hyd_spec.specs.Tank.{reaches}
use Rattle.hyd_spec.specs.PeriodLength.{level_at_start}
use Rattle.hyd_laws_at_scale.specs.Scales.{parts_of}
use Rattle.hyd_length_at_scale.specs.MetPeriods.{told}
use Rattle.hyd_length_at_scale.proofs.FirstSecondsOfLevels.{above_so, below_so}
use Rattle.hyd_length_at_scale.proofs.level_controls.holds_at_start.Goals as goal

pub returns-then-above : goal.returns-then-above
returns-then-above c =
    let period = c.args.period.now in
    let S = parts_of period.scale in
    let k = c.args.tank in
    let start : ℤ = level_at_start (told period) k in
    let level : ℤ = c.number_at-level.result in
    let target : ℤ = c.in_parts-target.result in
    let at : to_z w128 (of_z w128 level) ≡ start =
    to_z-of_z w128 level (record { sfits = c.number_at-level.type_inv }) ∙ c.number_at-level.ensures
    ∙ ap (λ (ls : List ℤ). slice_index_or ls k (pos 0)) c.as_slice.ensures in
    let same : to_z w128 (of_z w128 target) ≡ at_scale S c.args.ticks =
    to_z-of_z w128 target (record { sfits = c.in_parts-target.type_inv }) ∙ c.in_parts-target.ensures
    ∙ ap (at_scale S) (to_z-of_z w64 c.args.ticks c.ranges.ticks) in
    subst (λ (b : Bool). c.is_at_most.result ≡ reaches S b c.args.ticks (whole start)) (sym c.if-above.true)
    (c.is_at_most.ensures
    ∙ above_so S c.args.ticks start (to_z w128 (of_z w128 target)) (to_z w128 (of_z w128 level)) same at)

pub returns-else-above : goal.returns-else-above
returns-else-above c =
    let period = c.args.period.now in
    let S = parts_of period.scale in
    let k = c.args.tank in
    let start : ℤ = level_at_start (told period) k in
    let level : ℤ = c.number_at-level.result in
    let target : ℤ = c.in_parts-target.result in
    let at : to_z w128 (of_z w128 level) ≡ start =
    to_z-of_z w128 level (record { sfits = c.number_at-level.type_inv }) ∙ c.number_at-level.ensures
    ∙ ap (λ (ls : List ℤ). slice_index_or ls k (pos 0)) c.as_slice.ensures in
    let same : to_z w128 (of_z w128 target) ≡ at_scale S c.args.ticks =
    to_z-of_z w128 target (record { sfits = c.in_parts-target.type_inv }) ∙ c.in_parts-target.ensures
    ∙ ap (at_scale S) (to_z-of_z w64 c.args.ticks c.ranges.ticks) in
    subst (λ (b : Bool). c.is_at_most-else-above.result ≡ reaches S b c.args.ticks (whole start)) (sym c.if-above.false)
    (c.is_at_most-else-above.ensures
    ∙ below_so S c.args.ticks start (to_z w128 (of_z w128 target)) (to_z w128 (of_z w128 level)) same at)
