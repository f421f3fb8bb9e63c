use Rattle.std.proofs.Common.{◌≡◌, ◌∙◌, ◌++◌, ◌∷◌, [], List, ℤ, true, ap, sym, subst, to_z, of_z, arith}
use Rattle.std.specs.Int.{w64}
use Rattle.std.proofs.lemmas.Int.{ints}
use Rattle.hyd_spec.specs.ProgramTypes.{Tank}
use Rattle.hyd_spec_certificates.specs.Decided.{Watch}
use Rattle.hyd_lemmas.proofs.ListsOptionsAndResults.{same_some}
use Rattle.std.specs.Prelude.{slice_get}
use Rattle.hyd_open_watches.specs.Candidates.{AreNearest}
use Rattle.hyd_open_watches.proofs.LevelsAhead.{range_of}
use Rattle.hyd_open_watches.proofs.NearestSoFar.{no_most, most_so}
use Rattle.hyd_open_watches.proofs.tank_bounds.with_most.Goals as goal

pub with_watch-requires-clause-watch : goal.with_watch-requires-clause-watch
with_watch-requires-clause-watch c =
    let r = range_of c.args.project.now c.requires.sound c.args.tank c.tank_at.result c.tank_at.ensures in
    let apart = r.apart in
    let lowest = r.lowest in
    let highest = r.highest in
    record { tank = c.requires.in_range; target = omega (arith, ints, apart, lowest, highest) }

pub with_watch-requires-clause-short : goal.with_watch-requires-clause-short
with_watch-requires-clause-short c = λ each at.
    let r = range_of c.args.project.now c.requires.sound c.args.tank c.tank_at.result c.tank_at.ensures in
    let apart = r.apart in
    let lowest = r.lowest in
    let highest = r.highest in
    let same = same_some (slice_get c.args.project.now.tanks.list c.args.tank) each c.tank_at.result at
    c.tank_at.ensures in
    let e = ap (λ (t : Tank). t.minimum) same in
    omega (arith, ints, apart, lowest, highest, e)

pub returns-then-is_full : goal.returns-then-is_full
returns-then-is_full c = λ watched each state at is are.
    no_most (λ (ws : List Watch). AreNearest c.args.project.now c.args.facts.now c.args.latest ws c.args.all)
    c.args.tank each state watched (sym (c.is_full.ensures state is) ∙ c.if-is_full.true) are

pub returns : goal.returns
returns c = λ watched each state at is are.
    let project = c.args.project.now in
    let k = c.args.tank in
    let P = λ (ws : List Watch). AreNearest project c.args.facts.now c.args.latest ws c.with_watch.result in
    let r = range_of project c.requires.sound k each at in
    let apart = r.apart in
    let lowest = r.lowest in
    let highest = r.highest in
    let same = same_some (slice_get project.tanks.list k) c.tank_at.result each c.tank_at.ensures at in
    let e = ap (λ (t : Tank). t.maximum) same in
    let kept : to_z w64 (of_z w64 c.tank_at.result.maximum) ≡ each.maximum = omega
    (arith, ints, lowest, apart, highest, e) in
    most_so P k each state watched (sym (c.is_full.ensures state is) ∙ c.if-is_full.false)
    (subst (λ (t : ℤ). P (watched ++ record { tank = k; target = t; rising = true } ∷ [])) kept
    (c.with_watch.ensures watched are))
