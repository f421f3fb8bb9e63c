use Rattle.std.proofs.Common.{◌≡◌, ◌<◌, ◌∙◌, sym, w64, to_z, of_z, arith, length}
use Rattle.std.proofs.lemmas.Int.{ints}
use Rattle.hyd_spec.specs.Assignment.{head_at}
use Rattle.hyd_period_network.specs.NetAsPeriodNetwork.{grid_of}
use Rattle.hyd_sweep.proofs.RaiseValues.{suits-there, free-suits, suits-free}
use Rattle.hyd_sweep.proofs.rounds.suits.Goals as goal
use Rattle.hyd_lemmas.proofs.ListsOptionsAndResults.{item_there}

pub returns-in-Some : goal.returns-in-Some
returns-in-Some c =
    let held = c.args.held in
    let grid = grid_of c.args.net.now in
    let steady = c.junctions-junctions.ensures.steady in
    let u = c.args.u.now in
    let i = c.args.i in
    let here : to_z w64 (of_z w64 c.head_of.result) ≡ head_at u i = (let k : to_z w64 (of_z w64 c.head_of.result)
    ≡ c.head_of.result = omega (arith, ints) in k ∙ c.head_of.ensures) in
    let is = c.in-Some.ensures.0 in
    let low = c.in-Some.ensures.1.above_floor in
    let top = c.in-Some.ensures.1.below_ceiling in
    let there-kept : to_z w64 (of_z w64 c.in-Some.head) ≡ c.in-Some.head = omega (arith, ints, low, top) in
    let within : i < length grid.junctions = (let a = c.requires.inside in let b = c.requires.one_each in
    let e = c.junctions-junctions.ensures.each in omega (arith, a, b, e)) in (
      (λ same junction at. (suits-there held grid steady c.args.problem c.args.side u i c.requires.inside
          c.in-Some.head u junction is).0 (sym here ∙ (c.is_same.ensures.0 same ∙ there-kept))),
      (λ suits. c.is_same.ensures.1 (let at = item_there grid.junctions i within in
          here ∙ ((suits-there held grid steady c.args.problem c.args.side u i c.requires.inside c.in-Some.head u at.0
          is).1 (suits at.0 at.1) ∙ sym there-kept))),
    )

pub returns-in-None : goal.returns-in-None
returns-in-None c =
    let held = c.args.held in
    let grid = grid_of c.args.net.now in
    let steady = c.junctions-junctions.ensures.steady in
    let u = c.args.u.now in
    let i = c.args.i in
    let free = c.in-None.ensures in (
      (λ passes junction at. free-suits held grid steady c.args.problem c.args.side u i c.requires.inside u junction
          free (c.passes.ensures.0 passes junction at)),
      (λ suits. c.passes.ensures.1 (λ junction at. suits-free held grid steady c.args.problem c.args.side u i
          c.requires.inside u junction free (suits junction at))),
    )
