use Rattle.std.proofs.Common.{◌≡◌, ◌∙◌, ◌++◌, ◌∷◌, [], List, ℤ, ap, length, arith, FitsSigned, w64}
use Rattle.std.proofs.lemmas.Int.{to_z-of_z}
use Rattle.std.proofs.lemmas.List.{length_push}
use Rattle.hyd_period_length.proofs.HeadsAndFlowsSoFar.{one_behind}
use Rattle.hyd_period_length.proofs.heads.add_reservoirs.Goals as goal

pub loop-reservoir-preserved : goal.loop-reservoir-preserved
loop-reservoir-preserved c =
    let before : List ℤ = c.loop-reservoir.heads.list in
    let head : ℤ = c.reservoir_head.result in
    let fits : FitsSigned w64 head = record { sfits = c.reservoir_head.type_inv } in
    let listed : c.add_head.new.heads.list ≡ before ++ head ∷ [] =
    c.add_head.ensures.list ∙ ap (λ (h : ℤ). before ++ h ∷ []) (to_z-of_z w64 head fits) in
    let long = length_push before head in
    let spare = c.add_head.ensures.spare in
    let room = c.loop-reservoir.invariant.room in
    record {
      heads = listed ∙ one_behind c.args.heads.now.list before c.args.net.now.reservoirs
          c.loop-reservoir.reservoir head c.reservoir_head.ensures c.loop-reservoir.invariant.heads;
      room = omega (arith, ap length listed, long, spare, room);
    }
