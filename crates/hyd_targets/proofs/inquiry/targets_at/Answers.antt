use Rattle.std.proofs.Common.{◌≡◌, ◌++◌, ◌∷◌, [], Bool, map, take, ap, sym, ◌∙◌}
use Rattle.std.specs.Prelude.{slice_index_or}
use Rattle.std.proofs.lemmas.List.{take_more, map-append}
use Rattle.hyd_num.specs.Rational.{floor, ceiling}
use Rattle.hyd_spec.specs.DemandsHeadsAndPumpLifts.{is_us}
use Rattle.hyd_spec_certificates.specs.declared.LevelSpan.{LevelSpan}
use Rattle.hyd_targets.specs.Inquiries.{target_of, target_pressure}
use Rattle.hyd_targets.proofs.inquiry.targets_at.Goals as goal

pub loop-place-preserved : goal.loop-place-preserved
loop-place-preserved c =
    let nano = c.args.pressure.nano in
    let target = target_pressure (is_us c.args.project.now) nano in
    let junctions = c.as_slice-junctions.result.now in
    let place = c.loop-place.place in
    let here = c.index-junctions-place.result in
    let made : c.target_at.result ≡ target_of target (slice_index_or junctions place here) =
    c.target_at.ensures target
    (c.heads_around-pressures.ensures.lo ∙ ap (λ (u : Bool). floor (target_pressure u nano)) c.is_us.ensures)
    (c.heads_around-pressures.ensures.hi ∙ ap (λ (u : Bool). ceiling (target_pressure u nano)) c.is_us.ensures)
    ∙ ap (target_of target) c.index-junctions-place.is in
    c.in_ok-push.ensures.items
    ∙ (ap (λ ys. ys ++ (c.target_at.result ∷ [])) c.loop-place.invariant
    ∙ (ap (λ (t : LevelSpan). map (target_of target) (take place junctions) ++ (t ∷ [])) made
    ∙ sym (ap (map (target_of target)) (take_more junctions place here c.loop-place-test.true)
    ∙ map-append (target_of target) (take place junctions) (slice_index_or junctions place here ∷ []))))
