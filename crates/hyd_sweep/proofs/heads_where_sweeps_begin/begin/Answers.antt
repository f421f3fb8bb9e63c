use Rattle.std.proofs.Common.{◌≡◌, ◌∙◌, ◌++◌, ◌<◌, sym, ap, subst, refl, w64, to_z, of_z, arith, ℕ, ℤ, pos, length}
use Rattle.std.proofs.Common.{List, take, drop}
use Rattle.std.specs.Prelude.{map, replicate}
use Rattle.std.proofs.lemmas.Int.{ints}
use Rattle.std.proofs.lemmas.List.{get_or_default}
use Rattle.std.proofs.lemmas.List.Edits.{map_over_more}
use Rattle.hyd_spec.specs.Assignment.{head_at}
use Rattle.hyd_spec_certificates.specs.StartsRaisesAndLeaps.{IsStart}
use Rattle.hyd_spec_certificates.specs.TurnsOfProblems.{beginning}
use Rattle.hyd_theorems_on_raises.proofs.SearchStarts.{start-end, beginning-is}
use Rattle.hyd_sweep.proofs.OneHeadThroughout.{filled}
use Rattle.hyd_sweep.proofs.heads_where_sweeps_begin.begin.Goals as goal

pub loop-i-init : goal.loop-i-init
loop-i-init c = refl

pub loop-i-preserved : goal.loop-i-preserved
loop-i-preserved c =
    let i = c.loop-i.i in
    let u = c.loop-i.u in
    let lt = c.loop-i-test.true in
    let long = c.loop-i.auto.u in
    let inside : i < length u = omega (arith, lt, long) in
    map_over_more (λ (x : ℤ). to_z w64 (of_z w64 c.near_end-end.result)) c.args.u.now u i (head_at u i) lt
    c.loop-i.invariant (get_or_default u i (pos 0) (head_at u i) inside)

all-put : (c : goal.After-loop-i) → c.loop-i.u ≡ beginning c.args.side (length c.args.u.now)
all-put c =
    let end = c.loop-i.auto.i-end in
    let test = c.loop-i-test.false in
    let whole : c.loop-i.i ≡ length c.args.u.now = omega (arith, end, test) in
    let kept : to_z w64 (of_z w64 c.near_end-end.result) ≡ c.near_end-end.result = omega (arith, ints) in
    let xs = c.args.u.now in
    let head = to_z w64 (of_z w64 c.near_end-end.result) in
    c.loop-i.invariant ∙ (ap (λ (n : ℕ). map (λ (x : ℤ). head) (take n xs) ++ drop n xs) whole
    ∙ (filled xs head ∙ (ap (replicate (length xs)) (kept ∙ c.near_end-end.ensures)
    ∙ sym (beginning-is c.args.side (length xs)))))

pub returns-clause-heads : goal.returns-clause-heads
returns-clause-heads c = all-put c

pub returns-clause-start : goal.returns-clause-start
returns-clause-start c held grid problem each =
    subst (λ (u : List ℤ). IsStart held grid problem c.args.side u)
    (sym (all-put c ∙ ap (beginning c.args.side) each)) (start-end held grid problem c.args.side)
