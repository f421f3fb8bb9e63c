use Rattle.std.proofs.Common.{◌≡◌, ℕ, pos, None, Some, length, map, slice_get, slice_index_or, ap, subst, ◌∙◌, arith}
use Rattle.std.specs.Prelude.{List}
use Rattle.hyd_spec.specs.ProgramTypes.{Reservoir}
use Rattle.hyd_spec_certificates.specs.Interval.{Interval, exactly}
use Rattle.hyd_spec_spread_rows.specs.declared.Ends.{Ends}
use Rattle.hyd_spec_spread_rows.specs.TextsOfSpreads.{interval_from}
use Rattle.hyd_spread_rows.specs.SpreadsRead.{spread_of}
use Rattle.hyd_spread_networks.proofs.ListsByNumber.{got, within}
use Rattle.hyd_spread_networks.proofs.HeadLemmas.{more_stay, first_head}
use Rattle.hyd_spread_networks.proofs.heads.judge_heads.Goals as goal

abbrev none : Reservoir
none = record { head = pos 0; pattern = None }

abbrev offsets_in : ℕ → List Ends → Interval
offsets_in place rows = slice_index_or (map interval_from rows) place (exactly (pos 0))

pub loop-place-preserved : goal.loop-place-preserved
loop-place-preserved c =
    let project = c.args.project.now in
    let place : ℕ = c.loop-place.place in
    let all : List Reservoir = c.as_slice-reservoirs.result.now in
    let reservoir = slice_index_or all place none in
    let at : slice_get project.reservoirs.list place ≡ Some reservoir =
    subst (λ (rs : List Reservoir). slice_get rs place ≡ Some reservoir) c.as_slice-reservoirs.ensures
    (got all place none (omega arith)) in
    more_stay project (spread_of c.args.rows.now) place (interval_from c.offsets_at.result) reservoir at
    (c.offsets_at.ensures.value ∙ ap (offsets_in place) c.deref.ensures.value)
    (rw c.if-not-stays_at.false at c.stays_at.ensures.yes) c.loop-place.invariant

pub returns-then-not-stays_at-clause-refused : goal.returns-then-not-stays_at-clause-refused
returns-then-not-stays_at-clause-refused c =
    let project = c.args.project.now in
    let place : ℕ = c.loop-place.place in
    let all : List Reservoir = c.as_slice-reservoirs.result.now in
    let reservoir = slice_index_or all place none in
    let at : slice_get project.reservoirs.list place ≡ Some reservoir =
    subst (λ (rs : List Reservoir). slice_get rs place ≡ Some reservoir) c.as_slice-reservoirs.ensures
    (got all place none (omega arith)) in
    first_head project (spread_of c.args.rows.now) place (interval_from c.offsets_at.result) reservoir at
    (c.offsets_at.ensures.value ∙ ap (offsets_in place) c.deref.ensures.value)
    (rw c.if-not-stays_at.true at c.stays_at.ensures.no) c.loop-place.invariant

pub returns-clause-stay : goal.returns-clause-stay
returns-clause-stay c = λ k reservoir at.
    let lt = within c.args.project.now.reservoirs.list k reservoir at in
    let n = ap length c.as_slice-reservoirs.ensures in
    c.loop-place.invariant k reservoir (omega (arith, lt, n)) at
