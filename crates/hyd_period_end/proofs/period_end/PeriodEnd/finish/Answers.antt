use Rattle.std.proofs.lemmas.Result.{err_from_is_err_and}
use Rattle.std.proofs.Common.{refl}
use Rattle.hyd_spec_certificates.specs.RecordAndStanding.{Record}
use Rattle.hyd_cert.specs.RecordView.{row_of}
use Rattle.hyd_period_network.specs.NetAsPeriodNetwork.{grid_of}
use Rattle.hyd_period_end.specs.OpenMatters.{SharesVectors}
use Rattle.hyd_period_end.proofs.EndedPeriods.{closed-of, started-changed, started-shared}
use Rattle.hyd_period_end.proofs.EndedPeriods.{read-shared}
use Rattle.hyd_period_end.proofs.period_end.PeriodEnd.finish.Goals as goal

pub returns-in_err-seconds-clause-open : goal.returns-in_err-seconds-clause-open
returns-in_err-seconds-clause-open c =
    let p = err_from_is_err_and c.from_residual.result c.from_residual.ensures.1 in
    rw (p.1, p.2) (λ standing other begun share.
    let grid = grid_of c.args.net.now in
    let row = row_of c.args.row.now in
    c.in_err-seconds.ensures.open grid standing other
    (started-shared c.args.project.now grid standing row other c.look.new.facts share
    (c.look.ensures.started standing begun))
    (read-shared c.args.project.now grid standing row other _ _ _ share c.look.ensures.read))

pub returns-in-Err-clause-open : goal.returns-in-Err-clause-open
returns-in-Err-clause-open c = λ standing other begun share.
    let grid = grid_of c.args.net.now in
    let row = row_of c.args.row.now in
    let started = started-shared c.args.project.now grid standing row other c.look.new.facts share
    (c.look.ensures.started standing begun) in
    let decides = c.in_ok-seconds.ensures.decides grid standing other started
    (read-shared c.args.project.now grid standing row other _ _ _ share c.look.ensures.read) in
    c.in-Err.ensures.open grid standing other _
    (started-changed c.args.project.now grid standing other c.look.new.facts c.decide_end.new.facts
    c.decide_end.ensures.keeps started) decides.leaves

pub returns-clause-closed : goal.returns-clause-closed
returns-clause-closed c = λ standing begun.
    let project = c.args.project.now in
    let grid = grid_of c.args.net.now in
    let row = row_of c.args.row.now in
    let closed : Record = record row { length = c.in_ok-seconds.seconds } in
    let share : SharesVectors closed row = record { main = refl; pinned = refl } in
    let started = started-shared project grid standing row closed c.look.new.facts share
    (c.look.ensures.started standing begun) in
    let read = read-shared project grid standing row closed _ _ _ share c.look.ensures.read in
    let changed = started-changed project grid standing closed c.look.new.facts c.decide_end.new.facts
    c.decide_end.ensures.keeps started in
    closed-of project grid standing closed c.in_ok-seconds.seconds c.args.facts.now c.look.new.facts c.decide_end.new.facts
    c.tell_end.new.facts (record {
      readings = c.look.new.readings;
      carried = c.tell_end.new.carried;
      values = c.decide_end.new.values;
      commanded = c.decide_end.new.commanded;
      next = c.follow.new.next;
    }) refl begun c.look.ensures.keeps started c.decide_end.ensures.keeps c.tell_end.ensures.keeps
    (c.in_ok-seconds.ensures.decides grid standing closed started read)
    (c.tell_end.ensures.events grid standing closed changed refl)
    (c.follow.ensures.levels grid standing closed changed) (c.follow.ensures.volumes grid standing closed changed)
    c.in_default.ensures.states c.in_default.ensures.controls
