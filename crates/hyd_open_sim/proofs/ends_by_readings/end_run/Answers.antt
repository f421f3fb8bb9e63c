use Rattle.std.proofs.Common.{◌≡◌, ℕ, refl, sym, ap, ◌∙◌}
use Rattle.hyd_cert.specs.declared.record.Record.{Record as Row}
use Rattle.hyd_open_certificates.specs.declared.open_row.OpenRow.{OpenRow}
use Rattle.hyd_open_sim.proofs.EndsOfDuePeriods.{last-over}
use Rattle.hyd_open_sim.proofs.ends_by_readings.end_run.Goals as goal

pub returns-clause-over : goal.returns-clause-over
returns-clause-over c = λ slack grid other looked shortest length.
    last-over c.args.project.now c.args.standing.now grid other c.args.facts.now _ _ c.requires.standing
    c.requires.last c.requires.begun c.requires.have shortest length refl refl c.clear-2.ensures.empty refl
    looked.inflows c.clear.ensures.empty slack

pub returns-clause-found : goal.returns-clause-found
returns-clause-found c =
    let before : Row = c.args.found.now.row in
    let put : c.put_no_length.new.row ≡ record before { length = 0 } = c.put_no_length.ensures in
    ap (λ (r : Row). let f : OpenRow = record { row = r; late = c.args.found.now.late; shortest = 0 } in f)
    (put ∙ ap (λ (n : ℕ). let r : Row = record before { length = n } in r) (sym (ap (λ (r : Row). r.length) put)))

pub returns-clause-length : goal.returns-clause-length
returns-clause-length c = ap (λ (r : Row). r.length) c.put_no_length.ensures
