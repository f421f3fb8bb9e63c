use Rattle.std.proofs.Common.{ℕ, sym, ap, ◌∙◌}
use Rattle.std.specs.Prelude.{map}
use Rattle.hyd_spec_certificates.specs.SpansAsIntervals.{levels_of}
use Rattle.hyd_spec_certificates.specs.Decided.{carried_at}
use Rattle.hyd_period_end.proofs.length_and_events.tell_end.Goals as goal

pub returns-clause-events : goal.returns-clause-events
returns-clause-events c = λ grid standing row started long.
    c.put_events.ensures.events grid standing row (c.as_slice.ensures ∙ started.tanks)
    (ap (map levels_of) c.as_slice-2.ensures ∙ started.levels)
    (ap (map levels_of) c.as_slice-3.ensures ∙ c.put_carried.ensures.levels grid standing row started
    ∙ ap (λ (n : ℕ). carried_at c.args.project.now grid standing row n) (sym long))
