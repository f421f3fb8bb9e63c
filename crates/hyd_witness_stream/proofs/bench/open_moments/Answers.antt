-- A course at its start, and a moment that a witness can hold.
use Rattle.std.proofs.Common.{subst}
use Rattle.hyd_spec_witnesses.specs.WitnessText.{Counts, IsMoment}
use Rattle.hyd_witness_texts.specs.MomentView.{moment_of}
use Rattle.hyd_witness_stream.proofs.FreshMoments.{is-fresh}
use Rattle.hyd_witness_stream.proofs.bench.open_moments.Goals as goal

pub returns : goal.returns
returns c =
    let m = c.in_ok-moment.moment in
    let e = c.in_ok-moment.ensures in
    record {
      are = record {
        course = c.in_ok-course.ensures.is;
        moment = subst (λ (counts : Counts). IsMoment counts (moment_of m)) c.counts_of.ensures
            (is-fresh _ m e.counts e.numbers e.heads e.flows e.demands e.emitters e.levels e.volumes);
      };
      stands = c.in_ok-course.ensures;
    }
