-- All parts are of the network.
use Rattle.std.proofs.Common.{◌∙◌, ap, sym}
use Rattle.hyd_spec_certificates.specs.RecordAndStanding.{initial_standing}
use Rattle.hyd_witness_stream.proofs.bench.Bench.open.Goals as goal

pub returns-clause-start : goal.returns-clause-start
returns-clause-start c =
    let sim = c.in_ok-sim.ensures in
    let p = sim.project in
    record {
      is = record {
        sound = rw p c.requires;
        entry = rw p c.in_ok-entry.ensures;
        moments = rw p c.in_ok-moments.ensures.are;
      };
      standing = sim.standing ∙ ap initial_standing (sym p);
      running = sim.running;
      stands = rw p c.in_ok-moments.ensures.stands;
    }
