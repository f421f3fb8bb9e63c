-- The run and the course are at their start, and all parts are of the network still.
use Rattle.std.proofs.Common.{◌∙◌, ap, sym}
use Rattle.hyd_spec_certificates.specs.RecordAndStanding.{initial_standing}
use Rattle.hyd_witness_stream.proofs.bench.Bench.begin.Goals as goal

pub begin_moments-requires : goal.begin_moments-requires
begin_moments-requires c =
    let p = c.project.ensures.project in
    record {
      sound = rw p c.project.ensures.is_sim.sound;
      moments = rw (p, c.begin.ensures.project) c.requires.moments;
    }

pub returns-clause-start : goal.returns-clause-start
returns-clause-start c =
    let p = c.begin.ensures.project in
    let moments = rw c.project.ensures.project at c.begin_moments.ensures in
    record {
      is = record {
        sound = c.project.ensures.is_sim.sound;
        entry = rw p c.requires.entry;
        moments = moments.are;
      };
      standing = c.begin.ensures.standing ∙ ap initial_standing (sym p);
      running = c.begin.ensures.running;
      stands = moments.stands;
    }
