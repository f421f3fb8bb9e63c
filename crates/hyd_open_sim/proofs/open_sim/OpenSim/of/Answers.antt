-- Each part is as a run keeps it between two periods.
use Rattle.std.proofs.Common.{ap}
use Rattle.hyd_cert.specs.Lines.{Header}
use Rattle.hyd_open_certificates.specs.OpenLines.{open_header}
use Rattle.hyd_open_sim.proofs.open_sim.OpenSim.of.Goals as goal

pub invariant_of-result : goal.invariant_of-result
invariant_of-result c =
    let parts = c.requires.parts in
    record {
      sound = parts.sound;
      net = parts.net;
      header = ap (λ (h : Header). open_header h.junctions h.tanks) parts.header;
      facts = parts.facts;
      room = parts.search;
      standing = c.standing_within-standing.ensures.standing;
      close = record {
        readings = parts.close.readings;
        carried = parts.close.carried;
        values = parts.close.values;
        commanded = parts.close.commanded;
        next = parts.close.next;
        opened = c.requires.opened;
      };
      stopped = tt;
      stuck = tt;
    }
