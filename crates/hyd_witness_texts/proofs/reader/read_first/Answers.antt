use Rattle.std.proofs.Common.{refl}
use Rattle.hyd_io.specs.DeskBytes.{prepend_known}
use Rattle.hyd_witness_texts.specs.MomentView.{counts_in, moment_of}
use Rattle.hyd_witness_texts.specs.PartsOfWitness.{list_lines}
use Rattle.hyd_witness_texts.proofs.ReaderLemmas.{no_header, no_header_moment, behind_header, no_moment_behind_header}
use Rattle.hyd_witness_texts.proofs.ReaderLemmas.{first_moment, first_end, first_scale, first_line}
use Rattle.hyd_witness_texts.proofs.reader.read_first.Goals as goal

pub returns-in-Err-clause-fault : goal.returns-in-Err-clause-fault
returns-in-Err-clause-fault g c =
    no_header (counts_in c.args.counts.now) (record {
      junctions = c.has_small_counts.ensures.junctions;
      links = c.has_small_counts.ensures.links;
      tanks = c.has_small_counts.ensures.tanks;
    }) c.args.lines.now.line (prepend_known c.args.lines.now.source (g.D.Desk.rest c.args.desk.now))
    (g.D.Desk.counts c.args.desk.now) (g.D.Desk.counts c.header.new.desk) c.in-Err.fault c.in-Err.ensures.fault

pub returns-in-Err-clause-no_moment : goal.returns-in-Err-clause-no_moment
returns-in-Err-clause-no_moment g c =
    no_header_moment (counts_in c.args.counts.now) (record {
      junctions = c.has_small_counts.ensures.junctions;
      links = c.has_small_counts.ensures.links;
      tanks = c.has_small_counts.ensures.tanks;
    }) c.args.lines.now.line (prepend_known c.args.lines.now.source (g.D.Desk.rest c.args.desk.now))
    (g.D.Desk.counts c.args.desk.now) (g.D.Desk.counts c.header.new.desk) c.in-Err.fault c.in-Err.ensures.fault

pub returns-in-Ok-clause-fault : goal.returns-in-Ok-clause-fault
returns-in-Ok-clause-fault g c =
    behind_header (counts_in c.args.counts.now) (record {
      junctions = c.has_small_counts.ensures.junctions;
      links = c.has_small_counts.ensures.links;
      tanks = c.has_small_counts.ensures.tanks;
    }) c.in-Ok.scale c.in-Ok.ensures.is_scale
    (prepend_known c.args.lines.now.source (g.D.Desk.rest c.args.desk.now))
    (prepend_known c.header.new.self.source (g.D.Desk.rest c.header.new.desk)) c.in-Ok.ensures.text
    c.args.lines.now.line c.header.new.self.line (g.D.Desk.counts c.args.desk.now)
    (g.D.Desk.counts c.header.new.desk) (g.D.Desk.counts c.read_behind_periods.new.desk) c.read_behind_periods.result
    c.in-Ok.ensures.line c.in-Ok.ensures.steady
    (c.read_behind_periods.ensures.fault (counts_in c.args.counts.now) c.requires)

pub returns-in-Ok-clause-no_moment : goal.returns-in-Ok-clause-no_moment
returns-in-Ok-clause-no_moment g c =
    no_moment_behind_header (counts_in c.args.counts.now) (record {
      junctions = c.has_small_counts.ensures.junctions;
      links = c.has_small_counts.ensures.links;
      tanks = c.has_small_counts.ensures.tanks;
    }) c.in-Ok.scale c.in-Ok.ensures.is_scale
    (prepend_known c.args.lines.now.source (g.D.Desk.rest c.args.desk.now))
    (prepend_known c.header.new.self.source (g.D.Desk.rest c.header.new.desk)) c.in-Ok.ensures.text
    c.read_behind_periods.result (c.read_behind_periods.ensures.no_moment (counts_in c.args.counts.now) c.requires)

pub returns-in-Ok-clause-moment : goal.returns-in-Ok-clause-moment
returns-in-Ok-clause-moment g c =
    first_moment (counts_in c.args.counts.now) (record {
      junctions = c.has_small_counts.ensures.junctions;
      links = c.has_small_counts.ensures.links;
      tanks = c.has_small_counts.ensures.tanks;
    }) c.in-Ok.scale c.in-Ok.ensures.is_scale
    (prepend_known c.args.lines.now.source (g.D.Desk.rest c.args.desk.now))
    (prepend_known c.header.new.self.source (g.D.Desk.rest c.header.new.desk)) c.in-Ok.ensures.text
    c.read_behind_periods.result (moment_of c.read_behind_periods.new.into)
    (prepend_known c.read_behind_periods.new.lines.source (g.D.Desk.rest c.read_behind_periods.new.desk))
    c.read_behind_periods.ensures.scale c.read_behind_periods.ensures.moment

pub returns-in-Ok-clause-end : goal.returns-in-Ok-clause-end
returns-in-Ok-clause-end g c =
    first_end (counts_in c.args.counts.now) (record {
      junctions = c.has_small_counts.ensures.junctions;
      links = c.has_small_counts.ensures.links;
      tanks = c.has_small_counts.ensures.tanks;
    }) c.in-Ok.scale c.in-Ok.ensures.is_scale
    (prepend_known c.args.lines.now.source (g.D.Desk.rest c.args.desk.now))
    (prepend_known c.header.new.self.source (g.D.Desk.rest c.header.new.desk)) c.in-Ok.ensures.text
    c.read_behind_periods.result c.args.lines.now.source (g.D.Desk.rest c.args.desk.now)
    (g.D.Desk.rest c.header.new.desk) refl c.read_behind_periods.ensures.scale c.read_behind_periods.ensures.end

pub returns-in-Ok-clause-scale : goal.returns-in-Ok-clause-scale
returns-in-Ok-clause-scale g c =
    first_scale (counts_in c.args.counts.now) (record {
      junctions = c.has_small_counts.ensures.junctions;
      links = c.has_small_counts.ensures.links;
      tanks = c.has_small_counts.ensures.tanks;
    }) c.in-Ok.scale c.in-Ok.ensures.is_scale
    (prepend_known c.args.lines.now.source (g.D.Desk.rest c.args.desk.now))
    (prepend_known c.header.new.self.source (g.D.Desk.rest c.header.new.desk)) c.in-Ok.ensures.text
    c.read_behind_periods.result c.read_behind_periods.ensures.scale

pub returns-in-Ok-clause-is_moment : goal.returns-in-Ok-clause-is_moment
returns-in-Ok-clause-is_moment g c = c.read_behind_periods.ensures.is_moment (counts_in c.args.counts.now) c.requires

pub returns-in-Ok-clause-lists : goal.returns-in-Ok-clause-lists
returns-in-Ok-clause-lists g c = c.read_behind_periods.ensures.lists (counts_in c.args.counts.now) c.requires

pub returns-in-Ok-clause-line : goal.returns-in-Ok-clause-line
returns-in-Ok-clause-line g c =
    first_line c.args.lines.now.line c.header.new.self.line c.read_behind_periods.new.lines.line
    (list_lines (counts_in c.args.counts.now)) c.read_behind_periods.result c.in-Ok.ensures.line
    (c.read_behind_periods.ensures.line (counts_in c.args.counts.now) c.requires)
