use Rattle.std.proofs.Common.{◌≡◌, All, take}
use Rattle.hyd_io.specs.DeskBytes.{prepend_known}
use Rattle.hyd_io.specs.LeftAsItWas.{KeepsOutput}
use Rattle.hyd_spec_certificates.specs.Certificate.{IsInBox}
use Rattle.hyd_cert.specs.PlacesOfLines.{head_text}
use Rattle.hyd_cert.specs.Faults.{lines_on}
use Rattle.hyd_open_certificates.proofs.lines_of_text.Lines.heads.Given as goal

-- the heads so far were read
abbrev pub invariant-loop-i : goal.invariant-loop-i
invariant-loop-i g l = record {
  text : prepend_known l.fn.self.source (g.D.Desk.rest l.fn.desk)
      ≡ prepend_known (head_text l.junctions 0 (take l.i l.into)) (prepend_known l.self.source (g.D.Desk.rest l.desk));
  in_box : All IsInBox (take l.i l.into);
  line : l.self.line ≡ lines_on l.fn.self.line l.i;
  steady : g.D.Desk.counts l.desk ≡ g.D.Desk.counts l.fn.desk;
  stays : KeepsOutput g.D.Desk.files g.D.Desk.written g.D.Desk.printed g.D.Desk.target g.D.Desk.ready g.D.Desk.counts
      g.D.Desk.openings l.fn.desk l.desk;
}
