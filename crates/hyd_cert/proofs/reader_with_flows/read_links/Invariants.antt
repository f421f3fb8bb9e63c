use Rattle.std.proofs.Common.{◌≡◌, ℕ, ◌+◌, ◌*◌, All, take, map}
use Rattle.hyd_io.specs.DeskBytes.{prepend_known}
use Rattle.hyd_io.specs.LeftAsItWas.{KeepsOutput}
use Rattle.hyd_spec.specs.Lists.{joined}
use Rattle.hyd_spec_flows.specs.FlowTexts.{named_text, IsNamed}
use Rattle.hyd_cert.specs.Faults.{lines_on}
use Rattle.hyd_cert.specs.FlowPartView.{links_in}
use Rattle.hyd_cert.specs.declared.named_vectors.NamedVectors.{NamedVectors}
use Rattle.hyd_cert.proofs.reader_with_flows.read_links.Given as goal

-- the links so far were read
abbrev pub invariant-loop-i : goal.invariant-loop-i
invariant-loop-i g l = record {
  text : prepend_known l.fn.lines.source (g.D.Desk.rest l.fn.desk)
      ≡ prepend_known (joined (map named_text (links_in (take l.i l.into))))
      (prepend_known l.lines.source (g.D.Desk.rest l.desk));
  named : (n : ℕ) → All (λ (one : NamedVectors). one.junctions ≡ n) l.fn.into
      → All (IsNamed n) (links_in (take l.i l.into));
  line : (n : ℕ) → All (λ (one : NamedVectors). one.junctions ≡ n) l.fn.into
      → l.lines.line ≡ lines_on l.fn.lines.line (l.i * (1 + 2 * n));
  junctions : (n : ℕ) → All (λ (one : NamedVectors). one.junctions ≡ n) l.fn.into
      → All (λ (one : NamedVectors). one.junctions ≡ n) l.into;
  steady : g.D.Desk.counts l.desk ≡ g.D.Desk.counts l.fn.desk;
  stays : KeepsOutput g.D.Desk.files g.D.Desk.written g.D.Desk.printed g.D.Desk.target g.D.Desk.ready g.D.Desk.counts
      g.D.Desk.openings l.fn.desk l.desk;
}
