-- The line that a reader names: where the next one can't stand, and behind lines that were read.
use Rattle.std.proofs.Common.{◌≡◌, ◌≢◌, ℕ, ◌+◌, Option, Some, None, IfSome, List, ◌++◌, sym, ap, subst, ◌∙◌}
use Rattle.std.proofs.Common.{arith}
use Rattle.hyd_io.specs.DeskBytes.{prepend_known}
use Rattle.hyd_io.specs.DeskCounts.{with_read_fault}
use Rattle.hyd_io.specs.declared.desk.Faults.{Faults}
use Rattle.hyd_cert.specs.Lines.{Header}
use Rattle.hyd_cert.specs.PlacesOfLines.{Lacks}
use Rattle.hyd_cert.specs.Faults.{lines_on, IsLineFault}
use Rattle.hyd_cert.specs.declared.answers_of_reader.Stand.{Stand}
use Rattle.hyd_cert.specs.declared.answers_of_reader.Stand.TheVariants.{First}
use Rattle.hyd_cert.specs.declared.answers_of_reader.CertFault.{CertFault}
use Rattle.hyd_cert.specs.declared.answers_of_reader.CertFault.TheVariants.{Read, Grammar, Count}
use Rattle.hyd_open_certificates.specs.OpenFaults.{IsWrongLine, IsOpenFault, IsOpenTextFault}

module _ (IsWrong : List ℕ → ℕ → Type 0) where
  -- the next line can't stand there
  pub wrong_here : (IsSuch : List ℕ → Type 0) (line : ℕ) (text : Option (List ℕ)) (before now : Faults)
      (fault : CertFault) → ((t : List ℕ) → Lacks IsSuch (Some t) → IsWrong t 1)
      → IsLineFault IsSuch line text before now fault → IsWrongLine IsWrong line text before now fault
  wrong_here IsSuch line text before now Read wrong h = h
  wrong_here IsSuch line text before now (Count number) wrong h = h
  wrong_here IsSuch line None before now (Grammar number) wrong h = (1, (h.0, tt, h.2))
  wrong_here IsSuch line (Some t) before now (Grammar number) wrong h = (1, (h.0, wrong t h.1, h.2))

  module _ (IsWrongToo : List ℕ → ℕ → Type 0) where
    -- a line behind some others
    pub wrong_behind : (a : List ℕ) (m line0 line : ℕ) (first rest : Option (List ℕ)) (before counts now : Faults)
        (fault : CertFault) → first ≡ prepend_known a rest → line ≡ lines_on line0 m → counts ≡ before
        → ((t : List ℕ) (number : ℕ) → IsWrong t number → IsWrongToo (a ++ t) (m + number))
        → IsWrongLine IsWrong line rest counts now fault → IsWrongLine IsWrongToo line0 first before now fault
    wrong_behind a m line0 line first rest before counts now Read text at same wrong h = h ∙ ap with_read_fault same
    wrong_behind a m line0 line first rest before counts now (Count number) text at same wrong h = h
    wrong_behind a m line0 line first None before counts now (Grammar number) text at same wrong h = (
      m + h.0,
      (
        let far = h.1.0 in omega (arith, far, at),
        subst (λ (t : Option (List ℕ)). IfSome t (λ told. IsWrongToo told (m + h.0))) (sym text) tt,
        h.1.2 ∙ same,
      ),
    )
    wrong_behind a m line0 line first (Some t) before counts now (Grammar number) text at same wrong h = (
      m + h.0,
      (
        let far = h.1.0 in omega (arith, far, at),
        subst (λ (t : Option (List ℕ)). IfSome t (λ told. IsWrongToo told (m + h.0))) (sym text)
            (wrong t h.0 h.1.1),
        h.1.2 ∙ same,
      ),
    )

-- such a line is a fault of the text, and one of a text that goes on with a record is such a line
pub as_fault : (header : Header) (at : Stand) (line : ℕ) (text : Option (List ℕ)) (before now : Faults)
    (fault : CertFault) → IsWrongLine (IsOpenFault header at) line text before now fault
    → IsOpenTextFault header at line text before now fault
as_fault header at line text before now Read h = h
as_fault header at line text before now (Grammar number) h = h
as_fault header at line text before now (Count number) h = absurd h

pub as_line : (header : Header) (at : Stand) (line : ℕ) (text : Option (List ℕ)) (before now : Faults)
    (fault : CertFault) → (at ≢ First) → IsOpenTextFault header at line text before now fault
    → IsWrongLine (IsOpenFault header at) line text before now fault
as_line header at line text before now Read apart h = h
as_line header at line text before now (Grammar number) apart h = h
as_line header at line text before now (Count number) apart h = apart h.0
