-- One turn of a check after another.
use Rattle.std.proofs.Common.{◌≡◌, sym, subst, Option, Some, None, Ok}
use Rattle.hyd_net.specs.Sound.{IsSound}
use Rattle.hyd_spec.specs.ProgramTypes.{Project}
use Rattle.hyd_cert.specs.ReaderView.{IsGoing}
use Rattle.hyd_cert.specs.declared.answers_of_reader.Stand.{Stand}
use Rattle.hyd_sim.specs.RunView.{SimView, standing_of}
use Rattle.hyd_cert_check.specs.ReaderAndPen.{CheckMoment}
use Rattle.hyd_cert_check.specs.RecordByRecord.{CanGoOn, DidRecord, IsOver, IsLost, in_reading, in_report, IsSoFar}
use Rattle.hyd_cert_check.specs.RecordByRecord.{IsSo, AllRead, IsCutShort, TryGives, TurnGives, conclusion_line}
use Rattle.hyd_cert_check.specs.declared.outcome.CheckFault.{CheckFault}
use Rattle.hyd_cert_check.specs.declared.outcome.Conclusion.{Conclusion}
use Rattle.hyd_cert_check.proofs.WholeCheckLemmas.{so-far-more, so-far-cut-off, record-cut-off}

-- the reader goes on behind a record
pub goes-on : (before now : SimView) (m n : CheckMoment) → DidRecord before now m n → CanGoOn n
goes-on before now m n did = record {
  going = subst (λ (s : Stand). IsGoing s) (sym did.read.stands) tt;
  pen = did.put.open_still;
}

pub turn-more : (project : Project) (before now : SimView) (start m n : CheckMoment) → now.project ≡ project
    → IsSound project → DidRecord before now m n → IsSoFar project (standing_of before) start m
    → IsSoFar project (standing_of now) start n
turn-more project before now start m n p sound did =
    subst (λ (q : Project). IsSound q → IsSoFar q (standing_of before) start m → IsSoFar q (standing_of now) start n) p
    (λ s so_far. so-far-more now.project s (standing_of before) (standing_of now) start m n did.naming did.step did.part
    did.read so_far did.put) sound

pub turn-over : (project : Project) (conclusion : Conclusion) (before now : SimView) (start m n : CheckMoment)
    → now.project ≡ project → IsOver conclusion before now m n → IsSoFar project (standing_of before) start m
    → AllRead conclusion project (standing_of now).number start n
turn-over project conclusion before now start m n p over so_far = record {
  at_last = m;
  left = standing_of before;
  so_far = so_far;
  is_so = subst (λ (q : Project). IsSo conclusion q (standing_of before) m n) p over.is_so;
  last = subst (λ (q : Project). conclusion_line q (standing_of now).number conclusion
      ≡ conclusion_line q (standing_of before).number conclusion) p over.last;
  put = over.put;
}

pub turn-lost : (project : Project) (fault : CheckFault) (before now : SimView) (start m n : CheckMoment)
    → now.project ≡ project → IsSound project → IsLost fault before now m n
    → IsSoFar project (standing_of before) start m → IsCutShort project fault start n
turn-lost project fault before now start m n p sound (in_reading cut_off) so_far =
    so-far-cut-off project fault (standing_of before) start m n sound cut_off so_far
turn-lost project fault before now start m n p sound (in_report lost) so_far =
    subst (λ (q : Project). IsSound q → IsSoFar q (standing_of before) start m → IsCutShort q fault start n) p
    (λ s far. record-cut-off now.project s (standing_of before) (standing_of now) start m n lost.naming lost.step
    lost.part lost.read far fault lost.cut_off) sound so_far

-- what a record that was read gives is what the turn gives
pub turn-of : (answer : Option Conclusion) (before now : SimView) (m n : CheckMoment)
    → TryGives (Ok answer) before now m n → TurnGives (Ok answer) before now m n
turn-of None before now m n gives = gives
turn-of (Some conclusion) before now m n gives = gives
