-- Where the time of a line is known, the line has the bytes and the claim that it has in a run without open ends.
use Rattle.std.proofs.Common.{◌≡◌, ℕ, ◌+◌, refl, sym, ap, subst, ◌∙◌, arith, List, [], ◌∷◌, ◌++◌, map}
use Rattle.std.specs.Prelude.{codes}
use Rattle.std.specs.Fmt.{decimal}
use Rattle.hyd_spec.specs.ProgramTypes.{Project, LinkState}
use Rattle.hyd_spec.specs.Lists.{joined}
use Rattle.hyd_spec.specs.PeriodLength.{Period}
use Rattle.hyd_spec_certificates.specs.CertificateText.{line}
use Rattle.hyd_spec_reports.specs.ReportLine.{ReportLine, ControlLine, TimeLine, JunctionLine, ReservoirLine, TankLine}
use Rattle.hyd_spec_reports.specs.ReportLine.{LinkLine, FilledLine, EmptiedLine, ReachedLine, RuleLine}
use Rattle.hyd_spec_reports.specs.ReportLine.{line_text, report_text}
use Rattle.hyd_spec_reports.specs.Claims.{LineHolds}
use Rattle.hyd_spec_open_reports.specs.OpenReportLine.{known_line, open_line_text, open_report_text}
use Rattle.hyd_spec_open_reports.specs.ClaimsOfOpenLines.{OpenLineHolds, later_by}

pub known_bytes : (project : Project) (told : ReportLine)
    → open_line_text project (known_line told) ≡ line_text project told
known_bytes project (ControlLine time number link state) = refl
known_bytes project (TimeLine time) = refl
known_bytes project (JunctionLine j head pressure outflow) = refl
known_bytes project (ReservoirLine r head) = refl
known_bytes project (TankLine k head level inflow state) = refl
known_bytes project (LinkLine l flow status) = refl
known_bytes project (FilledLine time tank) = refl
known_bytes project (EmptiedLine time tank) = refl
known_bytes project (ReachedLine time tank control) = refl
known_bytes project (RuleLine time rule link state) = refl

all-bytes : (project : Project) (lines : List ReportLine)
    → joined (map (open_line_text project) (map known_line lines)) ≡ joined (map (line_text project) lines)
all-bytes project [] = refl
all-bytes project (told ∷ lines) =
    let here = known_bytes project told in let rest = all-bytes project lines in λ i. here i ++ rest i

pub known_report : (project : Project) (lines : List ReportLine) (last : List ℕ)
    → open_report_text project (map known_line lines) last ≡ report_text project lines last
known_report project lines last =
    let same = all-bytes project lines in
    ap (λ told. line (codes "HYD" ∷ (decimal 1 ∷ [])) ++ (told ++ last)) same

-- no second later it is the same line
pub no_later : (told : ReportLine) → later_by 0 told ≡ told
no_later (ControlLine time number link state) =
    let n : time + 0 ≡ time = omega arith in ap (λ t. ControlLine t number link state) n
no_later (TimeLine time) = refl
no_later (JunctionLine j head pressure outflow) = refl
no_later (ReservoirLine r head) = refl
no_later (TankLine k head level inflow state) = refl
no_later (LinkLine l flow status) = refl
no_later (FilledLine time tank) = let n : time + 0 ≡ time = omega arith in ap (λ t. FilledLine t tank) n
no_later (EmptiedLine time tank) = let n : time + 0 ≡ time = omega arith in ap (λ t. EmptiedLine t tank) n
no_later (ReachedLine time tank control) =
    let n : time + 0 ≡ time = omega arith in ap (λ t. ReachedLine t tank control) n
no_later (RuleLine time rule link state) = refl

module _ (project : Project) (S : ℕ) (commanded : List LinkState) (period : Period) (told : ReportLine) where
  pub claims_as_known : OpenLineHolds project S commanded period (known_line told)
      → LineHolds project S commanded period told
  claims_as_known open-claim =
      let none : open-claim.seconds ≡ 0 = (let a = open-claim.in_time in omega (arith, a)) in
      subst (λ each. LineHolds project S commanded period each)
      (ap (λ n. later_by n told) none ∙ no_later told) open-claim.holds

  pub claims_as_open : LineHolds project S commanded period told
      → OpenLineHolds project S commanded period (known_line told)
  claims_as_open holds = record {
    seconds = 0;
    in_time = omega arith;
    holds = subst (λ each. LineHolds project S commanded period each) (sym (no_later told)) holds;
  }
