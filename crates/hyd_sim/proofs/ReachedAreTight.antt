-- Certificates that rounds reach from what is at hand are tight.
use Rattle.std.proofs.Common.{ℕ, ℤ, List, sym, subst, inl, inr}
use Rattle.std.specs.Prelude.{None}
use Rattle.hyd_spec_certificates.specs.declared.Problem.{Problem}
use Rattle.hyd_spec_certificates.specs.declared.Side.{Side}
use Rattle.hyd_spec_certificates.specs.PeriodNetwork.{Grid}
use Rattle.hyd_spec_certificates.specs.Certificate.{IsCertificate, IsTight}
use Rattle.hyd_spec_certificates.specs.StartsRaisesAndLeaps.{IsStart}
use Rattle.hyd_theorems_on_definitions.specs.SoundLawsAndGrids.{IsSteady, TanksInOrder}
use Rattle.hyd_theorems_on_raises.proofs.SearchStarts.{start-end}
use Rattle.hyd_theorems_on_raises.proofs.RaisesAndTightVector.{start-tight}
use Rattle.hyd_period_vectors.specs.PassedOn.{AreLeapingRounds, no_round, one_round}
use Rattle.hyd_period_vectors.proofs.PassedOn.{round-start}
use Rattle.hyd_period_vectors.specs.SoughtVectors.{IsAtHand, IsReached}
use Rattle.hyd_period_vectors.proofs.StartFromOtherSide.{start-across}

module _ (grid : Grid) (steady : IsSteady grid) (order : TanksInOrder grid) (problem : Problem) (side : Side) where
  -- every certificate lies beyond what is at hand
  at-hand-start : (u : List ℤ) → IsAtHand grid problem side u → IsStart None grid problem side u
  at-hand-start u (inl end) =
      subst (λ (v : List ℤ). IsStart None grid problem side v) (sym end) (start-end None grid problem side)
  at-hand-start u (inr (before, is)) = start-across grid steady order problem side u is

  -- and beyond what rounds with leaps lead to from there
  rounds-start : (n : ℕ) (u x : List ℤ) → AreLeapingRounds None grid problem side n u x
      → IsStart None grid problem side u → IsStart None grid problem side x
  rounds-start _ u _ no_round start = start
  rounds-start _ u x (one_round {n = n} {v = v} {w = w} before raises leads near) start =
      leads.start (round-start None grid steady problem side v w raises (rounds-start n u v before start))

  pub tight-reached : (rounds : ℕ) (u : List ℤ) → IsReached IsAtHand grid problem side rounds u
      → IsCertificate grid problem side u → IsTight grid problem side u
  tight-reached rounds u reached is =
      let start = at-hand-start reached.first reached.begun in
      start-tight None grid steady problem side u
      (rounds-start reached.made reached.first u reached.by_rounds start) is.passes
