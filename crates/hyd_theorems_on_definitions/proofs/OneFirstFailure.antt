-- A vector that isn't a certificate fails first at one junction.
use Rattle.std.proofs.Common.{◌≡◌, ℕ, ◌<◌, ℤ, pos, List, arith, inl, inr}
use Rattle.std.specs.Prelude.{Option}
use Rattle.std.proofs.lemmas.Bool.{cases_lt}
use Rattle.hyd_spec_certificates.specs.declared.Problem.{Problem}
use Rattle.hyd_spec_certificates.specs.declared.Side.{Side}
use Rattle.hyd_spec_certificates.specs.declared.HeldJunction.{HeldJunction}
use Rattle.hyd_spec_certificates.specs.PeriodNetwork.{Grid}
use Rattle.hyd_spec_certificates.specs.Certificate.{IsCertificateHolding, FailsFirst, outside, fails}

module _ (held : Option HeldJunction) (grid : Grid) (problem : Problem) (side : Side) (u : List ℤ) where
  pub fails-no-certificate : (i : ℕ) → FailsFirst held grid problem side u i
      → IsCertificateHolding held grid problem side u → ⊥
  fails-no-certificate _ (outside {i = i} lt out before) is = out (is.in_box i (pos 0) lt)
  fails-no-certificate _ (fails {i = i} junction all at missed before) is = missed (is.passes i junction at)

  -- it fails first at one junction
  none-earlier : (i j : ℕ) → i < j → FailsFirst held grid problem side u i → FailsFirst held grid problem side u j → ⊥
  none-earlier _ _ less (outside out-in out before) (outside {i = j} lt other earlier) = out (earlier _ less)
  none-earlier _ _ less (outside {i = i} lt out before) (fails junction all at missed earlier) = out (all i (pos 0) lt)
  none-earlier _ _ less (fails {i = i} junction all at missed before) (outside {i = j} lt out earlier) = out
      (all j (pos 0) lt)
  none-earlier _ _ less (fails {i = i} junction all at missed before) (fails here every is other earlier) = missed
      (earlier i junction less at)

  pub one-failure : (i j : ℕ) → FailsFirst held grid problem side u i → FailsFirst held grid problem side u j → i ≡ j
  one-failure i j a b = elim (cases_lt i j) [
    | inl less ↦ absurd (none-earlier i j less a b)
    | inr ge ↦ elim (cases_lt j i) [
      | inl less ↦ absurd (none-earlier j i less b a)
      | inr le ↦ omega (arith, ge, le)
    ]
  ]
