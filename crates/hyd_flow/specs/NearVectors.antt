-- Vectors with a junction held that are no farther out than a certificate.
use Rattle.std.specs.Prelude.{ℕ, ◌≢◌, ◌<◌, ℤ, List, length, Some}
use Rattle.hyd_spec.specs.Assignment.{head_at}
use Rattle.hyd_spec_certificates.specs.Certificate.{IsBeyond, IsCertificateHolding}
use Rattle.hyd_spec_certificates.specs.PeriodNetwork.{Grid}
use Rattle.hyd_spec_certificates.specs.declared.HeldJunction.{HeldJunction}
use Rattle.hyd_spec_certificates.specs.declared.Problem.TheVariants.{Main}
use Rattle.hyd_spec_certificates.specs.declared.Side.{Side}

-- Junction i is held, or stands no farther out than in another vector.
abbrev pub LiesInside : HeldJunction → Side → List ℤ → List ℤ → ℕ → Type 0
LiesInside held side u own i = i ≢ held.junction → IsBeyond side (head_at u i) (head_at own i)

-- A certificate with the junction held, in which no other one stands farther out than in another vector.
pub record IsNear (held : HeldJunction) (grid : Grid) (side : Side) (own u : List ℤ) : Type 0 where
  pub is_held : IsCertificateHolding (Some held) grid Main side u
  pub inside : (i : ℕ) → i < length u → LiesInside held side u own i
