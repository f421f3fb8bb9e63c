-- When two points of volume curves are one.
use Rattle.std.proofs.Common.{◌≡◌, ℤ, ap, ap₂}
use Rattle.std.specs.Prelude.{◌&&◌}
use Rattle.std.specs.Bool.{Decides}
use Rattle.std.specs.Ordering.{int_eq}
use Rattle.std.proofs.lemmas.Bool.Decides.{Decides-and, Decides-like, Decides-int_eq}
use Rattle.hyd_net.specs.declared.curves.VolumePoint.{VolumePoint}

abbrev point : ℤ → ℤ → VolumePoint
point level volume = record { level = level; volume = volume }

pub points_Decides : (a b : VolumePoint) → Decides (int_eq a.level b.level && int_eq a.volume b.volume) (a ≡ b)
points_Decides a b =
    Decides-like (int_eq a.level b.level && int_eq a.volume b.volume)
    (λ (e : (a.level ≡ b.level) × (a.volume ≡ b.volume)). ap₂ point e.0 e.1)
    (λ (e : a ≡ b). (ap (λ (p : VolumePoint). p.level) e, ap (λ (p : VolumePoint). p.volume) e))
    (Decides-and (int_eq a.level b.level) (int_eq a.volume b.volume) (Decides-int_eq a.level b.level)
    (Decides-int_eq a.volume b.volume))
