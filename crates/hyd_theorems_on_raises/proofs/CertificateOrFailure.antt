-- A vector is a certificate, or it fails first somewhere.
use Rattle.std.proofs.Common.{◌≡◌, ℕ, ◌<◌, ℤ, pos, List, length, subst, arith, inl, inr, ◌⊎◌}
use Rattle.std.specs.Prelude.{Option, All}
use Rattle.std.proofs.lemmas.Option.{slice_get_within, slice_get-get_or, get_or_from_slice_get}
use Rattle.std.proofs.lemmas.List.{get_or_default}
use Rattle.hyd_spec.specs.Lists.{Each}
use Rattle.hyd_spec.specs.Assignment.{head_at}
use Rattle.hyd_spec_certificates.specs.declared.Problem.{Problem}
use Rattle.hyd_spec_certificates.specs.declared.Side.{Side}
use Rattle.hyd_spec_certificates.specs.declared.HeldJunction.{HeldJunction}
use Rattle.hyd_spec_certificates.specs.PeriodNetwork.{Grid}
use Rattle.hyd_spec_certificates.specs.Certificate.{IsInBox, Suits, IsCertificateHolding, FailsFirst, outside, fails}
use Rattle.hyd_theorems_on_raises.proofs.FirstItemsAndChoices.{Lacks, each-or-lacks}
use Rattle.hyd_theorems_on_raises.proofs.RaisesAndTightVector.{box-or-not, suits-or-not}

abbrev In : ℕ → ℤ → Type 0
In k h = IsInBox h

all-in : (u : List ℤ) → Each u In → All IsInBox u
all-in u each k d lt =
    subst IsInBox (get_or_default u k (pos 0) d lt) (each k (head_at u k) (slice_get-get_or u k (pos 0) lt))

module _ (held : Option HeldJunction) (grid : Grid) (problem : Problem) (side : Side) (u : List ℤ)
    (long : length u ≡ length grid.junctions) where
  first-outside : (at : Lacks In u) → FailsFirst held grid problem side u at.place
  first-outside at = outside (slice_get_within u at.place at.item at.is_item)
      (λ is. at.lacks (subst IsInBox (get_or_from_slice_get u at.place at.item (pos 0) at.is_item) is))
      (λ k lt. at.before k (head_at u k) lt
      (slice_get-get_or u k (pos 0) (let l = slice_get_within u at.place at.item at.is_item in omega (arith, lt, l))))

  first-failing : All IsInBox u → (at : Lacks (Suits held grid problem side u) grid.junctions)
      → FailsFirst held grid problem side u at.place
  first-failing all at = fails at.item all at.is_item at.lacks (λ k before lt is. at.before k before lt is)

  pub certificate-or-fails : IsCertificateHolding held grid problem side u
      ⊎ ((i : ℕ) × ((i < length grid.junctions) × FailsFirst held grid problem side u i))
  certificate-or-fails = elim (each-or-lacks In (λ k h. box-or-not h) u) [
    | inr at ↦ inr (
      at.place,
      (
        let l = slice_get_within u at.place at.item at.is_item in omega (arith, l, long),
        first-outside at,
      ),
    )
    | inl inside ↦ elim (each-or-lacks (Suits held grid problem side u)
        (λ i junction. suits-or-not held grid problem side u i junction) grid.junctions) [
          | inl suits ↦ inl (record { one_each = long; in_box = all-in u inside; passes = suits })
          | inr at ↦ inr (
            at.place,
            (
              slice_get_within grid.junctions at.place at.item at.is_item,
              first-failing
                  (all-in u inside) at,
            ),
          )
        ]
  ]
