-- The flows of link ends, each of which is a share of what flows out of its node.
use Rattle.std.proofs.Common.{◌≡◌, ℕ, zero, suc, ◌<◌, ℤ, neg_ℤ, ◌-ℤ◌, refl, ap, ◌∙◌, arith, true, false, List, [], ◌∷◌}
use Rattle.std.proofs.Common.{length}
use Rattle.std.specs.Prelude.{slice_get, Some}
use Rattle.std.specs.Option.{IfSome}
use Rattle.hyd_spec.specs.Law.{Law}
use Rattle.hyd_spec.specs.Assignment.{head_at}
use Rattle.hyd_spec_certificates.specs.PeriodNetwork.{GridLink}
use Rattle.hyd_period_network.specs.PassedOn.{LinkLaw}
use Rattle.hyd_period_network.specs.declared.junctions_ends_and_settings.Tie.{Tie}
use Rattle.hyd_period_network.specs.LawsInSettings.{Stands}
use Rattle.hyd_period_network.specs.LinkEnds.{tie_share}

-- the link that a law stands for
pub record StandsFor (links : List GridLink) (k : ℕ) (law : LinkLaw) : Type 0 where
  pub link : GridLink
  pub is_link : slice_get links k ≡ Some link
  pub stands : Stands law link.law

pub stands-for : (links : List GridLink) (k : ℕ) (law : LinkLaw) → k < length links
    → IfSome (slice_get links k) (λ (l : GridLink). Stands law l.law) → StandsFor links k law
stands-for [] k law lt is = absurd (omega (arith, lt))
stands-for (x ∷ links) zero law lt is = record { link = x; is_link = refl; stands = is }
stands-for (x ∷ links) (suc k) law lt is =
    let r = stands-for links k law (omega (arith, lt)) is in
    record { link = r.link; is_link = r.is_link; stands = r.stands }

pub out-share : (out into : Law → ℤ → ℤ) (links : List GridLink) (heads : List ℤ) (here there d q : ℤ) (tie : Tie)
    (law : LinkLaw)
    (stands : StandsFor links tie.link law) → tie.out ≡ true → there ≡ head_at heads tie.other → d ≡ here -ℤ there
    → q ≡ out stands.link.law d → q ≡ tie_share out into links heads here tie
out-share out into links heads here there d q tie law stands is-out there-is d-is value =
    rw (stands.is_link, is-out) (value ∙ ap (out stands.link.law) (d-is ∙ ap (λ (x : ℤ). here -ℤ x) there-is))

pub in-share : (out into : Law → ℤ → ℤ) (links : List GridLink) (heads : List ℤ) (here there d q : ℤ) (tie : Tie)
    (law : LinkLaw)
    (stands : StandsFor links tie.link law) → tie.out ≡ false → there ≡ head_at heads tie.other → d ≡ there -ℤ here
    → q ≡ into stands.link.law d → neg_ℤ q ≡ tie_share out into links heads here tie
in-share out into links heads here there d q tie law stands is-in there-is d-is value =
    rw (stands.is_link, is-in) (ap neg_ℤ (value ∙ ap (into stands.link.law)
    (d-is ∙ ap (λ (x : ℤ). x -ℤ here) there-is)))
