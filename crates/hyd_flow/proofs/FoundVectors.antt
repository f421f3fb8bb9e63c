-- Vectors that a search found, with a junction held.
use Rattle.std.proofs.Common.{◌≡◌, ℕ, ◌+◌, ◌<◌, ℤ, List, length, take, drop, sym, ap, subst, ◌∙◌, arith, IfSome, ◌++◌}
use Rattle.std.proofs.lemmas.Grind.{common_steps}
use Rattle.std.specs.Prelude.{Some, slice_get, slice_set}
use Rattle.std.proofs.lemmas.List.{take_all, length-drop}
use Rattle.hyd_spec.specs.Assignment.{head_at}
use Rattle.hyd_spec.specs.Law.{Shut}
use Rattle.hyd_spec_certificates.specs.declared.Problem.TheVariants.{Main}
use Rattle.hyd_spec_certificates.specs.declared.Side.{Side}
use Rattle.hyd_spec_certificates.specs.declared.Side.TheVariants.{Upper, Lower}
use Rattle.hyd_spec_certificates.specs.declared.HeldJunction.{HeldJunction}
use Rattle.hyd_spec_certificates.specs.PeriodNetwork.{Grid, GridLink, opposite}
use Rattle.hyd_spec_certificates.specs.Certificate.{IsTightHolding, AreRoundsHolding, IsCertificateHolding}
use Rattle.hyd_spec_certificates.specs.StartsRaisesAndLeaps.{IsStart}
use Rattle.hyd_spec_certificates.specs.RecordAndStanding.{Record, vector_of, vector_on}
use Rattle.hyd_spec_certificates.specs.BoxesWithHeldJunction.{held_in}
use Rattle.hyd_spec_flows.specs.FlowParts.{held_for, IsHeldVector, IsSharpVector, HasItsVector, JoinsJunctions}
use Rattle.hyd_cert.specs.VectorsOfRecord.{two_vectors}
use Rattle.std.proofs.lemmas.Option.{slice_get_within}
use Rattle.hyd_spent_rounds.specs.SpentRounds.{AreSpent}
use Rattle.hyd_flow.specs.NearVectors.{IsNear}
use Rattle.hyd_lemmas.proofs.ListsOptionsAndResults.{same_item}
use Rattle.hyd_theorems_on_raises.proofs.RaisesInAnyOrder.{one-reached}
use Rattle.hyd_theorems_on_flows.specs.RecordOnGrid.{IsCertified}
use Rattle.hyd_theorems_on_flows.proofs.HeldVectors.{held_start, held_drawn, tight_near, spent_near, both}
use Rattle.hyd_flow.proofs.LinksOfNets.{ends_are}

module _ (grid : Grid) (row : Record) (is : IsCertified grid row) (from : ℕ) (side : Side) (held : HeldJunction)
    (same : held ≡ held_in (vector_of row Main (opposite side)) from) where
  -- a link from there
  a_link : GridLink
  a_link = record { from = from; to = from; law = Shut }

  -- where the search begins
  pub start_here : (u : List ℤ) → u ≡ vector_of row Main (opposite side) → IsStart (Some held) grid Main side u
  unfolding a_link
  start_here u at =
      subst (λ (h : HeldJunction). IsStart (Some h) grid Main side u) (sym same)
      (subst (λ (v : List ℤ). IsStart (Some (held_in (vector_of row Main (opposite side)) from)) grid Main side v)
      (sym at)
      (held_start grid row is a_link side))

  -- the nearest vector
  pub held_found : (u : List ℤ) → IsTightHolding (Some held) grid Main side u → (link : GridLink) → link.from ≡ from
      → IsHeldVector grid row link side u
  held_found u tight link e =
      subst (λ (n : ℕ). IsCertificateHolding (Some (held_in (vector_of row Main (opposite side)) n)) grid Main side u)
      (sym e) (subst (λ (h : HeldJunction). IsCertificateHolding (Some h) grid Main side u) same tight.is_certificate)

  pub near_found : (rounds : ℕ) (u : List ℤ) → from < length grid.junctions
      → IsTightHolding (Some held) grid Main side u
      → (link : GridLink) → link.from ≡ from → IsSharpVector rounds grid row link side u
  near_found rounds u inside tight link e =
      tight_near grid row is link side rounds u (subst (λ (n : ℕ). n < length grid.junctions) (sym e) inside)
      (subst (λ (n : ℕ). IsTightHolding (Some (held_in (vector_of row Main (opposite side)) n)) grid Main side u)
      (sym e) (subst (λ (h : HeldJunction). IsTightHolding (Some h) grid Main side u) same tight))

  -- the record's own vector with that junction at its head
  drawn_is : (u : List ℤ) → u ≡ slice_set (vector_of row Main side) held.junction held.head → (link : GridLink)
      → link.from ≡ from → u ≡ slice_set (vector_of row Main side) link.from
      (head_at (vector_of row Main (opposite side)) link.from)
  drawn_is u put link e =
      put ∙ (ap (λ (h : HeldJunction). slice_set (vector_of row Main side) h.junction h.head) same
      ∙ ap (λ (n : ℕ). slice_set (vector_of row Main side) n (head_at (vector_of row Main (opposite side)) n)) (sym e))

  pub held_put : (u : List ℤ) → u ≡ slice_set (vector_of row Main side) held.junction held.head
      → from < length grid.junctions → (link : GridLink) → link.from ≡ from → IsHeldVector grid row link side u
  held_put u put inside link e =
      subst (IsHeldVector grid row link side) (sym (drawn_is u put link e))
      (held_drawn grid row is link side (subst (λ (n : ℕ). n < length grid.junctions) (sym e) inside))

  -- of the rounds that were made to it no vector is one with that junction held
  pub spent_sweep : (rounds : ℕ) (start v : List ℤ) → start ≡ vector_of row Main (opposite side)
      → AreRoundsHolding (Some held) grid Main side rounds start v
      → (IsCertificateHolding (Some held) grid Main side v → ⊥)
      → AreSpent held grid side rounds (vector_of row Main (opposite side))
  spent_sweep rounds start v at by_rounds none reached others holds =
      let own = vector_of row Main (opposite side) in
      let from_own = subst (λ (s : List ℤ). AreRoundsHolding (Some held) grid Main side rounds s v) at by_rounds in
      let one = one-reached (Some held) grid is.steady Main side rounds own v reached
      (both grid row is (opposite side)).one_each from_own others in
      none (subst (IsCertificateHolding (Some held) grid Main side) (sym one) holds)

  -- where the rounds are spent, so they are for each link from there
  none_reached : (rounds : ℕ) → AreSpent held grid side rounds (vector_of row Main (opposite side))
      → (link : GridLink) → link.from ≡ from → (reached : List ℤ)
      → AreRoundsHolding (Some (held_for row link side)) grid Main side rounds
      (vector_of row Main (opposite side)) reached → IsHeldVector grid row link side reached → ⊥
  none_reached rounds spent link e reached others holds =
      let own = vector_of row Main (opposite side) in
      let here : held ≡ held_for row link side = same ∙ ap (held_in own) (sym e) in
      spent reached
      (subst (λ (h : HeldJunction). AreRoundsHolding (Some h) grid Main side rounds own reached) (sym here) others)
      (subst (λ (h : HeldJunction). IsCertificateHolding (Some h) grid Main side reached) (sym here) holds)

  pub near_put : (rounds : ℕ) (u : List ℤ) → u ≡ slice_set (vector_of row Main side) held.junction held.head
      → AreSpent held grid side rounds (vector_of row Main (opposite side))
      → (link : GridLink) → link.from ≡ from → IsSharpVector rounds grid row link side u
  near_put rounds u put spent link e =
      subst (IsSharpVector rounds grid row link side) (sym (drawn_is u put link e))
      (spent_near grid row is link side rounds (none_reached rounds spent link e))

  -- a vector no farther out than the record's own
  pub held_near : (u : List ℤ) → IsNear held grid side (vector_of row Main side) u → (link : GridLink)
      → link.from ≡ from → IsHeldVector grid row link side u
  held_near u near link e =
      subst (λ (n : ℕ). IsCertificateHolding (Some (held_in (vector_of row Main (opposite side)) n)) grid Main side u)
      (sym e) (subst (λ (h : HeldJunction). IsCertificateHolding (Some h) grid Main side u) same near.is_held)

  pub near_spent : (rounds : ℕ) (u : List ℤ) → IsNear held grid side (vector_of row Main side) u
      → AreSpent held grid side rounds (vector_of row Main (opposite side))
      → (link : GridLink) → link.from ≡ from → IsSharpVector rounds grid row link side u
  near_spent rounds u near spent link e = record {
    least = λ reached others holds. absurd (none_reached rounds spent link e reached others holds);
    inside = λ i junction at apart. near.inside i
        (let a = slice_get_within grid.junctions i junction at in let b = near.is_held.one_each in
        omega (arith, a, b))
        (λ k. apart (k ∙ (ap (λ (h : HeldJunction). h.junction) same ∙ sym e)));
  }

  -- there is a vector
  pub none_put : from < length grid.junctions → ((w : List ℤ) → IsCertificateHolding (Some held) grid Main side w → ⊥)
      → ⊥
  unfolding a_link
  none_put inside none =
      let u = slice_set (vector_of row Main side) from (head_at (vector_of row Main (opposite side)) from) in
      none u (subst (λ (h : HeldJunction). IsCertificateHolding (Some h) grid Main side u) (sym same)
      (held_drawn grid row is a_link side inside))

-- ---- both vectors of a link

pub take_front : (n : ℕ) (us ws : List ℤ) → length us ≡ n → take n (us ++ ws) ≡ us
take_front n us ws e = ap (λ k. take k (us ++ ws)) (sym e) ∙ grind (arith, common_steps)

pub drop_front : (n : ℕ) (us ws : List ℤ) → length us ≡ n → drop n (us ++ ws) ≡ ws
drop_front n us ws e = ap (λ k. drop k (us ++ ws)) (sym e) ∙ grind (arith, common_steps)

module _ (grid : Grid) (row : Record) (n number from to : ℕ) (heads whole : List ℤ) (same : whole ≡ heads)
    (long : length heads ≡ n + n) (joins : JoinsJunctions grid number)
    (told : IfSome (slice_get grid.links number) (λ (l : GridLink). (l.from ≡ from) × (l.to ≡ to))) where
  upper_is : take n whole ≡ take n heads
  upper_is = ap (take n) same

  lower_is : take n (drop n whole) ≡ drop n heads
  lower_is = ap (λ us. take n (drop n us)) same ∙ take_all n (drop n heads) (let e = length-drop n heads in
      omega (arith, e, long))

  pub has_both : ((link : GridLink) → link.from ≡ from → IsHeldVector grid row link Upper (take n heads))
      → ((link : GridLink) → link.from ≡ from → IsHeldVector grid row link Lower (drop n heads)) → (side : Side)
      → HasItsVector grid row (record { link = number; held = two_vectors n whole }) side
  has_both upper lower Upper = (
    joins.0,
    (
      joins.1.0,
      subst (IsHeldVector grid row joins.0 Upper) (sym upper_is)
          (upper joins.0 (ends_are grid number from to joins told).0),
    ),
  )
  has_both upper lower Lower = (
    joins.0,
    (
      joins.1.0,
      subst (IsHeldVector grid row joins.0 Lower) (sym lower_is)
          (lower joins.0 (ends_are grid number from to joins told).0),
    ),
  )

  pub near_both : (rounds : ℕ)
      → ((link : GridLink) → link.from ≡ from → IsSharpVector rounds grid row link Upper (take n heads))
      → ((link : GridLink) → link.from ≡ from → IsSharpVector rounds grid row link Lower (drop n heads))
      → (link : GridLink) (side : Side) → slice_get grid.links number ≡ Some link
      → IsSharpVector rounds grid row link side (vector_on side (two_vectors n whole))
  near_both rounds upper lower link Upper at = subst (IsSharpVector rounds grid row link Upper) (sym upper_is)
      (upper link (subst (λ (l : GridLink). l.from ≡ from) (same_item GridLink joins.0 link (sym joins.1.0 ∙ at))
      (ends_are grid number from to joins told).0))
  near_both rounds upper lower link Lower at = subst (IsSharpVector rounds grid row link Lower) (sym lower_is)
      (lower link (subst (λ (l : GridLink). l.from ≡ from) (same_item GridLink joins.0 link (sym joins.1.0 ∙ at))
      (ends_are grid number from to joins told).0))
