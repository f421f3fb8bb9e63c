-- A junction held on both sides: the LOWER vector exceeds the UPPER one at no node by more than at that junction, so
-- the flow of a link from there has an interval.
use Rattle.std.proofs.Common.{◌≡◌, ℕ, ◌<◌, ℤ, pos, ◌+ℤ◌, ◌-ℤ◌, ◌≤ℤ◌, ◌<ℤ◌, sym, subst, ◌∙◌, arith, Bool, true}
use Rattle.std.proofs.Common.{◌==◌, List, [], ◌∷◌, zero, suc, length, inl, inr, refl}
use Rattle.std.specs.Prelude.{Some, slice_get, MatchBool}
use Rattle.std.specs.List.{AllByRecursion}
use Rattle.std.proofs.lemmas.Int.{ints, by_lt_z}
use Rattle.std.proofs.lemmas.Bool.{cases_eq, ne_eqb}
use Rattle.hyd_spec_certificates.specs.declared.Side.{Side}
use Rattle.hyd_spec_certificates.specs.declared.Side.TheVariants.{Upper, Lower}
use Rattle.hyd_spec_certificates.specs.declared.Problem.TheVariants.{Main}
use Rattle.hyd_spec.specs.Assignment.{head_at}
use Rattle.hyd_spec_certificates.specs.EnclosingFunctions.{low, high}
use Rattle.hyd_spec_certificates.specs.PeriodNetwork.{Grid, GridLink, GridJunction, all_heads, fixed_heads}
use Rattle.hyd_spec_certificates.specs.Certificate.{IsCertificateHolding, Passes}
use Rattle.hyd_spec_certificates.specs.RecordAndStanding.{Record, vector_on}
use Rattle.hyd_spec_flows.specs.FlowParts.{NamedLink, HasItsVector, IsHeldVector, flow_interval}
use Rattle.hyd_theorems_on_definitions.specs.SoundLawsAndGrids.{IsSteady, IsSoundLaw}
use Rattle.hyd_num.proofs.Integers.{one_times}
use Rattle.hyd_theorems_on_definitions.proofs.NetOutflowsRise.{low-rises, high-rises, IsTop, net-rises, net-ordered}
use Rattle.hyd_theorems_on_definitions.proofs.NetOutflowsRise.{outflow-rises, demand-at}
use Rattle.hyd_theorems_on_definitions.proofs.HeadsOfAllNodes.{excess, excess_after, head_front, IsGreatestBelow}
use Rattle.hyd_theorems_on_definitions.proofs.HeadsOfAllNodes.{greatest_below}
use Rattle.hyd_theorems_on_definitions.proofs.EachLaw.{IsLaw-each}
use Rattle.hyd_theorems_on_raises.proofs.SearchStarts.{main-fixed}
use Rattle.hyd_lemmas.proofs.ListsOptionsAndResults.{item_there, same_item}
use Rattle.hyd_theorems_on_flows.specs.RecordOnGrid.{IsCertified}
use Rattle.hyd_theorems_on_flows.proofs.HeldVectors.{ordered}

-- a held junction stands at its head, every other one passes
held-there : (grid : Grid) (side : Side) (a : ℕ) (g : ℤ) (w : List ℤ) (junction : GridJunction)
    → MatchBool (a == a) (head_at w a ≡ g) (Passes grid Main side w a junction) → head_at w a ≡ g
held-there grid side a g w junction suits = subst (λ (b : Bool). MatchBool b (head_at w a ≡ g)
    (Passes grid Main side w a junction)) (let e : (a == a) ≡ true = search arith in e) suits

passes-elsewhere : (grid : Grid) (side : Side) (a i : ℕ) (g : ℤ) (w : List ℤ) (junction : GridJunction) → (a ≡ i → ⊥)
    → MatchBool (a == i) (head_at w i ≡ g) (Passes grid Main side w i junction) → Passes grid Main side w i junction
passes-elsewhere grid side a i g w junction ne suits = subst (λ (b : Bool). MatchBool b (head_at w i ≡ g)
    (Passes grid Main side w i junction)) (ne_eqb a i ne) suits

module _ (grid : Grid) (steady : IsSteady grid) (a : ℕ) (g h : ℤ) (u v : List ℤ)
    (above : IsCertificateHolding (Some (record { junction = a; head = g })) grid Main Upper u)
    (below : IsCertificateHolding (Some (record { junction = a; head = h })) grid Main Lower v)
    (order : g ≤ℤ h)
    (fixed : (m : ℕ) → (head_at (fixed_heads grid Main Lower) m -ℤ head_at (fixed_heads grid Main Upper) m) ≤ℤ pos 0)
  where
    same-long : length v ≡ length u
    same-long = below.one_each ∙ sym above.one_each

    none-there : (i : ℕ) → IsGreatestBelow (excess 1 v u) (length v) i → (h -ℤ g) <ℤ excess 1 v u i → ⊥
    none-there i best more =
        let inside : i < length grid.junctions = (let l = below.one_each in let b = best.below in omega (arith, l, b)) in
        let long-u : i < length u = (let l = above.one_each in omega (arith, inside, l)) in
        let here = item_there grid.junctions i inside in
        let one = one_times (head_at u i) in
        elim (cases_eq i a) [
          | inl e ↦ absurd (let at = subst (λ (k : ℕ). slice_get grid.junctions k ≡ Some here.0) e here.1 in
              let p = held-there grid Upper a g u here.0 (above.passes a here.0 at) in
              let q = held-there grid Lower a h v here.0 (below.passes a here.0 at) in
              let more_a = subst (λ (k : ℕ). (h -ℤ g) <ℤ excess 1 v u k) e more in
              let one_a = one_times (head_at u a) in
              omega (arith, ints, p, q, more_a, one_a))
          | inr ne ↦
              let over = passes-elsewhere grid Upper a i g u here.0 (λ e. ne (sym e)) (above.passes i here.0 here.1) in
              let under = passes-elsewhere grid Lower a i h v here.0 (λ e. ne (sym e)) (below.passes i here.0 here.1) in
              let top : IsTop (all_heads grid Main Lower v) (all_heads grid Main Upper u) i = (λ m.
              let e = excess_after 1 v u (fixed_heads grid Main Lower) (fixed_heads grid Main Upper) (excess 1 v u i)
              same-long (λ k. let f = fixed k in let o = one_times (head_at (fixed_heads grid Main Upper) k) in
              omega (arith, ints, f, o, more, order)) m (λ lt. best.each m lt) in
              rw (
                head_front v (fixed_heads grid Main Lower) i best.below,
                head_front u
                    (fixed_heads grid Main Upper) i long-u,
              )
              (omega (arith, ints, e, one_times (head_at (all_heads grid Main Upper u) m), one))) in
              let flows = net-rises low high low-rises high-rises (all_heads grid Main Upper u)
              (all_heads grid Main Lower v) i top grid.links steady.sound.links in
              let net_order = net-ordered (all_heads grid Main Lower v) i grid.links steady.sound.links in
              let leaves = outflow-rises here.0 (head_at u i) (head_at v i)
              (demand-at grid.junctions i here.0 steady.demands here.1) (omega (arith, ints, more, order, one)) in
              omega (arith, ints, flows, net_order, leaves, over, under)
        ]

    pub held_in_order : (m : ℕ) → m < length v → (head_at v m -ℤ head_at u m) ≤ℤ (h -ℤ g)
    held_in_order m lt = by_lt_z (h -ℤ g) (head_at v m -ℤ head_at u m)
        (λ more. absurd (
        let (i, best) = greatest_below (excess 1 v u) (length v) (omega (arith, lt)) in
        let b = best.each m lt in
        none-there i best (omega (arith, ints, b, more, one_times (head_at u m), one_times (head_at u i)))))
        (λ le. le)

    -- the two ends of the flow of a link from there
    pub ends_in_order : (link : GridLink) → IsSoundLaw link.law → link.from ≡ a → link.from < length v
        → link.to < length v
        → low link.law (head_at u link.from -ℤ head_at u link.to)
        ≤ℤ high link.law (head_at v link.from -ℤ head_at v link.to)
    ends_in_order link sound from inside to =
        let l = IsLaw-each link.law sound in
        let long = below.one_each in
        let here = item_there grid.junctions link.from (omega (arith, inside, long)) in
        let at = subst (λ (k : ℕ). slice_get grid.junctions k ≡ Some here.0) from here.1 in
        let p = held-there grid Upper a g u here.0 (above.passes a here.0 at) in
        let q = held-there grid Lower a h v here.0 (below.passes a here.0 at) in
        let pf = subst (λ (k : ℕ). head_at u k ≡ g) (sym from) p in
        let qf = subst (λ (k : ℕ). head_at v k ≡ h) (sym from) q in
        let o = held_in_order link.to to in
        let r = l.low_rises (head_at u link.from -ℤ head_at u link.to) (head_at v link.from -ℤ head_at v link.to)
        (omega (arith, ints, pf, qf, o)) in
        let s = l.ordered (head_at v link.from -ℤ head_at v link.to) in
        omega (arith, ints, r, s)

-- ---- the interval of a named link

-- the link of a part is one
pub same_vector : (grid : Grid) (row : Record) (named : NamedLink) (link : GridLink) (side : Side)
    → slice_get grid.links named.link ≡ Some link → (has : HasItsVector grid row named side)
    → IsHeldVector grid row link side (vector_on side named.held)
same_vector grid row named link side at has =
    subst (λ (l : GridLink). IsHeldVector grid row l side
    (vector_on side named.held))
    (same_item GridLink has.0 link (sym has.1.0 ∙ at)) has.1.1

-- what holds of each item holds of that one
pub of_item : (X : Type 0) (P : X → Type 0) (xs : List X) (k : ℕ) (x : X) → AllByRecursion P xs
    → slice_get xs k ≡ Some x
    → P x
of_item X P [] k x all at = absurd (cc)
of_item X P (y ∷ xs) zero x all at = subst P (same_item X y x at) all.0
of_item X P (y ∷ xs) (suc k) x all at = of_item X P xs k x all.1 at

widened-order : (lo hi : ℤ) → lo ≤ℤ hi → (lo -ℤ pos 10) ≤ℤ (hi +ℤ pos 10)
widened-order lo hi le = omega (arith, ints, le)

pub interval_in_order : (grid : Grid) (row : Record) → IsCertified grid row → (link : GridLink) (named : NamedLink)
    → slice_get grid.links named.link ≡ Some link → link.from < length grid.junctions
    → link.to < length grid.junctions → ((side : Side) → HasItsVector grid row named side)
    → (flow_interval link named).lo ≤ℤ (flow_interval link named).hi
interval_in_order grid row is link named at from to has =
    let upper = same_vector grid row named link Upper at (has Upper) in
    let lower = same_vector grid row named link Lower at (has Lower) in
    let long = lower.one_each in
    let there = is.lower.one_each in
    let order : head_at row.main.lower link.from ≤ℤ head_at row.main.upper link.from =
    ordered grid row is Upper link.from
    (omega (arith, from, there)) in
    let sound = of_item GridLink (λ (l : GridLink). IsSoundLaw l.law) grid.links named.link link
    is.steady.sound.links at in
    widened-order _ _ (ends_in_order grid is.steady link.from (head_at row.main.lower link.from)
    (head_at row.main.upper link.from) named.held.upper named.held.lower upper lower order
    (λ m. (let f = main-fixed grid Upper Main is.tanks m in omega (arith, ints, f))) link sound refl
    (omega (arith, from, long)) (omega (arith, to, long)))
