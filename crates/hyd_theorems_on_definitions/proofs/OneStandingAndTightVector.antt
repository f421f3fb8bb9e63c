-- A record leads on to one standing, and a grid has one tight vector of a problem and side.
use Rattle.std.proofs.Common.{◌≡◌, ℕ, zero, suc, ◌<◌, ℤ, List, [], ◌∷◌, length, refl, sym, subst, ◌∙◌, arith}
use Rattle.std.specs.Prelude.{Some, slice_get}
use Rattle.std.proofs.lemmas.Int.{ints}
use Rattle.hyd_spec.specs.ProgramTypes.{Project, LinkState}
use Rattle.hyd_spec_certificates.specs.declared.Problem.{Problem}
use Rattle.hyd_spec_certificates.specs.declared.Side.{Side}
use Rattle.hyd_spec_certificates.specs.declared.Side.TheVariants.{Upper, Lower}
use Rattle.hyd_spec_certificates.specs.Interval.{Interval}
use Rattle.hyd_spec.specs.Assignment.{head_at}
use Rattle.hyd_spec_certificates.specs.PeriodNetwork.{Grid, GridJunction}
use Rattle.hyd_spec_certificates.specs.Certificate.{IsBeyond, IsTight}
use Rattle.hyd_spec_certificates.specs.RecordAndStanding.{Record, Standing}
use Rattle.hyd_spec_certificates.specs.Decided.{ByRules, WithoutRules}
use Rattle.hyd_spec_certificates.specs.Valid.{LeavesLinks, by_rules, by_clock, AreStates, LeadsOn, continues, finishes}
use Rattle.hyd_theorems_on_definitions.proofs.OneEndOfPeriod.{one_end}
use Rattle.hyd_lemmas.proofs.ListsOptionsAndResults.{somes_same}

-- ---- standings

module _ (project : Project) (grid : Grid) (standing : Standing) (row : Record) where
  one_command : (n : ℕ) (a b : List LinkState) → LeavesLinks project grid standing row n a
      → LeavesLinks project grid standing row n b → a ≡ b
  one_command n _ _ (by_rules e) (by_rules f) = refl
  one_command n _ _ (by_rules e) (by_clock f) = absurd (let same = one_end project grid standing row (ByRules n)
      (WithoutRules n) e f in cc)
  one_command n _ _ (by_clock e) (by_rules f) = absurd (let same = one_end project grid standing row (ByRules n)
      (WithoutRules n) f e in cc)
  one_command n _ _ (by_clock e) (by_clock f) = refl

  pub one_standing : (a b : Standing) → LeadsOn project grid standing row a → LeadsOn project grid standing row b
      → a ≡ b
  one_standing a b (continues c) (continues d) =
      let commanded = one_command row.length a.commanded b.commanded c.leaves_links d.leaves_links in
      let levels = c.levels ∙ sym d.levels in
      let volumes = c.volumes ∙ sym d.volumes in
      let tanks = somes_same a.tanks b.tanks (sym c.tanks
      ∙ subst (λ (ls : List Interval). AreStates project ls b.tanks) (sym levels) d.tanks) in
      let number = c.number ∙ sym d.number in
      let time = c.time ∙ sym d.time in
      let finished = c.unfinished ∙ sym d.unfinished in
      λ i. record {
        number = number i;
        time = time i;
        levels = levels i;
        volumes = volumes i;
        tanks = tanks i;
        commanded = commanded i;
        finished = finished i;
      }
  one_standing a b (continues c) (finishes f) = absurd (c.not_last f.is_last)
  one_standing a b (finishes f) (continues c) = absurd (c.not_last f.is_last)
  one_standing a b (finishes f) (finishes g) = f.next_is ∙ sym g.next_is

-- ---- vectors

same_heads : (u v : List ℤ) → length u ≡ length v → ((j : ℕ) → j < length u → head_at u j ≡ head_at v j) → u ≡ v
same_heads [] [] e each = refl
same_heads [] (y ∷ v) e each = absurd (omega (arith, e))
same_heads (x ∷ u) [] e each = absurd (omega (arith, e))
same_heads (x ∷ u) (y ∷ v) e each =
    let first : x ≡ y = each 0 (omega arith) in
    let rest = same_heads u v (omega (arith, e)) (λ j le. each (suc j) (omega (arith, le))) in
    cc

pub record IsThere (X : Type 0) (xs : List X) (j : ℕ) : Type 0 where
  pub item : X
  pub is_item : slice_get xs j ≡ Some item

pub there : (X : Type 0) (xs : List X) (j : ℕ) → j < length xs → IsThere X xs j
there X [] j le = absurd (omega (arith, le))
there X (x ∷ xs) zero le = record { item = x; is_item = refl }
there X (x ∷ xs) (suc j) le = let t = there X xs j (omega (arith, le)) in record { item = t.item; is_item = t.is_item }

both_beyond : (side : Side) (x y : ℤ) → IsBeyond side x y → IsBeyond side y x → x ≡ y
both_beyond Upper x y l m = omega (arith, ints, l, m)
both_beyond Lower x y l m = omega (arith, ints, l, m)

pub one_vector : (grid : Grid) (problem : Problem) (side : Side) (u v : List ℤ) → IsTight grid problem side u
    → IsTight grid problem side v → u ≡ v
one_vector grid problem side u v a b =
    let own = a.is_certificate.one_each in
    let other = b.is_certificate.one_each in
    same_heads u v (own ∙ sym other) (λ j le.
    let t = there GridJunction grid.junctions j (omega (arith, own, le)) in
    both_beyond side (head_at u j) (head_at v j) (a.nearest v b.is_certificate j t.item t.is_item)
    (b.nearest u a.is_certificate j t.item t.is_item))
