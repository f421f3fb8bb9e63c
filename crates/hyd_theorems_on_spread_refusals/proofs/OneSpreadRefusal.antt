-- A record is refused by one cause in a check for a spread, and one that is refused isn't valid for it.
use Rattle.std.proofs.Common.{◌≡◌, ℕ, sym, ap, subst, ◌∙◌, arith, inl, inr, true, false}
use Rattle.std.specs.Prelude.{None}
use Rattle.std.proofs.lemmas.Bool.{cases_lt}
use Rattle.hyd_spec.specs.ProgramTypes.{Project}
use Rattle.hyd_spec_certificates.specs.declared.Problem.{Problem}
use Rattle.hyd_spec_certificates.specs.declared.Side.{Side}
use Rattle.hyd_spec_certificates.specs.declared.CertRefused.{CertRefused}
use Rattle.hyd_spec_certificates.specs.declared.CertRefused.TheVariants.{Place, Demand, Fails, Open as MatterOpen}
use Rattle.hyd_spec_certificates.specs.declared.CertRefused.TheVariants.{Length, After}
use Rattle.hyd_spec_certificates.specs.Certificate.{IsCertificate}
use Rattle.hyd_spec_certificates.specs.RecordAndStanding.{Record, vector_of}
use Rattle.hyd_spec_certificates.specs.TurnsOfProblems.{turn}
use Rattle.hyd_spec_certificates.specs.RefusedRecords.{refused_period}
use Rattle.hyd_spec_open_ends.specs.OpenStandings.{OpenStanding, OpenRecord}
use Rattle.hyd_spec_open_spreads.specs.OpenRunsForSpreads.{spanning_openly, IsValidOpenlyOver}
use Rattle.hyd_spec_spread.specs.Spreads.{Spread}
use Rattle.hyd_spec_spread_refusals.specs.RefusedSpreadRecords.{IsFirstToFailOver, LeavesMatterOpenOver}
use Rattle.hyd_spec_spread_refusals.specs.RefusedSpreadRecords.{HasOtherLengthsOver, HasItsPair, IsCertifiedOver}
use Rattle.hyd_spec_spread_refusals.specs.RefusedSpreadRecords.{IsRefusedOverBy, IsRefusedOver}
use Rattle.hyd_spec_spread_runs.specs.OutermostPairs.{Pair, grid_on, spanned}
use Rattle.hyd_theorems_on_definitions.proofs.OneFirstFailure.{fails-no-certificate, one-failure}
use Rattle.hyd_theorems_on_open_refusals.proofs.OneOpenRefusal.{same-turn, closed, same-lengths}
use Rattle.hyd_theorems_on_spread_refusals.proofs.OneOutermostGrid.{one_pair}

-- ---- vectors

module _ (project : Project) (pair : Pair) (row : Record) where
  first-fails : (p : Problem) (s : Side) (i : ℕ) → IsFirstToFailOver project pair row p s i
      → IsCertificate (grid_on s pair) p s (vector_of row p s) → ⊥
  first-fails p s i first is = fails-no-certificate None (grid_on s pair) p s (vector_of row p s) i first.fails is

  one-to-fail : (p q : Problem) (s t : Side) (i j : ℕ) → IsFirstToFailOver project pair row p s i
      → IsFirstToFailOver project pair row q t j → (p ≡ q) × ((s ≡ t) × (i ≡ j))
  one-to-fail p q s t i j a b = elim (cases_lt (turn p s) (turn q t)) [
    | inl less ↦ absurd (first-fails p s i a (b.earlier p s a.is_problem less))
    | inr ge ↦ elim (cases_lt (turn q t) (turn p s)) [
      | inl less ↦ absurd (first-fails q t j b (a.earlier q t b.is_problem less))
      | inr le ↦
          let same = same-turn p q s t (omega (arith, ge, le)) in
          let other : IsFirstToFailOver project pair row p s j =
          subst (λ (r : Problem). IsFirstToFailOver project pair row r s j) (sym same.0)
          (subst (λ (r : Side). IsFirstToFailOver project pair row q r j) (sym same.1) b) in (
            same.0,
            (same.1, one-failure None (grid_on s pair) p s (vector_of row p s) i j a.fails other.fails),
          )
    ]
  ]

-- ---- refusals

module _ (project : Project) (spread : Spread) (standing : OpenStanding) (found : OpenRecord) where
  invalid-by : (cause : CertRefused) → IsRefusedOverBy project spread standing found cause → (pair : Pair)
      (next : OpenStanding) → IsValidOpenlyOver project spread standing pair found next → ⊥
  invalid-by (After period) over pair next valid = absurd (let unfinished = valid.unfinished in cc)
  invalid-by (Place period) is pair next valid =
      is.1 (record { number = valid.number; time = valid.time; late = valid.late })
  invalid-by (Demand period) is pair next valid = is.1 valid.demands
  invalid-by (Fails period problem side junction) is pair next valid =
      let same = one_pair project spread standing.known is.0 pair is.1.0.are_pair valid.are_pair in
      let first = subst (λ (p : Pair). IsFirstToFailOver project p found.row problem side junction) same is.1.1 in
      first-fails project pair found.row problem side junction first
      (valid.certificates.each problem side first.is_problem)
  invalid-by (MatterOpen period) is pair next valid =
      let same = one_pair project spread standing.known is.0 pair is.1.0.has_pair.are_pair valid.are_pair in
      closed project (spanned pair) standing (spanning_openly pair found) next valid.leads_on
      (subst (λ (p : Pair). LeavesMatterOpenOver project p standing found) same is.1.1)
  invalid-by (Length period) is pair next valid =
      let same = one_pair project spread standing.known is.0 pair is.1.0.has_pair.are_pair valid.are_pair in
      same-lengths project (spanned pair) standing (spanning_openly pair found) next valid.leads_on
      (subst (λ (p : Pair). HasOtherLengthsOver project p standing found) same is.1.1.1)

  pub refused_invalid : (cause : CertRefused) → IsRefusedOver project spread standing found cause → (pair : Pair)
      (next : OpenStanding) → IsValidOpenlyOver project spread standing pair found next → ⊥
  refused_invalid cause refused = invalid-by cause refused.refused_by

  -- ---- of two causes the earlier in the order keeps the later out

  overlong : standing.known.finished ≡ true → standing.known.finished ≡ false → ⊥
  overlong over under = absurd (cc)

  uncertified : (a : Pair) (p : Problem) (s : Side) (i : ℕ) (b : Pair) → HasItsPair project spread standing a found
      → IsFirstToFailOver project a found.row p s i → IsCertifiedOver project spread standing b found → ⊥
  uncertified a p s i b has first certified =
      let same = one_pair project spread standing.known a b has.are_pair certified.has_pair.are_pair in
      let there = subst (λ (q : Pair). IsFirstToFailOver project q found.row p s i) same first in
      first-fails project b found.row p s i there (certified.certificates.each p s there.is_problem)

  unmatched : (a b : Pair) → IsCertifiedOver project spread standing a found
      → LeavesMatterOpenOver project a standing found → IsCertifiedOver project spread standing b found
      → (LeavesMatterOpenOver project b standing found → ⊥) → ⊥
  unmatched a b one left_open other shut =
      let same = one_pair project spread standing.known a b one.has_pair.are_pair other.has_pair.are_pair in
      shut (subst (λ (q : Pair). LeavesMatterOpenOver project q standing found) same left_open)

  one-by : (a b : CertRefused) → refused_period a ≡ refused_period b → IsRefusedOverBy project spread standing found a
      → IsRefusedOverBy project spread standing found b → a ≡ b
  one-by (After p) (After q) e x y = ap After e
  one-by (After p) (Place q) e x y = absurd (overlong x y.0)
  one-by (After p) (Demand q) e x y = absurd (overlong x y.0.unfinished)
  one-by (After p) (Fails q r s j) e x y = absurd (overlong x y.1.0.in_place.unfinished)
  one-by (After p) (MatterOpen q) e x y = absurd (overlong x y.1.0.has_pair.in_place.unfinished)
  one-by (After p) (Length q) e x y = absurd (overlong x y.1.0.has_pair.in_place.unfinished)
  one-by (Place p) (After q) e x y = absurd (overlong y x.0)
  one-by (Place p) (Place q) e x y = ap Place e
  one-by (Place p) (Demand q) e x y = absurd (x.1 y.0.due)
  one-by (Place p) (Fails q r s j) e x y = absurd (x.1 y.1.0.in_place.due)
  one-by (Place p) (MatterOpen q) e x y = absurd (x.1 y.1.0.has_pair.in_place.due)
  one-by (Place p) (Length q) e x y = absurd (x.1 y.1.0.has_pair.in_place.due)
  one-by (Demand p) (After q) e x y = absurd (overlong y x.0.unfinished)
  one-by (Demand p) (Place q) e x y = absurd (y.1 x.0.due)
  one-by (Demand p) (Demand q) e x y = ap Demand e
  one-by (Demand p) (Fails q r s j) e x y = absurd (x.1 y.1.0.in_range)
  one-by (Demand p) (MatterOpen q) e x y = absurd (x.1 y.1.0.has_pair.in_range)
  one-by (Demand p) (Length q) e x y = absurd (x.1 y.1.0.has_pair.in_range)
  one-by (Fails p r s i) (After q) e x y = absurd (overlong y x.1.0.in_place.unfinished)
  one-by (Fails p r s i) (Place q) e x y = absurd (y.1 x.1.0.in_place.due)
  one-by (Fails p r s i) (Demand q) e x y = absurd (y.1 x.1.0.in_range)
  one-by (Fails p r s i) (Fails q t v j) e x y =
      let pairs = one_pair project spread standing.known x.0 y.0 x.1.0.are_pair y.1.0.are_pair in
      let there = subst (λ (q : Pair). IsFirstToFailOver project q found.row r s i) pairs x.1.1 in
      let same = one-to-fail project y.0 found.row r t s v i j there y.1.1 in
      λ k. Fails (e k) (same.0 k) (same.1.0 k) (same.1.1 k)
  one-by (Fails p r s i) (MatterOpen q) e x y = absurd (uncertified x.0 r s i y.0 x.1.0 x.1.1 y.1.0)
  one-by (Fails p r s i) (Length q) e x y = absurd (uncertified x.0 r s i y.0 x.1.0 x.1.1 y.1.0)
  one-by (MatterOpen p) (After q) e x y = absurd (overlong y x.1.0.has_pair.in_place.unfinished)
  one-by (MatterOpen p) (Place q) e x y = absurd (y.1 x.1.0.has_pair.in_place.due)
  one-by (MatterOpen p) (Demand q) e x y = absurd (y.1 x.1.0.has_pair.in_range)
  one-by (MatterOpen p) (Fails q r s j) e x y = absurd (uncertified y.0 r s j x.0 y.1.0 y.1.1 x.1.0)
  one-by (MatterOpen p) (MatterOpen q) e x y = ap MatterOpen e
  one-by (MatterOpen p) (Length q) e x y = absurd (unmatched x.0 y.0 x.1.0 x.1.1 y.1.0 y.1.1.0)
  one-by (Length p) (After q) e x y = absurd (overlong y x.1.0.has_pair.in_place.unfinished)
  one-by (Length p) (Place q) e x y = absurd (y.1 x.1.0.has_pair.in_place.due)
  one-by (Length p) (Demand q) e x y = absurd (y.1 x.1.0.has_pair.in_range)
  one-by (Length p) (Fails q r s j) e x y = absurd (uncertified y.0 r s j x.0 y.1.0 y.1.1 x.1.0)
  one-by (Length p) (MatterOpen q) e x y = absurd (unmatched y.0 x.0 y.1.0 y.1.1 x.1.0 x.1.1.0)
  one-by (Length p) (Length q) e x y = ap Length e

  pub one_refusal : (a b : CertRefused) → IsRefusedOver project spread standing found a
      → IsRefusedOver project spread standing found b → a ≡ b
  one_refusal a b x y = one-by a b (x.period_is ∙ sym y.period_is) x.refused_by y.refused_by
