-- A record that a finder tells is what a period gets, where it is valid and narrow.
use Rattle.std.proofs.Common.{◌≡◌, ℕ, suc, ◌<◌, List, [], ◌∷◌, length}
use Rattle.std.proofs.Common.{refl, sym, subst, ◌∙◌, arith}
use Rattle.std.specs.Prelude.{slice_index_or}
use Rattle.hyd_spec.specs.ProgramTypes.{Project}
use Rattle.hyd_spec_certificates.specs.declared.Problem.TheVariants.{Main, Pinned}
use Rattle.hyd_spec_certificates.specs.declared.Side.TheVariants.{Upper, Lower}
use Rattle.hyd_spec_certificates.specs.Interval.{Interval}
use Rattle.hyd_spec_certificates.specs.PeriodNetwork.{Grid}
use Rattle.hyd_spec_certificates.specs.RecordAndStanding.{Record, Standing, Vectors, no_vectors}
use Rattle.hyd_spec_certificates.specs.Valid.{IsValid, LeadsOn, Continues, continues, finishes, levels_next}
use Rattle.hyd_theorems_on_definitions.proofs.OneLength.{one_length}
use Rattle.hyd_theorems_on_definitions.proofs.OneStandingAndTightVector.{one_standing}
use Rattle.hyd_theorems_on_definitions.proofs.CertificateLines.{vectors-equal}
use Rattle.hyd_theorems_on_definitions.proofs.OneEndOfPeriod.{not-last, leaves-not-last, leaves-one, leaves-no-rule}
use Rattle.hyd_theorems_on_definitions.proofs.OneEndOfPeriod.{leaves-no-event}
use Rattle.hyd_theorems_on_definitions.proofs.OneRefusal.{states-decided, controls-decided}
use Rattle.hyd_period_end.specs.OpenMatters.{SharesVectors, IsOpenAt, EndsWith, IsFirstControl, open_rule}
use Rattle.hyd_period_end.specs.declared.undecided.Open.{Open}
use Rattle.hyd_period_end.specs.declared.undecided.Open.TheVariants.{Rule, Event, Tank, Control}
use Rattle.hyd_period_facts.specs.TankStart.{IsFirstOpen}
use Rattle.hyd_period_vectors.specs.SoughtVectors.{HaveSame}

-- ---- the same vectors

same-pinned : (xs ys : List Vectors) → length xs ≡ length ys
    → ((k : ℕ) → k < length xs → slice_index_or xs k no_vectors ≡ slice_index_or ys k no_vectors) → xs ≡ ys
same-pinned [] [] e each = refl
same-pinned [] (y ∷ ys) e each = absurd (omega (arith, e))
same-pinned (x ∷ xs) [] e each = absurd (omega (arith, e))
same-pinned (x ∷ xs) (y ∷ ys) e each =
    let first : x ≡ y = each 0 (omega arith) in
    let rest = same-pinned xs ys (omega (arith, e)) (λ k less. each (suc k) (omega (arith, less))) in
    cc

-- records with the same vectors share them
pub shares : (tanks : ℕ) (row w : Record) → length row.pinned ≡ tanks → length w.pinned ≡ tanks
    → HaveSame tanks row w → SharesVectors w row
shares tanks row w own other same = record {
  main = vectors-equal w.main row.main (sym (same Main Upper tt)) (sym (same Main Lower tt));
  pinned = same-pinned w.pinned row.pinned (other ∙ sym own)
      (λ k less. vectors-equal (slice_index_or w.pinned k no_vectors) (slice_index_or row.pinned k no_vectors)
      (sym (same (Pinned k) Upper (omega (arith, less, other))))
      (sym (same (Pinned k) Lower (omega (arith, less, other)))));
}

-- and are the same where their numbers, times and lengths are
pub same-record : (row w : Record) → SharesVectors w row → w.number ≡ row.number → w.time ≡ row.time
    → w.length ≡ row.length → w ≡ row
same-record row w share number time long =
    λ i. record { number = number i; time = time i; length = long i; main = share.main i; pinned = share.pinned i }

-- ---- what a valid record leaves no doubt about

module _ (project : Project) (standing : Standing) (grid : Grid) (w : Record) (next : Standing)
    (valid : IsValid project standing grid w next) where
  -- a valid record leaves no matter open
  pub none-open-at : (found : Open) → IsOpenAt project grid standing w found → ⊥
  none-open-at found is = by valid.leads_on found is
    where
      at-end : (P : List Interval → Type 0) → Continues project grid standing w next
          → EndsWith project grid standing w P → P next.levels
      at-end P c ends =
          let same = leaves-one project grid standing w w.length ends.seconds next.commanded ends.links
          c.leaves_links ends.leaves in
          subst P (sym c.levels)
          (subst (λ (s : ℕ). P (levels_next project grid standing w s)) (sym same) ends.at_levels)

      by : LeadsOn project grid standing w next → (matter : Open) → IsOpenAt project grid standing w matter → ⊥
      by (continues c) (Rule found) o =
          leaves-no-rule project grid standing w w.length next.commanded (open_rule found) c.leaves_links o
      by (continues c) (Event earliest latest) o =
          leaves-no-event project grid standing w w.length next.commanded earliest latest c.leaves_links o
      by (continues c) (Tank found) o =
          states-decided project next.levels next.tanks found.tank c.tanks
          (at-end (λ levels. IsFirstOpen project levels found) c o).first
      by (continues c) (Control found) o =
          controls-decided project next.levels found.control c.controls
          (at-end (λ levels. IsFirstControl project levels found) c o).first
      by (finishes f) (Rule found) o = not-last project grid standing w _ o f.is_last
      by (finishes f) (Event earliest latest) o = not-last project grid standing w _ o f.is_last
      by (finishes f) (Tank found) o =
          leaves-not-last project grid standing w o.seconds o.links o.leaves f.is_last
      by (finishes f) (Control found) o =
          leaves-not-last project grid standing w o.seconds o.links o.leaves f.is_last

  -- and another record with its vectors, number and time that leads on is the same, and leads on to the same standing
  module _ (row : Record) (other : Standing) (share : SharesVectors w row) (number : w.number ≡ row.number)
      (time : w.time ≡ row.time) (leads : LeadsOn project grid standing row other) where
    again-is : (record w { length = row.length }) ≡ row
    again-is = same-record row (record w { length = row.length }) (record {
      main = share.main;
      pinned = share.pinned;
    }) number time refl

    pub same-row : w ≡ row
    same-row = same-record row w share number time
        (one_length project grid standing w row.length next other valid.leads_on
        (subst (λ (r : Record). LeadsOn project grid standing r other) (sym again-is) leads))

    pub same-next : next ≡ other
    same-next = one_standing project grid standing w next other valid.leads_on
        (subst (λ (r : Record). LeadsOn project grid standing r other) (sym same-row) leads)
