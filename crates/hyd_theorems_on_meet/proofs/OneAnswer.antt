-- What `meet` says of a text is one thing.
use Rattle.std.proofs.Common.{◌≡◌, ℕ, ◌⊎◌, inl, inr, List, [], ◌∷◌, ◌++◌, length, map, refl, sym, ap, ap₂, subst, ◌∙◌}
use Rattle.std.proofs.Common.{append_assoc, arith, Some, suc}
use Rattle.std.proofs.lemmas.List.{append-nil}
use Rattle.hyd_net.specs.Sound.{IsSound}
use Rattle.hyd_spec.specs.ProgramTypes.{Project}
use Rattle.hyd_spec.specs.Lists.{joined, IsFrontOf}
use Rattle.hyd_spec_witnesses.specs.declared.Unmet.{Unmet}
use Rattle.hyd_spec_witnesses.specs.MetPeriods.{Moment, Reached, IsMet, AreMetFrom, AreMet, at_start, after_moment}
use Rattle.hyd_spec_witnesses.specs.MetPeriods.{reached_after}
use Rattle.hyd_spec_witnesses.specs.FirstUnmetClause.{IsUnmet}
use Rattle.hyd_spec_witnesses.specs.WitnessText.{counts_of, moment_text, witness_end}
use Rattle.hyd_spec_witness_answers.specs.PromisesOfWitnesses.{WitnessIsMet, WitnessIsUnmet, WitnessIsFaulty}
use Rattle.hyd_spec_witness_answers.specs.PromisesOfWitnesses.{BeginsWithMoments, meets_line, unmet_line, bad_line}
use Rattle.hyd_theorems_on_witnesses.proofs.OneReading.{one-reading}
use Rattle.hyd_theorems_on_witnesses.proofs.OneUnmetClause.{one-unmet, met-is-not-unmet}
use Rattle.hyd_theorems_on_witnesses.proofs.OneFaultyLine.{one-faulty-line, faulty-is-no-witness}
use Rattle.hyd_witness_texts.specs.PartsOfWitness.{LacksMoment}
use Rattle.hyd_witness_texts.proofs.OneBeginning.{one_beginning}
use Rattle.hyd_witness_texts.proofs.RestOfWitness.{AreSmallCounts, none_at_end}
use Rattle.hyd_theorems_on_meet.proofs.OneFront.{one_front, behind_header}

small_counts : (project : Project) → IsSound project → AreSmallCounts (counts_of project)
small_counts project sound =
    let junctions = sound.counts.junctions in
    let links = sound.counts.links in
    let tanks = sound.counts.tanks in
    record {
      junctions = omega (arith, junctions);
      links = omega (arith, links);
      tanks = omega (arith, tanks);
    }

-- ---- periods that are met, and one that isn't

module _ (project : Project) (S : ℕ) where
  -- a period among those that are met is met
  met_there : (reached : Reached) (front rest : List Moment) (moment : Moment)
      → AreMetFrom project S reached (front ++ (moment ∷ rest))
      → IsMet project S (reached_after project S reached front) moment
  met_there reached [] rest moment met = met.0
  met_there reached (first ∷ front) rest moment met =
      met_there (after_moment project S reached first) front rest moment met.1

  -- behind periods that are met the first that isn't is one
  one_unmet : (reached : Reached) (xs ys : List Moment) (x y : Moment) (u v : Unmet) (more rest : List Moment)
      → AreMetFrom project S reached xs → AreMetFrom project S reached ys
      → IsUnmet project S (reached_after project S reached xs) x u
      → IsUnmet project S (reached_after project S reached ys) y v → xs ++ (x ∷ more) ≡ ys ++ (y ∷ rest)
      → (u ≡ v) × (length xs ≡ length ys)
  one_unmet reached [] [] x y u v more rest met_x met_y fails_x fails_y e =
      let same : x ≡ y = cc in (
        one-unmet project S reached y u v (subst (λ (m : Moment). IsUnmet project S reached m u) same fails_x) fails_y,
        refl,
      )
  one_unmet reached [] (z ∷ ys) x y u v more rest met_x met_y fails_x fails_y e =
      let same : x ≡ z = cc in
      absurd (met-is-not-unmet project S reached z u (subst (λ (m : Moment). IsUnmet project S reached m u) same fails_x)
      met_y.0)
  one_unmet reached (z ∷ xs) [] x y u v more rest met_x met_y fails_x fails_y e =
      let same : y ≡ z = cc in
      absurd (met-is-not-unmet project S reached z v (subst (λ (m : Moment). IsUnmet project S reached m v) same fails_y)
      met_x.0)
  one_unmet reached (z ∷ xs) (w ∷ ys) x y u v more rest met_x met_y fails_x fails_y e =
      let same : w ≡ z = cc in
      let tails : xs ++ (x ∷ more) ≡ ys ++ (y ∷ rest) = cc in
      let next : after_moment project S reached w ≡ after_moment project S reached z
      = ap (after_moment project S reached) same in
      let further = one_unmet (after_moment project S reached z) xs ys x y u v more rest met_x.1
      (subst (λ (r : Reached). AreMetFrom project S r ys) next met_y.1) fails_x
      (subst (λ (r : Reached). IsUnmet project S (reached_after project S r ys) y v) next fails_y) tails in
      (further.0, ap suc further.1)

-- ---- answers

module _ (project : Project) (text a b : List ℕ) where
  pub one_met : IsSound project → WitnessIsMet project text a → WitnessIsMet project text b → a ≡ b
  one_met sound m n =
      let small = small_counts project sound in
      let same = one-reading (counts_of project) small.junctions small.links small.tanks text m.scale n.scale m.moments
      n.moments m.is_text n.is_text in
      m.report ∙ (ap (λ (moments : List Moment). meets_line (length moments)) same.1 ∙ sym n.report)

  -- where two lists of periods begin a text
  both_begin : IsSound project → (s o : ℕ) (xs ys : List Moment) → BeginsWithMoments project text s xs
      → BeginsWithMoments project text o ys → (s ≡ o) × (IsFrontOf xs ys ⊎ IsFrontOf ys xs)
  both_begin sound s o xs ys m n =
      let small = small_counts project sound in
      let header = behind_header (counts_of project) small s o m.is_scale n.is_scale
      (joined (map moment_text xs) ++ m.unread) (joined (map moment_text ys) ++ n.unread) (sym m.is_text ∙ n.is_text) in
      (header.0, one_front (counts_of project) small xs ys m.moments_fit n.moments_fit m.unread n.unread header.1)

  -- of two lists that end by one more, one of which is a front of the other, the whole is one with both inside
  pub one_unmet_answer : IsSound project → (u v : Unmet) → WitnessIsUnmet project text a u
      → WitnessIsUnmet project text b v → (u ≡ v) × (a ≡ b)
  one_unmet_answer sound u v m n = told (same (both.1))
    where
      both : (m.scale ≡ n.scale) × (IsFrontOf (m.moments ++ (m.moment ∷ [])) (n.moments ++ (n.moment ∷ []))
          ⊎ IsFrontOf (n.moments ++ (n.moment ∷ [])) (m.moments ++ (m.moment ∷ [])))
      both = both_begin sound m.scale n.scale (m.moments ++ (m.moment ∷ [])) (n.moments ++ (n.moment ∷ [])) m.is_text
          n.is_text

      found : (more rest : List Moment) → m.moments ++ (m.moment ∷ more) ≡ n.moments ++ (n.moment ∷ rest)
          → (u ≡ v) × (length m.moments ≡ length n.moments)
      found more rest e =
          let met : AreMet project m.scale n.moments = subst (λ (s : ℕ). AreMet project s n.moments) (sym both.0) n.met in
          let fails : IsUnmet project m.scale (reached_after project m.scale at_start n.moments) n.moment v
          = subst (λ (s : ℕ). IsUnmet project s (reached_after project s at_start n.moments) n.moment v) (sym both.0)
          n.fails in
          one_unmet project m.scale at_start m.moments n.moments m.moment n.moment u v more rest m.met met m.fails fails e

      same : IsFrontOf (m.moments ++ (m.moment ∷ [])) (n.moments ++ (n.moment ∷ []))
          ⊎ IsFrontOf (n.moments ++ (n.moment ∷ [])) (m.moments ++ (m.moment ∷ []))
          → (u ≡ v) × (length m.moments ≡ length n.moments)
      same (inl is) = found is.0 [] (sym (append_assoc m.moments (m.moment ∷ []) is.0) ∙ is.1)
      same (inr is) = found [] is.0 (sym is.1 ∙ append_assoc n.moments (n.moment ∷ []) is.0)

      told : (u ≡ v) × (length m.moments ≡ length n.moments) → (u ≡ v) × (a ≡ b)
      told k = (
        k.0,
        m.report ∙ (ap₂ (λ (periods : ℕ) (unmet : Unmet). unmet_line project periods unmet) k.1 k.0 ∙ sym n.report),
      )

  pub one_faulty : (m n : ℕ) → WitnessIsFaulty project text a m → WitnessIsFaulty project text b n
      → (m ≡ n) × (a ≡ b)
  one_faulty m n x y =
      let same = one-faulty-line (counts_of project) text m n x.fault y.fault in
      (same, x.report ∙ (ap bad_line same ∙ sym y.report))

  pub met_or_faulty : (n : ℕ) → WitnessIsMet project text a → WitnessIsFaulty project text b n → ⊥
  met_or_faulty n m faulty =
      faulty-is-no-witness (counts_of project) text n faulty.fault
      (record { scale = m.scale; moments = m.moments; is_text = m.is_text })

  -- a period that isn't met is among none that are
  not_met : (u : Unmet) (m : WitnessIsUnmet project text b u) (rest : List Moment)
      → AreMet project m.scale (m.moments ++ (m.moment ∷ rest)) → ⊥
  not_met u m rest met =
      met-is-not-unmet project m.scale (reached_after project m.scale at_start m.moments) m.moment u m.fails
      (met_there project m.scale at_start m.moments rest m.moment met)

  -- behind the periods of a witness comes no other one
  no_more : (periods : ℕ) → LacksMoment (counts_of project) periods (Some (witness_end periods))
  no_more periods =
      subst (λ (t : List ℕ). LacksMoment (counts_of project) periods (Some t)) (append-nil (witness_end periods))
      (none_at_end (counts_of project) periods [])

  pub met_or_unmet : IsSound project → (u : Unmet) → WitnessIsMet project text a → WitnessIsUnmet project text b u → ⊥
  met_or_unmet sound u m n =
      let all = n.moments ++ (n.moment ∷ []) in
      let begins = n.is_text in
      let both = one_beginning (counts_of project) (small_counts project sound) text (witness_end (length m.moments))
      begins.unread m.scale n.scale m.moments all m.is_text.is_scale begins.is_scale m.is_text.moments_fit
      begins.moments_fit begins.count_fits m.is_text.is_text (no_more (length m.moments)) begins.is_text in
      let rest = both.1 in
      let met : AreMet project n.scale m.moments = subst (λ (s : ℕ). AreMet project s m.moments) both.0 m.met in
      not_met u n rest.0
      (subst (AreMet project n.scale) (sym rest.1 ∙ append_assoc n.moments (n.moment ∷ []) rest.0) met)

  pub unmet_or_faulty : (u : Unmet) (n : ℕ) → WitnessIsUnmet project text a u → WitnessIsFaulty project text b n → ⊥
  unmet_or_faulty u n m faulty = absurd (fails (faulty.met m.scale (m.moments ++ (m.moment ∷ [])) m.is_text))
    where
      fails : AreMet project m.scale (m.moments ++ (m.moment ∷ [])) → ⊥
      fails met = met-is-not-unmet project m.scale (reached_after project m.scale at_start m.moments) m.moment u m.fails
          (met_there project m.scale at_start m.moments [] m.moment met)
