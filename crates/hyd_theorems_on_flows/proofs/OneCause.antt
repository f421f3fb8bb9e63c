-- A part is refused for one cause.
use Rattle.std.proofs.Common.{◌≡◌, ℕ, ◌<◌, sym, ap, subst}
use Rattle.std.proofs.Common.{◌∙◌, arith, inl, inr, refl}
use Rattle.std.specs.Prelude.{Some, slice_get}
use Rattle.std.proofs.lemmas.Bool.{cases_lt}
use Rattle.std.proofs.lemmas.Option.{slice_get_within, get_or_from_slice_get}
use Rattle.hyd_spec_certificates.specs.declared.Side.{Side}
use Rattle.hyd_spec_certificates.specs.declared.Side.TheVariants.{Upper, Lower}
use Rattle.hyd_spec_certificates.specs.declared.Problem.TheVariants.{Main}
use Rattle.hyd_spec_certificates.specs.PeriodNetwork.{Grid, GridLink}
use Rattle.hyd_spec_certificates.specs.Certificate.{FailsFirst}
use Rattle.hyd_spec_certificates.specs.RecordAndStanding.{Record, vector_on}
use Rattle.hyd_spec_flows.specs.FlowParts.{NamedLink, FlowPart, names_of, held_for, IsFlowPart, HasItsVector}
use Rattle.hyd_spec_flows.specs.FlowParts.{vector_turn}
use Rattle.hyd_spec_flows.specs.FlowParts.{JoinsJunctions, NameIsRefused, IsFirstRefusedName, IsFirstRefusedVector}
use Rattle.hyd_spec_flows.specs.FlowParts.{IsRefusedPart}
use Rattle.hyd_spec_flows.specs.declared.FlowFails.{FlowFails}
use Rattle.hyd_spec_flows.specs.declared.FlowFails.TheVariants.{Name, Vector}
use Rattle.hyd_lemmas.proofs.ListsOptionsAndResults.{same_item}
use Rattle.hyd_theorems_on_definitions.proofs.OneFirstFailure.{fails-no-certificate, one-failure}
use Rattle.hyd_theorems_on_histories.proofs.ListsByPlace.{mapped_at}
use Rattle.hyd_theorems_on_flows.proofs.IntervalsInOrder.{same_vector}

-- ---- names

module _ (grid : Grid) (row : Record) (part : FlowPart) where
  same_name : (a b place : ℕ) → slice_get (names_of part) place ≡ Some a → slice_get (names_of part) place ≡ Some b
      → a ≡ b
  same_name a b place at too = same_item ℕ a b (sym at ∙ too)

  one_name : (a b : ℕ) → IsFirstRefusedName grid part a → IsFirstRefusedName grid part b → a ≡ b
  one_name a b x y = elim (cases_lt x.place y.place) [
    | inl less ↦ absurd (y.first x.place a less x.is_name x.refused)
    | inr ge ↦ elim (cases_lt y.place x.place) [
      | inl less ↦ absurd (x.first y.place b less y.is_name y.refused)
      | inr le ↦ same_name a b x.place x.is_name (subst (λ (p : ℕ). slice_get (names_of part) p ≡ Some b)
          (let e : y.place ≡ x.place = omega (arith, ge, le) in e) y.is_name)
    ]
  ]

  -- ---- vectors

  -- a vector that fails isn't what it has to be
  fails_no_vector : (named : NamedLink) (link : GridLink) (side : Side) (junction number : ℕ) → named.link ≡ number
      → slice_get grid.links number ≡ Some link
      → FailsFirst (Some (held_for row link side)) grid Main side (vector_on side named.held) junction
      → HasItsVector grid row named side → ⊥
  fails_no_vector named link side junction number is at first has =
      fails-no-certificate (Some (held_for row link side)) grid Main side (vector_on side named.held) junction first
      (same_vector grid row named link side (subst (λ (n : ℕ). slice_get grid.links n ≡ Some link) (sym is) at) has)

  turn_apart : (p q : ℕ) (s t : Side) → vector_turn p s ≡ vector_turn q t → (p ≡ q) × (s ≡ t)
  turn_apart p q Upper Upper e = (omega (arith, e), refl)
  turn_apart p q Upper Lower e = absurd (omega (arith, e))
  turn_apart p q Lower Upper e = absurd (omega (arith, e))
  turn_apart p q Lower Lower e = (omega (arith, e), refl)

  earlier_fails : (a b : ℕ) (s t : Side) (i j : ℕ) (x : IsFirstRefusedVector grid row part a s i)
      (y : IsFirstRefusedVector grid row part b t j) → vector_turn x.place s < vector_turn y.place t → ⊥
  earlier_fails a b s t i j x y less =
      fails_no_vector x.named x.link s i a x.number_is x.is_link x.fails (y.earlier x.place x.named s x.is_named less)

  same_place : (a b : ℕ) (s t : Side) (i j : ℕ) (x : IsFirstRefusedVector grid row part a s i)
      (y : IsFirstRefusedVector grid row part b t j) → x.place ≡ y.place → s ≡ t
      → Vector a s i ≡ Vector b t j
  same_place a b s t i j x y at side =
      let named : x.named ≡ y.named = same_item NamedLink x.named y.named (sym x.is_named
      ∙ (ap (slice_get part) at ∙ y.is_named)) in
      let number : a ≡ b = sym x.number_is ∙ (ap (λ (n : NamedLink). n.link) named ∙ y.number_is) in
      let link : x.link ≡ y.link = same_item GridLink x.link y.link (sym x.is_link
      ∙ (ap (slice_get grid.links) number ∙ y.is_link)) in
      let Fails : Side → GridLink → NamedLink → Type 0 = λ u l n.
      FailsFirst (Some (held_for row l u)) grid Main u (vector_on u n.held) i in
      let first : Fails t y.link y.named = subst (λ (n : NamedLink). Fails t y.link n) named
      (subst (λ (l : GridLink). Fails t l x.named) link (subst (λ (u : Side). Fails u x.link x.named) side x.fails)) in
      let junction = one-failure (Some (held_for row y.link t)) grid Main t (vector_on t y.named.held) i j first y.fails
      in
      ap (λ n. Vector n s i) number ∙ (ap (λ u. Vector b u i) side ∙ ap (λ k. Vector b t k) junction)

  one_vector : (a b : ℕ) (s t : Side) (i j : ℕ) → IsFirstRefusedVector grid row part a s i
      → IsFirstRefusedVector grid row part b t j → Vector a s i ≡ Vector b t j
  one_vector a b s t i j x y = elim (cases_lt (vector_turn x.place s) (vector_turn y.place t)) [
    | inl less ↦ absurd (earlier_fails a b s t i j x y less)
    | inr ge ↦ elim (cases_lt (vector_turn y.place t) (vector_turn x.place s)) [
      | inl less ↦ absurd (earlier_fails b a t s j i y x less)
      | inr le ↦ let turn = turn_apart x.place y.place s t (let e : vector_turn x.place s ≡ vector_turn y.place t =
          omega (arith, ge, le) in e) in same_place a b s t i j x y turn.0 turn.1
    ]
  ]

  pub one_cause : (cause other : FlowFails) → IsRefusedPart grid row part cause → IsRefusedPart grid row part other
      → cause ≡ other
  one_cause (Name a) (Name b) x y = ap (λ n. Name n) (one_name a b x y)
  one_cause (Name a) (Vector b t j) x y = absurd (y.names x.place a x.is_name x.refused)
  one_cause (Vector a s i) (Name b) x y = absurd (x.names y.place b y.is_name y.refused)
  one_cause (Vector a s i) (Vector b t j) x y = one_vector a b s t i j x y

  -- ---- a part that is in order

  -- no name of it is refused
  pub names_good : IsFlowPart grid row part → (place number : ℕ) → slice_get (names_of part) place ≡ Some number
      → NameIsRefused grid part place number → ⊥
  names_good is place number at (inl apart) =
      let found = mapped_at NamedLink ℕ (λ (named : NamedLink). named.link) part place number at in
      let here = get_or_from_slice_get part place found.item found.item found.is_item in
      apart (subst (λ (n : ℕ). JoinsJunctions grid n) found.same
      (subst (λ (named : NamedLink). JoinsJunctions grid named.link) here
      (is.joins place found.item (slice_get_within part place found.item found.is_item))))
  names_good is place number at (inr twice) =
      let found = mapped_at NamedLink ℕ (λ (named : NamedLink). named.link) part place number at in
      let before = mapped_at NamedLink ℕ (λ (named : NamedLink). named.link) part twice.0 number twice.1.1 in
      let here = get_or_from_slice_get part place found.item found.item found.is_item in
      let there = get_or_from_slice_get part twice.0 before.item found.item before.is_item in
      is.distinct twice.0 place found.item twice.1.0 (slice_get_within part place found.item found.is_item)
      (ap (λ (named : NamedLink). named.link) there ∙ (before.same ∙ (sym found.same
      ∙ ap (λ (named : NamedLink). named.link) (sym here))))

  pub none_refused : (cause : FlowFails) → IsFlowPart grid row part → IsRefusedPart grid row part cause → ⊥
  none_refused (Name a) is x = names_good is x.place a x.is_name x.refused
  none_refused (Vector a s i) is x =
      let here = get_or_from_slice_get part x.place x.named x.named x.is_named in
      fails_no_vector x.named x.link s i a x.number_is x.is_link x.fails
      (subst (λ (named : NamedLink). HasItsVector grid row named s) here
      (is.vectors x.place x.named (slice_get_within part x.place x.named x.is_named) s))
