-- The first vector of a part that isn't what it has to be.
use Rattle.std.proofs.Common.{◌≡◌, ℕ, ◌<◌, List, length, All, take, get_or, sym, ap, subst, ◌∙◌, arith, refl}
use Rattle.std.proofs.Common.{inl, inr, ◌⊎◌}
use Rattle.std.specs.Prelude.{Some, slice_get}
use Rattle.std.proofs.lemmas.Bool.{cases_lt}
use Rattle.std.proofs.lemmas.List.{get_or-map, length-map}
use Rattle.std.proofs.lemmas.Option.{slice_get-get_or}
use Rattle.hyd_spec_certificates.specs.declared.Side.{Side}
use Rattle.hyd_spec_certificates.specs.declared.Side.TheVariants.{Upper, Lower}
use Rattle.hyd_spec_certificates.specs.PeriodNetwork.{Grid}
use Rattle.hyd_spec_certificates.specs.RecordAndStanding.{Record}
use Rattle.hyd_spec_flows.specs.FlowParts.{NamedLink, NamesAreGood, HasItsVector, IsRefusedPart, vector_turn}
use Rattle.hyd_spec_flows.specs.declared.FlowFails.{FlowFails}
use Rattle.hyd_spec_flows.specs.declared.FlowFails.TheVariants.{Name, Vector}
use Rattle.hyd_cert.specs.FlowPartView.{named_of, links_in}
use Rattle.hyd_cert.specs.declared.named_vectors.NamedVectors.{NamedVectors}
use Rattle.hyd_lemmas.proofs.ListsOptionsAndResults.{same_item}
use Rattle.hyd_flow.specs.RefusedVectors.{FailsAt}
use Rattle.hyd_flow.proofs.NamesInParts.{link_before}

-- a vector comes before another: its link comes before, or it is the UPPER one of the same link
turns : (before i : ℕ) (face side : Side) → vector_turn before face < vector_turn i side
    → (before < i) ⊎ ((before ≡ i) × ((face ≡ Upper) × (side ≡ Lower)))
turns before i Upper Upper less = inl (omega (arith, less))
turns before i Upper Lower less = elim (cases_lt before i) [
  | inl low ↦ inl low
  | inr far ↦ inr (omega (arith, less, far), (refl, refl))
]
turns before i Lower Upper less = inl (omega (arith, less))
turns before i Lower Lower less = inl (omega (arith, less))

there : (links : List NamedVectors) (i : ℕ) (x : NamedVectors) → i < length links → x ≡ get_or links i x
    → slice_get (links_in links) i ≡ Some (named_of x)
there links i x within is =
    slice_get-get_or (links_in links) i (named_of x) (let e = length-map links named_of in omega (arith, e, within))
    ∙ ap Some (get_or-map named_of links i x (named_of x) within ∙ ap named_of (sym is))

module _ (grid : Grid) (row : Record) (links : List NamedVectors) (i : ℕ) (x : NamedVectors) (within : i < length links)
    (is : x ≡ get_or links i x)
    (good : All (λ (named : NamedLink). (side : Side) → HasItsVector grid row named side) (links_in (take i links)))
  where
    has_earlier : (side : Side) → (side ≡ Lower → HasItsVector grid row (named_of x) Upper) → (before : ℕ)
        (other : NamedLink) (face : Side) → slice_get (links_in links) before ≡ Some other
        → vector_turn before face < vector_turn i side → HasItsVector grid row other face
    has_earlier side upper before other face at less = elim (turns before i face side less) [
      | inl low ↦ link_before (λ (named : NamedLink). (each : Side) → HasItsVector grid row named each) links i before
          other at low good face
      | inr same ↦ (let here : slice_get (links_in links) i ≡ Some other =
          subst (λ (n : ℕ). slice_get (links_in links) n ≡ Some other) same.0 at in
          let one = same_item NamedLink (named_of x) other (sym (there links i x within is) ∙ here) in
          subst (HasItsVector grid row other) (sym same.1.0)
          (subst (λ (named : NamedLink). HasItsVector grid row named Upper) one (upper same.1.1)))
    ]

    pub refused_at : (cause : FlowFails) → NamesAreGood grid (links_in links) → FailsAt grid row (named_of x) cause
        → IsRefusedPart grid row (links_in links) cause
    refused_at (Name number) names fails = absurd fails
    refused_at (Vector number side junction) names fails = record {
      names = names;
      place = i;
      named = named_of x;
      is_named = there links i x within is;
      number_is = sym fails.0;
      earlier = has_earlier side fails.1.0;
      link = fails.1.1.0;
      is_link = fails.1.1.1.0;
      fails = fails.1.1.1.1;
    }
