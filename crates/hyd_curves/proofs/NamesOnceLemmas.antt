-- Names, each where it first stands, one more at a time.
use Rattle.std.proofs.Common.{◌≡◌, ◌++◌, ℕ, Bool, true, false, List, [], ◌∷◌, refl, sym, ◌∙◌, true≢false, inl, inr}
use Rattle.std.proofs.Common.{if◌then◌else◌, Contains}
use Rattle.std.specs.Prelude.{◌↔◌}
use Rattle.std.specs.Cmp.Lexicographic.{bytes_decides, nat_list_eq_equiv}
use Rattle.std.proofs.lemmas.Bool.{cases_Bool}
use Rattle.std.proofs.lemmas.Map.Views.{Contains-from_any, list_any-from_Contains}
use Rattle.hyd_spec_input.specs.MeaningsAcrossRows.{is_among, new_names}
use Rattle.hyd_curves.specs.NamedVolumeCurves.{with_name}
use Rattle.hyd_theorems_on_input.proofs.Names.{among_is, one_more}

-- ---- a name among others

-- a name is added where it isn't there
pub with_is : (names next : List (List ℕ)) (name : List ℕ) (new : Bool) → ((new ≡ false) ↔ Contains names name)
    → next ≡ (if new then names ++ name ∷ [] else names) → next ≡ with_name names name
with_is names next name true present e = elim (cases_Bool (is_among name names)) [
  | inl t ↦ (let there : Contains names name =
      Contains-from_any (λ x y h. (bytes_decides x y).0 h) name names (sym (among_is name names) ∙ t) in
      absurd (true≢false (present.1 there)))
  | inr f ↦ e ∙ rw f refl
]
with_is names next name false present e =
    let there : is_among name names ≡ true =
    among_is name names ∙ list_any-from_Contains nat_list_eq_equiv name names (present.0 refl) in
    e ∙ rw there refl

pub one_name_more : (names : List (List ℕ)) (y : List ℕ)
    → new_names [] (names ++ y ∷ []) ≡ with_name (new_names [] names) y
one_name_more names y = one_more y [] names
