-- Controls that come by time or by clock, one after another.
use Rattle.std.proofs.Common.{◌≡◌, ◌⊎◌, inl, inr, ℕ, ◌+◌, ◌<◌, ◌≤◌, List, [], ◌∷◌, ◌++◌, length, take, refl, ap, sym}
use Rattle.std.proofs.Common.{◌∙◌, subst, arith, get_or}
use Rattle.std.specs.Prelude.{Contains}
use Rattle.std.proofs.lemmas.List.{take_more, take_all}
use Rattle.std.proofs.lemmas.List.Elements.{Contains-append_left, Contains-push, Contains-push_cases}
use Rattle.hyd_spec.specs.ProgramTypes.{Project, Control}
use Rattle.hyd_length_at_scale.specs.Instants.{ComesAt, IsFirstComing, IsFirstAmong}

none-contained : (c : Control) → Contains [] c → ⊥
none-contained c there = let l = there.1 in absurd (omega (arith, l))

pub none-yet : (project : Project) (time cap : ℕ) → time < cap → IsFirstAmong project time cap [] cap
none-yet project time cap later = record {
  later = later;
  within = omega arith;
  reached = inl refl;
  none_before = λ c e there. absurd (none-contained c there);
}

pub one-more : (project : Project) (time cap : ℕ) (controls : List Control) (control : Control) (first next : ℕ)
    → IsFirstAmong project time cap controls first → IsFirstComing project time first control.when next
    → IsFirstAmong project time cap (controls ++ control ∷ []) next
one-more project time cap controls control first next among coming =
    let sooner : next ≤ first = coming.least first (inl refl) in
    record {
      later = after coming.holds;
      within = let w = among.within in omega (arith, w, sooner);
      reached = reached coming.holds;
      none_before = λ c e there later comes. elim (Contains-push_cases controls control c there) [
        | inl before ↦ let l = among.none_before c e before later comes in omega (arith, l, sooner)
        | inr is ↦ coming.least e (inr (later, subst (λ (k : Control). ComesAt project k.when e) (sym is) comes))
      ];
    }
  where
    after : ((next ≡ first) ⊎ ((time < next) × ComesAt project control.when next)) → time < next
    after (inl is) = let l = among.later in omega (arith, l, is)
    after (inr r) = r.0

    before : next ≡ first
        → ((first ≡ cap) ⊎ ((c : Control) × (Contains controls c × ComesAt project c.when first)))
        → (next ≡ cap) ⊎ ((c : Control) × (Contains (controls ++ control ∷ []) c × ComesAt project c.when next))
    before is (inl at) = inl (is ∙ at)
    before is (inr r) = inr (
      r.0,
      (
        Contains-append_left controls (control ∷ []) r.0 r.1.0,
        subst (λ (n : ℕ). ComesAt project (r.0).when n) (sym is) r.1.1,
      ),
    )

    reached : ((next ≡ first) ⊎ ((time < next) × ComesAt project control.when next))
        → (next ≡ cap) ⊎ ((c : Control) × (Contains (controls ++ control ∷ []) c × ComesAt project c.when next))
    reached (inl is) = before is among.reached
    reached (inr r) = inr (control, (Contains-push controls control, r.1))

-- the control at a place of the list
pub one-further : (project : Project) (time cap : ℕ) (controls : List Control) (i first next : ℕ) (control : Control)
    → i < length controls → control ≡ get_or controls i control
    → IsFirstAmong project time cap (take i controls) first → IsFirstComing project time first control.when next
    → IsFirstAmong project time cap (take (i + 1) controls) next
one-further project time cap controls i first next control h at among coming =
    let is : take (i + 1) controls ≡ take i controls ++ control ∷ [] =
    take_more controls i control h ∙ ap (λ (c : Control). take i controls ++ c ∷ []) (sym at) in
    subst (λ (cs : List Control). IsFirstAmong project time cap cs next) (sym is)
    (one-more project time cap (take i controls) control first next among coming)

pub all-of-them : (project : Project) (time cap : ℕ) (controls all : List Control) (i first : ℕ)
    → length controls ≤ i → controls ≡ all
    → IsFirstAmong project time cap (take i controls) first → IsFirstAmong project time cap all first
all-of-them project time cap controls all i first h are among =
    subst (λ (cs : List Control). IsFirstAmong project time cap cs first) (take_all i controls h ∙ are) among
