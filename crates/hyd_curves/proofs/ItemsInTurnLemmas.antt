-- Items in turn, one after another, and the items at both ends.
use Rattle.std.proofs.Common.{◌≡◌, ◌++◌, Bool, true, false, true≢false, inl, inr, List, [], ◌∷◌, map, refl, sym}
use Rattle.std.proofs.Common.{◌∙◌}
use Rattle.std.specs.Prelude.{◌&&◌}
use Rattle.std.proofs.lemmas.Bool.{and_parts, cases_Bool}
use Rattle.std.specs.List.{list_all}
use Rattle.hyd_spec_input.specs.Curves.{at_end}
use Rattle.hyd_spec_input.specs.SectionsAndTables.{Point}
use Rattle.hyd_curves.specs.Points.{points_in, point_in}
use Rattle.hyd_curves.specs.EachWithNext.{goes_on, all_in_turn}
use Rattle.hyd_curves.specs.declared.points.CurvePoint.{CurvePoint}
use Rattle.hyd_lemmas.proofs.BooleanTests.{and-false}

-- one test is decided
pub and_then : (f s : Bool) → true ≡ f → s ≡ (f && s)
and_then f s e = rw (← e) refl

pub and_third : (x y s : Bool) → true ≡ (x && y) → s ≡ (x && (y && s))
and_third x y s e = let both = and_parts x y (sym e) in rw (both.0, both.1) refl

-- an item that passes is left behind
turn_on : {A : Type 0} (passes : A → Bool) (test : A → A → Bool) (a : A) (items : List A)
    → true ≡ (passes a && goes_on test a items) → all_in_turn passes test (a ∷ items) ≡ all_in_turn passes test items
turn_on passes test a [] e =
    let both = and_parts (passes a) true (sym e) in rw both.0 refl
turn_on passes test a (b ∷ items) e =
    let both = and_parts (passes a) (test a b) (sym e) in rw (both.0, both.1) refl

-- the points behind one that passes decide
pub turned : {A : Type 0} (passes : A → Bool) (test : A → A → Bool) (made : Point → A)
    (all left rest : List CurvePoint) (point : CurvePoint) → left ≡ point ∷ rest
    → true ≡ (passes (made (point_in point)) && goes_on test (made (point_in point)) (map made (points_in rest)))
    → all_in_turn passes test (map made (points_in left)) ≡ all_in_turn passes test (map made (points_in all))
    → all_in_turn passes test (map made (points_in rest)) ≡ all_in_turn passes test (map made (points_in all))
turned passes test made all left rest point e h before =
    sym (turn_on passes test (made (point_in point)) (map made (points_in rest)) h) ∙ rw e at before

-- an item that doesn't pass ends it
turn_off : {A : Type 0} (passes : A → Bool) (test : A → A → Bool) (a : A) (items : List A)
    → false ≡ (passes a && goes_on test a items) → false ≡ all_in_turn passes test (a ∷ items)
turn_off passes test a [] e = elim (cases_Bool (passes a)) [
  | inl t ↦ absurd (true≢false (sym (rw t at e)))
  | inr f ↦ rw f refl
]
turn_off passes test a (b ∷ items) e = elim (cases_Bool (passes a)) [
  | inl t ↦ (let g : false ≡ test a b = rw t at e in
      rw (t, ← g) (sym (and-false (passes b && list_all passes items))))
  | inr f ↦ rw f refl
]

pub stopped : {A : Type 0} (passes : A → Bool) (test : A → A → Bool) (made : Point → A)
    (all left rest : List CurvePoint) (point : CurvePoint) → left ≡ point ∷ rest
    → false ≡ (passes (made (point_in point)) && goes_on test (made (point_in point)) (map made (points_in rest)))
    → all_in_turn passes test (map made (points_in left)) ≡ all_in_turn passes test (map made (points_in all))
    → false ≡ all_in_turn passes test (map made (points_in all))
stopped passes test made all left rest point e h before =
    turn_off passes test (made (point_in point)) (map made (points_in rest)) h ∙ rw e at before

-- the last item
pub last_is : {A : Type 0} (test : A → Bool) (made : Point → A) (front : List CurvePoint) (last : CurvePoint)
    → at_end test (map made (points_in (front ++ last ∷ []))) ≡ test (made (point_in last))
last_is test made [] last = refl
last_is test made (a ∷ []) last = refl
last_is test made (a ∷ b ∷ front) last = last_is test made (b ∷ front) last
