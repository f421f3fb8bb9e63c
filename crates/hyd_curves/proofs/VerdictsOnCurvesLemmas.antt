-- Verdicts on curves, one after another.
use Rattle.std.proofs.Common.{◌≡◌, ◌≤◌, ◌+◌, ◌<◌, ◌++◌, ℕ, zero, suc, Bool, true, false, List, [], ◌∷◌, length, take}
use Rattle.std.proofs.Common.{get_or, Option, Some, None, refl, sym, ap, ◌∙◌, subst, if◌then◌else◌}
use Rattle.std.specs.Prelude.{◌&&◌}
use Rattle.std.proofs.lemmas.List.{take_more, take_all, map-append}
use Rattle.hyd_num.specs.declared.flow_units.FlowUnit.{FlowUnit}
use Rattle.hyd_spec_lines.specs.Lines.{Row}
use Rattle.hyd_net.specs.ListView.{ListView}
use Rattle.hyd_net.specs.declared.refusal_cause.Cause.{Cause}
use Rattle.hyd_net.specs.declared.refusal_cause.Cause.TheVariants.{Range, Unsupported}
use Rattle.hyd_spec_input.specs.Columns.{or_else, unless}
use Rattle.hyd_spec_input.specs.Curves.{is_bent, is_pump_curve, are_flows, has_shutoff, is_pump_bend, head_points}
use Rattle.hyd_spec_input.specs.Curves.{begins_forward}
use Rattle.hyd_spec_input.specs.OptionsAndTimesInForce as force
use Rattle.hyd_spec_input.specs.MeaningsAcrossRows.{number_in}
use Rattle.hyd_spec_input.specs.Project.{Match}
use Rattle.hyd_spec_input.specs.SectionsAndTables.{Point, curve_named}
use Rattle.hyd_spec_input.specs.FaultsWithOtherRows as others
use Rattle.hyd_curves.specs.CurveFaults.{pump_fault}
use Rattle.hyd_curves.specs.VerdictsOnCurves.{on_no_points, verdict_at, IsVerdictOf, IsVerdictOn, AreVerdicts}
use Rattle.hyd_curves.specs.Points.{points_in, each, list_of, ArePoints}
use Rattle.hyd_curves.specs.declared.verdicts_on_curves.CurveVerdict.{CurveVerdict}
use Rattle.hyd_curves.specs.declared.verdicts_on_curves.CurveVerdicts.{CurveVerdicts}
use Rattle.hyd_curves.specs.declared.points.Points.{Points}
use Rattle.hyd_curves.specs.declared.points.CurvePoint.{CurvePoint}
use Rattle.hyd_theorems_on_input.proofs.MatchedLists.{match_push}

-- ---- item by item

pub match_at : {A B : Type 0} (R : A → B → Type 0) (xs : List A) (ys : List B) (k : ℕ) (d : A) (e : B) → Match R xs ys
    → R d e → R (get_or xs k d) (get_or ys k e)
match_at R [] [] k d e m r = r
match_at R [] (b ∷ bs) k d e m r = absurd m
match_at R (a ∷ rest) [] k d e m r = absurd m
match_at R (a ∷ rest) (b ∷ bs) zero d e m r = m.0
match_at R (a ∷ rest) (b ∷ bs) (suc k) d e m r = match_at R rest bs k d e m.1 r

-- ---- by name

one_range : (bent bend straight : Bool) (cause : Cause)
    → unless (if bent then bend else straight) cause
    ≡ (if bent then unless bend cause else unless straight cause)
one_range true bend straight cause = refl
one_range false bend straight cause = refl

pub pump_is : (rows : List Row) (name : List ℕ)
    → pump_fault (force.unit rows) (curve_named rows name) ≡ others.curve_of_pump rows (Some name)
pump_is rows name =
    let points = curve_named rows name in
    ap (λ (f : Option Cause). or_else (unless (is_pump_curve points) (Unsupported 4)) f)
    (one_range (is_bent points)
    (begins_forward points && is_pump_bend (head_points (force.unit rows) (others.us rows) points))
    (are_flows (force.unit rows) points && has_shutoff (others.us rows) points) Range)

of_name : (rows : List Row) (name : List ℕ) (verdict : CurveVerdict)
    → IsVerdictOf (force.unit rows) (curve_named rows name) verdict → IsVerdictOn rows name verdict
of_name rows name verdict is = record {
  pump = is.pump ∙ pump_is rows name;
  refused = λ right. is.refused (pump_is rows name ∙ right);
  accepted = λ right. is.accepted (pump_is rows name ∙ right);
  valve = is.valve;
}

no_number : (unit : FlowUnit) → IsVerdictOf unit [] on_no_points
no_number unit = record {
  pump = refl;
  refused = λ right. absurd (let x : ⊥ = cc in x);
  accepted = λ right. absurd (let x : ⊥ = cc in x);
  valve = refl;
}

-- the verdict of a number that a name may have
at_number : (unit : FlowUnit) (lists : List (List Point)) (verdicts : List CurveVerdict)
    → Match (IsVerdictOf unit) lists verdicts → (found : Option ℕ)
    → IsVerdictOf unit (list_of lists found) (verdict_at verdicts found)
at_number unit lists verdicts m None = no_number unit
at_number unit lists verdicts m (Some number) =
    match_at (IsVerdictOf unit) lists verdicts number [] on_no_points m (no_number unit)

pub all_named : (rows : List Row) (names : List (List ℕ)) (unit : FlowUnit) (points : Points) (verdicts : CurveVerdicts)
    → unit ≡ force.unit rows → ArePoints rows names points
    → Match (IsVerdictOf unit) (each points.lists.items) verdicts.each.items → AreVerdicts rows names verdicts
all_named rows names unit points verdicts u are m = record {
  named = λ name.
      let found = number_in names name in
      let one : IsVerdictOf unit (list_of (each points.lists.items) found) (verdict_at verdicts.each.items found) =
      at_number unit (each points.lists.items) verdicts.each.items m found in
      let two : IsVerdictOf (force.unit rows) (curve_named rows name) (verdict_at verdicts.each.items found) =
      rw (← u, ← are.named name) one in
      of_name rows name (verdict_at verdicts.each.items found) two;
}

-- ---- one curve more

pub verdict_more : (unit : FlowUnit) (lists : List (ListView CurvePoint)) (k : ℕ) (list : ListView CurvePoint)
    (verdicts after : List CurveVerdict) (verdict : CurveVerdict) → k < length lists → list ≡ get_or lists k list
    → Match (IsVerdictOf unit) (each (take k lists)) verdicts → IsVerdictOf unit (points_in list.list) verdict
    → after ≡ verdicts ++ verdict ∷ [] → Match (IsVerdictOf unit) (each (take (k + 1) lists)) after
verdict_more unit lists k list verdicts after verdict l is before one e =
    let more : each (take (k + 1) lists) ≡ each (take k lists) ++ points_in list.list ∷ [] =
    ap each (take_more lists k list l)
    ∙ map-append (λ (v : ListView CurvePoint). points_in v.list) (take k lists) (get_or lists k list ∷ [])
    ∙ ap (λ (v : ListView CurvePoint). each (take k lists) ++ points_in v.list ∷ []) (sym is) in
    rw (more, e) (match_push (IsVerdictOf unit) (each (take k lists)) verdicts (points_in list.list) verdict before one)

pub verdicts_all : (unit : FlowUnit) (lists : List (ListView CurvePoint)) (k : ℕ) (verdicts : List CurveVerdict)
    → length lists ≤ k → Match (IsVerdictOf unit) (each (take k lists)) verdicts
    → Match (IsVerdictOf unit) (each lists) verdicts
verdicts_all unit lists k verdicts l m =
    subst (λ (vs : List (ListView CurvePoint)). Match (IsVerdictOf unit) (each vs) verdicts) (take_all k lists l) m
