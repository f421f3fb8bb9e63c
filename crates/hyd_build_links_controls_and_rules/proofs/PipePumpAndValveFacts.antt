-- What right rows to build links from say of their pipes, pumps and valves.
use Rattle.std.proofs.Common.{◌≡◌, ◌^◌, ◌<◌, ℕ, Bool, true, false, List, length, Option, Some, None, sym, ap, ◌∙◌}
use Rattle.std.proofs.Common.{subst, arith, inl, inr}
use Rattle.std.specs.Prelude.{nat_le, pos}
use Rattle.std.proofs.lemmas.Bool.{cases_Bool, leb-true}
use Rattle.std.proofs.lemmas.List.{length-map}
use Rattle.hyd_num.specs.FileQuantity.{is_us_unit}
use Rattle.hyd_num.specs.declared.decimals.Decimal.{Decimal}
use Rattle.hyd_spec_lines.specs.Lines.{row_of}
use Rattle.hyd_spec_lines.specs.declared.line.Line.{Line}
use Rattle.hyd_spec_lines.specs.declared.section.Section.TheVariants.{Pipes, Pumps, Valves}
use Rattle.hyd_net.specs.NumberRanges.{Lies, IsUpTo}
use Rattle.hyd_net.specs.declared.refusal_cause.Cause.{Cause}
use Rattle.hyd_network_rows.specs.Rows.{IsPipeRow, IsValveRow}
use Rattle.hyd_network_rows.specs.declared.pipes.PipeRow.{PipeRow}
use Rattle.hyd_network_rows.specs.declared.valves.ValveRow.{ValveRow}
use Rattle.hyd_spec_input.specs.CapacitiesOutOfRange.{IsRefusedPipeBy, IsRefusedValve}
use Rattle.hyd_spec_input.specs.Columns.{or_empty, amount, units}
use Rattle.hyd_spec_input.specs.Curves.{is_bent}
use Rattle.hyd_spec_input.specs.NodeAndLinkRows as alone
use Rattle.hyd_spec_input.specs.SectionsAndTables.{Point, is_of, curve_named}
use Rattle.hyd_spec_input.specs.FaultsWithOtherRows as others
use Rattle.hyd_theorems_on_input.proofs.RowsWithoutFault.{right_alone, right_among, pipe_right, or_none}
use Rattle.hyd_theorems_on_input.proofs.LinkKinds.{PipeNumbers, pipe_numbers, ValveNumbers, valve_numbers, CurveRight}
use Rattle.hyd_theorems_on_input.proofs.LinkKinds.{straight_range, pump_right, coefficient_right}
use Rattle.hyd_judge_links_controls_and_rules.proofs.RangeLemmas.{throttle_alone}
use Rattle.hyd_judge_links_controls_and_rules.proofs.RangeLemmas as range
use Rattle.hyd_build_links_controls_and_rules.specs.Pumps.{ArePumpPoints}
use Rattle.hyd_build_links_controls_and_rules.specs.RowsToBuildLinksFrom.{IsRowOf, rows_from}
use Rattle.hyd_curves.specs.Points.{points_in}
use Rattle.hyd_build_links_controls_and_rules.specs.declared.rows_to_build_links_from.RowsForLinks.{RowsForLinks}
use Rattle.hyd_curves.specs.declared.points.CurvePoint.{CurvePoint}
use Rattle.hyd_build_links_controls_and_rules.proofs.RightRowsToBuildLinksFrom.{rows_for_links_are_right, free_row}

-- a row that is right has no fault
pub no_fault : (fault : Option Cause) (cause : Cause) → fault ≡ None → fault ≡ Some cause → ⊥
no_fault fault cause none some = let x : ⊥ = cc in x

-- ---- pipes

pub record PipeFacts (text : List ℕ) (from : RowsForLinks) (line : Line) : Type 0 where
  pub own : alone.pipe (row_of text line).words ≡ None
  pub numbers : PipeNumbers from.by_power (row_of text line).words
  pub coefficient : from.by_power ≡ true → Lies (pos 1) (units (10 ^ 4)) (amount 5 (row_of text line).words)
  pub free : (pipe : PipeRow) (us : Bool) → IsPipeRow (row_of text line).words pipe → us ≡ is_us_unit from.unit
      → IsRefusedPipeBy from.by_power pipe.length.nano pipe.diameter.nano pipe.roughness.nano pipe.minor.nano us → ⊥

pub pipe_facts : (text : List ℕ) (from : RowsForLinks) (line : Line) → IsRowOf (is_of Pipes) text from line
    → PipeFacts text from line
pipe_facts text from line at =
    let rows = rows_from text from in
    let row = row_of text line in
    let right = rows_for_links_are_right text from at.right in
    let formula = at.right.by_power_is in
    let by_formula = pipe_right rows at.among.place row (right.by_itself at.among.place row at.among.is) at.of in
    let among = right_among rows Pipes at.among.place row right at.among.is at.of in
    record {
      own = right_alone rows Pipes at.among.place row right at.among.is at.of;
      numbers = rw formula (pipe_numbers _ row.words by_formula);
      coefficient = rw formula (coefficient_right _ (amount 5 row.words)
          (or_none (others.ends rows at.among.place row) _ among).1);
      free = λ pipe us is u refused.
          free_row text from at.among.place row Pipes at.right at.among.is at.of
          (let e : us ≡ others.us rows = u ∙ ap is_us_unit at.right.unit_is in
          rw (← is.length, ← is.diameter, ← is.roughness, ← is.minor, ← e, ← formula) refused);
    }

-- ---- valves

pub record ValveFacts (text : List ℕ) (from : RowsForLinks) (line : Line) : Type 0 where
  pub own : alone.valve (row_of text line).words ≡ None
  pub numbers : ValveNumbers (row_of text line).words
  pub coefficient : alone.is_throttle (row_of text line).words ≡ true
      → IsUpTo (10 ^ 6) (amount 5 (row_of text line).words)
  pub fully : (valve : ValveRow) (us : Bool) → IsValveRow (row_of text line).words valve → us ≡ is_us_unit from.unit
      → alone.is_general (row_of text line).words ≡ false
      → IsRefusedValve valve.diameter.nano valve.minor.nano us → ⊥
  pub throttled : (coefficient : Decimal) (us : Bool) → coefficient.nano ≡ amount 5 (row_of text line).words
      → us ≡ is_us_unit from.unit → alone.is_throttle (row_of text line).words ≡ true
      → IsRefusedValve (amount 3 (row_of text line).words) coefficient.nano us → ⊥

pub valve_facts : (text : List ℕ) (from : RowsForLinks) (line : Line) → IsRowOf (is_of Valves) text from line
    → ValveFacts text from line
valve_facts text from line at =
    let rows = rows_from text from in
    let row = row_of text line in
    let own = right_alone rows Valves at.among.place row (rows_for_links_are_right text from at.right) at.among.is
    at.of in
    let free = free_row text from at.among.place row Valves at.right at.among.is at.of in
    record {
      own = own;
      numbers = valve_numbers row.words own;
      coefficient = range.coefficient_right row.words own;
      fully = λ valve us is u g refused.
          free (
            g,
            inl (let e : us ≡ others.us rows = u ∙ ap is_us_unit at.right.unit_is in
                rw (← is.diameter, ← is.minor, ← e) refused),
          );
      throttled = λ coefficient us is u t refused.
          free (
            throttle_alone row.words t,
            inr (
              t,
              let e : us ≡ others.us rows = u ∙ ap is_us_unit at.right.unit_is in
                  rw (← is, ← e) refused,
            ),
          );
    }

-- ---- pumps

few_points : (points : List Point) → length points < 4 → is_bent points ≡ false
few_points points l = elim (cases_Bool (nat_le 4 (length points))) [
  | inl t ↦ absurd (omega (arith, l, leb-true 4 (length points) t))
  | inr f ↦ f
]

pub record PumpFacts (text : List ℕ) (from : RowsForLinks) (line : Line) : Type 0 where
  pub own : alone.pump (row_of text line).words ≡ None
  pub points : (ps : List CurvePoint) (name : List ℕ) → alone.pump_curve (row_of text line).words ≡ Some name
      → points_in ps ≡ curve_named (rows_from text from) name → length ps < 4
      → ArePumpPoints from.unit (points_in ps)
  pub straight : (ps : List CurvePoint) (name : List ℕ) → points_in ps ≡ curve_named (rows_from text from) name
      → length ps < 4 → is_bent (curve_named (rows_from text from) name) ≡ false

pub pump_facts : (text : List ℕ) (from : RowsForLinks) (line : Line) → IsRowOf (is_of Pumps) text from line
    → PumpFacts text from line
pump_facts text from line at =
    let rows = rows_from text from in
    let row = row_of text line in
    let right = rows_for_links_are_right text from at.right in
    let free = free_row text from at.among.place row Pumps at.right at.among.is at.of in
    let few = λ (ps : List CurvePoint) (name : List ℕ) (e : points_in ps ≡ curve_named rows name) (l : length ps < 4).
    (let n : length (curve_named rows name) ≡ length ps = ap length (sym e) ∙ length-map ps _ in
    few_points (curve_named rows name) (omega (arith, n, l))) in
    record {
      own = right_alone rows Pumps at.among.place row right at.among.is at.of;
      points = λ ps name c e l.
          let P : Option (List ℕ) → Type 0 = λ o. CurveRight rows (or_empty o) in
          let curve = subst P c (pump_right rows at.among.place row right at.among.is at.of).curve in
          let bent = few ps name e l in
          let range = straight_range rows name bent curve.range in
          let u = at.right.unit_is in
          rw (e, u) (record {
            straight = bent;
            curve = curve.shape;
            flows = range.0;
            shutoff = range.1;
            free = λ refused. free (rw c (bent, refused));
          });
      straight = few;
    }
