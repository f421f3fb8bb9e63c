-- Links of a file without a fault: their ends, and what they are made of.
use Rattle.std.proofs.Common.{◌≡◌, ℕ, ◌^◌, Bool, true, false, List, [], ◌∷◌, length, drop, Option, Some, None, refl}
use Rattle.std.proofs.Common.{sym, ap, ◌∙◌, subst, arith, inl, inr, true≢false}
use Rattle.std.specs.Prelude.{slice_get, ◌&&◌, ◌==◌, All, ℤ, pos, ◌-ℤ◌, ◌*ℤ◌, ◌≤ℤ◌}
use Rattle.std.specs.List.{list_all}
use Rattle.std.specs.Ordering.{int_eq}
use Rattle.std.specs.Str.{bytes_eq}
use Rattle.std.proofs.lemmas.Bool.{cases_Bool, and_parts, not-true, leb-true, leb-false}
use Rattle.std.proofs.lemmas.Int.{ints}
use Rattle.std.proofs.lemmas.List.{length-map}
use lib.Signed.{le_z, lt_z}
use Rattle.hyd_num.specs.FileQuantity.{is_us_unit, head_ticks, flow_ticks}
use Rattle.hyd_num.specs.declared.flow_units.FlowUnit.{FlowUnit}
use Rattle.hyd_num.specs.declared.decimals.Decimal.{Decimal}
use Rattle.hyd_num.specs.declared.link_capacities.Capacity.{Capacity}
use Rattle.hyd_num.specs.declared.link_capacities.Origin.{Origin}
use Rattle.hyd_num.specs.declared.link_capacities.Origin.TheVariants.{Pump as PumpOrigin}
use Rattle.hyd_spec_lines.specs.Lines.{Row}
use Rattle.hyd_spec_lines.specs.declared.section.Section.{Section}
use Rattle.hyd_spec_lines.specs.declared.section.Section.TheVariants.{Pipes, Pumps, Valves}
use Rattle.hyd_net.specs.NumberRanges.{Lies, IsUpTo}
use Rattle.hyd_net.specs.NetworkRanges.{HasSizes, IsPipe, IsPipeLoss, IsValve, IsValveOrigin, IsPumpOrigin}
use Rattle.hyd_net.specs.Sound as sound
use Rattle.hyd_net.specs.Curves.{IsPumpCurve, IsLossCurve}
use Rattle.hyd_net.specs.RoundedFileNumbers.{IsKindMade, IsLossMade, IsValveMade}
use Rattle.hyd_net.specs.ControlsAndRules.{node_count}
use Rattle.hyd_net.specs.declared.refusal_cause.Cause.TheVariants.{Syntax, Range, Unsupported}
use Rattle.hyd_net.specs.declared.links.Link.{Link}
use Rattle.hyd_net.specs.declared.links.PipeLoss.{PipeLoss}
use Rattle.hyd_net.specs.declared.links.PipeLoss.TheVariants.{Manning, HazenWilliams}
use Rattle.hyd_net.specs.declared.links.LinkKind.{LinkKind}
use Rattle.hyd_net.specs.declared.links.LinkKind.TheVariants.{Pipe, CheckPipe, Pump, CurvePump, Tcv, Fcv, Gpv}
use Rattle.hyd_net.specs.declared.links.OpenValve.{OpenValve}
use Rattle.hyd_net.specs.declared.links.OpenValve.TheVariants.{Quadratic, Linear}
use Rattle.hyd_net.specs.declared.links.ShutoffHead.{ShutoffHead}
use Rattle.hyd_net.specs.declared.links.ShutoffHead.TheVariants.{FourThirds, Given}
use Rattle.hyd_net.specs.declared.project.Project.{Project}
use Rattle.hyd_spec_input.specs.Columns.{unless, needed, optional, ends, id, one_of, is_there, up_to, above_0_to}
use Rattle.hyd_spec_input.specs.Columns.{supported, word, or_empty, amount, units}
use Rattle.hyd_spec_input.specs.NodeAndLinkRows as alone
use Rattle.hyd_spec_input.specs.SectionsAndTables.{Point, place, is_of, is_link, curve_named}
use Rattle.hyd_spec_input.specs.OptionsAndTimesInForce.{unit, has_hazen_williams}
use Rattle.hyd_spec_input.specs.Curves.{drop_of, is_bent, is_within, is_flow, is_pump_curve, square, are_flows}
use Rattle.hyd_spec_input.specs.Curves.{has_shutoff, is_pump_bend, head_point, head_points, begins_at_0, is_valve_bend}
use Rattle.hyd_spec_input.specs.Curves.{begins_forward}
use Rattle.hyd_spec_input.specs.MeaningsAcrossRows.{node_ids}
use Rattle.hyd_spec_input.specs.FaultsWithOtherRows as others
use Rattle.hyd_spec_input.specs.FaultsWithOtherRows.{us, is_speed, multipliers_of}
use Rattle.hyd_spec_input.specs.Project as project
use Rattle.hyd_spec_input.specs.Project.{Where, IsProject, IsLink, IsKind, IsPipeKind, IsPumpKind, IsValveKind}
use Rattle.hyd_spec_input.specs.Project.{IsOpenValve, IsShutoffOf, pump_points, bend_points, numbered_links}
use Rattle.hyd_lemmas.proofs.Each.{all_by}
use Rattle.hyd_lemmas.proofs.BooleanTests.{le_z-yes, lt_z-yes}
use Rattle.hyd_theorems_on_input.proofs.ListsByPlace.{match_all}
use Rattle.hyd_theorems_on_input.proofs.RowsWithoutFault.{AreRight, right_alone, right_among, or_none, all_none}
use Rattle.hyd_theorems_on_input.proofs.RowsWithoutFault.{unless_none}
use Rattle.hyd_theorems_on_input.proofs.RowsWithoutFault.{needed_none, optional_none, lies, within, amount_or_is}
use Rattle.hyd_theorems_on_input.proofs.RowsWithoutFault.{section_is, pipe_right}
use Rattle.hyd_theorems_on_input.proofs.OccurrencesOfNames.{number_inside, number_names, itself}
use Rattle.hyd_theorems_on_input.proofs.Names.{First, Second, Third, one_of_three, link_stands, link_alone, node_length}
use Rattle.hyd_theorems_on_input.proofs.PatternsAndCurvesByNumber.{may_have_pattern, has_bend}
use Rattle.hyd_theorems_on_input.proofs.CurvePoints.{pump_curve_right, loss_curve_right}

-- ---- one of two facts

pub where_true : (b : Bool) (P Q : Type 0) → b ≡ true → Where b P Q → P
where_true true P Q e w = w
where_true false P Q e w = absurd (true≢false (sym e))

pub where_false : (b : Bool) (P Q : Type 0) → b ≡ false → Where b P Q → Q
where_false true P Q e w = absurd (true≢false e)
where_false false P Q e w = w

pub to_where : (b : Bool) (P Q : Type 0) → b ≡ true → P → Where b P Q
to_where true P Q e h = h
to_where false P Q e h = absurd (true≢false (sym e))

-- a row of one section is of no other
pub not_of : (section other : Section) (row : Row) → is_of section row ≡ true → (place section == place other) ≡ false
    → is_of other row ≡ false
not_of section other row of apart = ap (λ (s : Section). place s == place other) (section_is section row of) ∙ apart

-- ---- ends

ends_of : (rows : List Row) (k : ℕ) (row : Row) (l : Link) → AreRight rows → slice_get rows k ≡ Some row
    → is_link row ≡ true → project.HasEnds rows row l
    → (nodes : ℕ) → length (node_ids rows) ≡ nodes → sound.HasEnds nodes l
ends_of rows k row l right is link ends nodes count =
    let each =
    all_none (needed id 0 row.words ∷ needed id 1 row.words ∷ needed (alone.other_end row.words) 2 row.words ∷ [])
    (link_alone rows k row right is link) in
    let other =
    (or_none (id (word 2 row.words)) _ (needed_none (alone.other_end row.words) 2 row.words
    each.1.1.0).right).1 in
    let apart : bytes_eq (word 2 row.words) (word 1 row.words) ≡ false = not-true _ (unless_none _ _ other) in
    record {
      from_node = omega (arith, count, number_inside (node_ids rows) (word 1 row.words) l.from ends.from);
      to_node = omega (arith, count, number_inside (node_ids rows) (word 2 row.words) l.to ends.to);
      apart = λ same.
          let a : slice_get (node_ids rows) l.from ≡ Some (word 1 row.words) =
          number_names (node_ids rows) (word 1 row.words) l.from ends.from in
          let b : slice_get (node_ids rows) l.to ≡ Some (word 2 row.words) =
          number_names (node_ids rows) (word 2 row.words) l.to ends.to in
          let c : Some (word 1 row.words) ≡ Some (word 2 row.words) = sym a ∙ ap (slice_get (node_ids rows)) same
          ∙ b in
          let one : word 1 row.words ≡ word 2 row.words = cc in
          true≢false (sym (rw one (itself (word 2 row.words))) ∙ apart);
    }

pub ends_right : (rows : List Row) (p : Project) → AreRight rows → IsProject rows p
    → All (sound.HasEnds (node_count p)) p.links.list
ends_right rows p right of =
    match_all (IsLink rows) (sound.HasEnds (node_count p)) (numbered_links rows) p.links.list of.links
    (λ n row l at _ made.
    let stands = link_stands rows n row at in
    ends_of rows stands.0.place row l right stands.0.is stands.1 made.ends (node_count p) (node_length rows p of))

-- ---- pipes

-- a pipe's numbers, in billionths; its roughness has a range by itself where losses aren't by Hazen-Williams
pub record PipeNumbers (by_power : Bool) (words : List (List ℕ)) : Type 0 where
  pub long : Lies (pos 1) (units (10 ^ 6)) (amount 3 words)
  pub across : Lies (pos 1) (units (10 ^ 4)) (amount 4 words)
  pub rough : by_power ≡ false → Lies (pos 1) (units 10) (amount 5 words)
  pub fittings : IsUpTo (10 ^ 6) (alone.pipe_minor words)

no_minor : IsUpTo (10 ^ 6) (pos 0)
no_minor = record { at_least = omega (arith, ints); at_most = omega (arith, ints) }

minor_right : (words : List (List ℕ)) → optional (alone.minor_or_status words) 6 words ≡ None
    → IsUpTo (10 ^ 6) (alone.pipe_minor words)
minor_right words e = elim (cases_Bool (alone.has_status_alone words)) [
  | inl t ↦ rw t no_minor
  | inr f ↦ rw f (amount_or_is (IsUpTo (10 ^ 6)) (pos 0) 6 words no_minor (λ w is.
      let right : up_to (10 ^ 6) w ≡ None = rw f at (optional_none (alone.minor_or_status words) 6 words w e is) in
      within (pos 0) (units (10 ^ 6)) w right))
]

rough_of : (by_power : Bool) (words : List (List ℕ)) → needed (alone.roughness by_power) 5 words ≡ None
    → by_power ≡ false → Lies (pos 1) (units 10) (amount 5 words)
rough_of true words e formula = absurd (true≢false formula)
rough_of false words e formula = within _ _ (word 5 words) (needed_none (above_0_to 10) 5 words e).right

-- a Hazen-Williams coefficient that is right with the other rows
pub coefficient_right : (by_power : Bool) (n : ℤ) → others.coefficient by_power n ≡ None → by_power ≡ true
    → Lies (pos 1) (units (10 ^ 4)) n
coefficient_right true n e formula = lies (pos 1) (units (10 ^ 4)) n (unless_none _ _ e)
coefficient_right false n e formula = absurd (true≢false (sym formula))

pub pipe_numbers : (by_power : Bool) (words : List (List ℕ)) → alone.pipe_by by_power words ≡ None
    → PipeNumbers by_power words
pipe_numbers by_power words e =
    let each = all_none (alone.link_ends words ∷ needed (above_0_to (10 ^ 6)) 3 words ∷ needed (above_0_to (10 ^ 4)) 4
    words
    ∷ needed (alone.roughness by_power) 5 words ∷ optional (alone.minor_or_status words) 6 words
    ∷ optional (one_of alone.pipe_statuses) 7 words ∷ ends 8 words ∷ []) e in
    record {
      long = within _ _ (word 3 words) (needed_none (above_0_to (10 ^ 6)) 3 words each.1.0).right;
      across = within _ _ (word 4 words) (needed_none (above_0_to (10 ^ 4)) 4 words each.1.1.0).right;
      rough = rough_of by_power words each.1.1.1.0;
      fittings = minor_right words each.1.1.1.1.0;
    }

pipe_origin : (unit : FlowUnit) (words : List (List ℕ)) (cap : Capacity) → PipeNumbers false words
    → project.IsPipeOf (is_us_unit unit) (amount 3 words) (amount 4 words) (amount 5 words) (alone.pipe_minor words)
    cap → IsPipe unit cap.origin
pipe_origin unit words cap own made = subst (λ (o : Origin). IsPipe unit o) (sym made.origin) (record {
  long = rw made.l_is own.long;
  across = rw made.d_is own.across;
  rough = rw made.n_is (own.rough refl);
  fittings = rw made.k_is own.fittings;
  same_system = refl;
})

-- what is lost in a pipe is in range, and made of its numbers
record LossRight (unit : FlowUnit) (loss : PipeLoss) : Type 0 where
  pub sizes : IsPipeLoss unit loss
  pub made : IsLossMade loss

pipe_loss : (rows : List Row) (row : Row) (loss : PipeLoss)
    → alone.pipe_by (has_hazen_williams rows) row.words ≡ None
    → others.coefficient (has_hazen_williams rows) (amount 5 row.words) ≡ None
    → project.IsPipeRow rows row loss → LossRight (unit rows) loss
pipe_loss rows row (Manning cap) e among is =
    record {
      sizes = pipe_origin (unit rows) row.words cap (pipe_numbers false row.words (rw is.0 at e)) is.1;
      made = is.1.made;
    }
pipe_loss rows row (HazenWilliams cap) e among is =
    let own = pipe_numbers (has_hazen_williams rows) row.words e in
    record {
      sizes = record {
        long = rw is.1.length_is own.long;
        across = rw is.1.diameter_is own.across;
        coefficient = rw is.1.coefficient_is (coefficient_right _ (amount 5 row.words) among is.0);
        fittings = rw is.1.minor_is own.fittings;
        same_system = is.1.us_is;
      };
      made = is.1.made;
    }

-- what a link is made of is in range, and made of its numbers
pub record KindRight (p : Project) (unit : FlowUnit) (kind : LinkKind) : Type 0 where
  pub sizes : HasSizes unit p.patterns.list p.bends.list kind
  pub made : IsKindMade unit kind

pipe_kind : (rows : List Row) (p : Project) (row : Row) (kind : LinkKind)
    → alone.pipe_by (has_hazen_williams rows) row.words ≡ None
    → others.coefficient (has_hazen_williams rows) (amount 5 row.words) ≡ None → IsPipeKind rows row kind → KindRight p (unit rows) kind
pipe_kind rows p row (Pipe loss) e among is =
    let right = pipe_loss rows row loss e among is.1 in record { sizes = right.sizes; made = right.made }
pipe_kind rows p row (CheckPipe loss) e among is =
    let right = pipe_loss rows row loss e among is.1 in record { sizes = right.sizes; made = right.made }
pipe_kind rows p row (Pump cap shutoff head pattern) e among is = absurd is
pipe_kind rows p row (CurvePump bend pattern) e among is = absurd is
pipe_kind rows p row (Tcv valve) e among is = absurd is
pipe_kind rows p row (Fcv valve) e among is = absurd is
pipe_kind rows p row (Gpv bend) e among is = absurd is

-- ---- pumps

-- the curve of a pump is there, and in range
pub record CurveRight (rows : List Row) (name : List ℕ) : Type 0 where
  pub shape : is_pump_curve (curve_named rows name) ≡ true
  pub range : others.pump_curve_range rows name ≡ None

curve_right : (rows : List Row) (o : Option (List ℕ)) → is_there o ≡ true → others.curve_of_pump rows o ≡ None
    → CurveRight rows (or_empty o)
curve_right rows None there e = absurd (true≢false (sym there))
curve_right rows (Some name) there e =
    let both = or_none (unless (is_pump_curve (curve_named rows name)) (Unsupported 4))
    (others.pump_curve_range rows name) e in
    record { shape = unless_none _ _ both.0; range = both.1 }

one_above : (z : ℤ) → lt_z (pos 0) z ≡ true → pos 1 ≤ℤ z
one_above z e = let l = lt_z-yes (pos 0) z e in omega (arith, ints, l)

-- a curve of one point or of three
pump_origin : (unit : FlowUnit) (points : List Point) (head : ShutoffHead) (q h : Decimal) → is_bent points ≡ false
    → is_pump_curve points ≡ true
    → are_flows unit points ≡ true → has_shutoff (is_us_unit unit) points ≡ true → IsShutoffOf points head
    → q.nano ≡ (drop_of points).flow → h.nano ≡ (drop_of points).drop
    → IsPumpOrigin unit head (PumpOrigin q h (drop_of points).thirds unit)
pump_origin unit [] head q h bent curve flows shutoff is qn hn = absurd (true≢false (sym curve))
pump_origin unit (a ∷ []) (FourThirds d) q h bent curve flows shutoff is qn hn =
    let both = and_parts (lt_z (pos 0) a.x) (lt_z (pos 0) a.y) curve in
    let flow = and_parts (is_flow unit a.x) true flows in (
      record {
        flows = rw qn (one_above a.x both.0);
        flow_range = rw qn (lies _ _ (flow_ticks unit a.x) flow.0);
        drops = rw hn (one_above a.y both.1);
        same_unit = refl;
      },
      record {
        above = rw is (one_above a.y both.1);
        lost = hn ∙ sym is;
        in_thirds = refl;
        range = rw is (le_z-yes _ _ shutoff);
      },
    )
pump_origin unit (a ∷ []) (Given d) q h bent curve flows shutoff is qn hn = absurd is
pump_origin unit (a ∷ b ∷ []) head q h bent curve flows shutoff is qn hn = absurd (true≢false (sym curve))
pump_origin unit (a ∷ b ∷ c ∷ []) (FourThirds d) q h bent curve flows shutoff is qn hn = absurd is
pump_origin unit (a ∷ b ∷ c ∷ []) (Given d) q h bent curve flows shutoff is qn hn =
    let halves = and_parts (int_eq a.x (pos 0) && (lt_z (pos 0) b.x && lt_z b.x c.x))
    ((lt_z b.y a.y && lt_z c.y b.y) && int_eq ((a.y -ℤ c.y) *ℤ square b.x) ((a.y -ℤ b.y) *ℤ square c.x)) curve in
    let xs = and_parts (int_eq a.x (pos 0)) (lt_z (pos 0) b.x && lt_z b.x c.x) halves.0 in
    let rise = and_parts (lt_z (pos 0) b.x) (lt_z b.x c.x) xs.1 in
    let ys = and_parts (lt_z b.y a.y && lt_z c.y b.y)
    (int_eq ((a.y -ℤ c.y) *ℤ square b.x) ((a.y -ℤ b.y) *ℤ square c.x)) halves.1 in
    let fall = and_parts (lt_z b.y a.y) (lt_z c.y b.y) ys.0 in
    let flow = and_parts (is_flow unit a.x) (is_flow unit b.x && (is_flow unit c.x && true)) flows in
    let second = and_parts (is_flow unit b.x) (is_flow unit c.x && true) flow.1 in
    let top = and_parts (is_within (10 ^ 16) (head_ticks (is_us_unit unit) a.y)) (le_z (a.y -ℤ b.y) (pos (10 ^ 21)))
    shutoff in
    let lower = lt_z-yes b.y a.y fall.0 in (
      record {
        flows = rw qn (one_above b.x rise.0);
        flow_range = rw qn (lies _ _ (flow_ticks unit b.x) second.0);
        drops = rw hn (omega (arith, ints, lower));
        same_unit = refl;
      },
      record {
        whole = refl;
        range = rw is (lies _ _ (head_ticks (is_us_unit unit) a.y) top.0);
      },
    )
pump_origin unit (a ∷ b ∷ c ∷ d ∷ points) head q h bent curve flows shutoff is qn hn =
    let few = leb-false 4 (length (a ∷ b ∷ c ∷ d ∷ points)) bent in absurd (omega (arith, few))

speeds_right : (rows : List Row) (name : Option (List ℕ)) → list_all is_speed (multipliers_of rows name) ≡ true
    → All (IsUpTo 10) (multipliers_of rows name)
speeds_right rows name e = all_by ℤ (IsUpTo 10) is_speed (λ m t. lies (pos 0) (units 10) m t)
    (multipliers_of rows name) e

-- the curve of a pump as it is used
pub straight_range : (rows : List Row) (name : List ℕ) → is_bent (curve_named rows name) ≡ false
    → others.pump_curve_range rows name ≡ None
    → (are_flows (unit rows) (curve_named rows name) ≡ true) × (has_shutoff (us rows) (curve_named rows name) ≡ true)
straight_range rows name bent e =
    let test : unless (are_flows (unit rows) (curve_named rows name) && has_shutoff (us rows) (curve_named rows name))
    Range ≡ None = rw bent at e in
    and_parts _ _ (unless_none _ _ test)

bent_range : (rows : List Row) (name : List ℕ) → is_bent (curve_named rows name) ≡ true
    → others.pump_curve_range rows name ≡ None → IsPumpCurve (bend_points rows name)
bent_range rows name bent e =
    let test : unless (begins_forward (curve_named rows name)
    && is_pump_bend (head_points (unit rows) (us rows) (curve_named rows name))) Range ≡ None =
    rw bent at e in
    let long = leb-true 4 (length (curve_named rows name)) bent in
    pump_curve_right (bend_points rows name)
    (omega (arith, long, length-map (curve_named rows name) (head_point (unit rows) (us rows))))
    (and_parts _ _ (unless_none _ _ test)).1

pub record PumpRight (rows : List Row) (row : Row) : Type 0 where
  pub curve : CurveRight rows (or_empty (alone.pump_curve row.words))
  pub speeds : All (IsUpTo 10) (multipliers_of rows (alone.pump_pattern row.words))

pub pump_right : (rows : List Row) (k : ℕ) (row : Row) → AreRight rows → slice_get rows k ≡ Some row
    → is_of Pumps row ≡ true → PumpRight rows row
pump_right rows k row right is of =
    let own = all_none (alone.link_ends row.words ∷ alone.pump_pairs alone.none_earlier (drop 3 row.words)
    ∷ unless (is_there (alone.pump_curve row.words)) Syntax ∷ []) (right_alone rows Pumps k row right is of) in
    let each = all_none (others.pump_faults rows k row) (right_among rows Pumps k row right is of) in
    record {
      curve = curve_right rows (alone.pump_curve row.words) (unless_none _ _ own.1.1.0) each.1.1.1.0;
      speeds = speeds_right rows (alone.pump_pattern row.words) (unless_none _ _ each.1.1.1.1.0);
    }

pump_kind : (rows : List Row) (p : Project) (row : Row) (kind : LinkKind) → IsProject rows p → PumpRight rows row
    → IsPumpKind rows row kind → KindRight p (unit rows) kind
pump_kind rows p row (Pump cap shutoff head pattern) of right is =
    let range = straight_range rows (or_empty (alone.pump_curve row.words)) is.0 right.curve.range in
    let made = is.1 in
    record {
      sizes = (
        subst (λ (o : Origin). IsPumpOrigin (unit rows) head o) (sym made.origin)
            (pump_origin (unit rows) (pump_points rows row) head made.q made.h is.0 right.curve.shape range.0 range.1
            is.2 made.q_is made.h_is),
        may_have_pattern rows p (IsUpTo 10) (alone.pump_pattern row.words) pattern of is.4 right.speeds,
      );
      made = (made.made, is.3);
    }
pump_kind rows p row (CurvePump bend pattern) of right is = record {
  sizes = (
    has_bend rows p IsPumpCurve (or_empty (alone.pump_curve row.words)) bend of is.1
        (bent_range rows (or_empty (alone.pump_curve row.words)) is.0 right.curve.range),
    may_have_pattern rows p (IsUpTo 10) (alone.pump_pattern row.words) pattern of is.2 right.speeds,
  );
  made = tt;
}
pump_kind rows p row (Pipe cap) of right is = absurd is
pump_kind rows p row (CheckPipe cap) of right is = absurd is
pump_kind rows p row (Tcv valve) of right is = absurd is
pump_kind rows p row (Fcv valve) of right is = absurd is
pump_kind rows p row (Gpv bend) of right is = absurd is

-- ---- valves

-- the law of a valve whose numbers are in range
pub law_right : (unit : FlowUnit) (diameter coefficient : ℤ) (law : OpenValve)
    → Lies (pos 1) (units (10 ^ 4)) diameter → IsUpTo (10 ^ 6) coefficient
    → IsOpenValve (is_us_unit unit) diameter coefficient law → IsValve unit law
law_right unit diameter coefficient (Quadratic cap) across bounds is =
    let above = is.0 in
    let made = is.1 in
    subst (λ (o : Origin). IsValveOrigin unit o) (sym made.origin) (record {
      across = rw made.d_is across;
      coefficient = rw made.k_is (record { at_least = omega (arith, ints, above); at_most = bounds.at_most });
      same_system = refl;
    })
law_right unit diameter coefficient Linear across bounds is = tt

pub law_made : (us : Bool) (diameter coefficient : ℤ) (law : OpenValve) → IsOpenValve us diameter coefficient law
    → IsValveMade law
law_made us diameter coefficient (Quadratic cap) is = is.1.made
law_made us diameter coefficient Linear is = tt

-- a valve's own numbers, in billionths
pub record ValveNumbers (words : List (List ℕ)) : Type 0 where
  pub across : Lies (pos 1) (units (10 ^ 4)) (amount 3 words)
  pub minor : IsUpTo (10 ^ 6) (alone.valve_minor words)
  pub setting : needed (alone.valve_setting words) 5 words ≡ None

pub valve_numbers : (words : List (List ℕ)) → alone.valve words ≡ None → ValveNumbers words
valve_numbers words e =
    let each = all_none (alone.link_ends words ∷ needed (above_0_to (10 ^ 4)) 3 words
    ∷ needed (supported alone.valve_types alone.unsupported_types 2) 4 words
    ∷ needed (alone.valve_setting words) 5 words ∷ optional (up_to (10 ^ 6)) 6 words ∷ ends 7 words ∷ []) e in
    record {
      across = within _ _ (word 3 words) (needed_none (above_0_to (10 ^ 4)) 3 words each.1.0).right;
      minor = amount_or_is (IsUpTo (10 ^ 6)) (pos 0) 6 words no_minor
          (λ w is. within (pos 0) (units (10 ^ 6)) w (optional_none (up_to (10 ^ 6)) 6 words w each.1.1.1.1.0 is));
      setting = each.1.1.1.0;
    }

loss_right : (rows : List Row) (o : Option (List ℕ)) (w : List ℕ) → o ≡ Some w → others.curve_of_valve rows o ≡ None
    → IsLossCurve (bend_points rows (or_empty o))
loss_right rows None w there e = absurd (let x : ⊥ = cc in x)
loss_right rows (Some name) w there e =
    let both = and_parts (begins_at_0 (curve_named rows name))
    (is_valve_bend (head_points (unit rows) (us rows) (curve_named rows name))) (unless_none _ _ e) in
    loss_curve_right (unit rows) (us rows) (curve_named rows name) both.0 both.1

valve_kind : (rows : List Row) (p : Project) (row : Row) (kind : LinkKind) → IsProject rows p → ValveNumbers row.words
    → others.curve_of_valve rows (alone.valve_curve row.words) ≡ None → IsValveKind rows row kind
    → KindRight p (unit rows) kind
valve_kind rows p row (Tcv valve) of own curve is = record {
  sizes = law_right (unit rows) (amount 3 row.words) (alone.valve_minor row.words) valve own.across own.minor is.1;
  made = law_made (us rows) (amount 3 row.words) (alone.valve_minor row.words) valve is.1;
}
valve_kind rows p row (Fcv valve) of own curve is = record {
  sizes = law_right (unit rows) (amount 3 row.words) (alone.valve_minor row.words) valve own.across own.minor is.2;
  made = law_made (us rows) (amount 3 row.words) (alone.valve_minor row.words) valve is.2;
}
valve_kind rows p row (Gpv bend) of own curve is =
    let there : alone.valve_curve row.words ≡ Some (word 5 row.words) =
    rw is.0 (needed_none (alone.valve_setting row.words) 5 row.words own.setting).is in
    record {
      sizes = has_bend rows p IsLossCurve (or_empty (alone.valve_curve row.words)) bend of is.1
          (loss_right rows (alone.valve_curve row.words) (word 5 row.words) there curve);
      made = tt;
    }
valve_kind rows p row (Pipe cap) of own curve is = absurd is
valve_kind rows p row (CheckPipe cap) of own curve is = absurd is
valve_kind rows p row (Pump cap shutoff head pattern) of own curve is = absurd is
valve_kind rows p row (CurvePump bend pattern) of own curve is = absurd is

-- ---- all links

pub as_pipe : (rows : List Row) (row : Row) (kind : LinkKind) → is_of Pipes row ≡ true → IsKind rows row kind
    → IsPipeKind rows row kind
as_pipe rows row kind of is = where_true (is_of Pipes row) _ _ of is

pub as_pump : (rows : List Row) (row : Row) (kind : LinkKind) → is_of Pumps row ≡ true → IsKind rows row kind
    → IsPumpKind rows row kind
as_pump rows row kind of is = where_true (is_of Pumps row) _ _ of
    (where_false (is_of Pipes row) _ _ (not_of Pumps Pipes row of refl) is)

pub as_valve : (rows : List Row) (row : Row) (kind : LinkKind) → is_of Valves row ≡ true → IsKind rows row kind
    → IsValveKind rows row kind
as_valve rows row kind of is =
    where_false (is_of Pumps row) _ _ (not_of Valves Pumps row of refl)
    (where_false (is_of Pipes row) _ _ (not_of Valves Pipes row of refl) is)

kind_right : (rows : List Row) (p : Project) (k : ℕ) (row : Row) (kind : LinkKind) → AreRight rows → IsProject rows p
    → slice_get rows k ≡ Some row → is_link row ≡ true
    → IsKind rows row kind → KindRight p (unit rows) kind
kind_right rows p k row kind right of at link is =
    elim (one_of_three (is_of Pipes row) (is_of Pumps row) (is_of Valves row) link) [
      | First section ↦ pipe_kind rows p row kind (pipe_right rows k row (right.by_itself k row at) section)
          (or_none (others.ends rows k row) _ (right_among rows Pipes k row right at section)).1
          (as_pipe rows row kind section is)
      | Second section ↦ pump_kind rows p row kind of (pump_right rows k row right at section)
          (as_pump rows row kind section is)
      | Third section ↦ valve_kind rows p row kind of
          (valve_numbers row.words (right_alone rows Valves k row right at section))
          (all_none (others.valve_faults rows k row) (right_among rows Valves k row right at section)).1.1.0
          (as_valve rows row kind section is)
    ]

pub kinds_right : (rows : List Row) (p : Project) → AreRight rows → IsProject rows p
    → All (λ l. KindRight p (unit rows) l.kind) p.links.list
kinds_right rows p right of =
    match_all (IsLink rows) (λ l. KindRight p (unit rows) l.kind) (numbered_links rows) p.links.list of.links
    (λ n row l at _ made.
    let stands = link_stands rows n row at in
    kind_right rows p stands.0.place row l.kind right of stands.0.is stands.1 made.kind)

pub sizes_right : (rows : List Row) (p : Project) → AreRight rows → IsProject rows p
    → All (λ l. HasSizes p.options.unit p.patterns.list p.bends.list l.kind) p.links.list
sizes_right rows p right of =
    subst (λ (u : FlowUnit). All (λ (l : Link). HasSizes u p.patterns.list p.bends.list l.kind) p.links.list)
    (sym of.options.unit_is)
    (λ k d l. (kinds_right rows p right of k d l).sizes)

pub kinds_made : (rows : List Row) (p : Project) → AreRight rows → IsProject rows p
    → All (λ l. IsKindMade p.options.unit l.kind) p.links.list
kinds_made rows p right of =
    subst (λ (u : FlowUnit). All (λ (l : Link). IsKindMade u l.kind) p.links.list) (sym of.options.unit_is)
    (λ k d l. (kinds_right rows p right of k d l).made)
