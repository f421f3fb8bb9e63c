-- Tanks of a file without a fault.
use Rattle.std.proofs.Common.{◌≡◌, ◌+◌, ◌*◌, ◌^◌, ◌≤◌, ℕ, true, List, [], ◌∷◌, Option, Some, None, refl, ap, ◌∙◌, subst}
use Rattle.std.proofs.Common.{slice_get, take, arith}
use Rattle.std.specs.Prelude.{ℤ, pos, ◌≤ℤ◌, ◌+ℤ◌, unsigned_abs, codes, ◌&&◌}
use Rattle.std.proofs.lemmas.Int.{ints}
use Rattle.std.proofs.lemmas.Bool.{and_parts}
use lib.Signed.{le_z}
use Rattle.hyd_num.specs.FileQuantity.{head_ticks}
use Rattle.hyd_num.specs.declared.flow_units.FlowUnit.{FlowUnit}
use Rattle.hyd_spec_lines.specs.Lines.{Row}
use Rattle.hyd_spec_lines.specs.declared.section.Section.TheVariants.{Tanks}
use Rattle.hyd_net.specs.NumberRanges.{IsHead, Lies}
use Rattle.hyd_net.specs.declared.nodes.Tank.{Tank}
use Rattle.hyd_spec_input.specs.SingleRows.{IsWrongByItself}
use Rattle.hyd_spec_input.specs.Columns.{needed, optional, ends, id, number, not_negative, one_of, word, amount, units}
use Rattle.hyd_spec_input.specs.Faults.{NoneIs, IsWrongWithOthers}
use Rattle.hyd_spec_input.specs.OptionsAndTimesInForce as force
use Rattle.hyd_spec_input.specs.MeaningsAcrossRows.{shape_names}
use Rattle.hyd_spec_input.specs.NodeAndLinkRows as form
use Rattle.hyd_spec_input.specs.Project.{Match, IsTank, shape_number}
use Rattle.hyd_spec_input.specs.SectionsAndTables.{is_of, rows_of}
use Rattle.hyd_spec_input.specs.FaultsWithOtherRows as others
use Rattle.hyd_spec_input.specs.FaultsWithOtherRows.{us}
use Rattle.hyd_lemmas.proofs.BooleanTests.{le_z-yes}
use Rattle.hyd_theorems_on_input.proofs.RowsWithoutFault.{all_none, needed_none, in_range, within}
use Rattle.hyd_theorems_on_input.proofs.NodeRanges.{head_right, head_rises, head_sum}
use Rattle.hyd_build_nodes_patterns_and_options.specs.ReservoirsAndTanks.{number_of, AreSmall, IsTankOf, HasTankMore}
use Rattle.hyd_theorems_on_input.proofs.CurvePoints.{no_head}
use Rattle.hyd_build_nodes_patterns_and_options.proofs.RowsWithoutFault.{alone, among, small_head, built_more}

shape_is : (rows : List Row) (name : Option (List ℕ)) → number_of (shape_names rows) name ≡ shape_number rows name
shape_is rows None = refl
shape_is rows (Some name) = refl

tank_is : (rows : List Row) (row : Row) (t : Tank) (unit : FlowUnit) (shapes : List (List ℕ))
    → unit ≡ force.unit rows → shapes ≡ shape_names rows → IsTankOf unit shapes row.words t → IsTank rows row t
tank_is rows row t unit shapes u s of = record {
  bottom = rw (← u, ← of.says.bottom) of.by_row.bottom;
  initial = rw (← u, ← of.says.initial) of.by_row.initial;
  minimum = rw (← u, ← of.says.minimum) of.by_row.minimum;
  maximum = rw (← u, ← of.says.maximum) of.by_row.maximum;
  diameter = of.by_row.diameter ∙ of.says.diameter;
  area = rw (← u) of.by_row.area;
  shape = of.by_row.shape ∙ ap (number_of shapes) of.says.curve ∙ rw s (shape_is rows (form.tank_curve row.words));
  overflow = of.by_row.overflow ∙ of.says.overflows;
}

pub tank_more : (rows : List Row) (k : ℕ) (row : Row) (unit : FlowUnit) (shapes : List (List ℕ))
    (before after : List Tank) → Match (IsTank rows) (rows_of Tanks (take k rows)) before → slice_get rows k ≡ Some row
    → is_of Tanks row ≡ true → unit ≡ force.unit rows → shapes ≡ shape_names rows
    → HasTankMore unit shapes row.words before after → Match (IsTank rows) (rows_of Tanks (take (k + 1) rows)) after
tank_more rows k row unit shapes before after built is member u s more =
    built_more Tanks (IsTank rows) rows k row before after more.tank built is member
    (tank_is rows row more.tank unit shapes u s more.made) more.more

-- ---- quantities

record TankNumbers (words : List (List ℕ)) : Type 0 where
  lowest : pos 0 ≤ℤ amount 3 words
  above_lowest : amount 3 words ≤ℤ amount 2 words
  below_highest : amount 2 words ≤ℤ amount 4 words
  across : Lies (form.least_diameter (form.tank_curve words)) (units 1000) (amount 5 words)

tank_numbers : (words : List (List ℕ)) → form.tank words ≡ None → TankNumbers words
tank_numbers words e =
    let each = all_none (needed id 0 words ∷ needed number 1 words ∷ needed not_negative 2 words
    ∷ needed (form.level (λ nano. le_z nano (amount 2 words))) 3 words
    ∷ needed (form.level (λ nano. le_z (amount 2 words) nano)) 4 words ∷ needed (form.diameter words) 5 words
    ∷ optional not_negative 6 words ∷ optional form.curve_or_none 7 words
    ∷ optional (one_of (codes "NO" ∷ codes "YES" ∷ [])) 8 words ∷ ends 9 words ∷ []) e in
    let low = and_parts (le_z (pos 0) (amount 3 words)) (le_z (amount 3 words) (amount 2 words))
    (in_range (λ nano. le_z (pos 0) nano && le_z nano (amount 2 words)) (word 3 words)
    (needed_none (form.level (λ nano. le_z nano (amount 2 words))) 3 words each.1.1.1.0).right) in
    let high = and_parts (le_z (pos 0) (amount 4 words)) (le_z (amount 2 words) (amount 4 words))
    (in_range (λ nano. le_z (pos 0) nano && le_z (amount 2 words) nano) (word 4 words)
    (needed_none (form.level (λ nano. le_z (amount 2 words) nano)) 4 words each.1.1.1.1.0).right) in
    record {
      lowest = le_z-yes _ _ low.0;
      above_lowest = le_z-yes _ _ low.1;
      below_highest = le_z-yes _ _ high.1;
      across = within _ _ (word 5 words) (needed_none (form.diameter words) 5 words each.1.1.1.1.1.0).right;
    }

across_at_least : (curve : Option (List ℕ)) (z : ℤ) → Lies (form.least_diameter curve) (units 1000) z → pos 0 ≤ℤ z
across_at_least None z l = omega (arith, ints, l.at_least)
across_at_least (Some name) z l = l.at_least

across_at_most : (curve : Option (List ℕ)) (z : ℤ) → Lies (form.least_diameter curve) (units 1000) z
    → z ≤ℤ pos (1000 * 10 ^ 9)
across_at_most curve z l = l.at_most

-- a level between no head and another one that fits
level_is_small : (low level high : ℤ) → pos 0 ≤ℤ low → low ≤ℤ level → level ≤ℤ high → unsigned_abs high ≤ 2 * 10 ^ 17
    → unsigned_abs level ≤ 2 * 10 ^ 17
level_is_small low level high a b c small = grind (arith, ints)

top_is_small : (bottom high : ℤ) → IsHead bottom → IsHead (bottom +ℤ high) → pos 0 ≤ℤ high
    → unsigned_abs high ≤ 2 * 10 ^ 17
top_is_small bottom high a b c = grind (arith, ints, a.at_least, a.at_most, b.at_least, b.at_most)

small_of : (rows : List Row) (words : List (List ℕ)) → TankNumbers words
    → IsHead (head_ticks (us rows) (amount 1 words)) → IsHead (head_ticks (us rows) (amount 1 words +ℤ amount 4 words))
    → AreSmall (force.unit rows) words
small_of rows words own bottom top =
    let u = us rows in
    let low : pos 0 ≤ℤ head_ticks u (amount 3 words) =
    subst (λ z. z ≤ℤ head_ticks u (amount 3 words)) (no_head u) (head_rises u (pos 0) (amount 3 words) own.lowest) in
    let first : head_ticks u (amount 3 words) ≤ℤ head_ticks u (amount 2 words) =
    head_rises u (amount 3 words) (amount 2 words) own.above_lowest in
    let next : head_ticks u (amount 2 words) ≤ℤ head_ticks u (amount 4 words) =
    head_rises u (amount 2 words) (amount 4 words) own.below_highest in
    let sum : IsHead (head_ticks u (amount 1 words) +ℤ head_ticks u (amount 4 words)) =
    subst IsHead (head_sum u (amount 1 words) (amount 4 words)) top in
    let positive : pos 0 ≤ℤ head_ticks u (amount 4 words) = omega (arith, ints, low, first, next) in
    let high : unsigned_abs (head_ticks u (amount 4 words)) ≤ 2 * 10 ^ 17 =
    top_is_small (head_ticks u (amount 1 words)) (head_ticks u (amount 4 words)) bottom sum positive in
    record {
      bottom = small_head _ bottom;
      initial = level_is_small (head_ticks u (amount 3 words)) (head_ticks u (amount 2 words))
          (head_ticks u (amount 4 words)) low first next high;
      minimum = level_is_small (pos 0) (head_ticks u (amount 3 words)) (head_ticks u (amount 4 words))
          (omega (arith, ints)) low (omega (arith, ints, first, next)) high;
      maximum = high;
      across_at_least = across_at_least (form.tank_curve words) (amount 5 words) own.across;
      across_at_most = across_at_most (form.tank_curve words) (amount 5 words) own.across;
    }

pub are_small : (rows : List Row) (k : ℕ) (row : Row) (unit : FlowUnit) → NoneIs (IsWrongByItself rows)
    → NoneIs (IsWrongWithOthers rows) → slice_get rows k ≡ Some row → is_of Tanks row ≡ true → unit ≡ force.unit rows
    → AreSmall unit row.words
are_small rows k row unit itself right is of u =
    let each = all_none (others.tank_faults rows k row) (among Tanks rows k row right is of) in
    rw u (small_of rows row.words (tank_numbers row.words (alone Tanks rows k row itself is of))
    (head_right rows (amount 1 row.words) each.1.1.1.0)
    (head_right rows (amount 1 row.words +ℤ amount 4 row.words) each.1.1.1.1.1.0))
