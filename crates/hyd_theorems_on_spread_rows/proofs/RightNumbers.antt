-- The numbers of rows without a fault: factors and offsets are in range, around 1 and around 0, and levels lie within
-- the bounds of tanks.
use Rattle.std.proofs.Common.{◌≡◌, ℕ, zero, suc, ◌+◌, ◌/◌, ◌^◌, ◌≤◌, ℤ}
use Rattle.std.proofs.Common.{pos, negsuc, neg_ℤ, ◌+ℤ◌, ◌-ℤ◌, ◌≤ℤ◌, refl, sym, ap}
use Rattle.std.proofs.Common.{◌∙◌, arith, Bool, true, false, List, [], ◌∷◌, inl, inr}
use Rattle.std.specs.Prelude.{Some, None, slice_get, unsigned_abs, ◌&&◌}
use Rattle.std.specs.List.{list_all}
use Rattle.std.proofs.lemmas.Bool.{cases_Bool, and_parts}
use Rattle.std.proofs.lemmas.Int.{ints}
use lib.Signed.{le_z}
use Rattle.hyd_net.specs.NumberRanges.{head_limit}
use Rattle.hyd_num.specs.FileQuantity.{head_ticks}
use Rattle.hyd_num.specs.Numeral.{nano_of}
use Rattle.hyd_spec.specs.ProgramTypes.{Project, Tank}
use Rattle.hyd_spec.specs.DemandsHeadsAndPumpLifts.{is_us}
use Rattle.hyd_spec_input.specs.Columns.{word, amount, units, needed, ends, number_within, number_where}
use Rattle.hyd_spec_spread.specs.Spreads.{IsAroundOne, Holds}
use Rattle.hyd_spec_spread_rows.specs.declared.Subject.{Subject}
use Rattle.hyd_spec_spread_rows.specs.declared.Subject.TheVariants.{Demand, Emitter, Head, Level}
use Rattle.hyd_spec_spread_rows.specs.declared.Ends.{Ends}
use Rattle.hyd_spec_spread_rows.specs.RowsOfSpreads.{ends_by_percent, before_percent, percent, least_factor}
use Rattle.hyd_spec_spread_rows.specs.RowsOfSpreads.{greatest_percentage, factor_words, offset_words, level_words}
use Rattle.hyd_spec_spread_rows.specs.RowsOfSpreads.{is_low_level, is_high_level, in_head_ticks, part_of_one}
use Rattle.hyd_spec_spread_rows.specs.RowsOfSpreads.{factor_ends, length_ends}
use Rattle.hyd_spec_spread_rows.specs.TextsOfSpreads.{factors_from, interval_from}
use Rattle.hyd_spec_spread_rows.specs.RangesOfEnds.{AreFactors, AreOffsets}
use Rattle.hyd_lemmas.proofs.BooleanTests.{le_z-yes}
use Rattle.hyd_theorems_on_input.proofs.NodeRanges.{head_rises}
use Rattle.hyd_theorems_on_input.proofs.RowsWithoutFault.{all_none, needed_none, within, in_range}

-- ---- factors

abs-positive : (z : ℤ) → pos 0 ≤ℤ z → pos (unsigned_abs z) ≡ z
abs-positive (pos n) le = refl
abs-positive (negsuc n) le = absurd (omega (arith, ints, le))

-- factors in range have 1 among them
pub around-one : (ends : Ends) → AreFactors ends → IsAroundOne (factors_from ends)
around-one ends range =
    let some = range.least.at_least in
    let below = range.least.at_most in
    let above = range.greatest.at_least in
    let a = abs-positive ends.low some in
    let b = abs-positive ends.high (omega (arith, ints, above)) in
    record { least = omega (arith, ints, a, below); greatest = omega (arith, ints, b, above) }

factors : (low high : ℤ) → pos 0 ≤ℤ low → low ≤ℤ units 1 → units 1 ≤ℤ high → high ≤ℤ units (10 ^ 6)
    → AreFactors (record { low = low; high = high })
factors low high some below above most = record {
  least = record { at_least = some; at_most = omega (arith, ints, below) };
  greatest = record { at_least = omega (arith, ints, above); at_most = omega (arith, ints, most) };
}

part-small : (n : ℕ) → n ≤ 10 ^ 11 → (n + 99) / 100 ≤ 10 ^ 9
part-small n le = omega (arith, le)

least-positive : (s : Subject) → pos 0 ≤ℤ least_factor s
least-positive Demand = omega (arith, ints)
least-positive Emitter = omega (arith, ints)
least-positive Head = omega (arith, ints)
least-positive Level = omega (arith, ints)

greatest-small : (s : Subject) → greatest_percentage s ≤ℤ pos (10 ^ 11)
greatest-small Demand = omega (arith, ints)
greatest-small Emitter = omega (arith, ints)
greatest-small Head = omega (arith, ints)
greatest-small Level = omega (arith, ints)

pub factors-right : (s : Subject) (words : List (List ℕ)) → factor_words s words ≡ None
    → AreFactors (factor_ends words)
factors-right s words e = elim (cases_Bool (ends_by_percent (word 2 words))) [
  | inl by_percent ↦
      let parts = all_none (needed (percent (greatest_percentage s)) 2 words ∷ ends 3 words ∷ [])
      (rw by_percent at e) in
      let w = needed_none (percent (greatest_percentage s)) 2 words parts.0 in
      let p = nano_of (before_percent (word 2 words)) in
      let range = within (pos 0) (greatest_percentage s) (before_percent (word 2 words)) w.right in
      let low = range.at_least in
      let high = range.at_most in
      let most = greatest-small s in
      let size = abs-positive p low in
      let small = part-small (unsigned_abs p) (omega (arith, ints, size, high, most)) in
      rw by_percent (factors (units 1 -ℤ pos (part_of_one p)) (units 1 +ℤ pos (part_of_one p))
      (omega (arith, ints, small)) (omega (arith, ints)) (omega (arith, ints)) (omega (arith, ints, small)))
  | inr by_factor ↦
      let parts = all_none (needed (number_within (least_factor s) (units 1)) 2 words
      ∷ needed (number_within (units 1) (units (10 ^ 6))) 3 words ∷ ends 4 words ∷ []) (rw by_factor at e) in
      let v = needed_none (number_within (least_factor s) (units 1)) 2 words parts.0 in
      let w = needed_none (number_within (units 1) (units (10 ^ 6))) 3 words parts.1.0 in
      let a = within (least_factor s) (units 1) (word 2 words) v.right in
      let b = within (units 1) (units (10 ^ 6)) (word 3 words) w.right in
      let some = least-positive s in
      let least = a.at_least in
      rw by_factor (factors (amount 2 words) (amount 3 words) (omega (arith, ints, some, least)) a.at_most b.at_least
      b.at_most)
]

-- ---- lengths

no-ticks : (us : Bool) → head_ticks us (pos 0) ≡ pos 0
no-ticks true = refl
no-ticks false = refl

-- 10,000 feet or metres are at most the greatest head
farthest : (us : Bool) → head_ticks us (units (10 ^ 4)) ≤ℤ pos head_limit
farthest true = omega (arith, ints)
farthest false = omega (arith, ints)

farthest-down : (us : Bool) → neg_ℤ (pos head_limit) ≤ℤ head_ticks us (neg_ℤ (units (10 ^ 4)))
farthest-down true = omega (arith, ints)
farthest-down false = omega (arith, ints)

pub offsets-right : (project : Project) (words : List (List ℕ)) → offset_words words ≡ None
    → AreOffsets (length_ends project words)
offsets-right project words e =
    let parts = all_none (needed (number_within (neg_ℤ (units (10 ^ 4))) (pos 0)) 2 words
    ∷ needed (number_within (pos 0) (units (10 ^ 4))) 3 words ∷ ends 4 words ∷ []) e in
    let v = needed_none (number_within (neg_ℤ (units (10 ^ 4))) (pos 0)) 2 words parts.0 in
    let w = needed_none (number_within (pos 0) (units (10 ^ 4))) 3 words parts.1.0 in
    let a = within (neg_ℤ (units (10 ^ 4))) (pos 0) (word 2 words) v.right in
    let b = within (pos 0) (units (10 ^ 4)) (word 3 words) w.right in
    let us = is_us project in
    let lowest = head_rises us (neg_ℤ (units (10 ^ 4))) (amount 2 words) a.at_least in
    let low = head_rises us (amount 2 words) (pos 0) a.at_most in
    let high = head_rises us (pos 0) (amount 3 words) b.at_least in
    let highest = head_rises us (amount 3 words) (units (10 ^ 4)) b.at_most in
    let zero = no-ticks us in
    let down = farthest-down us in
    let up = farthest us in
    record {
      least = record { at_least = omega (arith, ints, lowest, down); at_most = omega (arith, ints, low, zero) };
      greatest = record { at_least = omega (arith, ints, high, zero); at_most = omega (arith, ints, highest, up) };
    }

-- offsets in range have 0 among them
pub around-zero : (ends : Ends) → AreOffsets ends → Holds (interval_from ends) (pos 0)
around-zero ends range = record { low = range.least.at_most; high = range.greatest.at_least }

all-at : (p : Tank → Bool) (tanks : List Tank) (k : ℕ) (tank : Tank) → list_all p tanks ≡ true
    → slice_get tanks k ≡ Some tank → p tank ≡ true
all-at p [] k tank all at = absurd (cc)
all-at p (t ∷ tanks) zero tank all at =
    let parts = and_parts (p t) (list_all p tanks) all in
    let same : t ≡ tank = cc in
    ap p (sym same) ∙ parts.0
all-at p (t ∷ tanks) (suc k) tank all at =
    all-at p tanks k tank (and_parts (p t) (list_all p tanks) all).1 at

-- the ends of a row for a tank
pub record AreLevels (project : Project) (tank : Tank) (words : List (List ℕ)) : Type 0 where
  pub above_least : tank.minimum ≤ℤ in_head_ticks project (amount 2 words)
  pub low : in_head_ticks project (amount 2 words) ≤ℤ tank.initial
  pub high : tank.initial ≤ℤ in_head_ticks project (amount 3 words)
  pub below_most : in_head_ticks project (amount 3 words) ≤ℤ tank.maximum

pub levels-right : (project : Project) (tanks : List Tank) (words : List (List ℕ)) (k : ℕ) (tank : Tank)
    → level_words project tanks words ≡ None → slice_get tanks k ≡ Some tank → AreLevels project tank words
levels-right project tanks words k tank e at =
    let parts = all_none (needed (number_where (is_low_level project tanks)) 2 words
    ∷ needed (number_where (is_high_level project tanks)) 3 words ∷ ends 4 words ∷ []) e in
    let v = needed_none (number_where (is_low_level project tanks)) 2 words parts.0 in
    let w = needed_none (number_where (is_high_level project tanks)) 3 words parts.1.0 in
    let x = in_head_ticks project (amount 2 words) in
    let y = in_head_ticks project (amount 3 words) in
    let low = all-at (λ (t : Tank). le_z t.minimum x && le_z x t.initial) tanks k tank
    (in_range (is_low_level project tanks) (word 2 words) v.right) at in
    let high = all-at (λ (t : Tank). le_z t.initial y && le_z y t.maximum) tanks k tank
    (in_range (is_high_level project tanks) (word 3 words) w.right) at in
    let a = and_parts (le_z tank.minimum x) (le_z x tank.initial) low in
    let b = and_parts (le_z tank.initial y) (le_z y tank.maximum) high in
    record {
      above_least = le_z-yes tank.minimum x a.0;
      low = le_z-yes x tank.initial a.1;
      high = le_z-yes tank.initial y b.0;
      below_most = le_z-yes y tank.maximum b.1;
    }
