-- What an outer record decides an inner one decides in the same way.
use Rattle.std.proofs.Common.{◌≡◌, ◌≢◌, ℕ, zero, suc, ◌+◌, ◌*◌, ◌≤◌, ℤ, pos, negsuc, neg_ℤ, ◌≤ℤ◌, refl, sym, ap, subst}
use Rattle.std.proofs.Common.{◌∙◌, arith, Bool, true, false, List, [], ◌∷◌, map, ◌⊎◌, inl, inr}
use Rattle.std.specs.Prelude.{Some, slice_get, slice_index_or, unsigned_abs, int_le, if◌then◌else◌, ⊤}
use Rattle.std.specs.List.{AllByRecursion, list_any}
use Rattle.std.proofs.lemmas.Int.{ints}
use Rattle.std.proofs.lemmas.Bool.{cases_Bool, cond_both}
use Rattle.hyd_num.specs.Rational.{whole}
use Rattle.hyd_net.specs.ControlsAndRules.{Compares, IsRule}
use Rattle.hyd_net.specs.Sound.{IsSound}
use Rattle.hyd_spec.specs.ProgramTypes.{Project, Tank, Rule, RuleClause, Clause, LinkState}
use Rattle.hyd_spec.specs.Lists.{map_from}
use Rattle.hyd_spec_certificates.specs.Interval.{Interval}
use Rattle.hyd_spec.specs.Tank.{walls_of}
use Rattle.hyd_spec.specs.Rules.{groups_of, rule_changes, acted}
use Rattle.hyd_spec_certificates.specs.Stocks.{carried_levels}
use Rattle.hyd_spec_certificates.specs.declared.Verdict.{Verdict}
use Rattle.hyd_spec_certificates.specs.declared.Verdict.TheVariants.{Yes, No, Unknown}
use Rattle.hyd_spec_certificates.specs.ThreeValuedLogic.{at_both_ends, is_yes, is_unknown}
use Rattle.hyd_spec_certificates.specs.ThreeValuedLogic.{either, both, some_holds, all_hold}
use Rattle.hyd_spec_certificates.specs.PeriodNetwork.{Grid, GridLink}
use Rattle.hyd_spec_certificates.specs.FlowIntervals.{flow_box}
use Rattle.hyd_spec_certificates.specs.RecordAndStanding.{Record, Standing}
use Rattle.hyd_spec_certificates.specs.Decided.{links_at, stocks_of_tank, inflow_of_tank, least_magnitude}
use Rattle.hyd_spec_certificates.specs.Decided.{greatest_magnitude, heads_below, heads_above, readings_below}
use Rattle.hyd_spec_certificates.specs.Decided.{readings_above, clause_truth, rule_truth, rule_truths, decided_changes}
use Rattle.hyd_spec_certificates.specs.Decided.{SomeMayReach, SomeMustReach, IsClockLength, IsEarliestEnd, RulesMatter}
use Rattle.hyd_spec_certificates.specs.Decided.{EndsBy, ByRules, WithoutRules, by_rules as decided_by_rules}
use Rattle.hyd_spec_certificates.specs.Decided.{by_clock as decided_by_clock}
use Rattle.hyd_spec_certificates.specs.Valid.{LeavesLinks, by_rules as left_by_rules, by_clock as left_by_clock}
use Rattle.hyd_spec_certificates.specs.Valid.{stocks_next}
use Rattle.hyd_theorems_on_definitions.specs.LyingInIntervals.{LiesIn, IsInside, AreInside, HasStock}
use Rattle.hyd_theorems_on_definitions.specs.VerdictsOfTests.{Tells}
use Rattle.hyd_num.proofs.Integers.{one_times}
use Rattle.hyd_lemmas.proofs.Integers.{max_is}
use Rattle.hyd_lemmas.proofs.BooleanTests.{or-false, le-no}
use Rattle.hyd_theorems_on_definitions.proofs.StocksInIntervals.{carried_inside, carried_ordered, next_inside, next_has}
use Rattle.hyd_theorems_on_definitions.proofs.DecidedByEnds.{may_nests, must_nests, must_may}
use Rattle.hyd_theorems_on_histories.specs.Agreement.{IsValueBetween, AreBetween}
use Rattle.hyd_theorems_on_nesting.specs.Nesting.{IsOrdered, AreNested}
use Rattle.hyd_theorems_on_histories.proofs.Clauses.{clause_tells, whole-between}
use Rattle.hyd_theorems_on_histories.proofs.RuleReadingsBetweenEnds.{least-within, greatest-beyond}
use Rattle.hyd_theorems_on_histories.proofs.TruthsAndRuleValues.{each_of, in-groups}
use Rattle.hyd_theorems_on_nesting.proofs.NestedBoxes.{above_within, below_within, inner_ordered, flow_inside}
use Rattle.hyd_theorems_on_nesting.proofs.NestedBoxes.{flow_ordered}
use Rattle.hyd_theorems_on_nesting.proofs.NestedBoxes.{inflow_inside, inflow_ordered}

-- ---- magnitudes

record IsPoint (box : Interval) (n : ℕ) : Type 0 where
  point : ℤ
  lies : LiesIn 1 box point
  is : unsigned_abs point ≡ n

pub lies-one : (box : Interval) (q : ℤ) → box.lo ≤ℤ q → q ≤ℤ box.hi → LiesIn 1 box q
lies-one box q l h = record {
  low = omega (arith, ints, l, one_times box.lo);
  high =
      omega (arith, ints, h, one_times box.hi);
}

one-lies : (box : Interval) (q : ℤ) → LiesIn 1 box q → (box.lo ≤ℤ q) × (q ≤ℤ box.hi)
one-lies box q lies = let l = lies.low in let h = lies.high in
    (omega (arith, ints, l, one_times box.lo), omega (arith, ints, h, one_times box.hi))

pub widened-lies : (inner outer : Interval) (q : ℤ) → IsInside inner outer → LiesIn 1 inner q → LiesIn 1 outer q
widened-lies inner outer q inside lies = let p = one-lies inner q lies in let a = inside.low in let b = inside.high in
    lies-one outer q (let l = p.0 in omega (arith, ints, a, l)) (let h = p.1 in omega (arith, ints, b, h))

least-point : (box : Interval) → IsOrdered box → IsPoint box (least_magnitude box)
least-point box order =
    cond_both (int_le (pos 0) box.lo) (unsigned_abs box.lo) (if int_le box.hi (pos 0) then unsigned_abs box.hi else 0)
    (IsPoint box)
    (λ e. record { point = box.lo; lies = lies-one box box.lo (omega (arith, ints)) order; is = refl })
    (λ e. cond_both (int_le box.hi (pos 0)) (unsigned_abs box.hi) 0 (IsPoint box)
    (λ f. record { point = box.hi; lies = lies-one box box.hi order (omega (arith, ints)); is = refl })
    (λ f. let a = le-no (pos 0) box.lo e in let b = le-no box.hi (pos 0) f in
    record { point = pos 0; lies = lies-one box (pos 0) (omega (arith, ints, a)) (omega (arith, ints, b)); is = refl }))

abs-neg : (z : ℤ) → unsigned_abs z ≡ unsigned_abs (neg_ℤ z)
abs-neg (pos zero) = refl
abs-neg (pos (suc n)) = refl
abs-neg (negsuc n) = refl

greatest-point : (box : Interval) → IsOrdered box → IsPoint box (greatest_magnitude box)
greatest-point box order = max_is (λ m. IsPoint box (unsigned_abs m)) box.hi (neg_ℤ box.lo)
    (λ e. record { point = box.hi; lies = lies-one box box.hi order (omega (arith, ints)); is = refl })
    (λ e. record { point = box.lo; lies = lies-one box box.lo (omega (arith, ints)) order; is = abs-neg box.lo })

record AreMagnitudes (outer : Interval) (n : ℕ) : Type 0 where
  below : 1 * least_magnitude outer ≤ n
  above : n ≤ 1 * greatest_magnitude outer

magnitudes : (outer inner : Interval) (n : ℕ) → IsInside inner outer → IsPoint inner n → AreMagnitudes outer n
magnitudes outer inner n inside p =
    let lies = widened-lies inner outer p.point inside p.lies in
    let a = least-within 1 outer p.point lies in
    let b = greatest-beyond 1 outer p.point lies in
    let e = p.is in
    record { below = omega (arith, ints, a, e); above = omega (arith, ints, b, e) }

mapped-magnitudes : (outer inner : GridLink → Interval) (f : Interval → ℕ) (links : List GridLink)
    → ((l : ℕ) (link : GridLink) → slice_get links l ≡ Some link → AreMagnitudes (outer link) (f (inner link)))
    → (l : ℕ)
    → (1 * slice_index_or (map least_magnitude (map outer links)) l 0 ≤ slice_index_or (map f (map inner links))
    l 0)
    × (slice_index_or (map f (map inner links)) l 0 ≤ 1 * slice_index_or (map greatest_magnitude (map outer links)) l 0)
mapped-magnitudes outer inner f [] each l = (omega arith, omega arith)
mapped-magnitudes outer inner f (link ∷ links) each zero = let a = each 0 link refl in (a.below, a.above)
mapped-magnitudes outer inner f (link ∷ links) each (suc l) = mapped-magnitudes outer inner f links
    (λ m other at. each (suc m) other at) l

-- ---- levels

mapped-levels : (outer inner : ℕ → Tank → Interval) (f : Interval → ℤ) (from : ℕ) (tanks : List Tank)
    → ((k : ℕ) (tank : Tank) → slice_get tanks k ≡ Some tank
    → LiesIn 1 (outer (from + k) tank) (f (inner (from + k) tank)))
    → (k : ℕ)
    → IsValueBetween 1 (slice_index_or (map (λ (level : Interval). whole level.lo) (map_from outer from tanks)) k
    (whole (pos 0)))
    (slice_index_or (map (λ (level : Interval). whole (f level)) (map_from inner from tanks)) k (whole (pos 0)))
    (slice_index_or (map (λ (level : Interval). whole level.hi) (map_from outer from tanks)) k (whole (pos 0)))
mapped-levels outer inner f from [] each k = record {
  some_lo = omega arith;
  some = omega arith;
  some_hi =
      omega arith;
  low = omega (arith, ints);
  high = omega (arith, ints);
}
mapped-levels outer inner f from (tank ∷ tanks) each zero =
    let n : from + 0 ≡ from = omega arith in
    let lies = subst (λ m. LiesIn 1 (outer m tank) (f (inner m tank))) n (each 0 tank refl) in
    whole-between 1 (outer from tank).lo (f (inner from tank)) (outer from tank).hi lies.low lies.high
mapped-levels outer inner f from (tank ∷ tanks) each (suc k) =
    mapped-levels outer inner f (suc from) tanks (λ m other at. let n : from + suc m ≡ suc from + m = omega arith in
    subst (λ p. LiesIn 1 (outer p other) (f (inner p other))) n (each (suc m) other at)) k

-- ---- truths

-- What is known stays so.
abbrev pub Refines : Verdict → Verdict → Type 0
Refines Yes t = t ≡ Yes
Refines No t = t ≡ No
Refines Unknown t = ⊤

pub ends-refine : (t : Verdict) (a b : Bool) → Tells t a → Tells t b → Refines t (at_both_ends a b)
ends-refine Yes a b p q = λ i. at_both_ends (p i) (q i)
ends-refine No a b p q = λ i. at_both_ends (p i) (q i)
ends-refine Unknown a b p q = tt

either-yes : (s t : Verdict) → t ≡ Yes → either s t ≡ Yes
either-yes Yes t e = refl
either-yes No t e = e
either-yes Unknown t e = ap (either Unknown) e

both-no : (s t : Verdict) → t ≡ No → both s t ≡ No
both-no No t e = refl
both-no Yes t e = e
both-no Unknown t e = ap (both Unknown) e

either-refines : (s t u v : Verdict) → Refines s u → Refines t v → Refines (either s t) (either u v)
either-refines Yes t u v p q = ap (λ x. either x v) p
either-refines No Yes u v p q = ap (λ x. either x v) p ∙ q
either-refines No No u v p q = ap (λ x. either x v) p ∙ q
either-refines No Unknown u v p q = tt
either-refines Unknown Yes u v p q = either-yes u v q
either-refines Unknown No u v p q = tt
either-refines Unknown Unknown u v p q = tt

both-refines : (s t u v : Verdict) → Refines s u → Refines t v → Refines (both s t) (both u v)
both-refines No t u v p q = ap (λ x. both x v) p
both-refines Yes Yes u v p q = ap (λ x. both x v) p ∙ q
both-refines Yes No u v p q = ap (λ x. both x v) p ∙ q
both-refines Yes Unknown u v p q = tt
both-refines Unknown No u v p q = both-no u v q
both-refines Unknown Yes u v p q = tt
both-refines Unknown Unknown u v p q = tt

group-refines : (f g : Clause → Verdict) (group : List Clause)
    → AllByRecursion (λ (c : Clause). Refines (f c) (g c)) group
    → Refines (some_holds (map f group)) (some_holds (map g group))
group-refines f g [] all = refl
group-refines f g (c ∷ group) all = either-refines (f c) (some_holds (map f group)) (g c) (some_holds (map g group))
    all.0 (group-refines f g group all.1)

pub groups-refine : (f g : Clause → Verdict) (groups : List (List Clause))
    → AllByRecursion (AllByRecursion (λ (c : Clause). Refines (f c) (g c))) groups
    → Refines (all_hold (map (λ group. some_holds (map f group)) groups))
    (all_hold (map (λ group. some_holds (map g group)) groups))
groups-refine f g [] all = refl
groups-refine f g (group ∷ groups) all =
    both-refines (some_holds (map f group)) (all_hold (map (λ group. some_holds (map f group)) groups))
    (some_holds (map g group)) (all_hold (map (λ group. some_holds (map g group)) groups))
    (group-refines f g group all.0) (groups-refine f g groups all.1)

pub known-same : (t u : Verdict) → is_unknown t ≡ false → Refines t u → t ≡ u
known-same Yes u e r = sym r
known-same No u e r = sym r
known-same Unknown u e r = absurd (cc)

all-known-same : (f g : Rule → Verdict) (rules : List Rule) → AllByRecursion (λ (r : Rule). Refines (f r) (g r)) rules
    → list_any is_unknown (map f rules) ≡ false → map f rules ≡ map g rules
all-known-same f g [] all e = refl
all-known-same f g (r ∷ rules) all e =
    let parts = or-false (is_unknown (f r)) (list_any is_unknown (map f rules)) e in
    let first = known-same (f r) (g r) parts.0 all.0 in
    let rest = all-known-same f g rules all.1 parts.1 in
    λ i. first i ∷ rest i

all-rules : (P Q : Rule → Type 0) (rules : List Rule) → ((r : Rule) → P r → Q r) → AllByRecursion P rules
    → AllByRecursion Q rules
all-rules P Q [] f all = tt
all-rules P Q (r ∷ rules) f all = (f r all.0, all-rules P Q rules f all.1)

module _ (project : Project) (sound : IsSound project) (standing : Standing) (grid : Grid) (outer inner : Record)
    (nested : AreNested project standing grid outer inner) where
  abbrev out-flow : GridLink → Interval
  out-flow link = flow_box link (heads_below grid outer) (heads_above grid outer)

  abbrev in-flow : GridLink → Interval
  in-flow link = flow_box link (heads_below grid inner) (heads_above grid inner)

  abbrev out-level : ℕ → ℕ → Tank → Interval
  out-level seconds k tank = carried_levels (walls_of project tank) tank (stocks_of_tank standing k)
      (inflow_of_tank project grid outer k) seconds

  abbrev in-level : ℕ → ℕ → Tank → Interval
  in-level seconds k tank = carried_levels (walls_of project tank) tank (stocks_of_tank standing k)
      (inflow_of_tank project grid inner k) seconds

  same-stocks : (k : ℕ) → AreInside (stocks_of_tank standing k) (stocks_of_tank standing k)
  same-stocks k = record {
    level = record { low = omega (arith, ints); high = omega (arith, ints) };
    volume = record { low = omega (arith, ints); high = omega (arith, ints) };
  }

  carried-within : (seconds k : ℕ) (tank : Tank) → slice_get project.tanks.list k ≡ Some tank
      → IsInside (in-level seconds k tank) (out-level seconds k tank)
  carried-within seconds k tank at =
      carried_inside (walls_of project tank) tank (nested.vessels k tank at) (stocks_of_tank standing k)
      (stocks_of_tank standing k) (inflow_of_tank project grid inner k) (inflow_of_tank project grid outer k)
      seconds
      (same-stocks k) (inflow_inside project standing grid outer inner nested k tank at)

  carried-there : (seconds k : ℕ) (tank : Tank) → slice_get project.tanks.list k ≡ Some tank
      → IsOrdered (in-level seconds k tank)
  carried-there seconds k tank at =
      carried_ordered (walls_of project tank) tank (nested.vessels k tank at) (stocks_of_tank standing k)
      (inflow_of_tank project grid inner k) seconds
      (nested.ordered k) (inflow_ordered project standing grid outer inner nested k tank at)

  -- the next stocks of the inner record lie inside those of the outer one, and are there
  pub stocks_within : (seconds k : ℕ) (tank : Tank) → slice_get project.tanks.list k ≡ Some tank
      → AreInside (stocks_next project grid standing inner seconds k tank)
      (stocks_next project grid standing outer seconds k tank)
  stocks_within seconds k tank at =
      next_inside (walls_of project tank) tank (stocks_of_tank standing k) (stocks_of_tank standing k)
      (inflow_of_tank project grid inner k) (inflow_of_tank project grid outer k) seconds
      (nested.vessels k tank at) (same-stocks k) (inflow_inside project standing grid outer inner nested k tank at)

  pub stocks_there : (seconds k : ℕ) (tank : Tank) → slice_get project.tanks.list k ≡ Some tank
      → HasStock (stocks_next project grid standing inner seconds k tank)
  stocks_there seconds k tank at =
      next_has (walls_of project tank) tank (stocks_of_tank standing k) (inflow_of_tank project grid inner k) seconds
      (nested.vessels k tank at)
      (nested.ordered k) (inflow_ordered project standing grid outer inner nested k tank at)

  -- ---- readings

  lower-reading : (seconds : ℕ) → AreBetween project 1 (readings_below project grid standing outer seconds)
      (readings_below project grid standing inner seconds) (readings_above project grid standing outer seconds)
  lower-reading seconds = record {
    heads = λ m before. lies-one (record { lo = _; hi = _ }) _ (below_within project standing grid outer inner nested m)
        (let a = inner_ordered project standing grid outer inner nested m in
        let b = above_within project standing grid outer inner nested m in omega (arith, ints, a, b));
    levels = mapped-levels (out-level seconds) (in-level seconds) (λ x. x.lo) 0 project.tanks.list
        (λ k tank at. let n : k ≡ 0 + k = omega arith in
        subst (λ p. LiesIn 1 (out-level seconds p tank) (in-level seconds p tank).lo) n
        (widened-lies (in-level seconds k tank) (out-level seconds k tank) (in-level seconds k tank).lo
        (carried-within seconds k tank at)
        (lies-one (in-level seconds k tank) (in-level seconds k tank).lo (omega (arith, ints))
        (carried-there seconds k tank at))));
    flows_below = λ l. (mapped-magnitudes out-flow in-flow least_magnitude grid.links
        (λ m link at. magnitudes (out-flow link) (in-flow link) (least_magnitude (in-flow link))
        (flow_inside project standing grid outer inner nested m link at)
        (least-point (in-flow link) (flow_ordered project standing grid outer inner nested m link at))) l).0;
    flows_above = λ l. (mapped-magnitudes out-flow in-flow least_magnitude grid.links
        (λ m link at. magnitudes (out-flow link) (in-flow link) (least_magnitude (in-flow link))
        (flow_inside project standing grid outer inner nested m link at)
        (least-point (in-flow link) (flow_ordered project standing grid outer inner nested m link at))) l).1;
    links_below = refl;
    links_above = refl;
  }

  upper-reading : (seconds : ℕ) → AreBetween project 1 (readings_below project grid standing outer seconds)
      (readings_above project grid standing inner seconds) (readings_above project grid standing outer seconds)
  upper-reading seconds = record {
    heads = λ m before. lies-one (record { lo = _; hi = _ }) _
        (let a = inner_ordered project standing grid outer inner nested m in
        let b = below_within project standing grid outer inner nested m in omega (arith, ints, a, b))
        (above_within project standing grid outer inner nested m);
    levels = mapped-levels (out-level seconds) (in-level seconds) (λ x. x.hi) 0 project.tanks.list
        (λ k tank at. let n : k ≡ 0 + k = omega arith in
        subst (λ p. LiesIn 1 (out-level seconds p tank) (in-level seconds p tank).hi) n
        (widened-lies (in-level seconds k tank) (out-level seconds k tank) (in-level seconds k tank).hi
        (carried-within seconds k tank at)
        (lies-one (in-level seconds k tank) (in-level seconds k tank).hi (carried-there seconds k tank at)
        (omega (arith, ints)))));
    flows_below = λ l. (mapped-magnitudes out-flow in-flow greatest_magnitude grid.links
        (λ m link at. magnitudes (out-flow link) (in-flow link) (greatest_magnitude (in-flow link))
        (flow_inside project standing grid outer inner nested m link at)
        (greatest-point (in-flow link) (flow_ordered project standing grid outer inner nested m link at))) l).0;
    flows_above = λ l. (mapped-magnitudes out-flow in-flow greatest_magnitude grid.links
        (λ m link at. magnitudes (out-flow link) (in-flow link) (greatest_magnitude (in-flow link))
        (flow_inside project standing grid outer inner nested m link at)
        (greatest-point (in-flow link) (flow_ordered project standing grid outer inner nested m link at))) l).1;
    links_below = refl;
    links_above = refl;
  }

  -- ---- rules

  clause-refines : (seconds : ℕ) (clause : Clause) → Compares clause.what clause.relation
      → Refines (clause_truth project grid standing outer seconds clause)
      (clause_truth project grid standing inner seconds clause)
  clause-refines seconds clause way =
      ends-refine (clause_truth project grid standing outer seconds clause) _ _
      (clause_tells project 1 (standing.time + seconds) _ _ _ clause (omega arith) way (lower-reading seconds))
      (clause_tells project 1 (standing.time + seconds) _ _ _ clause (omega arith) way (upper-reading seconds))

  truths-same : (seconds : ℕ) → list_any is_unknown (rule_truths project grid standing outer seconds) ≡ false
      → rule_truths project grid standing outer seconds ≡ rule_truths project grid standing inner seconds
  truths-same seconds = all-known-same (rule_truth project grid standing outer seconds)
      (rule_truth project grid standing inner seconds) project.rules.list
      (all-rules (IsRule project) (λ r. Refines (rule_truth project grid standing outer seconds r)
      (rule_truth project grid standing inner seconds r)) project.rules.list
      (λ rule is. groups-refine (clause_truth project grid standing outer seconds)
      (clause_truth project grid standing inner seconds) (groups_of rule)
      (in-groups (λ clause. Refines (clause_truth project grid standing outer seconds clause)
      (clause_truth project grid standing inner seconds clause)) rule
      (each_of RuleClause (λ row. Refines (clause_truth project grid standing outer seconds row.clause)
      (clause_truth project grid standing inner seconds row.clause)) rule.clauses.list
      (λ k d le. clause-refines seconds (slice_index_or rule.clauses.list k d).clause (is.clauses k d le).relation))))
      (each_of Rule (IsRule project) project.rules.list sound.rules))

  changes-same : (seconds : ℕ) → list_any is_unknown (rule_truths project grid standing outer seconds) ≡ false
      → decided_changes project grid standing outer seconds ≡ decided_changes project grid standing inner seconds
  changes-same seconds known = ap (λ ts. rule_changes project (map is_yes ts) (links_at project standing))
      (truths-same seconds known)

  matters-out : (seconds : ℕ) → RulesMatter project grid standing inner seconds
      → RulesMatter project grid standing outer seconds
  matters-out seconds matters = record {
    tried = matters.tried;
    matters = elim (cases_Bool (list_any is_unknown (rule_truths project grid standing outer seconds))) [
      | inl unknown ↦ inl unknown
      | inr known ↦ inr (λ none. changed known matters.matters (sym (changes-same seconds known) ∙ none))
    ];
  }
    where
      changed : list_any is_unknown (rule_truths project grid standing outer seconds) ≡ false
          → (list_any is_unknown (rule_truths project grid standing inner seconds) ≡ true) ⊎
          (decided_changes project grid standing inner seconds ≢ [])
          → decided_changes project grid standing inner seconds ≡ [] → ⊥
      changed known (inl unknown) none = let e = ap (list_any is_unknown) (truths-same seconds known) in absurd (cc)
      changed known (inr other) none = other none

  matters-in : (seconds : ℕ) → list_any is_unknown (rule_truths project grid standing outer seconds) ≡ false
      → RulesMatter project grid standing outer seconds → RulesMatter project grid standing inner seconds
  matters-in seconds known matters = record {
    tried = matters.tried;
    matters =
        inr (λ none. changed matters.matters (changes-same seconds known ∙ none));
  }
    where
      changed : (list_any is_unknown (rule_truths project grid standing outer seconds) ≡ true) ⊎
          (decided_changes project grid standing outer seconds ≢ [])
          → decided_changes project grid standing outer seconds ≡ [] → ⊥
      changed (inl unknown) none = absurd (cc)
      changed (inr other) none = other none

  -- ---- events

  may-out : (seconds : ℕ) → SomeMayReach project grid standing inner seconds
      → SomeMayReach project grid standing outer seconds
  may-out seconds r = record {
    watch = r.watch;
    is_watched = r.is_watched;
    tank = r.tank;
    is_tank = r.is_tank;
    reached = may_nests (walls_of project r.tank) r.tank (stocks_of_tank standing r.watch.tank)
        (stocks_of_tank standing r.watch.tank) (inflow_of_tank project grid inner r.watch.tank)
        (inflow_of_tank project grid outer r.watch.tank) r.watch.target r.watch.rising seconds
        (nested.vessels r.watch.tank r.tank r.is_tank) (same-stocks r.watch.tank)
        (inflow_inside project standing grid outer inner nested r.watch.tank r.tank r.is_tank) r.reached;
  }

  must-in : (seconds : ℕ) → SomeMustReach project grid standing outer seconds
      → SomeMustReach project grid standing inner seconds
  must-in seconds r = record {
    watch = r.watch;
    is_watched = r.is_watched;
    tank = r.tank;
    is_tank = r.is_tank;
    reached = must_nests (walls_of project r.tank) r.tank (stocks_of_tank standing r.watch.tank)
        (stocks_of_tank standing r.watch.tank) (inflow_of_tank project grid inner r.watch.tank)
        (inflow_of_tank project grid outer r.watch.tank) r.watch.target r.watch.rising seconds
        (nested.vessels r.watch.tank r.tank r.is_tank) (same-stocks r.watch.tank)
        (inflow_inside project standing grid outer inner nested r.watch.tank r.tank r.is_tank) r.reached;
  }

  must-may : (seconds : ℕ) → SomeMustReach project grid standing inner seconds
      → SomeMayReach project grid standing inner seconds
  must-may seconds r = record {
    watch = r.watch;
    is_watched = r.is_watched;
    tank = r.tank;
    is_tank = r.is_tank;
    reached = must_may (walls_of project r.tank) r.tank (stocks_of_tank standing r.watch.tank)
        (inflow_of_tank project grid inner r.watch.tank) r.watch.target r.watch.rising seconds
        (nested.vessels r.watch.tank r.tank r.is_tank) (nested.ordered r.watch.tank)
        (inflow_ordered project standing grid outer inner nested r.watch.tank r.tank r.is_tank) r.reached;
  }

  -- ---- the end

  abbrev MayEndBy : Record → ℕ → Type 0
  MayEndBy row s = IsClockLength project standing.time s ⊎ ((1 ≤ s) × SomeMayReach project grid standing row s)

  abbrev MustEndBy : Record → ℕ → Type 0
  MustEndBy row s = IsClockLength project standing.time s ⊎ ((1 ≤ s) × SomeMustReach project grid standing row s)

  end-out : (s : ℕ) → MayEndBy inner s → MayEndBy outer s
  end-out s (inl clock) = inl clock
  end-out s (inr r) = inr (r.0, may-out s r.1)

  end-in : (s : ℕ) → MustEndBy outer s → MustEndBy inner s
  end-in s (inl clock) = inl clock
  end-in s (inr r) = inr (r.0, must-in s r.1)

  end-may : (s : ℕ) → MustEndBy inner s → MayEndBy inner s
  end-may s (inl clock) = inl clock
  end-may s (inr r) = inr (r.0, must-may s r.1)

  pub clock_ends_so : (s : ℕ) → EndsBy project grid standing outer (WithoutRules s)
      → EndsBy project grid standing inner (WithoutRules s)
  clock_ends_so s (decided_by_clock none latest) = decided_by_clock
      (record {
        not_last = none.not_last;
        is_earliest = record {
          holds = end-may s (end-in s latest.holds);
          least = λ k ends. none.is_earliest.least k (end-out k ends);
        };
        none = λ k matters. none.none k (matters-out k matters);
      })
      (record {
        holds = end-in s latest.holds;
        least = λ k ends. none.is_earliest.least k (end-out k (end-may k ends));
      })

  pub rules_end_so : (s earliest : ℕ) → IsEarliestEnd project grid standing inner earliest
      → EndsBy project grid standing outer (ByRules s) → EndsBy project grid standing inner (ByRules s)
  rules_end_so s earliest is (decided_by_rules first known) = decided_by_rules
      (record {
        not_last = first.not_last;
        earliest = earliest;
        is_earliest = is;
        in_time = let a = first.is_earliest.least earliest (end-out earliest is.holds) in let b = first.in_time in
            omega (arith, a, b);
        first = record {
          holds = matters-in s known first.first.holds;
          least = λ k matters. first.first.least k (matters-out k matters);
        };
      })
      (ap (list_any is_unknown) (sym (truths-same s known)) ∙ known)

  pub leaves_so : (s earliest : ℕ) (links : List LinkState) → IsEarliestEnd project grid standing inner earliest
      → LeavesLinks project grid standing outer s links → LeavesLinks project grid standing inner s links
  leaves_so s earliest _ is (left_by_rules (decided_by_rules first known)) =
      subst (λ ts. LeavesLinks project grid standing inner s
      (acted project (map is_yes ts) (links_at project standing))) (sym (truths-same s known))
      (left_by_rules (rules_end_so s earliest is (decided_by_rules first known)))
  leaves_so s earliest _ is (left_by_clock ends) = left_by_clock (clock_ends_so s ends)
