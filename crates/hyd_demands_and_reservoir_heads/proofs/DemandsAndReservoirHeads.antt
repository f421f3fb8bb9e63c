-- What is read of a sound network: multipliers, categories and reservoirs by their numbers, and how large products are.
use Rattle.std.proofs.Common.{◌≡◌, ℕ, ◌+◌, ◌*◌, ◌/◌, ◌%◌, ◌^◌, ◌<◌, ◌≤◌, ℤ, pos, unsigned_abs, ◌*ℤ◌, List, [], length}
use Rattle.std.proofs.Common.{map, Option, Some, None, slice_get, slice_index_or, subst, sym, ap, ◌∙◌, refl, arith}
use Rattle.std.proofs.Math.Nat.{mul-le-mul, mod-lt}
use Rattle.std.proofs.lemmas.Bool.Decides.{nat_tests}
use Rattle.std.proofs.lemmas.Option.{slice_get-get_or}
use Rattle.std.proofs.lemmas.List.Sums.{get_or-le-sum_by}
use Rattle.std.specs.List.{All}
use Rattle.std.specs.Prelude.{nat_lt, if◌then◌else◌}
use Rattle.std.specs.Option.{option_map_or}
use Rattle.std.proofs.lemmas.Int.{ints, unsigned_abs-mul}
use Rattle.hyd_spec.specs.WholeNumbers.{cut}
use Rattle.hyd_spec.specs.Lists.{total}
use Rattle.hyd_net.specs.NumberRanges.{Numbers, LiesWithin}
use Rattle.hyd_net.specs.NetworkRanges.{HasPattern, IsReservoir}
use Rattle.hyd_net.specs.Sound.{IsSound, IsPattern, demand_rows}
use Rattle.hyd_spec.specs.ProgramTypes.{Project, Pattern, Demand, Junction, Reservoir}
use Rattle.hyd_spec.specs.DemandsHeadsAndPumpLifts.{multiplier_at, category_demand, demand_of, reservoir_head}
use Rattle.hyd_demands_and_reservoir_heads.specs.DemandsAndHeadsByNumber.{junction_demand, head_of_reservoir}

-- ---- products

pub within : (a b m n : ℕ) → a ≤ m → b ≤ n → a * b ≤ m * n
within a b m n p q = mul-le-mul p q

pub quotient_within : (r a b m n : ℕ) → r * 10 ^ 9 ≤ a * b → a ≤ m → b ≤ n * 10 ^ 9 → r ≤ m * n
quotient_within r a b m n small p q = omega (arith, small, within a b m (n * 10 ^ 9) p q)

-- ---- multipliers

read_multiplier : (P : ℤ → Type 0) (project : Project) (time k : ℕ) (p : Pattern) → slice_get project.patterns.list k
    ≡ Some p
    → 1 ≤ length p.multipliers.list → All P p.multipliers.list → P (multiplier_at project k time)
read_multiplier P project time k p found some each =
    rw found (each (((time + project.times.pattern_start) / project.times.pattern) % length p.multipliers.list)
    (pos 0) (mod-lt _ some))

pub multiplier_has : (P : ℤ → Type 0) (project : Project) (time k : ℕ) → All IsPattern project.patterns.list
    → Numbers (λ (p : Pattern). All P p.multipliers.list) project.patterns.list k → P (multiplier_at project k time)
multiplier_has P project time k patterns named =
    let none : Pattern = record { multipliers = record { list = []; spare = 0 } } in
    read_multiplier P project time k (slice_index_or project.patterns.list k none)
    (slice_get-get_or project.patterns.list k none named.in_range)
    (patterns k none named.in_range).not_empty (named.holds none)

-- ---- junctions and reservoirs

few_rows : (n : ℕ) → (if nat_lt 1 n then n else 0) ≤ 10 ^ 5 → n ≤ 10 ^ 5
few_rows n h = grind (arith, nat_tests)

pub few_categories : (project : Project) → IsSound project → (k : ℕ) (d : Junction) → k < length project.junctions.list
    → length (slice_index_or project.junctions.list k d).demands.list ≤ 10 ^ 5
few_categories project sound k d h =
    let one = get_or-le-sum_by demand_rows project.junctions.list k d h in
    few_rows (length (slice_index_or project.junctions.list k d).demands.list)
    (omega (arith, one, sound.counts.demands))

pub demand_read : (project : Project) (time k : ℕ) (d : Junction) → k < length project.junctions.list
    → junction_demand project time k ≡ demand_of project time (slice_index_or project.junctions.list k d)
demand_read project time k d h = ap (λ (o : Option Junction). option_map_or (λ j. demand_of project time j) o (pos 0))
    (slice_get-get_or project.junctions.list k d h)

pub demand_is : (project : Project) (time k : ℕ) (js : List Junction) (d : Junction) (cs : List Demand) (v : ℤ)
    → k < length project.junctions.list
    → js ≡ project.junctions.list → cs ≡ (slice_index_or js k d).demands.list
    → v ≡ total (map (category_demand project time) cs)
    → v ≡ junction_demand project time k
demand_is project time k js d cs v h same are value =
    value ∙ ap (λ (xs : List Demand). total (map (category_demand project time) xs)) are
    ∙ ap (λ (xs : List Junction). demand_of project time (slice_index_or xs k d)) same
    ∙ sym (demand_read project time k d h)

pub head_read : (project : Project) (time k : ℕ) (d : Reservoir) → k < length project.reservoirs.list
    → head_of_reservoir project time k ≡ reservoir_head project time (slice_index_or project.reservoirs.list k d)
head_read project time k d h = ap (λ (o : Option Reservoir). option_map_or (λ r. reservoir_head project time r) o
    (pos 0)) (slice_get-get_or project.reservoirs.list k d h)

-- ---- heads by a pattern

pub head_by_pattern : (project : Project) (time k pattern : ℕ) (rs : List Reservoir) (d : Reservoir) (head r : ℤ)
    → k < length project.reservoirs.list
    → rs ≡ project.reservoirs.list → (slice_index_or rs k d).pattern ≡ Some pattern
    → head ≡ (slice_index_or rs k d).head
    → r ≡ cut (head *ℤ multiplier_at project pattern time) (10 ^ 9) → r ≡ head_of_reservoir project time k
head_by_pattern project time k pattern rs d head r h same named is value =
    value ∙ ap (λ (x : ℤ). cut (x *ℤ multiplier_at project pattern time) (10 ^ 9)) is
    ∙ sym (head_read project time k d h ∙ ap (λ (xs : List Reservoir). reservoir_head project time
    (slice_index_or xs k d)) (sym same) ∙ (rw named refl))

pub head_alone : (project : Project) (time k : ℕ) (rs : List Reservoir) (d : Reservoir)
    → k < length project.reservoirs.list
    → rs ≡ project.reservoirs.list → (slice_index_or rs k d).pattern ≡ None
    → (slice_index_or rs k d).head ≡ head_of_reservoir project time k
head_alone project time k rs d h same none =
    sym (head_read project time k d h ∙ ap (λ (xs : List Reservoir). reservoir_head project time
    (slice_index_or xs k d)) (sym same) ∙ (rw none refl))

pub head_small : (r x y a b : ℤ) → unsigned_abs r * 10 ^ 9 ≤ unsigned_abs x * unsigned_abs y → x ≡ a → y ≡ b
    → unsigned_abs a * unsigned_abs b ≤ 10 ^ 26
    → unsigned_abs r ≤ 10 ^ 17
head_small r x y a b small e f le =
    let l : unsigned_abs x * unsigned_abs y ≤ 10 ^ 26 = rw (e, f) le in
    omega (arith, small, l)

named_pattern : (patterns : List Pattern) (P : ℤ → Type 0) (named : Option ℕ) (pattern : ℕ) → named ≡ Some pattern
    → HasPattern P patterns named
    → Numbers (λ (p : Pattern). All P p.multipliers.list) patterns pattern
named_pattern patterns P named pattern e has = subst (λ (o : Option ℕ). HasPattern P patterns o) e has

pub head_within : (project : Project) (sound : IsSound project) (time k pattern : ℕ) (d : Reservoir)
    → k < length project.reservoirs.list
    → (slice_index_or project.reservoirs.list k d).pattern ≡ Some pattern
    → unsigned_abs (slice_index_or project.reservoirs.list k d).head
    * unsigned_abs (multiplier_at project pattern time) ≤ 10 ^ 26
head_within project sound time k pattern d h named =
    let here : IsReservoir project.patterns.list (slice_index_or project.reservoirs.list k d) =
    sound.quantities.reservoirs k d h in
    let head = (slice_index_or project.reservoirs.list k d).head in
    let lies : LiesWithin (10 ^ 17 * 10 ^ 9) (head *ℤ multiplier_at project pattern time) =
    multiplier_has (λ m. LiesWithin (10 ^ 17 * 10 ^ 9) (head *ℤ m)) project time pattern sound.patterns
    (named_pattern project.patterns.list (λ m. LiesWithin (10 ^ 17 * 10 ^ 9) (head *ℤ m))
    (slice_index_or project.reservoirs.list k d).pattern pattern named here.pattern) in
    let product = unsigned_abs-mul head (multiplier_at project pattern time) in
    omega (arith, ints, lies.at_least, lies.at_most, product)
