-- Counts of a file without a fault: no table is longer than its limit.
use Rattle.std.proofs.Common.{◌≡◌, ℕ, ◌+◌, ◌≤◌, zero, suc, Bool, true, false, List, [], ◌∷◌, ◌++◌, map, length, take}
use Rattle.std.proofs.Common.{Option, Some, None, refl, sym, ap, ◌∙◌, subst, arith, inl, inr, true≢false, append-nil}
use Rattle.std.specs.Prelude.{slice_get, filter, sum_by, ◌||◌, ◌⊎◌, nat_lt, All, if◌then◌else◌}
use Rattle.std.specs.List.{flat_map}
use Rattle.std.specs.Str.{bytes_eq}
use Rattle.std.proofs.lemmas.Bool.{cases_Bool, leb-true, or_cases, or_left, or_right, cond_both}
use Rattle.std.proofs.lemmas.List.{length-append, length-map, map-append, take_all}
use Rattle.std.proofs.lemmas.List.Elements.{All-nil, All-cons, All-head, All-tail, All-append, filter-append}
use Rattle.hyd_spec_lines.specs.Lines.{Row}
use Rattle.hyd_spec_lines.specs.declared.section.Section.{Section}
use Rattle.hyd_spec_lines.specs.declared.section.Section.TheVariants.{Junctions, Reservoirs, Tanks, Pipes, Pumps}
use Rattle.hyd_spec_lines.specs.declared.section.Section.TheVariants.{Valves, Demands, Curves, Patterns}
use Rattle.hyd_spec_lines.specs.declared.section.Section.TheVariants.{Controls as ControlsSection}
use Rattle.hyd_spec_lines.specs.declared.section.Section.TheVariants.{Rules as RulesSection}
use Rattle.hyd_net.specs.Sound.{IsWithinLimits, demand_rows, part_count}
use Rattle.hyd_net.specs.ListView.{ListView}
use Rattle.hyd_net.specs.declared.curves.VolumePoint.{VolumePoint}
use Rattle.hyd_net.specs.declared.curves.HeadPoint.{HeadPoint}
use Rattle.hyd_net.specs.declared.nodes.Demand.{Demand}
use Rattle.hyd_net.specs.declared.nodes.Junction.{Junction}
use Rattle.hyd_net.specs.declared.patterns.Pattern.{Pattern}
use Rattle.hyd_net.specs.declared.rules.Rule.{Rule as RuleItem}
use Rattle.hyd_net.specs.declared.project.Project.{Project}
use Rattle.hyd_spec_input.specs.Columns.{first, or_empty}
use Rattle.hyd_spec_input.specs.DemandEmitterCurvePatternAndStatusRows.{multipliers}
use Rattle.hyd_spec_input.specs.NodeAndLinkRows.{tank_curve, pump_curve, valve_curve}
use Rattle.hyd_spec_input.specs.declared.RuleWord.{RuleWord}
use Rattle.hyd_spec_input.specs.declared.RuleWord.TheVariants.{Rule, If, And, Or, Then, Else, Priority}
use Rattle.hyd_spec_input.specs.declared.Stage.{Stage}
use Rattle.hyd_spec_input.specs.declared.Stage.TheVariants.{Outside, Named, Asking, Acting, Otherwise, Closed}
use Rattle.hyd_spec_input.specs.RuleRows.{stage_by, begins_with, is_rule, until_rule}
use Rattle.hyd_spec_input.specs.SectionsAndTables.{point_of, is_of, is_link, rows_of, words_of, words_of_row, own_id}
use Rattle.hyd_spec_input.specs.SectionsAndTables.{link_rows}
use Rattle.hyd_spec_input.specs.SectionsAndTables.{has_id, rows_with, distinct_after, distinct, row_multipliers}
use Rattle.hyd_spec_input.specs.SectionsAndTables.{curve_named}
use Rattle.hyd_spec_input.specs.OptionsAndTimesInForce.{unit}
use Rattle.hyd_spec_input.specs.Curves.{is_bent, head_point, volume_point}
use Rattle.hyd_spec_input.specs.MeaningsAcrossRows.{is_among, new_names, pattern_ids, as_list, shape_names, bent_name}
use Rattle.hyd_spec_input.specs.MeaningsAcrossRows.{bend_names}
use Rattle.hyd_spec_input.specs.MeaningsAcrossRows.{demand_of_row, own_demand, or_own, rule_groups, lines_at, is_asking}
use Rattle.hyd_spec_input.specs.MeaningsAcrossRows.{is_doing}
use Rattle.hyd_spec_input.specs.MeaningsAcrossRows.{is_otherwise}
use Rattle.hyd_spec_input.specs.FaultsWithOtherRows as others
use Rattle.hyd_spec_input.specs.FaultsWithOtherRows.{us, passes, known_curve, multiplier_count, names_rule}
use Rattle.hyd_spec_input.specs.FaultsWithOtherRows.{is_part_word}
use Rattle.hyd_spec_input.specs.FaultsWithOtherRows.{is_part, rules_in, parts_in}
use Rattle.hyd_spec_input.specs.Project as project
use Rattle.hyd_spec_input.specs.Project.{Match, IsProject, IsLink, IsPattern, shape_points, bend_points, numbered_links}
use Rattle.hyd_theorems_on_input.proofs.ListsByPlace.{item_at, match_length, kept_more, kept_same}
use Rattle.hyd_theorems_on_input.proofs.RowsWithoutFault.{AreRight, right_among, all_none, unless_none}
use Rattle.hyd_theorems_on_input.proofs.OccurrencesOfNames.{same_name, when, occurs, Once, occurs_append, kept_once}
use Rattle.hyd_theorems_on_input.proofs.OccurrencesOfNames.{names_once}
use Rattle.hyd_theorems_on_input.proofs.OccurrencesOfNames.{fewer_names, total, total_is, total_at, grouped}
use Rattle.hyd_theorems_on_input.proofs.Names.{own_ids, link_part, nodes_once, node_ids_are, ends_right}
use Rattle.hyd_theorems_on_input.proofs.NodeRanges.{each_row}
use Rattle.hyd_theorems_on_input.proofs.RuleLines.{not_rule}

-- ---- a count that is judged where it rises

bounded_taken : (m : List Row → ℕ) (most : ℕ) (rows : List Row) → m [] ≤ most
    → ((k : ℕ) (row : Row) → slice_get rows k ≡ Some row → (m (take (k + 1) rows) ≤ m (take k rows))
    ⊎ (m (take (k + 1) rows) ≤ most))
    → (k : ℕ) → k ≤ length rows → m (take k rows) ≤ most
bounded_taken m most rows none each zero l = none
bounded_taken m most rows none each (suc k) l =
    let before = bounded_taken m most rows none each k (omega (arith, l)) in
    let found = item_at rows k (omega (arith, l)) in
    let next : suc k ≡ k + 1 = omega arith in
    let more : m (take (suc k) rows) ≡ m (take (k + 1) rows) = ap (λ n. m (take n rows)) next in
    elim (each k found.item found.is) [
      | inl same ↦ omega (arith, before, same, more)
      | inr few ↦ omega (arith, few, more)
    ]

bounded : (m : List Row → ℕ) (most : ℕ) (rows : List Row) → m [] ≤ most
    → ((k : ℕ) (row : Row) → slice_get rows k ≡ Some row → (m (take (k + 1) rows) ≤ m (take k rows))
    ⊎ (m (take (k + 1) rows) ≤ most)) → m rows ≤ most
bounded m most rows none each =
    subst (λ rs. m rs ≤ most) (take_all (length rows) rows (omega arith))
    (bounded_taken m most rows none each (length rows) (omega arith))

-- a count of the rows of a table, judged at each of them
of_table : (p : Row → Bool) (g : List Row → ℕ) (most : ℕ) (rows : List Row) → g [] ≤ most
    → ((k : ℕ) (row : Row) → slice_get rows k ≡ Some row → p row ≡ true → g (filter p (take (k + 1) rows)) ≤ most)
    → g (filter p rows) ≤ most
of_table p g most rows none each = bounded (λ rs. g (filter p rs)) most rows none
    (λ k row is. elim (cases_Bool (p row)) [
      | inl t ↦ inr (each k row is t)
      | inr f ↦ (let same : g (filter p (take (k + 1) rows)) ≡ g (filter p (take k rows)) =
          ap g (kept_same p rows k row is f) in inl (omega (arith, same)))
    ])

-- a count of some rows of a section, judged at each of them
of_some : (section : Section) (q : Row → Bool) (most : ℕ) (rows : List Row)
    → ((k : ℕ) (row : Row) → slice_get rows k ≡ Some row → is_of section row ≡ true → q row ≡ true
    → length (filter q (rows_of section (take (k + 1) rows))) ≤ most)
    → length (filter q (rows_of section rows)) ≤ most
of_some section q most rows each = bounded (λ rs. length (filter q (rows_of section rs))) most rows (omega arith)
    (λ k row is. elim (cases_Bool (is_of section row)) [
      | inl t ↦ elim (cases_Bool (q row)) [
        | inl u ↦ inr (each k row is t u)
        | inr v ↦ (let same : filter q (rows_of section (take (k + 1) rows)) ≡ filter q
            (rows_of section (take k rows)) =
            ap (filter q) (kept_more (is_of section) rows k row is t) ∙ filter-append q
            (rows_of section (take k rows))
            (row ∷ [])
            ∙ rw v (append-nil (filter q (rows_of section (take k rows)))) in
            let count = ap length same in inl (omega (arith, count)))
      ]
      | inr f ↦ (let same = ap (λ rs. length (filter q rs)) (kept_same (is_of section) rows k row is f) in
          inl (omega (arith, same)))
    ])

passed : (most detail n : ℕ) → passes most detail n ≡ None → n ≤ most
passed most detail n e = leb-true n most (unless_none _ _ e)

-- ---- the tables of a file

junction_count : (rows : List Row) → AreRight rows → length (rows_of Junctions rows) ≤ 10000
junction_count rows right = of_table (is_of Junctions) length 10000 rows (omega arith) (λ k row is of.
    passed 10000 4 _ (all_none (others.junction_faults rows k row) (right_among rows Junctions k row right is of)).0)

reservoir_count : (rows : List Row) → AreRight rows → length (rows_of Reservoirs rows) ≤ 1000
reservoir_count rows right = of_table (is_of Reservoirs) length 1000 rows (omega arith) (λ k row is of.
    passed 1000 5 _ (all_none (others.reservoir_faults rows k row) (right_among rows Reservoirs k row right is of)).0)

tank_count : (rows : List Row) → AreRight rows → length (rows_of Tanks rows) ≤ 32
tank_count rows right = of_table (is_of Tanks) length 32 rows (omega arith) (λ k row is of.
    passed 32 6 _ (all_none (others.tank_faults rows k row) (right_among rows Tanks k row right is of)).0)

link_count : (rows : List Row) → AreRight rows → length (link_rows rows) ≤ 20000
link_count rows right = of_table is_link length 20000 rows (omega arith) (λ k row is link.
    passed 20000 7 _ (all_none (others.ends_faults rows k row) (ends_right rows k row right is link)).0)

pattern_count : (rows : List Row) → AreRight rows → distinct (rows_of Patterns rows) ≤ 1000
pattern_count rows right = of_table (is_of Patterns) distinct 1000 rows (omega arith) (λ k row is of.
    passed 1000 8 _ (all_none (others.pattern_faults rows k row) (right_among rows Patterns k row right is of)).0)

all_multipliers : (rows : List Row) → AreRight rows → multiplier_count (rows_of Patterns rows) ≤ 1000000
all_multipliers rows right = of_table (is_of Patterns) multiplier_count 1000000 rows (omega arith) (λ k row is of.
    passed 1000000 8 _ (all_none (others.pattern_faults rows k row)
    (right_among rows Patterns k row right is of)).1.0)

curve_count : (rows : List Row) → AreRight rows → distinct (rows_of Curves rows) ≤ 1000
curve_count rows right = of_table (is_of Curves) distinct 1000 rows (omega arith) (λ k row is of.
    passed 1000 9 _ (all_none (others.curve_faults rows k row) (right_among rows Curves k row right is of)).0)

point_count : (rows : List Row) → AreRight rows → length (rows_of Curves rows) ≤ 100000
point_count rows right = of_table (is_of Curves) length 100000 rows (omega arith) (λ k row is of.
    passed 100000 9 _ (all_none (others.curve_faults rows k row) (right_among rows Curves k row right is of)).1.0)

demand_count : (rows : List Row) → AreRight rows → length (rows_of Demands rows) ≤ 100000
demand_count rows right = of_table (is_of Demands) length 100000 rows (omega arith) (λ k row is of.
    passed 100000 10 _ (all_none (others.demand_faults rows k row) (right_among rows Demands k row right is of)).0)

control_count : (rows : List Row) → AreRight rows → length (rows_of ControlsSection rows) ≤ 10000
control_count rows right = of_table (is_of ControlsSection) length 10000 rows (omega arith) (λ k row is of.
    passed 10000 11 _ (all_none (others.control_faults rows k row)
    (right_among rows ControlsSection k row right is of)).0)

rule_count : (rows : List Row) → AreRight rows → length (rules_in rows) ≤ 10000
rule_count rows right = of_some RulesSection names_rule 10000 rows (λ k row is of names.
    let line : first (others.rule_faults rows k row) ≡ None =
    rw names at (right_among rows RulesSection k row right is of) in
    passed 10000 12 _ (all_none (others.rule_faults rows k row) line).0)

all_parts : (rows : List Row) → AreRight rows → length (parts_in rows) ≤ 100000
all_parts rows right = of_some RulesSection is_part 100000 rows (λ k row is of part.
    let line : first (others.part_faults rows k row) ≡ None =
    rw (not_rule (begins_with row.words) part, part) at (right_among rows RulesSection k row right is of) in
    passed 100000 12 _ (all_none (others.part_faults rows k row) line).0)

-- ---- links

parted_length : (p f g h : Row → Bool) (rows : List Row)
    → ((row : Row) (n : ℕ) → when (p row) n ≡ when (f row) n + (when (g row) n + when (h row) n))
    → length (filter p rows) ≡ length (filter f rows) + (length (filter g rows) + length (filter h rows))
parted_length p f g h [] one = omega arith
parted_length p f g h (row ∷ rows) one =
    omega (arith, parted_length p f g h rows one, one row 1, kept_count p, kept_count f, kept_count g, kept_count h)
  where
    kept_count : (q : Row → Bool) → length (filter q (row ∷ rows)) ≡ when (q row) 1 + length (filter q rows)
    kept_count q = elim (cases_Bool (q row)) [ inl t ↦ rw t (omega arith) | inr f ↦ rw f (omega arith) ]

numbered_count : (rows : List Row) → length (numbered_links rows) ≡ length (link_rows rows)
numbered_count rows =
    let a = length-append (rows_of Pipes rows ++ rows_of Pumps rows) (rows_of Valves rows) in
    let b = length-append (rows_of Pipes rows) (rows_of Pumps rows) in
    let c = parted_length is_link (is_of Pipes) (is_of Pumps) (is_of Valves) rows
    (λ row n. link_part row.section n) in
    omega (arith, a, b, c)

-- ---- sums over what matches

total_match : {A B : Type 0} (R : A → B → Type 0) (f : B → ℕ) (g : A → ℕ) (xs : List A) (ys : List B) → Match R xs ys
    → ((x : A) (y : B) → R x y → f y ≤ g x)
    → total f ys ≤ total g xs
total_match R f g [] [] m each = omega arith
total_match R f g [] (y ∷ ys) m each = absurd m
total_match R f g (x ∷ xs) [] m each = absurd m
total_match R f g (x ∷ xs) (y ∷ ys) m each = omega (arith, each x y m.0, total_match R f g xs ys m.1 each)

sum_match : {A B : Type 0} (R : A → B → Type 0) (f : B → ℕ) (g : A → ℕ) (xs : List A) (ys : List B) → Match R xs ys
    → ((x : A) (y : B) → R x y → f y ≤ g x)
    → sum_by f ys ≤ total g xs
sum_match R f g xs ys m each = omega (arith, total_is f ys, total_match R f g xs ys m each)

ones : {X : Type 0} (xs : List X) → total (λ x. 1) xs ≡ length xs
ones [] = refl
ones (x ∷ xs) = omega (arith, ones xs)

-- ---- rows of a name

flat_length : {Y : Type 0} (f : Row → List Y) (name : List ℕ) (xs : List Row)
    → length (flat_map f (rows_with name xs)) ≡ total_at own_id (λ r. length (f r)) name xs
flat_length f name [] = refl
flat_length f name (x ∷ xs) = elim (cases_Bool (bytes_eq name (own_id x))) [
  | inl t ↦ rw t (omega (arith, length-append (f x) (flat_map f (rows_with name xs)), flat_length f name xs))
  | inr e ↦ rw e (omega (arith, flat_length f name xs))
]

rows_length : (name : List ℕ) (xs : List Row) → length (rows_with name xs) ≡ total_at own_id (λ r. 1) name xs
rows_length name [] = refl
rows_length name (x ∷ xs) = elim (cases_Bool (bytes_eq name (own_id x))) [
  | inl t ↦ rw t (omega (arith, rows_length name xs))
  | inr e ↦ rw e (omega (arith, rows_length name xs))
]

-- the points of curves whose names occur once
points_few : (rows : List Row) (names : List (List ℕ)) → AreRight rows → Once names
    → total (λ id. total_at own_id (λ r. 1) id (rows_of Curves rows)) names ≤ 100000
points_few rows names right once =
    omega (
      arith,
      grouped own_id (λ r. 1) names (rows_of Curves rows) once,
      ones (rows_of Curves rows),
      point_count rows right,
    )

-- ---- names that are counted

-- the two ways to say that an ID was there before
record SameSeen (earlier : List Row) (seen : List (List ℕ)) : Type 0 where
  same : (name : List ℕ) → has_id name earlier ≡ is_among name seen

has_id_push : (name : List ℕ) (xs : List Row) (row : Row)
    → has_id name (xs ++ row ∷ []) ≡ (has_id name xs || bytes_eq name (own_id row))
has_id_push name [] row = or_none_right (bytes_eq name (own_id row))
  where
    or_none_right : (b : Bool) → (b || false) ≡ b
    or_none_right true = refl
    or_none_right false = refl
has_id_push name (x ∷ xs) row = ap (λ b. bytes_eq name (own_id x) || b) (has_id_push name xs row)
    ∙ or_assoc (bytes_eq name (own_id x)) (has_id name xs) (bytes_eq name (own_id row))
  where
    or_assoc : (a b c : Bool) → (a || (b || c)) ≡ ((a || b) || c)
    or_assoc true b c = refl
    or_assoc false b c = refl

or_exchanged : (a b : Bool) → (a || b) ≡ (b || a)
or_exchanged true true = refl
or_exchanged true false = refl
or_exchanged false true = refl
or_exchanged false false = refl

-- a repeated row adds no name
or_known : (a b : Bool) → (b ≡ true → a ≡ true) → (a || b) ≡ a
or_known true b h = refl
or_known false true h = absurd (true≢false (sym (h refl)))
or_known false false h = refl

seen_again : (earlier : List Row) (seen : List (List ℕ)) (row : Row) → has_id (own_id row) earlier ≡ true
    → SameSeen earlier seen → SameSeen (earlier ++ row ∷ []) seen
seen_again earlier seen row old s = record {
  same = λ name.
      has_id_push name earlier row
      ∙ or_known (has_id name earlier) (bytes_eq name (own_id row))
      (λ t. subst (λ n. has_id n earlier ≡ true) (sym (same_name name (own_id row) t)) old)
      ∙ s.same name;
}

seen_new : (earlier : List Row) (seen : List (List ℕ)) (row : Row) → SameSeen earlier seen
    → SameSeen (earlier ++ row ∷ []) (own_id row ∷ seen)
seen_new earlier seen row s = record {
  same = λ name.
      has_id_push name earlier row ∙ or_exchanged (has_id name earlier) (bytes_eq name (own_id row))
      ∙ ap (λ b. bytes_eq name (own_id row) || b) (s.same name);
}

distinct_is : (earlier : List Row) (seen : List (List ℕ)) (xs : List Row) → SameSeen earlier seen
    → distinct_after earlier xs ≡ length (new_names seen (own_ids xs))
distinct_is earlier seen [] s = refl
distinct_is earlier seen (x ∷ xs) s = elim (cases_Bool (has_id (own_id x) earlier)) [
  | inl t ↦ (let among : is_among (own_id x) seen ≡ true = sym (s.same (own_id x)) ∙ t in
      rw (t, among) (let rest = distinct_is (earlier ++ x ∷ []) seen xs (seen_again earlier seen x t s) in
      omega (arith, rest)))
  | inr f ↦ (let among : is_among (own_id x) seen ≡ false = sym (s.same (own_id x)) ∙ f in
      rw (f, among) (let rest = distinct_is (earlier ++ x ∷ []) (own_id x ∷ seen) xs (seen_new earlier seen x s) in
      omega (arith, rest)))
]

distinct_names : (xs : List Row) → distinct xs ≡ length (new_names [] (own_ids xs))
distinct_names xs = distinct_is [] [] xs (record { same = λ name. refl })

-- ---- curves

flat_names : (f : Row → Option (List ℕ)) (xs : List Row) → length (flat_map (λ (r : Row). as_list (f r)) xs)
    ≤ length xs
flat_names f [] = omega arith
flat_names f (x ∷ xs) = omega (
  arith,
  length-append (as_list (f x)) (flat_map (λ (r : Row). as_list (f r)) xs),
  one_name (f x),
  flat_names f xs,
)
  where
    one_name : (o : Option (List ℕ)) → length (as_list o) ≤ 1
    one_name None = omega arith
    one_name (Some name) = omega arith

shape_count : (rows : List Row) → AreRight rows → length (shape_names rows) ≤ 1000
shape_count rows right =
    omega (
      arith,
      fewer_names [] (flat_map (λ (r : Row). as_list (tank_curve r.words)) (rows_of Tanks rows)),
      flat_names (λ r. tank_curve r.words) (rows_of Tanks rows),
      tank_count rows right,
    )

pub all_flat : {X Y : Type 0} (P : Y → Type 0) (f : X → List Y) (xs : List X) → All (λ x. All P (f x)) xs
    → All P (flat_map f xs)
all_flat P f [] all = All-nil P
all_flat P f (x ∷ xs) all = All-append P (f x) (flat_map f xs) (All-head (λ y. All P (f y)) x xs all)
    (all_flat P f xs (All-tail (λ y. All P (f y)) x xs all))

all_new : (P : List ℕ → Type 0) (seen names : List (List ℕ)) → All P names → All P (new_names seen names)
all_new P seen [] all = All-nil P
all_new P seen (name ∷ names) all = elim (cases_Bool (is_among name seen)) [
  | inl t ↦ rw t (all_new P seen names (All-tail P name names all))
  | inr f ↦ rw f (All-cons P name (new_names (name ∷ seen) names) (All-head P name names all)
      (all_new P (name ∷ seen) names (All-tail P name names all)))
]

-- the name of a curve that is there
abbrev IsCurveName : List Row → List ℕ → Type 0
IsCurveName rows name = has_id name (rows_of Curves rows) ≡ true

known_name : (rows : List Row) (o : Option (List ℕ)) → known_curve rows o ≡ None → All (IsCurveName rows) (as_list o)
known_name rows None e = All-nil (IsCurveName rows)
known_name rows (Some name) e = All-cons (IsCurveName rows) name [] (unless_none _ _ e) (All-nil (IsCurveName rows))

pump_name : (rows : List Row) (row : Row) → known_curve rows (pump_curve row.words) ≡ None
    → All (IsCurveName rows) (bent_name rows row)
pump_name rows row e =
    cond_both (is_bent (curve_named rows (or_empty (pump_curve row.words)))) (as_list (pump_curve row.words)) []
    (All (IsCurveName rows))
    (λ t. known_name rows (pump_curve row.words) e) (λ f. All-nil (IsCurveName rows))

bends_known : (rows : List Row) → AreRight rows → All (IsCurveName rows) (bend_names rows)
bends_known rows right = all_new (IsCurveName rows) [] _
    (All-append (IsCurveName rows) (flat_map (bent_name rows) (rows_of Pumps rows)) _
    (all_flat (IsCurveName rows) (bent_name rows) (rows_of Pumps rows)
    (each_row rows Pumps (λ r. All (IsCurveName rows) (bent_name rows r)) (λ k row is of.
    pump_name rows row (all_none (others.pump_faults rows k row) (right_among rows Pumps k row right is of)).1.0)))
    (all_flat (IsCurveName rows) (λ (r : Row). as_list (valve_curve r.words)) (rows_of Valves rows)
    (each_row rows Valves (λ r. All (IsCurveName rows) (as_list (valve_curve r.words))) (λ k row is of.
    known_name rows (valve_curve row.words) (all_none (others.valve_faults rows k row)
    (right_among rows Valves k row right is of)).1.0))))

id_among : (name : List ℕ) (xs : List Row) → has_id name xs ≡ true → is_among name (own_ids xs) ≡ true
id_among name [] e = e
id_among name (x ∷ xs) e = elim (or_cases (bytes_eq name (own_id x)) (has_id name xs) e) [
  | inl t ↦ or_left (bytes_eq name (own_id x)) (is_among name (own_ids xs)) t
  | inr t ↦ or_right (bytes_eq name (own_id x)) (is_among name (own_ids xs)) (id_among name xs t)
]

-- names that occur once, each of them among others that occur once: there are no more of them
fewer_than : (names all : List (List ℕ)) → Once names → All (λ name. 1 ≤ occurs name all) names
    → length names ≤ length all
fewer_than names all once each = omega (
  arith,
  ones names,
  ones all,
  least names each,
  grouped (λ (n : List ℕ). n)
      (λ n. 1) names all once,
)
  where
    occurs_is : (name : List ℕ) (ids : List (List ℕ)) → occurs name ids ≡ total_at (λ (n : List ℕ). n)
        (λ n. 1) name ids
    occurs_is name [] = refl
    occurs_is name (id ∷ ids) = omega (arith, occurs_is name ids)

    least : (ns : List (List ℕ)) → All (λ name. 1 ≤ occurs name all) ns
        → total (λ n. 1) ns ≤ total (λ id. total_at (λ (n : List ℕ). n) (λ n. 1) id all) ns
    least [] e = omega arith
    least (n ∷ ns) e =
        omega (
          arith,
          All-head (λ name. 1 ≤ occurs name all) n ns e,
          occurs_is n all,
          least ns
              (All-tail (λ name. 1 ≤ occurs name all) n ns e),
        )

bend_count : (rows : List Row) → AreRight rows → length (bend_names rows) ≤ 1000
bend_count rows right =
    let all = new_names [] (own_ids (rows_of Curves rows)) in
    let few = fewer_than (bend_names rows) all (names_once _)
    (λ k d l. kept_once _ [] (own_ids (rows_of Curves rows))
    (id_among _ (rows_of Curves rows) (bends_known rows right k d l)) refl) in
    omega (arith, few, distinct_names (rows_of Curves rows), curve_count rows right)

-- ---- demands

own_length : (own : Demand) (list : List Demand)
    → (if nat_lt 1 (length (or_own own list)) then length (or_own own list) else 0) ≤ length list
own_length own [] = omega arith
own_length own (x ∷ xs) = cond_both (nat_lt 1 (length (x ∷ xs))) (length (x ∷ xs)) 0 (λ n. n ≤ length (x ∷ xs))
    (λ t. omega arith) (λ f. omega arith)

junction_demands : (rows : List Row) (row : Row) (j : Junction) → project.IsJunction rows row j
    → demand_rows j ≤ total_at own_id (λ r. 1) (own_id row) (rows_of Demands rows)
junction_demands rows row j is =
    let own = own_length (own_demand rows row)
    (map (demand_of_row rows) (rows_with (own_id row) (rows_of Demands rows))) in
    let few : demand_rows j ≤ length (map (demand_of_row rows) (rows_with (own_id row) (rows_of Demands rows))) =
    subst (λ list. (if nat_lt 1 (length list) then length list else 0) ≤ length
    (map (demand_of_row rows) (rows_with (own_id row) (rows_of Demands rows)))) (sym is.demands) own in
    omega (
      arith,
      few,
      length-map (rows_with (own_id row) (rows_of Demands rows)) (demand_of_row rows),
      rows_length
          (own_id row) (rows_of Demands rows),
    )

total_ids : (g : List ℕ → ℕ) (xs : List Row) → total (λ r. g (own_id r)) xs ≡ total g (own_ids xs)
total_ids g [] = refl
total_ids g (x ∷ xs) = omega (arith, total_ids g xs)

junctions_once : (rows : List Row) → AreRight rows → Once (own_ids (rows_of Junctions rows))
junctions_once rows right name =
    let whole = nodes_once rows right name in
    let e = ap (occurs name) (node_ids_are rows ∙ map-append own_id
    (rows_of Junctions rows ++ rows_of Reservoirs rows) (rows_of Tanks rows)) in
    let a = occurs_append name (own_ids (rows_of Junctions rows ++ rows_of Reservoirs rows))
    (own_ids (rows_of Tanks rows)) in
    let b = ap (occurs name) (map-append own_id (rows_of Junctions rows) (rows_of Reservoirs rows)) in
    let c = occurs_append name (own_ids (rows_of Junctions rows)) (own_ids (rows_of Reservoirs rows)) in
    omega (arith, whole, e, a, b, c)

demands_few : (rows : List Row) (p : Project) → AreRight rows → IsProject rows p
    → sum_by demand_rows p.junctions.list ≤ 100000
demands_few rows p right of =
    let D = rows_of Demands rows in
    let a = sum_match (project.IsJunction rows) demand_rows (λ row. total_at own_id (λ r. 1) (own_id row) D)
    (rows_of Junctions rows) p.junctions.list of.junctions
    (λ row j is. junction_demands rows row j is) in
    let b = total_ids (λ id. total_at own_id (λ r. 1) id D) (rows_of Junctions rows) in
    let c = grouped own_id (λ r. 1) (own_ids (rows_of Junctions rows)) D (junctions_once rows right) in
    omega (arith, a, b, c, ones D, demand_count rows right)

-- ---- rules

-- the first words that make a part of a rule, or name one
abbrev parts_of : List (List (List ℕ)) → ℕ
parts_of lines = total (λ words. when (is_part_word (begins_with words)) 1) lines

abbrev names_of : List (List (List ℕ)) → ℕ
names_of lines = total (λ words. when (is_rule (begins_with words)) 1) lines

-- a line is in one part of a rule at most, and in none where it names or ranks the rule
stage_part : (stage : Stage) → when (is_asking stage) 1 + when (is_doing stage) 1 + when (is_otherwise stage) 1 ≤ 1
stage_part Outside = omega arith
stage_part Named = omega arith
stage_part Asking = omega arith
stage_part Acting = omega arith
stage_part Otherwise = omega arith
stage_part Closed = omega arith

line_part : (stage : Stage) (o : Option RuleWord)
    → when (is_asking (stage_by stage o)) 1 + when (is_doing (stage_by stage o)) 1 + when
    (is_otherwise (stage_by stage o)) 1 ≤ when (is_part_word o) 1
line_part stage (Some Rule) = omega arith
line_part stage (Some Priority) = omega arith
line_part stage (Some If) = omega arith
line_part stage (Some Then) = omega arith
line_part stage (Some Else) = omega arith
line_part stage (Some And) = stage_part stage
line_part stage (Some Or) = stage_part stage
line_part stage None = stage_part stage

lines_length : (test : Stage → Bool) (stage : Stage) (words : List (List ℕ)) (lines : List (List (List ℕ)))
    → length (lines_at test stage (words ∷ lines)) ≡ when (test (stage_by stage (begins_with words))) 1 + length
    (lines_at test (stage_by stage (begins_with words)) lines)
lines_length test stage words lines = elim (cases_Bool (test (stage_by stage (begins_with words)))) [
  | inl t ↦ rw t (omega arith)
  | inr f ↦ rw f (omega arith)
]

three_parts : (stage : Stage) (lines : List (List (List ℕ)))
    → length (lines_at is_asking stage lines) + length (lines_at is_doing stage lines) + length
    (lines_at is_otherwise stage lines) ≤ parts_of lines
three_parts stage [] = omega arith
three_parts stage (words ∷ lines) =
    omega (
      arith,
      lines_length is_asking stage words lines,
      lines_length is_doing stage words lines,
      lines_length is_otherwise stage words lines,
      line_part stage (begins_with words),
      three_parts (stage_by stage (begins_with words)) lines,
    )

group_parts : (lines : List (List (List ℕ))) → total parts_of (rule_groups lines) + parts_of (until_rule lines)
    ≤ parts_of lines
group_parts [] = omega arith
group_parts (words ∷ lines) = elim (cases_Bool (is_rule (begins_with words))) [
  | inl t ↦ rw t (omega (arith, group_parts lines))
  | inr f ↦ rw f (omega (arith, group_parts lines))
]

group_names : (lines : List (List (List ℕ))) → length (rule_groups lines) ≡ names_of lines
group_names [] = refl
group_names (words ∷ lines) = elim (cases_Bool (is_rule (begins_with words))) [
  | inl t ↦ rw t (omega (arith, group_names lines))
  | inr f ↦ rw f (omega (arith, group_names lines))
]

-- the lines of rows, counted by a test
words_total : (test : Option RuleWord → Bool) (xs : List Row)
    → total (λ words. when (test (begins_with words)) 1) (map words_of_row xs) ≡ length
    (filter (λ (r : Row). test (begins_with r.words)) xs)
words_total test [] = refl
words_total test (x ∷ xs) = elim (cases_Bool (test (begins_with x.words))) [
  | inl t ↦ rw t (omega (arith, words_total test xs))
  | inr f ↦ rw f (omega (arith, words_total test xs))
]

rule_parts : (rows : List Row) (group : List (List (List ℕ))) (r : RuleItem) → project.IsRule rows group r
    → part_count r ≤ parts_of group
rule_parts rows group r is =
    let a = match_length (project.IsClause rows) _ _ is.clauses in
    let b = match_length (project.IsAction rows) _ _ is.yes in
    let c = match_length (project.IsAction rows) _ _ is.no in
    omega (arith, a, b, c, three_parts Outside group)

parts_few : (rows : List Row) (p : Project) → AreRight rows → IsProject rows p
    → sum_by part_count p.rules.list ≤ 100000
parts_few rows p right of =
    let lines = words_of RulesSection rows in
    let a = sum_match (project.IsRule rows) part_count parts_of (rule_groups lines) p.rules.list of.rules
    (λ group r is. rule_parts rows group r is) in
    omega (arith, a, group_parts lines, words_total is_part_word (rows_of RulesSection rows), all_parts rows right)

rules_few : (rows : List Row) (p : Project) → AreRight rows → IsProject rows p → length p.rules.list ≤ 10000
rules_few rows p right of =
    let lines = words_of RulesSection rows in
    let a = match_length (project.IsRule rows) _ _ of.rules in
    omega (arith, a, group_names lines, words_total is_rule (rows_of RulesSection rows), rule_count rows right)

-- ---- all counts

multipliers_few : (rows : List Row) (p : Project) → AreRight rows → IsProject rows p
    → sum_by (λ (q : Pattern). length q.multipliers.list) p.patterns.list ≤ 1000000
multipliers_few rows p right of =
    let P = rows_of Patterns rows in
    let a = sum_match (IsPattern rows) (λ (q : Pattern). length q.multipliers.list)
    (λ id. total_at own_id (λ r. length (row_multipliers r)) id P) (pattern_ids rows) p.patterns.list of.patterns
    (λ id q is. let e = ap length is ∙ flat_length row_multipliers id P in omega (arith, e)) in
    let b = grouped own_id (λ r. length (row_multipliers r)) (pattern_ids rows) P (names_once (own_ids P)) in
    omega (arith, a, b, total_is (λ (r : Row). length (multipliers r.words)) P, all_multipliers rows right)

curve_length : (rows : List Row) (name : List ℕ) → length (curve_named rows name) ≡ total_at own_id (λ r. 1) name
    (rows_of Curves rows)
curve_length rows name = length-map (rows_with name (rows_of Curves rows)) point_of ∙ rows_length name
    (rows_of Curves rows)

pub within_limits : (rows : List Row) (p : Project) → AreRight rows → IsProject rows p → IsWithinLimits p
within_limits rows p right of =
    let S : List ℕ → ListView VolumePoint → Type 0 = λ id list. list.list ≡ shape_points rows id in
    let B : List ℕ → ListView HeadPoint → Type 0 = λ id list. list.list ≡ bend_points rows id in
    record {
      junctions = omega (arith, match_length (project.IsJunction rows) _ _ of.junctions, junction_count rows right);
      reservoirs =
          omega (arith, match_length (project.IsReservoir rows) _ _ of.reservoirs, reservoir_count rows right);
      tanks = omega (arith, match_length (project.IsTank rows) _ _ of.tanks, tank_count rows right);
      links = omega (arith, match_length (IsLink rows) _ _ of.links, numbered_count rows, link_count rows right);
      patterns = omega (
        arith,
        match_length (IsPattern rows) _ _ of.patterns,
        distinct_names (rows_of Patterns rows),
        pattern_count rows right,
      );
      multipliers = multipliers_few rows p right of;
      shapes = omega (arith, match_length S _ _ of.shapes, shape_count rows right);
      shape_points = (
          let a = sum_match S (λ (s : ListView VolumePoint). length s.list)
          (λ id. total_at own_id (λ r. 1) id (rows_of Curves rows)) (shape_names rows) p.shapes.list of.shapes
          (λ id s is. let e = ap length is ∙ length-map (curve_named rows id) (volume_point (us rows))
          ∙ curve_length rows id in omega (arith, e)) in
          omega (arith, a, points_few rows (shape_names rows) right (names_once _)));
      bends = omega (arith, match_length B _ _ of.bends, bend_count rows right);
      bend_points = (
          let a = sum_match B (λ (b : ListView HeadPoint). length b.list)
          (λ id. total_at own_id (λ r. 1) id (rows_of Curves rows)) (bend_names rows) p.bends.list of.bends
          (λ id b is. let e = ap length is ∙ length-map (curve_named rows id) (head_point (unit rows) (us rows))
          ∙ curve_length rows id in omega (arith, e)) in
          omega (arith, a, points_few rows (bend_names rows) right (names_once _)));
      demands = demands_few rows p right of;
      controls =
          omega (
            arith,
            match_length (project.IsControl rows) _ _ of.controls,
            length-map
                (rows_of ControlsSection rows) words_of_row,
            control_count rows right,
          );
      rules = rules_few rows p right of;
      parts = parts_few rows p right of;
    }
