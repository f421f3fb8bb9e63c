-- Heads of reservoirs, however far off: at each time they are among those by a multiplier.
use Rattle.std.specs.Prelude.{⊤}
use Rattle.std.proofs.Common.{◌≡◌, ℕ, ◌+◌, ◌*◌, ◌<◌, ◌≤◌, ◌^◌, ℤ, pos, unsigned_abs, ◌+ℤ◌, ◌*ℤ◌, List, [], length}
use Rattle.std.proofs.Common.{map, All, Option}
use Rattle.std.proofs.Common.{Some, None, slice_get, slice_index_or, refl, sym, subst, inl, inr, arith}
use Rattle.std.specs.Option.{option_map_or}
use Rattle.std.proofs.lemmas.Int.{ints, unsigned_abs-mul}
use Rattle.std.proofs.lemmas.Bool.{cases_eq}
use Rattle.hyd_net.specs.NumberRanges.{IsHead, LiesWithin, head_limit}
use Rattle.hyd_net.specs.NetworkRanges.{HasPattern, IsReservoir}
use Rattle.hyd_net.specs.Sound.{IsSound}
use Rattle.hyd_spec.specs.ProgramTypes.{Project, Pattern, Reservoir}
use Rattle.hyd_spec.specs.WholeNumbers.{cut}
use Rattle.hyd_spec.specs.DemandsHeadsAndPumpLifts.{multipliers_of, multiplier_at, reservoir_head}
use Rattle.hyd_spec_certificates.specs.Interval.{Interval, shifted}
use Rattle.hyd_spec.specs.Lists.{Each}
use Rattle.hyd_spec_spread.specs.Spreads.{Spread, head_offsets}
use Rattle.hyd_spec_spread.specs.IntervalsOfData.{known_head, known_heads}
use Rattle.hyd_demands_and_reservoir_heads.specs.DemandsAndHeadsByNumber.{head_of_reservoir}
use Rattle.hyd_demands_and_reservoir_heads.proofs.DemandsAndReservoirHeads.{multiplier_has}
use Rattle.hyd_spread_networks.specs.HeadsBySpreads.{StaysHead, AllStayBy, AllStay, HeadsStay}
use Rattle.hyd_spread_networks.specs.RefusedSpreads.{IsFirstHead}
use Rattle.hyd_spread_networks.proofs.ListsByNumber.{any, got, is_item, within, zipped_numbered, read_off}

abbrev pub no_pattern : Pattern
no_pattern = record { multipliers = record { list = []; spare = 0 } }

pub multipliers_are : (project : Project) (pattern : ℕ) → pattern < length project.patterns.list
    → multipliers_of project pattern ≡ (slice_index_or project.patterns.list pattern no_pattern).multipliers.list
multipliers_are project pattern lt = rw (got project.patterns.list pattern no_pattern lt) refl

by_time : (project : Project) → IsSound project → (offsets : Interval) (time : ℕ) (head : ℤ) (pattern : Option ℕ)
    → HasPattern (λ m. ⊤) project.patterns.list pattern → AllStayBy project offsets head pattern
    → StaysHead offsets (option_map_or (λ p. cut (head *ℤ multiplier_at project p time) (10 ^ 9)) pattern head)
by_time project sound offsets time head None named all = all
by_time project sound offsets time head (Some pattern) named all =
    let P : ℤ → Type 0 = λ m. StaysHead offsets (cut (head *ℤ m) (10 ^ 9)) in
    let here : All P (slice_index_or project.patterns.list pattern no_pattern).multipliers.list =
    subst (λ (ms : List ℤ). All P ms) (multipliers_are project pattern named.in_range) all in
    multiplier_has P project time pattern sound.patterns (record {
      in_range = named.in_range;
      holds = λ d. subst (λ (p : Pattern). All P p.multipliers.list)
          (any project.patterns.list pattern no_pattern d named.in_range) here;
    })

pub stays_at_time : (project : Project) → IsSound project → (offsets : Interval) (time r : ℕ) (reservoir : Reservoir)
    → slice_get project.reservoirs.list r ≡ Some reservoir → AllStay project offsets reservoir
    → StaysHead offsets (head_of_reservoir project time r)
stays_at_time project sound offsets time r reservoir at all =
    let lt = within project.reservoirs.list r reservoir at in
    let here : IsReservoir project.patterns.list reservoir =
    subst (IsReservoir project.patterns.list) (is_item project.reservoirs.list r reservoir reservoir at)
    (sound.quantities.reservoirs r reservoir lt) in
    rw at (by_time project sound offsets time reservoir.head reservoir.pattern
    (there (λ m. LiesWithin (head_limit * 10 ^ 9) (reservoir.head *ℤ m)) reservoir.pattern here.pattern) all)
  where
    there : (Q : ℤ → Type 0) (pattern : Option ℕ) → HasPattern Q project.patterns.list pattern
        → HasPattern (λ m. ⊤) project.patterns.list pattern
    there Q None has = tt
    there Q (Some p) has = record { in_range = has.in_range; holds = λ d k e h. tt }

-- a head by number stays with the offsets of its reservoir
pub stays_then : (project : Project) → IsSound project → (spread : Spread) (time r : ℕ)
    → r < length project.reservoirs.list → Each project.reservoirs.list (HeadsStay project spread)
    → StaysHead (head_offsets spread r) (head_of_reservoir project time r)
stays_then project sound spread time r lt stay =
    let none : Reservoir = record { head = pos 0; pattern = None } in
    let reservoir = slice_index_or project.reservoirs.list r none in
    let at = got project.reservoirs.list r none lt in
    stays_at_time project sound (head_offsets spread r) time r reservoir at (stay r reservoir at)

-- ---- reservoirs one after another

-- the heads of the first reservoirs stay
abbrev pub StayTo : Project → Spread → ℕ → Type 0
StayTo project spread i = (k : ℕ) (reservoir : Reservoir) → k < i
    → slice_get project.reservoirs.list k ≡ Some reservoir → HeadsStay project spread k reservoir

pub more_stay : (project : Project) (spread : Spread) (place : ℕ) (offsets : Interval) (reservoir : Reservoir)
    → slice_get project.reservoirs.list place ≡ Some reservoir → offsets ≡ head_offsets spread place
    → AllStay project offsets reservoir → StayTo project spread place → StayTo project spread (place + 1)
more_stay project spread place offsets reservoir at e all before k other lt its = elim (cases_eq k place) [
  | inl same ↦ (
      let there : slice_get project.reservoirs.list place ≡ Some other =
      subst (λ (n : ℕ). slice_get project.reservoirs.list n ≡ Some other) same its in
      let one : reservoir ≡ other = cc in
      let here : HeadsStay project spread place reservoir =
      subst (λ (x : Interval). AllStay project x reservoir) e all in
      subst (λ (n : ℕ). HeadsStay project spread n other) (sym same)
      (subst (λ (x : Reservoir). HeadsStay project spread place x) one here))
  | inr ne ↦ before k other (omega (arith, ne, lt)) its
]

pub first_head : (project : Project) (spread : Spread) (place : ℕ) (offsets : Interval) (reservoir : Reservoir)
    → slice_get project.reservoirs.list place ≡ Some reservoir → offsets ≡ head_offsets spread place
    → (AllStay project offsets reservoir → ⊥) → StayTo project spread place → IsFirstHead project spread place
first_head project spread place offsets reservoir at e leaves before = record {
  reservoir = reservoir;
  is_reservoir = at;
  leaves = λ stays. leaves (subst (λ (x : Interval). AllStay project x reservoir) (sym e) stays);
  first = λ k other lt its. before k other lt its;
}

-- a head times a multiplier, before it is cut
pub product_small : (head m : ℤ) → LiesWithin (head_limit * 10 ^ 9) (head *ℤ m)
    → unsigned_abs head * unsigned_abs m ≤ 10 ^ 26
product_small head m range =
    let e = unsigned_abs-mul head m in
    let a = range.at_least in
    let b = range.at_most in
    omega (arith, ints, e, a, b)

-- a head by a multiplier, as it was computed
pub stays_by : (offsets : Interval) (head m a b z : ℤ) → z ≡ cut (a *ℤ b) (10 ^ 9) → a ≡ head → b ≡ m
    → StaysHead offsets z → StaysHead offsets (cut (head *ℤ m) (10 ^ 9))
stays_by offsets head m a b z value first second stays =
    subst (λ (x : ℤ). StaysHead offsets (cut (x *ℤ m) (10 ^ 9))) first
    (subst (λ (x : ℤ). StaysHead offsets (cut (a *ℤ x) (10 ^ 9))) second (subst (StaysHead offsets) value stays))

-- ---- heads that are written

abbrev pub low_of : Interval → ℤ
low_of x = x.lo

abbrev pub high_of : Interval → ℤ
high_of x = x.hi

-- an end of a reservoir's head is written, and in range
pub record IsHeadAt (f : Interval → ℤ) (project : Project) (spread : Spread) (time r : ℕ) (z : ℤ) : Type 0 where
  pub value : z ≡ (head_of_reservoir project time r +ℤ f (head_offsets spread r))
  pub range : IsHead z

head_got : (project : Project) (time r : ℕ) (reservoir : Reservoir)
    → slice_get project.reservoirs.list r ≡ Some reservoir
    → head_of_reservoir project time r ≡ reservoir_head project time reservoir
head_got project time r reservoir at = rw at refl

heads_are : (f : Interval → ℤ) → ((by : ℤ) (x : Interval) → f (shifted by x) ≡ (f x +ℤ by)) → (project : Project)
    (spread : Spread) (time : ℕ) (zs : List ℤ) → length zs ≡ length project.reservoirs.list
    → ((k : ℕ) (d : ℤ) → k < length project.reservoirs.list → IsHeadAt f project spread time k (slice_index_or zs k d))
    → zs ≡ map f (known_heads project spread time)
heads_are f moves project spread time zs long all =
    read_off f (known_heads project spread time) zs
    (zipped_numbered (known_head project spread time) (λ (x : Interval) (z : ℤ). z ≡ f x) project.reservoirs.list zs
    long (λ k reservoir z at.
    let here = (all k z (within project.reservoirs.list k reservoir at)).value in
    let same = head_got project time k reservoir at in
    let moved = moves (reservoir_head project time reservoir) (head_offsets spread k) in
    omega (arith, ints, here, same, moved)))

pub least_are : (project : Project) (spread : Spread) (time : ℕ) (zs : List ℤ)
    → length zs ≡ length project.reservoirs.list
    → ((k : ℕ) (d : ℤ) → k < length project.reservoirs.list
    → IsHeadAt low_of project spread time k (slice_index_or zs k d))
    → zs ≡ map low_of (known_heads project spread time)
least_are = heads_are low_of (λ by x. refl)

pub greatest_are : (project : Project) (spread : Spread) (time : ℕ) (zs : List ℤ)
    → length zs ≡ length project.reservoirs.list
    → ((k : ℕ) (d : ℤ) → k < length project.reservoirs.list
    → IsHeadAt high_of project spread time k (slice_index_or zs k d))
    → zs ≡ map high_of (known_heads project spread time)
greatest_are = heads_are high_of (λ by x. refl)
