-- Outermost emitters of junctions and of nets.
use Rattle.std.proofs.Common.{◌≡◌, ℕ, ◌+◌, ◌*◌, ◌^◌, ◌<◌, ◌≤◌, ℤ, ◌≤ℤ◌, List, [], ◌∷◌, ◌++◌, length, Option, Some}
use Rattle.std.proofs.Common.{None, IfSome}
use Rattle.std.proofs.Common.{slice_get, slice_index_or, unsigned_abs, refl, sym, ap, subst, ◌∙◌, arith, inr, ◌⊎◌}
use Rattle.std.proofs.Common.{to_z, of_z}
use Rattle.std.specs.Int.{w128}
use Rattle.std.proofs.lemmas.Int.{ints}
use Rattle.std.specs.Prelude.{Result, Ok, Err, IfOk, OnErr}
use Rattle.std.proofs.Math.Nat.{mul-le-mul_right, le_of_mul-le-mul_right}
use Rattle.std.specs.List.{AllZip}
use Rattle.std.specs.Option.{option_map}
use Rattle.hyd_num.specs.BinaryNumbers.{numerator, denominator}
use Rattle.hyd_num.specs.CapacityPairs.{IsMade}
use Rattle.hyd_net.specs.NetworkRanges.{IsEmitter, IsEmitterNumber, IsJunction}
use Rattle.hyd_num.proofs.EndsInOrder.{denominator_positive}
use Rattle.hyd_net.specs.Sound.{IsSound}
use Rattle.hyd_num.specs.CapacityRange.{IsRefused}
use Rattle.hyd_capacities.specs.declared.capacity_range.CapRange.{CapRange}
use Rattle.hyd_spec.specs.ProgramTypes.{Project, Junction, Capacity, Origin, Emitter, Decimal, FlowUnit}
use Rattle.hyd_spec.specs.Law.{loss_at_most, loss_at_least}
use Rattle.hyd_theorems_on_definitions.specs.SoundLawsAndGrids.{IsSoundCapacity, HasPositiveNumbers}
use Rattle.hyd_theorems_on_definitions.proofs.EachLaw.{IsSoundCapacity-made}
use Rattle.hyd_spec_certificates.specs.Interval.{Interval}
use Rattle.hyd_spec_spread.specs.IntervalsOfData.{products}
use Rattle.hyd_spec_spread.specs.Spreads.{Factors, Spread, IsAroundOne, emitter_factors}
use Rattle.hyd_spec_spread.specs.OutermostGrids.{ReachesOver, IsOutermostEmitter}
use Rattle.hyd_spec_spread.specs.NetworksWithin.{IsEmitterOf, coefficient_of}
use Rattle.hyd_theorems_on_spread.proofs.ProductsInOrder.{products-hold}
use Rattle.hyd_theorems_on_spread.proofs.OutflowsInOrder.{Covers}
use Rattle.hyd_theorems_on_spread.proofs.OutermostJunctions.{reaches-covers, emitters-in-order}
use Rattle.hyd_theorems_on_spread.proofs.OwnNetwork.{own-emitter}
use Rattle.hyd_period_network.specs.declared.junctions_ends_and_settings.NetJunction.{NetJunction}
use Rattle.hyd_period_network.specs.NetAsPeriodNetwork.{capacity_of}
use Rattle.hyd_period_network.specs.GivenData.{law_with, with_emitters}
use Rattle.hyd_spread_networks.specs.NetsOfSpreads.{KnownEmitter, IsOutermost, HasOutermost, known_emitter}
use Rattle.hyd_spread_networks.specs.NetsOfSpreads.{known_emitters}
use Rattle.hyd_spread_networks.specs.RefusedSpreads.{IsRefusedAt, IsRefusedEmitter, IsRefusedOne, IsFirstEmitter}
use Rattle.hyd_spread_networks.proofs.ListsByNumber.{got, within, is_item, got_numbered, zipped_numbered, more_pushed}

-- the emitters that a net is given are those that it has
back : (e : Option Capacity) → option_map capacity_of (option_map law_with e) ≡ e
back None = refl
back (Some capacity) = refl

pub given_outermost : (known : List KnownEmitter) (before : List NetJunction) (emitters : List (Option Capacity))
    → length emitters ≡ length before → AllZip IsOutermost known emitters
    → AllZip HasOutermost known (with_emitters before emitters)
given_outermost [] [] emitters e zip = tt
given_outermost [] (b ∷ before) [] e zip = absurd (omega (arith, e))
given_outermost [] (b ∷ before) (x ∷ emitters) e zip = absurd zip
given_outermost (k ∷ known) [] [] e zip = absurd zip
given_outermost (k ∷ known) [] (x ∷ emitters) e zip = absurd (omega (arith, e))
given_outermost (k ∷ known) (b ∷ before) [] e zip = absurd zip
given_outermost (k ∷ known) (b ∷ before) (x ∷ emitters) e zip = (
  subst (IsOutermost k) (sym (back x)) zip.0,
  given_outermost known before emitters (omega (arith, e)) zip.1,
)

-- ---- capacities that reach over others

-- of three fractions in order
in_order : (a b c d e f : ℕ) → 0 < b → a * b ≤ c * e → c * d ≤ f * b → a * d ≤ f * e
in_order a b c d e f above first second =
    let m = mul-le-mul_right d first in
    let n = mul-le-mul_right e second in
    le_of_mul-le-mul_right (let l : a * d * b ≤ f * e * b = omega (arith, m, n) in l) above

-- a capacity that reaches over a sound one with the same numbers is sound
covers_sound : (wide own : Capacity) → Covers wide own → wide.origin ≡ own.origin → IsSoundCapacity own
    → IsSoundCapacity wide
covers_sound wide own c same sound = record {
  enclosure = record {
    at_most = λ S q y le. subst (λ (o : Origin). loss_at_most o S q y) (sym same) (sound.enclosure.at_most S q y
        (in_order (q * q) (denominator wide.lo) (numerator wide.lo) (denominator own.lo) (S * y) (numerator own.lo)
        (denominator_positive wide.lo) le c.low));
    at_least = λ S q y le. subst (λ (o : Origin). loss_at_least o S q y) (sym same) (sound.enclosure.at_least S q y
        (beyond (S * y) (numerator wide.hi) (denominator wide.hi) (numerator own.hi) (denominator own.hi) (q * q)
        (denominator_positive wide.hi) le c.high));
  };
  numbers = subst HasPositiveNumbers (sym same) sound.numbers;
}
  where
    beyond : (x n d m e s : ℕ) → 0 < d → n * x ≤ s * d → m * d ≤ n * e → m * x ≤ s * e
    beyond x n d m e s above first second =
        let k = mul-le-mul_right e first in
        let l = mul-le-mul_right x second in
        le_of_mul-le-mul_right (let r : m * x * d ≤ s * e * d = omega (arith, k, l) in r) above

pub reaches_sound : (unit : FlowUnit) (factors : Factors) → IsAroundOne factors → (own wide : Capacity)
    → IsEmitter unit own.origin → IsMade own → ReachesOver factors own wide → IsSoundCapacity wide
reaches_sound unit factors one own wide ranged made reaches =
    covers_sound wide own
    (reaches-covers factors own wide own reaches (record {
      nano = coefficient_of own.origin;
      within = products-hold factors one (coefficient_of own.origin);
      is_emitter = own-emitter unit own ranged made;
    }))
    reaches.origin (IsSoundCapacity-made own made)

-- the ends of a least and a greatest emitter are in order
pub ends_in_order : (own : Origin) (m n : ℤ) (least greatest : Capacity) → IsEmitterOf own m least
    → IsEmitterOf own n greatest → m ≤ℤ n
    → numerator least.lo * denominator greatest.hi ≤ numerator greatest.hi * denominator least.lo
ends_in_order own m n least greatest a b le =
    let lesser = emitters-in-order own m n least greatest a b le in
    let first = lesser.low in
    let second = greatest.ordered in
    in_order (numerator least.lo) (denominator greatest.lo) (numerator greatest.lo) (denominator greatest.hi)
    (denominator least.lo) (numerator greatest.hi) (denominator_positive greatest.lo) first second

-- ---- the capacity of a coefficient

pub emitter_made : (result : Result Capacity CapRange) (coefficient : Decimal) (unit : FlowUnit) (nano : ℤ)
    → coefficient.nano ≡ nano → IfOk result (λ c. c.origin ≡ Emitter coefficient unit) → IfOk result (λ c. IsMade c)
    → IfOk result (λ c. (own : Decimal) → IsEmitterOf (Emitter own unit) nano c)
emitter_made (Ok c) coefficient unit nano is origin made = λ own. record {
  own_coefficient = own;
  coefficient = coefficient;
  unit = unit;
  own_is = refl;
  origin = origin;
  nano_is = is;
  made = made;
}
emitter_made (Err e) coefficient unit nano is origin made = tt

pub emitter_refused : (result : Result Capacity CapRange) (coefficient : Decimal) (unit : FlowUnit) (nano : ℤ)
    → coefficient.nano ≡ nano → OnErr result (IsRefused (Emitter coefficient unit))
    → OnErr result (IsRefusedAt unit nano)
emitter_refused (Ok c) coefficient unit nano is refused = tt
emitter_refused (Err e) coefficient unit nano is refused =
    inr (record { coefficient = coefficient; nano_is = is; refused = refused })

-- ---- the outermost emitter of one that is given

-- the emitter that was read of a junction
pub emitter_at : (js read : List Junction) (k : ℕ) (d : Junction) (e : Option Capacity) → read ≡ js → k < length js
    → (slice_index_or read k d).emitter ≡ e → (junction : Junction) → slice_get js k ≡ Some junction
    → junction.emitter ≡ e
emitter_at js read k d e same lt is junction at =
    let item : slice_index_or js k d ≡ junction = is_item js k junction d at in
    ap (λ (x : Junction). x.emitter) (sym item)
    ∙ ap (λ (xs : List Junction). (slice_index_or xs k d).emitter) (sym same) ∙ is

-- what is known of an emitter of a sound network
pub emitter_there : (project : Project) → IsSound project → (j : ℕ) (junction : Junction) (own : Capacity)
    → slice_get project.junctions.list j ≡ Some junction → junction.emitter ≡ Some own
    → IsEmitter project.options.unit own.origin × IsMade own
emitter_there project sound j junction own at e =
    let lt = within project.junctions.list j junction at in
    let item = is_item project.junctions.list j junction junction at in
    let here : IsJunction project.options.unit project.patterns.list junction =
    subst (IsJunction project.options.unit project.patterns.list) item (sound.quantities.junctions j junction lt) in
    let made : IfSome junction.emitter IsMade =
    subst (λ (x : Junction). IfSome x.emitter IsMade) item (sound.made.emitters j junction lt) in
    (rw e at here.emitter, rw e at made)

-- numbers of 128 bits as they are taken
abbrev pub taken : ℤ → ℤ
taken z = to_z w128 (of_z w128 z)

abbrev pub between : ℤ → ℤ → Interval
between low high = record { lo = low; hi = high }

-- the ends of the products of its coefficient
pub products_of : (factors : Factors) (unit own : FlowUnit) (coefficient : Decimal) (low high : ℤ)
    → IsEmitterNumber unit coefficient own → unsigned_abs low ≤ 10 ^ 21 → unsigned_abs high ≤ 10 ^ 21
    → between low high ≡ products factors (taken coefficient.nano)
    → between (taken low) (taken high) ≡ products factors coefficient.nano
products_of factors unit own coefficient low high number least greatest are =
    let positive = number.range.at_least in
    let most = number.range.at_most in
    let same : taken coefficient.nano ≡ coefficient.nano = omega (arith, ints, positive, most) in
    let l : taken low ≡ low = omega (arith, ints, least) in
    let h : taken high ≡ high = omega (arith, ints, greatest) in
    (λ i. between (l i) (h i)) ∙ are ∙ ap (products factors) same

pub reaches_of : (factors : Factors) (own wide least greatest : Capacity) (coefficient : Decimal) (unit : FlowUnit)
    (low high : ℤ) → own.origin ≡ Emitter coefficient unit → between low high ≡ products factors coefficient.nano
    → IsEmitterOf (Emitter coefficient unit) low least → IsEmitterOf (Emitter coefficient unit) high greatest
    → wide.lo ≡ least.lo → wide.hi ≡ greatest.hi → wide.origin ≡ own.origin → ReachesOver factors own wide
reaches_of factors own wide least greatest coefficient unit low high is ends a b lo hi same = record {
  least = least;
  is_least = rw is (subst (λ (x : Interval). IsEmitterOf (Emitter coefficient unit) x.lo least) ends a);
  greatest = greatest;
  is_greatest = rw is (subst (λ (x : Interval). IsEmitterOf (Emitter coefficient unit) x.hi greatest) ends b);
  lower_end = lo;
  upper_end = hi;
  origin = same;
}

pub refused_of : (factors : Factors) (own : Capacity) (coefficient : Decimal) (unit : FlowUnit) (low high : ℤ)
    → own.origin ≡ Emitter coefficient unit → between low high ≡ products factors coefficient.nano
    → IsRefusedAt unit low ⊎ IsRefusedAt unit high → IsRefusedEmitter factors own
refused_of factors own coefficient unit low high is ends refused = record {
  coefficient = coefficient;
  unit = unit;
  own_is = is;
  refused = subst (λ (x : Interval). IsRefusedAt unit x.lo ⊎ IsRefusedAt unit x.hi) ends refused;
}

-- ---- emitters one after another

-- the first junctions have their outermost emitters
abbrev pub AreOutermostTo : Project → Spread → ℕ → List (Option Capacity) → Type 0
AreOutermostTo project spread i emitters = (k : ℕ) (junction : Junction) (e : Option Capacity) → k < i
    → slice_get project.junctions.list k ≡ Some junction
    → IsOutermost (known_emitter spread k junction) (slice_index_or emitters k e)

pub all_outermost : (project : Project) (spread : Spread) (emitters : List (Option Capacity))
    → length emitters ≡ length project.junctions.list
    → AreOutermostTo project spread (length project.junctions.list) emitters
    → AllZip IsOutermost (known_emitters project spread) emitters
all_outermost project spread emitters long all =
    zipped_numbered (known_emitter spread) IsOutermost project.junctions.list emitters long (λ k junction e at.
    all k junction e (within project.junctions.list k junction at) at)

pub first_emitter : (project : Project) (spread : Spread) (i : ℕ) (junction : Junction)
    (emitters : List (Option Capacity)) → slice_get project.junctions.list i ≡ Some junction
    → IsRefusedOne (known_emitter spread i junction) → AreOutermostTo project spread i emitters
    → IsFirstEmitter project spread i
first_emitter project spread i junction emitters at refused before = record {
  known = known_emitter spread i junction;
  is_known = got_numbered (known_emitter spread) project.junctions.list i junction at;
  refused = refused;
  first = λ k known less found. (
      let i_there = within project.junctions.list i junction at in
      let there : k < length project.junctions.list = omega (arith, less, i_there) in
      let one = slice_index_or project.junctions.list k junction in
      let its = got project.junctions.list k junction there in
      let e : Some (known_emitter spread k one) ≡ Some known =
      sym (got_numbered (known_emitter spread) project.junctions.list k one its) ∙ found in
      let same : known_emitter spread k one ≡ known = cc in (
        slice_index_or emitters k None,
        subst (λ (x : KnownEmitter). IsOutermost x (slice_index_or emitters k None)) same
            (before k one None less its),
      ));
}

-- an emitter more, written as a list grows
pub more_outermost : (project : Project) (spread : Spread) (i : ℕ) (factors : Factors)
    (emitters : List (Option Capacity)) (emitter : Option Capacity) → length emitters ≡ i
    → factors ≡ emitter_factors spread i
    → ((j : Junction) → slice_get project.junctions.list i ≡ Some j → IsOutermostEmitter factors j.emitter emitter)
    → AreOutermostTo project spread i emitters → AreOutermostTo project spread (i + 1) (emitters ++ emitter ∷ [])
more_outermost project spread i factors emitters emitter long same here before k junction e lt at =
    more_pushed (λ (n : ℕ) (x : Option Capacity). (j : Junction) → slice_get project.junctions.list n ≡ Some j
    → IsOutermost (known_emitter spread n j) x) emitters emitter
    (λ n d less j its. before n j d (omega (arith, less, long)) its)
    (λ j its. subst (λ (f : Factors). IsOutermostEmitter f j.emitter emitter)
    (same ∙ ap (λ (n : ℕ). emitter_factors spread n) (sym long))
    (here j (subst (λ (n : ℕ). slice_get project.junctions.list n ≡ Some j) long its)))
    k e (omega (arith, lt, long)) junction at
