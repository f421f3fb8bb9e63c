-- Values of hyd_num whose fields are equal are equal, since the facts that they keep have one proof each; and
-- comparisons of capacities, lists and IDs decide.
use Rattle.std.proofs.Common.{◌≡◌, ◌*◌, ◌^◌, ◌≤◌, ◌<◌, ℕ, ℤ, Bool, true, ◌&&◌, List, [], ◌∷◌, map, length, get_or, suc}
use Rattle.std.proofs.Common.{◌+◌, arith, refl, sym, ap, ap₂, ◌∙◌, subst, false, true≢false}
use Rattle.std.proofs.Math.Bool.{Bool-set}
use Rattle.std.specs.Prelude.{unsigned_abs, ◌≤ℤ◌, ◌==◌, Option, Some, None}
use Rattle.std.specs.Option.{IfSome}
use Rattle.std.specs.Bool.{Decides}
use Rattle.std.specs.Ordering.{int_eq}
use Rattle.std.specs.Coded.{le_prop}
use Rattle.std.specs.Cmp.Lexicographic.{pointwise}
use Rattle.std.specs.Str.{bytes_eq}
use Rattle.std.proofs.lemmas.List.{map-id, get_or-map}
use Rattle.std.proofs.lemmas.Slice.Eq.{slice_eq-Decides, bytes_eq-Decides}
use Rattle.std.proofs.lemmas.Bool.Decides.{Decides-eqb, Decides-int_eq}
use denote.Struct.Props.{props}
use Rattle.hyd_num.specs.BinaryNumbers.{numerator, denominator, reach}
use Rattle.hyd_num.specs.Pairs.{pair_reach}
use Rattle.hyd_num.specs.declared.binary.Scaled.{Scaled}
use Rattle.hyd_num.specs.declared.pairs.Pair.{Pair}
use Rattle.hyd_num.specs.declared.decimals.Decimal.{Decimal}
use Rattle.hyd_num.specs.declared.spans.Span.{Span}
use Rattle.hyd_num.specs.declared.link_capacities.Capacity.{Capacity}
use Rattle.hyd_spec_power_laws.specs.declared.power_capacities.PowerCapacity.{PowerCapacity}
use Rattle.hyd_spec_power_laws.specs.WholeFlows.{Covers}
use Rattle.hyd_net.specs.ListView.{ListView}
use Rattle.hyd_net.specs.ProjectAsCompared.{compared_capacity, compared_power, no_origin, bare_list}

one_proof-≤ℤ : (x y : ℤ) → IsProp (x ≤ℤ y)
one_proof-≤ℤ x y = hlevel props

pub Scaled-equal : (a b : Scaled) → a.mant ≡ b.mant → a.exp ≡ b.exp → a ≡ b
Scaled-equal a b m e =
    let ByMant : ℕ → Type 0 = λ n. (normal : 2 ^ 62 ≤ n) (short : n < 2 ^ 63) → a ≡ record {
      mant = n;
      exp = b.exp;
      normal = normal;
      short = short;
    } in
    let ByExp : ℤ → Type 0 = λ z. (normal : 2 ^ 62 ≤ a.mant) (short : a.mant < 2 ^ 63) → a ≡ record {
      mant = a.mant;
      exp = z;
      normal = normal;
      short = short;
    } in
    subst ByMant m (subst ByExp e (λ normal short. ap₂ (λ p q. record a {
      normal = p;
      short = q;
    }) (le_prop a.normal normal) (le_prop a.short short))) b.normal b.short

pub Decimal-equal : (a b : Decimal) → a.nano ≡ b.nano → a ≡ b
Decimal-equal a b n =
    let ByNano : ℤ → Type 0 = λ z. (bounded : unsigned_abs z ≤ 10 ^ 21) → a ≡ record { nano = z; bounded = bounded } in
    subst ByNano n (λ bounded. ap (λ p. record a { bounded = p }) (le_prop a.bounded bounded)) b.bounded

pub Span-equal : (a b : Span) → a.lo ≡ b.lo → a.hi ≡ b.hi → a ≡ b
Span-equal a b l h =
    let ByLo : ℤ → Type 0 = λ z. (ordered : z ≤ℤ b.hi) → a ≡ record { lo = z; hi = b.hi; ordered = ordered } in
    let ByHi : ℤ → Type 0 = λ z. (ordered : a.lo ≤ℤ z) → a ≡ record { lo = a.lo; hi = z; ordered = ordered } in
    subst ByLo l (subst ByHi h (λ ordered. ap (λ p. record a { ordered = p })
    (one_proof-≤ℤ a.lo a.hi a.ordered ordered))) b.ordered

pub Pair-equal : (r s : Pair) → r.lo ≡ s.lo → r.hi ≡ s.hi → r ≡ s
Pair-equal r s l h =
    let Ordered : Scaled → Scaled → Type 0 = λ lo hi. numerator lo * denominator hi ≤ numerator hi * denominator lo in
    let ByLo : Scaled → Type 0 = λ lo. (p : Ordered lo s.hi) → r ≡ record { lo = lo; hi = s.hi; ordered = p } in
    let ByHi : Scaled → Type 0 = λ hi. (p : Ordered r.lo hi) → r ≡ record { lo = r.lo; hi = hi; ordered = p } in
    let proofs : (p : Ordered r.lo r.hi) → r ≡ record { lo = r.lo; hi = r.hi; ordered = p } =
    λ p i. record { lo = r.lo; hi = r.hi; ordered = le_prop r.ordered p i } in
    subst ByLo l (subst ByHi h proofs) s.ordered

-- ---- capacities by powers

abbrev IsNearMinor : Option Pair → Type 0
IsNearMinor minor = IfSome minor (λ m. pair_reach m ≤ 2 ^ 26)

near_prop : (minor : Option Pair) (p q : IsNearMinor minor) → p ≡ q
near_prop None p q = refl
near_prop (Some m) p q = le_prop p q

-- of the same ends, minor loss and pipe
pub PowerCapacity-equal : (a b : PowerCapacity) → a.low ≡ b.low → a.high ≡ b.high → a.minor ≡ b.minor
    → a.pipe ≡ b.pipe → a ≡ b
PowerCapacity-equal a b l h m o =
    let Near : Scaled → Scaled → Type 0 = λ low high. reach low + reach high ≤ 2 ^ 26 in
    let ByLow : Scaled → Type 0 = λ low. (p : Covers b.high b.minor) (q : Near low b.high) (r : IsNearMinor b.minor)
    → a ≡ record {
      low = low;
      high = b.high;
      minor = b.minor;
      pipe = b.pipe;
      covers = p;
      near = q;
      minor_near = r;
    } in
    let ByHigh : Scaled → Type 0 = λ high. (p : Covers high b.minor) (q : Near a.low high) (r : IsNearMinor b.minor)
    → a ≡ record {
      low = a.low;
      high = high;
      minor = b.minor;
      pipe = b.pipe;
      covers = p;
      near = q;
      minor_near = r;
    } in
    let ByMinor : Option Pair → Type 0 = λ minor. (p : Covers a.high minor) (q : Near a.low a.high)
    (r : IsNearMinor minor) → a ≡ record {
      low = a.low;
      high = a.high;
      minor = minor;
      pipe = b.pipe;
      covers = p;
      near = q;
      minor_near = r;
    } in
    let proofs : (p : Covers a.high a.minor) (q : Near a.low a.high) (r : IsNearMinor a.minor) → a ≡ record {
      low = a.low;
      high = a.high;
      minor = a.minor;
      pipe = b.pipe;
      covers = p;
      near = q;
      minor_near = r;
    } = λ p q r i. record {
      low = a.low;
      high = a.high;
      minor = a.minor;
      pipe = o i;
      covers = Bool-set _ _ a.covers p i;
      near = le_prop a.near q i;
      minor_near = near_prop a.minor a.minor_near r i;
    } in
    subst ByLow l (subst ByHigh h (subst ByMinor m proofs)) b.covers b.near b.minor_near

-- ---- capacities of a root

-- capacities with the same ends are the same as compared
pub compared_capacity-equal : (a b : Capacity) → a.lo ≡ b.lo → a.hi ≡ b.hi → compared_capacity a ≡ compared_capacity b
compared_capacity-equal a b l h =
    let Ordered : Scaled → Scaled → Type 0 = λ lo hi. numerator lo * denominator hi ≤ numerator hi * denominator lo in
    let Least : Scaled → Type 0 = λ lo. denominator lo ≤ numerator lo * 2 ^ 61 in
    let Greatest : Scaled → Type 0 = λ hi. numerator hi < 2 ^ 66 * denominator hi in
    let ByLo : Scaled → Type 0 = λ lo. (o : Ordered lo b.hi) (l : Least lo) (g : Greatest b.hi)
    → compared_capacity a ≡ record { lo = lo; hi = b.hi; origin = no_origin; ordered = o; least = l; greatest = g } in
    let ByHi : Scaled → Type 0 = λ hi. (o : Ordered a.lo hi) (l : Least a.lo) (g : Greatest hi)
    → compared_capacity a ≡ record { lo = a.lo; hi = hi; origin = no_origin; ordered = o; least = l; greatest = g } in
    subst ByLo l (subst ByHi h (λ o least g. ap₂ (λ p q. record (compared_capacity a) {
      ordered = p;
      least = q;
      greatest = a.greatest;
    }) (le_prop a.ordered o) (le_prop a.least least)
    ∙ ap (λ r. record (compared_capacity a) { ordered = o; least = least; greatest = r }) (le_prop a.greatest g)))
    b.ordered b.least b.greatest

-- ---- what `==` of hyd_num's types decides

both : (p q : Bool) {P Q : Type 0} → Decides p P → Decides q Q → Decides (p && q) (P × Q)
both true q h k = (λ t. (h.0 refl, k.0 t), λ b. k.1 b.1)
both false q h k = (λ t. absurd (true≢false (sym t)), λ b. h.1 b.0)

by_parts : (r : Bool) {P Q : Type 0} → Decides r P → (P → Q) → (Q → P) → Decides r Q
by_parts r h to from = (λ t. to (h.0 t), λ q. h.1 (from q))

pub Scaled-decides : (a b : Scaled) → Decides ((a.mant == b.mant) && int_eq a.exp b.exp) (a ≡ b)
Scaled-decides a b = by_parts _ (both _ _ (Decides-eqb a.mant b.mant) (Decides-int_eq a.exp b.exp))
    (λ p. Scaled-equal a b p.0 p.1) (λ e. (ap (λ (s : Scaled). s.mant) e, ap (λ (s : Scaled). s.exp) e))

-- the ends of two capacities, compared one by one
pub compared_capacity-apart : (a b : Capacity) → Decides false (a.lo ≡ b.lo)
    → Decides false (compared_capacity a ≡ compared_capacity b)
compared_capacity-apart a b l = (λ t. absurd (true≢false (sym t)), λ e. l.1 (ap (λ (c : Capacity). c.lo) e))

pub compared_capacity-decides : (a b : Capacity) (low high : Bool) → Decides low (a.lo ≡ b.lo)
    → Decides high (a.hi ≡ b.hi) → Decides (low && high) (compared_capacity a ≡ compared_capacity b)
compared_capacity-decides a b low high l h =
    by_parts _ (both _ _ l h) (λ p. compared_capacity-equal a b p.0 p.1)
    (λ e. (ap (λ (c : Capacity). c.lo) e, ap (λ (c : Capacity). c.hi) e))

-- so the ends of two pairs
pub Pair-apart : (a b : Pair) → Decides false (a.lo ≡ b.lo) → Decides false (a ≡ b)
Pair-apart a b l = (λ t. absurd (true≢false (sym t)), λ e. l.1 (ap (λ (r : Pair). r.lo) e))

pub Pair-decides : (a b : Pair) (low high : Bool) → Decides low (a.lo ≡ b.lo) → Decides high (a.hi ≡ b.hi)
    → Decides (low && high) (a ≡ b)
Pair-decides a b low high l h =
    by_parts _ (both _ _ l h) (λ p. Pair-equal a b p.0 p.1)
    (λ e. (ap (λ (r : Pair). r.lo) e, ap (λ (r : Pair). r.hi) e))

-- the ends of two capacities by powers and their minor losses
pub compared_power-decides : (a b : PowerCapacity) (r : Bool)
    → Decides r ((a.low ≡ b.low) × (a.high ≡ b.high) × (a.minor ≡ b.minor))
    → Decides r (compared_power a ≡ compared_power b)
compared_power-decides a b r h =
    by_parts r h (λ p. PowerCapacity-equal (compared_power a) (compared_power b) p.0 p.1 p.2 refl)
    (λ e. (
      ap (λ (c : PowerCapacity). c.low) e,
      ap (λ (c : PowerCapacity). c.high) e,
      ap (λ (c : PowerCapacity). c.minor) e,
    ))

-- ---- lists

-- lists of one length whose items have the same images
pub map-equal : {A B : Type 0} (f : A → B) (xs ys : List A) → length xs ≡ length ys
    → ((k : ℕ) (d : A) → k < length xs → f (get_or xs k d) ≡ f (get_or ys k d)) → map f xs ≡ map f ys
map-equal f [] [] e h = refl
map-equal f [] (y ∷ ys) e h = absurd (omega (arith, e))
map-equal f (x ∷ xs) [] e h = absurd (omega (arith, e))
map-equal f (x ∷ xs) (y ∷ ys) e h = ap₂ (λ v vs. v ∷ vs) (h 0 x (omega arith))
    (map-equal f xs ys (omega (arith, e)) (λ k d lt. h (suc k) d (omega (arith, lt))))

-- equal images of lists at one place
pub map-at : {A B : Type 0} (f : A → B) (xs ys : List A) (k : ℕ) (d : A) → length xs ≡ length ys → map f xs ≡ map f ys
    → k < length xs → f (get_or xs k d) ≡ f (get_or ys k d)
map-at f xs ys k d long e lt =
    sym (get_or-map f xs k d (f d) lt) ∙ ap (λ zs. get_or zs k (f d)) e ∙ get_or-map f ys k d (f d)
    (omega (arith, long, lt))

pointwise-map : {K : Type 0} (f : K → List ℕ) (ks ls : List K) → pointwise (λ x y. bytes_eq (f x) (f y)) ks ls
    ≡ pointwise bytes_eq (map f ks) (map f ls)
pointwise-map f [] [] = refl
pointwise-map f [] (l ∷ ls) = refl
pointwise-map f (k ∷ ks) [] = refl
pointwise-map f (k ∷ ks) (l ∷ ls) = ap (λ b. bytes_eq (f k) (f l) && b) (pointwise-map f ks ls)

pub bare_list-decides : {T : Type 0} (a b : ListView T) (r : Bool) → Decides r (a.list ≡ b.list)
    → Decides r (bare_list a ≡ bare_list b)
bare_list-decides a b r h = by_parts r h (λ e. ap (λ xs. record {
  list = xs;
  spare = 0;
}) e) (λ e. ap (λ (v : ListView _). v.list) e)

-- `==` of two slices of whole numbers
pub bare_list-by_eq : {T : Type 0} {E : T → T → Bool} → ((x y : T) → Decides (E x y) (x ≡ y))
    → (a b : ListView T) (xs ys : List T) (r : Bool) → xs ≡ a.list → ys ≡ b.list → r ≡ pointwise E xs ys
    → Decides r (bare_list a ≡ bare_list b)
bare_list-by_eq {E = E} decides a b xs ys r left right h =
    bare_list-decides a b r (slice_eq-Decides decides a.list b.list r (h ∙ ap₂ (pointwise E) left right))

-- items that are compared as they are
pub bare_list-by_items : {T : Type 0} (a b : ListView T) (xs ys : List T) (r : Bool) → xs ≡ a.list → ys ≡ b.list
    → Decides r (map (λ x. x) xs ≡ map (λ x. x) ys) → Decides r (bare_list a ≡ bare_list b)
bare_list-by_items a b xs ys r left right h =
    bare_list-decides a b r (by_parts r h (λ e. sym left ∙ sym (map-id xs) ∙ e ∙ map-id ys ∙ right)
    (λ e. map-id xs ∙ left ∙ e ∙ sym right ∙ sym (map-id ys)))

-- two lists of keys have the same list of IDs where `==` finds each pair of IDs equal
pub ids-decide : {K : Type 0} (f : K → List ℕ) (ks ls xs ys : List K) (r : Bool) → xs ≡ ks → ys ≡ ls
    → r ≡ pointwise (λ x y. bytes_eq (f x) (f y)) xs ys → Decides r (map f ks ≡ map f ls)
ids-decide f ks ls xs ys r left right h =
    slice_eq-Decides bytes_eq-Decides (map f ks) (map f ls) r (h ∙ ap₂ (pointwise (λ x y. bytes_eq (f x) (f y))) left
    right ∙ pointwise-map f ks ls)
