-- Curves of a file without a fault: what is asked of neighbours holds of all points.
use Rattle.std.proofs.Common.{◌≡◌, ◌-◌, ◌^◌, ◌≤◌, zero, suc, Bool, true, false, List, [], ◌∷◌, length, get_or, refl}
use Rattle.std.proofs.Common.{sym, ap, ◌∙◌, subst, arith, true≢false, map}
use Rattle.std.specs.Prelude.{◌&&◌, nat_le, All, AllPairs, HoldsAt, ℤ, pos, ◌≤ℤ◌, ◌<ℤ◌, ◌-ℤ◌}
use Rattle.std.specs.List.{list_all}
use Rattle.std.specs.Ordering.{int_eq}
use Rattle.std.proofs.lemmas.Bool.{and_parts, leb-true}
use Rattle.std.proofs.lemmas.Bool.Decides.{Decides-int_eq}
use Rattle.std.proofs.lemmas.Int.{ints}
use Rattle.std.proofs.lemmas.List.Elements.{All-nil, All-cons, All-weaker}
use lib.Signed.{le_z, lt_z}
use Rattle.hyd_num.specs.FileQuantity.{head_ticks, flow_ticks}
use Rattle.hyd_num.specs.Rational.{whole, is_at_most}
use Rattle.hyd_num.specs.declared.flow_units.FlowUnit.{FlowUnit}
use Rattle.hyd_num.specs.declared.flow_units.FlowUnit.TheVariants.{Cfs, Gpm, Mgd, Imgd, Afd, Lps, Lpm, Mld, Cmh, Cmd}
use Rattle.hyd_net.specs.NumberRanges.{IsHead, IsFlow}
use Rattle.hyd_net.specs.Curves.{AreRising, AreFalling, IsVolumeCurve, IsPumpCurve, IsLossCurve, value_at, head_knots}
use Rattle.hyd_net.specs.Curves.{volume_at}
use Rattle.hyd_net.specs.declared.curves.VolumePoint.{VolumePoint}
use Rattle.hyd_net.specs.declared.curves.HeadPoint.{HeadPoint}
use Rattle.hyd_spec_input.specs.SectionsAndTables.{Point}
use Rattle.hyd_spec_input.specs.Curves.{is_head, in_turn, at_start, at_end, head_points, is_slower, is_faster, has_flow}
use Rattle.hyd_spec_input.specs.Curves.{is_pump_bend, begins_at_0, is_valve_bend, is_fuller, covers, is_volume_curve}
use Rattle.hyd_lemmas.proofs.Each.{all_by}
use Rattle.hyd_lemmas.proofs.BooleanTests.{le_z-yes, lt_z-yes}
use Rattle.hyd_theorems_on_input.proofs.RowsWithoutFault.{lies}

-- ---- neighbours

pairs_cons : {X : Type 0} (R : X → X → Type 0) (x : X) (xs : List X) → All (R x) xs → AllPairs R xs
    → AllPairs R (x ∷ xs)
pairs_cons R x xs all rest zero zero d before inside = absurd (omega arith)
pairs_cons R x xs all rest (suc i) zero d before inside = absurd (omega arith)
pairs_cons R x xs all rest zero (suc j) d before inside = all j d (omega (arith, inside))
pairs_cons R x xs all rest (suc i) (suc j) d before inside =
    rest i j d (omega (arith, before)) (omega (arith, inside))

pairs_none : {X : Type 0} (R : X → X → Type 0) → AllPairs R []
pairs_none R i j d before inside = absurd (omega arith)

beyond_first : {X : Type 0} (R : ℤ → ℤ → Type 0) (f : X → ℤ) (test : X → X → Bool)
    → ((a b c : ℤ) → R a b → R b c → R a c) → ((a b : X) → test a b ≡ true → R (f a) (f b))
    → (x : X) (xs : List X) → in_turn test (x ∷ xs) ≡ true → All (R (f x)) (map f xs)
beyond_first R f test through tells x [] e = All-nil (R (f x))
beyond_first R f test through tells x (y ∷ ys) e =
    let both = and_parts (test x y) (in_turn test (y ∷ ys)) e in
    let next = tells x y both.0 in
    All-cons (R (f x)) (f y) (map f ys) next
    (All-weaker (R (f y)) (R (f x)) (λ z r. through (f x) (f y) z next r) (map f ys)
    (beyond_first R f test through tells y ys both.1))

rest_in_turn : {X : Type 0} (test : X → X → Bool) (x : X) (xs : List X) → in_turn test (x ∷ xs) ≡ true
    → in_turn test xs ≡ true
rest_in_turn test x [] e = refl
rest_in_turn test x (y ∷ ys) e = (and_parts (test x y) (in_turn test (y ∷ ys)) e).1

-- what holds of neighbours, and through a third, holds of all pairs
all_pairs : {X : Type 0} (R : ℤ → ℤ → Type 0) (f : X → ℤ) (test : X → X → Bool)
    → ((a b c : ℤ) → R a b → R b c → R a c) → ((a b : X) → test a b ≡ true → R (f a) (f b))
    → (xs : List X) → in_turn test xs ≡ true → AllPairs R (map f xs)
all_pairs R f test through tells [] e = pairs_none R
all_pairs R f test through tells (x ∷ xs) e =
    pairs_cons R (f x) (map f xs) (beyond_first R f test through tells x xs e)
    (all_pairs R f test through tells xs (rest_in_turn test x xs e))

rising : {X : Type 0} (f : X → ℤ) (test : X → X → Bool) → ((a b : X) → test a b ≡ true → f a <ℤ f b) → (xs : List X)
    → in_turn test xs ≡ true → AreRising (map f xs)
rising f test tells xs e = all_pairs (λ a b. a <ℤ b) f test (λ a b c p q. omega (arith, ints, p, q)) tells xs e

falling : {X : Type 0} (f : X → ℤ) (test : X → X → Bool) → ((a b : X) → test a b ≡ true → f b <ℤ f a) → (xs : List X)
    → in_turn test xs ≡ true → AreFalling (map f xs)
falling f test tells xs e = all_pairs (λ a b. b <ℤ a) f test (λ a b c p q. omega (arith, ints, p, q)) tells xs e

-- ---- from one end to the other

-- what the first point has and each point hands on to the next one
handed_on : {X : Type 0} (P : X → Type 0) (test : X → X → Bool) → ((a b : X) → test a b ≡ true → P a → P b)
    → (x : X) (xs : List X) → in_turn test (x ∷ xs) ≡ true → P x → All P (x ∷ xs)
handed_on P test next x [] e p = All-cons P x [] p (All-nil P)
handed_on P test next x (y ∷ ys) e p =
    let both = and_parts (test x y) (in_turn test (y ∷ ys)) e in
    All-cons P x (y ∷ ys) p (handed_on P test next y ys both.1 (next x y both.0 p))

from_start : {X : Type 0} (P : X → Type 0) (start : X → Bool) (test : X → X → Bool) → ((a : X) → start a ≡ true → P a)
    → ((a b : X) → test a b ≡ true → P a → P b)
    → (xs : List X) → in_turn test xs ≡ true → at_start start xs ≡ true → All P xs
from_start P start test begins next [] e s = All-nil P
from_start P start test begins next (x ∷ xs) e s = handed_on P test next x xs e (begins x s)

-- what the last point has and each point hands on to the one before
from_end : {X : Type 0} (P : X → Type 0) (end : X → Bool) (test : X → X → Bool) → ((a : X) → end a ≡ true → P a)
    → ((a b : X) → test a b ≡ true → P b → P a)
    → (xs : List X) → in_turn test xs ≡ true → at_end end xs ≡ true → All P xs
from_end P end test ends before [] e s = All-nil P
from_end P end test ends before (x ∷ []) e s = All-cons P x [] (ends x s) (All-nil P)
from_end P end test ends before (x ∷ y ∷ ys) e s =
    let both = and_parts (test x y) (in_turn test (y ∷ ys)) e in
    let rest = from_end P end test ends before (y ∷ ys) both.1 s in
    All-cons P x (y ∷ ys) (before x y both.0 (rest 0 x (omega arith))) rest

pub first_is : {X : Type 0} (P : X → Type 0) (test : X → Bool) → ((a : X) → test a ≡ true → P a) → (xs : List X)
    → at_start test xs ≡ true → HoldsAt P xs 0
first_is P test tells [] e = absurd (true≢false (sym e))
first_is P test tells (x ∷ xs) e = λ d. tells x e

pub last_is : {X : Type 0} (P : X → Type 0) (test : X → Bool) → ((a : X) → test a ≡ true → P a) → (xs : List X)
    → at_end test xs ≡ true → HoldsAt P xs (length xs - 1)
last_is P test tells [] e = absurd (true≢false (sym e))
last_is P test tells (x ∷ []) e = λ d. tells x e
last_is P test tells (x ∷ y ∷ ys) e = λ d.
    let shorter : length (x ∷ y ∷ ys) - 1 ≡ suc (length (y ∷ ys) - 1) = omega arith in
    subst (λ n. P (get_or (x ∷ y ∷ ys) n d)) (sym shorter) (last_is P test tells (y ∷ ys) e d)

-- ---- ranges

pub is_head_lies : (ticks : ℤ) → is_head ticks ≡ true → IsHead ticks
is_head_lies ticks e = lies _ _ ticks e

pub has_flow_lies : (point : HeadPoint) → has_flow point ≡ true → IsFlow point.flow
has_flow_lies point e = lies _ _ point.flow e

-- ---- curves of pumps

slower_flow : (a b : HeadPoint) → is_slower a b ≡ true → a.flow <ℤ b.flow
slower_flow a b e = lt_z-yes a.flow b.flow (and_parts (lt_z a.flow b.flow) (lt_z b.head a.head) e).0

slower_head : (a b : HeadPoint) → is_slower a b ≡ true → b.head <ℤ a.head
slower_head a b e = lt_z-yes b.head a.head (and_parts (lt_z a.flow b.flow) (lt_z b.head a.head) e).1

pub pump_curve_right : (points : List HeadPoint) → 4 ≤ length points → is_pump_bend points ≡ true → IsPumpCurve points
pump_curve_right points four e =
    let halves = and_parts (list_all has_flow points && in_turn is_slower points) _ e in
    let first = and_parts (list_all has_flow points) (in_turn is_slower points) halves.0 in
    let second = and_parts (at_start (λ (point : HeadPoint). le_z (pos 0) point.flow) points && at_end
    (λ (point : HeadPoint). le_z (pos 0) point.head) points)
    (is_at_most (value_at 1 (head_knots points) (pos 0)) (whole (pos (10 ^ 16)))) halves.1 in
    let ends = and_parts (at_start (λ (point : HeadPoint). le_z (pos 0) point.flow) points)
    (at_end (λ (point : HeadPoint). le_z (pos 0) point.head) points) second.0 in
    record {
      four = four;
      flows = all_by HeadPoint (λ p. IsFlow p.flow) has_flow has_flow_lies points first.0;
      forward = from_start (λ p. pos 0 ≤ℤ p.flow) (λ p. le_z (pos 0) p.flow) is_slower
          (λ a s. le_z-yes (pos 0) a.flow s)
          (λ a b s p. let l = slower_flow a b s in omega (arith, ints, l, p)) points first.1 ends.0;
      flows_rise = rising (λ (p : HeadPoint). p.flow) is_slower slower_flow points first.1;
      heads_fall = falling (λ (p : HeadPoint). p.head) is_slower slower_head points first.1;
      lifts = from_end (λ p. pos 0 ≤ℤ p.head) (λ p. le_z (pos 0) p.head) is_slower (λ a s. le_z-yes (pos 0) a.head s)
          (λ a b s p. let l = slower_head a b s in omega (arith, ints, l, p)) points first.1 ends.1;
      shutoff = second.1;
    }

-- ---- curves of general purpose valves

faster_flow : (a b : HeadPoint) → is_faster a b ≡ true → a.flow <ℤ b.flow
faster_flow a b e = lt_z-yes a.flow b.flow (and_parts (lt_z a.flow b.flow) (lt_z a.head b.head) e).0

faster_head : (a b : HeadPoint) → is_faster a b ≡ true → a.head <ℤ b.head
faster_head a b e = lt_z-yes a.head b.head (and_parts (lt_z a.flow b.flow) (lt_z a.head b.head) e).1

no_flow : (unit : FlowUnit) → flow_ticks unit (pos 0) ≡ pos 0
no_flow Cfs = refl
no_flow Gpm = refl
no_flow Mgd = refl
no_flow Imgd = refl
no_flow Afd = refl
no_flow Lps = refl
no_flow Lpm = refl
no_flow Mld = refl
no_flow Cmh = refl
no_flow Cmd = refl

pub no_head : (us : Bool) → head_ticks us (pos 0) ≡ pos 0
no_head true = refl
no_head false = refl

begins_right : (unit : FlowUnit) (us : Bool) (points : List Point) → begins_at_0 points ≡ true
    → HoldsAt (λ (p : HeadPoint). (p.flow ≡ pos 0) × (p.head ≡ pos 0)) (head_points unit us points) 0
begins_right unit us [] e = absurd (true≢false (sym e))
begins_right unit us (point ∷ points) e = λ d.
    let both = and_parts (int_eq point.x (pos 0)) (int_eq point.y (pos 0)) e in
    let x : point.x ≡ pos 0 = (Decides-int_eq point.x (pos 0)).0 both.0 in
    let y : point.y ≡ pos 0 = (Decides-int_eq point.y (pos 0)).0 both.1 in
    (ap (flow_ticks unit) x ∙ no_flow unit, ap (head_ticks us) y ∙ no_head us)

pub loss_curve_right : (unit : FlowUnit) (us : Bool) (points : List Point) → begins_at_0 points ≡ true
    → is_valve_bend (head_points unit us points) ≡ true
    → IsLossCurve (head_points unit us points)
loss_curve_right unit us points begins e =
    let bend = head_points unit us points in
    let halves = and_parts (nat_le 2 (length bend) && in_turn is_faster bend)
    (list_all (λ point. has_flow point && is_head point.head) bend) e in
    let first = and_parts (nat_le 2 (length bend)) (in_turn is_faster bend) halves.0 in
    record {
      two = leb-true 2 (length bend) first.0;
      first = begins_right unit us points begins;
      flows = all_by HeadPoint (λ p. IsFlow p.flow) (λ point. has_flow point && is_head point.head)
          (λ p t. has_flow_lies p (and_parts (has_flow p) (is_head p.head) t).0) bend halves.1;
      losses = all_by HeadPoint (λ p. IsHead p.head) (λ point. has_flow point && is_head point.head)
          (λ p t. is_head_lies p.head (and_parts (has_flow p) (is_head p.head) t).1) bend halves.1;
      flows_rise = rising (λ (p : HeadPoint). p.flow) is_faster faster_flow bend first.1;
      losses_rise = rising (λ (p : HeadPoint). p.head) is_faster faster_head bend first.1;
    }

-- ---- volume curves

fuller_level : (a b : VolumePoint) → is_fuller a b ≡ true → a.level <ℤ b.level
fuller_level a b e = lt_z-yes a.level b.level (and_parts (lt_z a.level b.level) (lt_z a.volume b.volume) e).0

fuller_volume : (a b : VolumePoint) → is_fuller a b ≡ true → a.volume <ℤ b.volume
fuller_volume a b e = lt_z-yes a.volume b.volume (and_parts (lt_z a.level b.level) (lt_z a.volume b.volume) e).1

-- a curve that covers the levels of a tank
pub record Covers (minimum maximum : ℤ) (points : List VolumePoint) : Type 0 where
  pub curve : IsVolumeCurve points
  pub from_minimum : HoldsAt (λ (p : VolumePoint). p.level ≤ℤ minimum) points 0
  pub to_maximum : HoldsAt (λ (p : VolumePoint). maximum ≤ℤ p.level) points (length points - 1)
  pub apart : pos (10 ^ 6) ≤ℤ (volume_at points maximum -ℤ volume_at points minimum)

pub volume_curve_right : (minimum maximum : ℤ) (points : List VolumePoint) → is_volume_curve minimum maximum points
    ≡ true → Covers minimum maximum points
volume_curve_right minimum maximum points e =
    let halves =
    and_parts
    ((nat_le 2 (length points) && (list_all (λ (p : VolumePoint). is_head p.level) points && in_turn is_fuller
    points))
    && (at_start (λ (p : VolumePoint). le_z (pos 0) p.volume) points && at_end
    (λ (p : VolumePoint). le_z p.volume (pos (10 ^ 18))) points))
    (covers minimum maximum points && le_z (pos (10 ^ 6)) (volume_at points maximum -ℤ volume_at points minimum)) e in
    let first =
    and_parts
    (nat_le 2 (length points) && (list_all (λ (p : VolumePoint). is_head p.level) points && in_turn is_fuller
    points))
    (at_start (λ (p : VolumePoint). le_z (pos 0) p.volume) points && at_end
    (λ (p : VolumePoint). le_z p.volume (pos (10 ^ 18))) points) halves.0 in
    let two = and_parts (nat_le 2 (length points))
    (list_all (λ (p : VolumePoint). is_head p.level) points && in_turn is_fuller points) first.0 in
    let inner = and_parts (list_all (λ (p : VolumePoint). is_head p.level) points) (in_turn is_fuller points) two.1 in
    let ends = and_parts (at_start (λ (p : VolumePoint). le_z (pos 0) p.volume) points)
    (at_end (λ (p : VolumePoint). le_z p.volume (pos (10 ^ 18))) points) first.1 in
    let second = and_parts (covers minimum maximum points)
    (le_z (pos (10 ^ 6)) (volume_at points maximum -ℤ volume_at points minimum)) halves.1 in
    let covered = and_parts (at_start (λ (p : VolumePoint). le_z p.level minimum) points)
    (at_end (λ (p : VolumePoint). le_z maximum p.level) points) second.0 in
    let least = from_start (λ p. pos 0 ≤ℤ p.volume) (λ p. le_z (pos 0) p.volume) is_fuller
    (λ a s. le_z-yes (pos 0) a.volume s)
    (λ a b s p. let l = fuller_volume a b s in omega (arith, ints, l, p)) points inner.1 ends.0 in
    let most = from_end (λ p. p.volume ≤ℤ pos (10 ^ 18)) (λ p. le_z p.volume (pos (10 ^ 18))) is_fuller
    (λ a s. le_z-yes a.volume (pos (10 ^ 18)) s)
    (λ a b s p. let l = fuller_volume a b s in omega (arith, ints, l, p)) points inner.1 ends.1 in
    record {
      curve = record {
        two = leb-true 2 (length points) two.0;
        levels = all_by VolumePoint (λ p. IsHead p.level) (λ p. is_head p.level) (λ p t. is_head_lies p.level t)
            points inner.0;
        volumes = λ k d l. record { at_least = least k d l; at_most = most k d l };
        levels_rise = rising (λ (p : VolumePoint). p.level) is_fuller fuller_level points inner.1;
        volumes_rise = rising (λ (p : VolumePoint). p.volume) is_fuller fuller_volume points inner.1;
      };
      from_minimum = first_is (λ p. p.level ≤ℤ minimum) (λ p. le_z p.level minimum) (λ p t. le_z-yes p.level minimum t)
          points covered.0;
      to_maximum = last_is (λ p. maximum ≤ℤ p.level) (λ p. le_z maximum p.level) (λ p t. le_z-yes maximum p.level t)
          points covered.1;
      apart = le_z-yes _ _ second.1;
    }
