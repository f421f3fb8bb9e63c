-- Laws made of other laws, over their relations and their enclosing functions.
-- Source: EPANET 2.2 User Manual, chapter 3 (check valves, pumps, flow control valves); the bounds between which a flow
-- is held are this program's.
use Rattle.std.specs.Prelude.{◌*◌, ◌≤◌, ℤ, pos, ◌≤ℤ◌, ◌≡◌, ◌⊎◌, unsigned_abs, Bool, true, false}
use Rattle.std.specs.Int.{int_max, int_min}
use Rattle.hyd_num.specs.Rational.{Rational, floor, ceiling}
use Rattle.hyd_num.specs.declared.spans.Span.{Span}
use Rattle.hyd_spec.specs.Scale.{at_scale}
use Rattle.hyd_spec.specs.Law.{Relation}
use Rattle.hyd_spec_certificates.specs.Certificate.{box_limit}

-- a head difference that a law is asked for: at most 3 times the limit of the box either way, so a difference of two
-- heads of the box and a pump's lift
abbrev pub IsDifference : ℤ → Type 0
IsDifference d = unsigned_abs d ≤ 3 * box_limit

-- the ends of a span are the floor and the ceiling of a lift
pub record IsLift (lift : Rational) (span : Span) : Type 0 where
  pub floor_is : span.lo ≡ floor lift
  pub ceiling_is : span.hi ≡ ceiling lift

-- ---- one way

-- at or above 0, or at or below 0
abbrev pub directed : Bool → ℤ → ℤ
directed true q = int_max (pos 0) q
directed false q = int_min (pos 0) q

-- the greater of 0 and a flow, or the lesser, is at least a
abbrev pub directed_at_least : Bool → Relation → Relation
directed_at_least true inner S x a = (a ≤ℤ pos 0) ⊎ inner S x a
directed_at_least false inner S x a = (a ≤ℤ pos 0) × inner S x a

-- it is at most a
abbrev pub directed_at_most : Bool → Relation → Relation
directed_at_most true inner S x a = (pos 0 ≤ℤ a) × inner S x a
directed_at_most false inner S x a = (pos 0 ≤ℤ a) ⊎ inner S x a

-- ---- capped and held

-- the lesser of a cap and a flow is at least a
abbrev pub capped_at_least : ℤ → Relation → Relation
capped_at_least cap inner S x a = (a ≤ℤ at_scale S cap) × inner S x a

-- it is at most a
abbrev pub capped_at_most : ℤ → Relation → Relation
capped_at_most cap inner S x a = (at_scale S cap ≤ℤ a) ⊎ inner S x a

-- a number held from a least to a greatest one
abbrev pub held : ℤ → ℤ → ℤ → ℤ
held least most q = int_max least (int_min most q)

-- a flow so held is at least a
abbrev pub held_at_least : ℤ → ℤ → Relation → Relation
held_at_least least most inner S x a = (a ≤ℤ at_scale S least) ⊎ ((a ≤ℤ at_scale S most) × inner S x a)

-- it is at most a
abbrev pub held_at_most : ℤ → ℤ → Relation → Relation
held_at_most least most inner S x a = (at_scale S most ≤ℤ a) ⊎ ((at_scale S least ≤ℤ a) × inner S x a)
