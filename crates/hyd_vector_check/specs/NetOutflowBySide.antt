-- Both sides by one word: which enclosing functions a side takes, and when a junction passes with another head.
use Rattle.std.specs.Prelude.{◌≡◌, ℕ, ◌<◌, ℤ, pos, neg_ℤ, ◌+ℤ◌, ◌-ℤ◌, Bool, true, false, List, length, Some, slice_get}
use Rattle.std.specs.Prelude.{slice_set}
use Rattle.hyd_spec.specs.Law.{Law}
use Rattle.hyd_spec.specs.Assignment.{head_at}
use Rattle.hyd_spec_certificates.specs.declared.Problem.{Problem}
use Rattle.hyd_spec_certificates.specs.declared.Side.{Side}
use Rattle.hyd_spec_certificates.specs.declared.Side.TheVariants.{Upper, Lower}
use Rattle.hyd_spec_certificates.specs.EnclosingFunctions.{low, high}
use Rattle.hyd_spec_certificates.specs.PeriodNetwork.{Grid, GridLink, GridJunction}
use Rattle.hyd_spec_certificates.specs.NetOutflow.{net, net_low, net_high, outflow_low, outflow_high, margin}
use Rattle.hyd_spec_certificates.specs.Certificate.{IsInBox, Passes}
use Rattle.hyd_period_network.specs.SoundNets.{is_upper}

-- ---- enclosing functions

-- the high flow, or the low one
abbrev pub flow_by : Bool → Law → ℤ → ℤ
flow_by true = high
flow_by false = low

-- the lower side
abbrev pub is_lower : Side → Bool
is_lower Upper = false
is_lower Lower = true

-- the flows out of a node less those into it: at most for UPPER, at least for LOWER
abbrev pub flows_out : Side → List ℤ → ℕ → List GridLink → ℤ
flows_out side heads node links = net (flow_by (is_lower side)) (flow_by (is_upper side)) heads node links

-- the outflows of a junction at a head: at most, or at least
abbrev pub outflow : Side → GridJunction → ℤ → ℤ
outflow Upper junction h = outflow_low junction h
outflow Lower junction h = outflow_high junction h

-- the net outflow of a junction: at most, or at least
abbrev pub net_outflow : Side → Grid → Problem → List ℤ → ℕ → GridJunction → ℤ
net_outflow Upper grid problem u i junction = net_low grid problem u i junction
net_outflow Lower grid problem u i junction = net_high grid problem u i junction

-- by how much a junction passes: what flows out of it on balance, or into it, beyond its margin and 1
abbrev pub surplus : Side → Grid → Problem → List ℤ → ℕ → GridJunction → ℤ
surplus Upper grid problem u i junction = net_low grid problem u i junction -ℤ (margin grid i +ℤ pos 1)
surplus Lower grid problem u i junction = neg_ℤ (net_high grid problem u i junction) -ℤ (margin grid i +ℤ pos 1)

-- ---- junctions

-- junction number i passes with this head in place of its own
abbrev pub PassesWith : Grid → Problem → Side → List ℤ → ℕ → ℤ → Type 0
PassesWith grid problem side u i h =
    (junction : GridJunction) → slice_get grid.junctions i ≡ Some junction
    → Passes grid problem side (slice_set u i h) i junction

-- junction number i passes
abbrev pub PassesAt : Grid → Problem → Side → List ℤ → ℕ → Type 0
PassesAt grid problem side u i =
    (junction : GridJunction) → slice_get grid.junctions i ≡ Some junction → Passes grid problem side u i junction

-- the first head that lies outside the box
pub record IsFirstOutside (u : List ℤ) (i : ℕ) : Type 0 where
  pub inside : i < length u
  pub outside : IsInBox (head_at u i) → ⊥
  pub before : (k : ℕ) → k < i → IsInBox (head_at u k)
