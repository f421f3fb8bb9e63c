-- The laws of links in their states, between tanks that may be full or empty.
use Rattle.std.specs.Prelude.{◌≡◌, ◌↔◌, ◌<◌, ◌≤◌, ◌+◌, ◌*◌, ℕ, ℤ, Bool, List, unsigned_abs, length, slice_index_or}
use Rattle.std.specs.Prelude.{if◌then◌else◌, ⊤, Option, None, slice_get}
use Rattle.std.specs.Prelude.{All, true, false}
use Rattle.hyd_net.specs.ListView.{ListView}
use Rattle.hyd_net.specs.RoundedFileNumbers.{IsKindMade, IsStateMade, IsValveMade, IsLossMade}
use Rattle.hyd_num.specs.CapacityPairs.{IsMade}
use Rattle.hyd_net.specs.NumberRanges.{shutoff_head_limit}
use Rattle.hyd_net.specs.NetworkRanges.{HasSizes}
use Rattle.hyd_net.specs.LinkStates.{CanHave}
use Rattle.hyd_net.specs.declared.curves.HeadPoint.{HeadPoint}
use Rattle.hyd_spec.specs.ProgramTypes.{Project, Link, LinkKind, PipeLink, CheckPipe, PumpLink, CurvePump, Tcv, Fcv}
use Rattle.hyd_spec.specs.ProgramTypes.{Gpv}
use Rattle.hyd_spec.specs.ProgramTypes.{LinkState, Closed, ShutoffHead}
use Rattle.hyd_spec.specs.declared.TankState.{TankState}
use Rattle.hyd_spec.specs.NodeNumbers.{is_tank, tank_number}
use Rattle.hyd_spec.specs.DemandsHeadsAndPumpLifts.{is_us, shutoff_head, points_of}
use Rattle.hyd_spec.specs.Law.{Law, Shut, ForwardOnly, ReverseOnly, flow_at_least, flow_at_most}
use Rattle.hyd_spec.specs.LinkLaw.{own_law, forbids_forward, forbids_reverse}
use Rattle.hyd_spec_certificates.specs.Certificate.{box_limit}
use Rattle.hyd_spec_certificates.specs.EnclosingFunctions.{low, high}
use Rattle.hyd_law.specs.LinkLaws.{link_at_least, link_at_most, link_low, link_high, IsSoundLink, LinkAccepts}
use Rattle.hyd_law.specs.declared.link_law_kinds.LinkLaw.{LinkLaw}
use Rattle.hyd_law.specs.declared.link_law_kinds.LinkLaw.TheVariants.{Bent}
use Rattle.hyd_period_network.specs.BothLaws.{own_of, law_of}
use Rattle.hyd_period_network.specs.ExactLaw.{exact_law}
use Rattle.hyd_period_network.specs.declared.both_laws.BothLaws.{BothLaws}
use Rattle.hyd_period_network.specs.declared.junctions_ends_and_settings.Setting.{Setting}

-- a law of the program stands for an exact law: it says the same of the exact flow, it has its enclosing functions, its
-- numbers are sound, and it accepts each difference of two heads of the box
pub record Stands (law : LinkLaw) (exact : Law) : Type 0 where
  pub at_least_is : (S : ℕ) (x a : ℤ) → link_at_least law S x a ↔ flow_at_least exact S x a
  pub at_most_is : (S : ℕ) (x a : ℤ) → link_at_most law S x a ↔ flow_at_most exact S x a
  pub low_is : (d : ℤ) → link_low law d ≡ low exact d
  pub high_is : (d : ℤ) → link_high law d ≡ high exact d
  pub sound : IsSoundLink law
  pub accepts : (d : ℤ) → unsigned_abs d ≤ 2 * box_limit → LinkAccepts law d

-- a link's own law stands for an exact law, and is that very one
pub record Represents (law : LinkLaw) (exact : Law) : Type 0 where
  pub stands : Stands law exact
  pub is_exact : exact_law law ≡ exact

-- where a law's own flow would go a forbidden way, it is 0
abbrev pub restricted : Bool → Bool → Law → Law
restricted no_forward no_reverse own =
    let one_way = (if no_forward then ReverseOnly own else own) in
    if no_reverse then ForwardOnly one_way else one_way

-- the state of a node that is a tank
abbrev pub tank_state : Project → List TankState → ℕ → Option TankState
tank_state project tanks node = if is_tank project node then slice_get tanks (tank_number project node) else None

-- the setting of a link in its state, between tanks in theirs
abbrev pub setting_of : Project → List TankState → Link → LinkState → Setting
setting_of project tanks link state =
    record {
      state = state;
      no_forward = forbids_forward project tanks link;
      no_reverse = forbids_reverse project tanks link;
    }

-- a law by straight lines in a list that takes so many knots without memory being taken
abbrev pub HasRoom : ℕ → LinkLaw → Type 0
HasRoom n (Bent l) = n ≤ length l.inner.knots.list + l.inner.knots.spare
HasRoom n _ = ⊥

-- the law of a link with a curve by straight lines has room for the knots of its curve, whatever its state: a pump's
-- for one at each point, a general purpose valve's for two
abbrev pub HasRoomFor : List (ListView HeadPoint) → LinkKind → LinkLaw → Type 0
HasRoomFor bends (CurvePump bend pattern) law = HasRoom (length (points_of bends bend)) law
HasRoomFor bends (Gpv bend) law = HasRoom (2 * length (points_of bends bend)) law
HasRoomFor bends _ law = ⊤

-- where both ways are forbidden, a law is that of a closed link
abbrev pub IsShutBetween : Setting → LinkLaw → Type 0
IsShutBetween setting law = setting.no_forward ≡ true → setting.no_reverse ≡ true → exact_law law ≡ Shut

-- the two laws of a link are those of its setting: its own, and the one between its tanks
pub record AreLawsOf (us : Bool) (bends : List (ListView HeadPoint)) (kind : LinkKind) (setting : Setting)
    (own law : LinkLaw) : Type 0 where
  pub own_is : Represents own (own_law us bends kind setting.state)
  pub law_is : Stands law (restricted setting.no_forward setting.no_reverse (own_law us bends kind setting.state))
  pub law_shut : IsShutBetween setting law
  pub own_room : HasRoomFor bends kind own
  pub law_room : HasRoomFor bends kind law

-- a law is sound, and has room for the knots of a curve
pub record IsHeld (bends : List (ListView HeadPoint)) (kind : LinkKind) (law : LinkLaw) : Type 0 where
  pub sound : IsSoundLink law
  pub room : HasRoomFor bends kind law

-- so are both laws of a link
pub record AreSoundBoth (bends : List (ListView HeadPoint)) (kind : LinkKind) (both : BothLaws) : Type 0 where
  pub own : IsHeld bends kind (own_of both)
  pub law : IsHeld bends kind (law_of both)

-- the same of laws that one holds
abbrev pub AreBothOf : Project → Link → Setting → BothLaws → Type 0
AreBothOf project link setting both =
    AreLawsOf (is_us project) project.bends.list link.kind setting (own_of both) (law_of both)

-- so it is for each link of a network
abbrev pub AreBoth : Project → List Link → List Setting → List BothLaws → Type 0
AreBoth project links settings laws = (k : ℕ) (link : Link) (setting : Setting) (both : BothLaws) → k < length links
    → AreBothOf project (slice_index_or links k link) (slice_index_or settings k setting) (slice_index_or laws k both)

-- so it is for each link of a network, of lists of both
abbrev pub AreLaws : Project → List Link → List Setting → List LinkLaw → List LinkLaw → Type 0
AreLaws project links settings own laws = (k : ℕ) (link : Link) (setting : Setting) (o l : LinkLaw) → k < length links
    → AreLawsOf (is_us project) project.bends.list (slice_index_or links k link).kind
    (slice_index_or settings k setting)
    (slice_index_or own k o) (slice_index_or laws k l)

-- the first n links have the settings of their states
abbrev pub AreSet : Project → List TankState → List Link → List LinkState → List Setting → ℕ → Type 0
AreSet project tanks links states settings n = (k : ℕ) (link : Link) (state : LinkState) (setting : Setting) → k < n
    → slice_index_or settings k setting ≡ setting_of project tanks (slice_index_or links k link)
    (slice_index_or states k state)

-- what is known of a link of a sound network in a state that it can have
pub record CanStand (project : Project) (kind : LinkKind) (state : LinkState) : Type 0 where
  pub made : IsKindMade project.options.unit kind
  pub sizes : HasSizes project.options.unit project.patterns.list project.bends.list kind
  pub can : CanHave kind state
  pub state_made : IsStateMade project.options.unit state

-- each link can have its state, whose numbers are made of the file's
pub record AreStates (project : Project) (states : List LinkState) : Type 0 where
  pub each : length states ≡ length project.links.list
  pub can : (k : ℕ) (link : Link) (state : LinkState) → k < length states
      → CanHave (slice_index_or project.links.list k link).kind (slice_index_or states k state)
  pub made : All (IsStateMade project.options.unit) states

-- the setting of a closed link between tanks that are neither full nor empty
abbrev pub closed_setting : Setting
closed_setting = record { state = Closed; no_forward = false; no_reverse = false }

-- the law of a closed link of a kind
pub record IsClosedLaw (bends : List (ListView HeadPoint)) (kind : LinkKind) (law : LinkLaw) : Type 0 where
  pub represents : Represents law Shut
  pub room : HasRoomFor bends kind law

-- both laws of a closed link of a kind
pub record AreBothClosed (bends : List (ListView HeadPoint)) (kind : LinkKind) (both : BothLaws) : Type 0 where
  pub own : IsClosedLaw bends kind (own_of both)
  pub law : IsClosedLaw bends kind (law_of both)

-- so it is for each link of a network
abbrev pub AreClosed : Project → List Link → List BothLaws → Type 0
AreClosed project links laws = (k : ℕ) (link : Link) (both : BothLaws) → k < length links
    → AreBothClosed project.bends.list (slice_index_or links k link).kind (slice_index_or laws k both)

-- a kind without a curve by straight lines
abbrev pub HasNoCurve : LinkKind → Type 0
HasNoCurve (PipeLink cap) = ⊤
HasNoCurve (CheckPipe cap) = ⊤
HasNoCurve (PumpLink cap shutoff head pattern) = ⊤
HasNoCurve (CurvePump bend pattern) = ⊥
HasNoCurve (Tcv valve) = ⊤
HasNoCurve (Fcv valve) = ⊤
HasNoCurve (Gpv bend) = ⊥

-- a shutoff head of at most its limit either way
abbrev pub IsShutoff : Bool → ShutoffHead → Type 0
IsShutoff us head = unsigned_abs (shutoff_head us head).num ≤ shutoff_head_limit * (shutoff_head us head).den

-- the capacities of a kind are made of the file's numbers
abbrev pub IsLawMade : LinkKind → Type 0
IsLawMade (PipeLink loss) = IsLossMade loss
IsLawMade (CheckPipe loss) = IsLossMade loss
IsLawMade (PumpLink cap shutoff head pattern) = IsMade cap
IsLawMade (CurvePump bend pattern) = ⊤
IsLawMade (Tcv valve) = IsValveMade valve
IsLawMade (Fcv valve) = IsValveMade valve
IsLawMade (Gpv bend) = ⊤

-- a pump's shutoff head is in range
abbrev pub HasShutoff : Bool → LinkKind → Type 0
HasShutoff us (PipeLink cap) = ⊤
HasShutoff us (CheckPipe cap) = ⊤
HasShutoff us (PumpLink cap shutoff head pattern) = IsShutoff us head
HasShutoff us (CurvePump bend pattern) = ⊤
HasShutoff us (Tcv valve) = ⊤
HasShutoff us (Fcv valve) = ⊤
HasShutoff us (Gpv bend) = ⊤

-- each link is one that can stand in its state
abbrev pub AreStanding : Project → List Link → List LinkState → Type 0
AreStanding project links states = (k : ℕ) (link : Link) (state : LinkState) → k < length links
    → CanStand project (slice_index_or links k link).kind (slice_index_or states k state)
