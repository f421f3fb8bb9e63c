-- Rules: which rules are true at an instant, and which state each link is given.
-- OR binds tighter than AND: a premise is a row of groups joined by AND, each a row of clauses joined by OR.
-- Source: EPANET 2.2 User Manual, chapter 3 (rule-based controls) and appendix C ([RULES]); the order of AND and OR,
-- equality of times within a rule step and flows without their sign are this program's.
use Rattle.std.specs.Prelude.{ℕ, suc, ◌+◌, ◌*◌, ◌-◌, ◌%◌, ℤ, pos, ◌-ℤ◌, Bool, true, false, ◌&&◌, not, nat_lt, nat_le}
use Rattle.std.specs.Prelude.{List, [], ◌∷◌, ◌++◌, Option, Some, None, map, slice_get, slice_index_or, int_lt}
use Rattle.std.specs.Prelude.{unsigned_abs, if◌then◌else◌, ◌==◌}
use Rattle.std.specs.List.{list_any, list_all}
use Rattle.std.specs.Option.{option_map_or, option_and_then}
use Rattle.hyd_spec.specs.ProgramTypes.{Project, Rule, RuleClause, Joined, And, Or, Clause, What, Head, Pressure, Level}
use Rattle.hyd_spec.specs.ProgramTypes.{Flow}
use Rattle.hyd_spec.specs.ProgramTypes.{Setting, Status, Time, Clock, Relation, Less, NotMore, More, NotLess, Equal}
use Rattle.hyd_spec.specs.ProgramTypes.{Unequal}
use Rattle.hyd_spec.specs.ProgramTypes.{Value, Amount, ValueOpen, ValueClosed, ValueActive, Action, LinkState, Open}
use Rattle.hyd_spec.specs.ProgramTypes.{Closed}
use Rattle.hyd_spec.specs.ProgramTypes.{Speed, Throttle, Limit, Change, ByRule}
use Rattle.hyd_spec.specs.Lists.{map_from, present}
use Rattle.hyd_num.specs.Rational.{Rational, whole, total_of, is_less, is_at_most}
use Rattle.hyd_spec.specs.Scale.{at_scale}
use Rattle.hyd_spec.specs.WholeNumbers.{is_same_number}
use Rattle.hyd_spec.specs.NodeNumbers.{is_tank, tank_number}
use Rattle.hyd_spec.specs.DemandsHeadsAndPumpLifts.{is_us, pressure_value}
use Rattle.hyd_spec.specs.PumpPatternsAndSimpleControls.{day, clock_at}

-- ---- commanded states

-- The word of a commanded state: a valve with a setting is active, a running pump is open.
pub data StateWord : Type 0 where
  IsOpen : StateWord
  IsClosed : StateWord
  IsActive : StateWord

-- The word of a link's commanded state.
abbrev pub state_word : LinkState → StateWord
state_word Open = IsOpen
state_word Closed = IsClosed
state_word (Speed speed) = IsOpen
state_word (Throttle setting law) = IsActive
state_word (Limit setting ticks) = IsActive

-- The setting of a commanded state, in nano: a pump's speed, a valve's setting, else 0.
abbrev pub setting_of : LinkState → ℤ
setting_of Open = pos 0
setting_of Closed = pos 0
setting_of (Speed speed) = speed
setting_of (Throttle setting law) = setting
setting_of (Limit setting ticks) = setting

-- Two commanded states of one link are the same.
abbrev pub is_same_state : LinkState → LinkState → Bool
is_same_state Open Open = true
is_same_state Open other = false
is_same_state Closed Closed = true
is_same_state Closed other = false
is_same_state (Speed a) (Speed b) = is_same_number a b
is_same_state (Speed a) other = false
is_same_state (Throttle a law) (Throttle b other) = is_same_number a b
is_same_state (Throttle a law) other = false
is_same_state (Limit a ticks) (Limit b other) = is_same_number a b
is_same_state (Limit a ticks) other = false

-- The state of a link; one that isn't there is closed.
abbrev pub state_of_link : List LinkState → ℕ → LinkState
state_of_link links link = slice_index_or links link Closed

-- ---- what clauses look at

-- The network at an instant of a period: the heads of nodes, the carried levels of tanks, the flows of links without
-- their sign, and the links' commanded states. Heads and flows are S-th parts of ticks, levels exact values in
-- such parts. A tank's head is taken from its carried level and not from the heads.
pub record Readings : Type 0 where
  pub heads : List ℤ
  pub levels : List Rational
  pub flows : List ℕ
  pub links : List LinkState

-- The elevation of a junction (head ticks).
abbrev pub elevation_of : Project → ℕ → ℤ
elevation_of project node = option_map_or (λ j. j.elevation) (slice_get project.junctions.list node) (pos 0)

-- The bottom of a tank (head ticks).
abbrev pub bottom_of : Project → ℕ → ℤ
bottom_of project tank = option_map_or (λ t. t.bottom) (slice_get project.tanks.list tank) (pos 0)

-- The carried level of a tank, in S-th parts of a tick.
abbrev pub level_of : Readings → ℕ → Rational
level_of readings tank = slice_index_or readings.levels tank (whole (pos 0))

-- The head of a node: a tank's follows from its carried level.
abbrev pub head_of : Project → ℕ → Readings → ℕ → Rational
head_of project S readings node =
    if is_tank project node
    then total_of (level_of readings (tank_number project node))
    (whole (at_scale S (bottom_of project (tank_number project node))))
    else whole (slice_index_or readings.heads node (pos 0))

-- The pressure of a node: a junction's head above its elevation, a tank's above its bottom.
abbrev pub pressure_of : Project → ℕ → Readings → ℕ → Rational
pressure_of project S readings node =
    if is_tank project node
    then level_of readings (tank_number project node)
    else whole (slice_index_or readings.heads node (pos 0) -ℤ at_scale S (elevation_of project node))

-- A value in S-th parts, as a value in ticks.
abbrev pub in_ticks : ℕ → Rational → Rational
in_ticks S x = record { num = x.num; den = x.den * S }

-- What a clause measures, in ticks; a setting in nano.
abbrev pub measured : Project → ℕ → Readings → What → Rational
measured project S readings (Head node) = in_ticks S (head_of project S readings node)
measured project S readings (Pressure node) = in_ticks S (pressure_of project S readings node)
measured project S readings (Level tank) = in_ticks S (level_of readings tank)
measured project S readings (Flow link) = in_ticks S (whole (pos (slice_index_or readings.flows link 0)))
measured project S readings (Setting link) = whole (setting_of (state_of_link readings.links link))
measured project S readings what = whole (pos 0)

-- The amount that a clause compares with, in ticks or nano. A pressure in psi need not be a whole number of
-- ticks; every other amount is, or was cut to one.
abbrev pub amount : Project → What → Value → Rational
amount project (Pressure node) (Amount span number) = pressure_value (is_us project) number
amount project what (Amount span number) = whole span.lo
amount project what value = whole (pos 0)

-- ---- clauses

-- x stands in the relation to the amount. ABOVE is more than, BELOW less than.
abbrev pub compares : Relation → Rational → Rational → Bool
compares Less x amount = is_less x amount
compares NotMore x amount = is_at_most x amount
compares More x amount = is_less amount x
compares NotLess x amount = is_at_most amount x
compares Equal x amount = is_at_most x amount && is_at_most amount x
compares Unequal x amount = not (is_at_most x amount && is_at_most amount x)

-- The word is the one that the value names.
abbrev pub is_word : StateWord → Value → Bool
is_word IsOpen ValueOpen = true
is_word IsClosed ValueClosed = true
is_word IsActive ValueActive = true
is_word word value = false

-- A status clause holds: equal, or unequal.
abbrev pub status_holds : Relation → StateWord → Value → Bool
status_holds Unequal word value = not (is_word word value)
status_holds relation word value = is_word word value

-- A clause on the time or the clock. It is equal to a value v at the second s where s less the rule step is below v and
-- v is at most s, on the clock modulo a day, as `came` says: so a time above 0 holds at one multiple of the rule step,
-- and a time of day at one in each day, where the rule step is at most a day. (At time 0 no rule is tried.)
abbrev pub time_holds : Relation → ℕ → ℕ → Bool → Bool
time_holds Equal now at came = came
time_holds Unequal now at came = not came
time_holds relation now at came = compares relation (whole (pos now)) (whole (pos at))

-- The value of a time clause, in seconds.
abbrev pub seconds_of : Value → ℕ
seconds_of (Amount span number) = unsigned_abs span.lo
seconds_of value = 0

-- The time v has come within the last rule step at the second s: s less the rule step is below v, and v is at most s.
abbrev pub has_come : Project → ℕ → ℕ → Bool
has_come project time at = nat_le at time && nat_lt time (at + project.times.rule)

-- The same of a time of day, modulo a day, where the clock shows `now`.
abbrev pub has_come_today : Project → ℕ → ℕ → Bool
has_come_today project now at = nat_lt ((now + day - at % day) % day) project.times.rule

-- A clause on this subject holds at an instant.
abbrev pub holds_on : Project → ℕ → ℕ → Readings → What → Relation → Value → Bool
holds_on project S time readings (Status link) relation value =
    status_holds relation (state_word (state_of_link readings.links link)) value
holds_on project S time readings Time relation value =
    time_holds relation time (seconds_of value) (has_come project time (seconds_of value))
holds_on project S time readings Clock relation value =
    time_holds relation (clock_at project time) (seconds_of value) (has_come_today project (clock_at project time)
    (seconds_of value))
holds_on project S time readings what relation value =
    compares relation (measured project S readings what) (amount project what value)

-- A clause holds at an instant.
abbrev pub clause_holds : Project → ℕ → ℕ → Readings → Clause → Bool
clause_holds project S time readings clause =
    holds_on project S time readings clause.what clause.relation clause.value

-- ---- premises

-- The clauses of a premise that stand before its first AND (a front of OR clauses), and its groups.
pub record Parts : Type 0 where
  pub front : List Clause
  pub rest : List (List Clause)

-- The clause begins a group (IF, AND) or goes on with the one before (OR).
abbrev pub put_before : Joined → Clause → Parts → Parts
put_before And clause parts = record { front = []; rest = (clause ∷ parts.front) ∷ parts.rest }
put_before Or clause parts = record { front = clause ∷ parts.front; rest = parts.rest }

-- A premise, taken apart from its last clause on.
abbrev pub parts_of : List RuleClause → Parts
parts_of [] = record { front = []; rest = [] }
parts_of (row ∷ rows) = put_before row.joined row.clause (parts_of rows)

-- The groups of a premise. The first clause begins a group, however it is joined.
abbrev pub groups_in : Parts → List (List Clause)
groups_in parts = elim parts.front [ [] ↦ parts.rest | clause ∷ more ↦ parts.front ∷ parts.rest ]

-- The groups of a rule's premise, in order.
abbrev pub groups_of : Rule → List (List Clause)
groups_of rule = groups_in (parts_of rule.clauses.list)

-- A rule is true where each of its groups has a clause that holds.
abbrev pub rule_holds : Project → ℕ → ℕ → Readings → Rule → Bool
rule_holds project S time readings rule =
    list_all (list_any (clause_holds project S time readings)) (groups_of rule)

-- The values of all rules, in order.
abbrev pub rule_values : Project → ℕ → ℕ → Readings → List Bool
rule_values project S time readings = map (rule_holds project S time readings) project.rules.list

-- ---- actions

-- An action that a rule offers: a true rule its THEN actions, a false one its ELSE actions.
pub record Offer : Type 0 where
  pub rule : ℕ
  pub priority : Option ℤ
  pub link : ℕ
  pub to : LinkState

-- The offer of an action of rule number `number`.
abbrev pub offer_of : ℕ → Rule → Action → Offer
offer_of number rule action = record { rule = number; priority = rule.priority; link = action.link; to = action.to }

-- The offers of a rule with a value.
abbrev pub offers_of : ℕ → Rule → Bool → List Offer
offers_of number rule value =
    map (offer_of number rule) (if value then rule.yes.list else rule.no.list)

-- All offers, in order of the rules and of their actions, from rule number k on.
abbrev pub offers_from : ℕ → List Rule → List Bool → List Offer
offers_from k [] values = []
offers_from k (rule ∷ rules) [] = []
offers_from k (rule ∷ rules) (value ∷ values) = offers_of k rule value ++ offers_from (suc k) rules values

-- A priority is above another: a greater one, and any above none.
abbrev pub is_above : Option ℤ → Option ℤ → Bool
is_above (Some a) (Some b) = int_lt b a
is_above (Some a) None = true
is_above None other = false

-- The higher of an offer and the best of those after it: of equal ranks the earlier one.
abbrev pub higher : Offer → Option Offer → Option Offer
higher offer None = Some offer
higher offer (Some later) = if is_above later.priority offer.priority then Some later else Some offer

-- The offer of highest rank among those to a link.
abbrev pub best_offer : ℕ → List Offer → Option Offer
best_offer link [] = None
best_offer link (offer ∷ offers) =
    if offer.link == link then higher offer (best_offer link offers) else best_offer link offers

-- ---- changes

-- What an offer changes, if it changes the state of its link.
abbrev pub change_by : LinkState → Offer → Option Change
change_by state offer =
    if is_same_state state offer.to then None
    else Some (record { source = ByRule offer.rule; link = offer.link; to = offer.to })

-- What the rules change of a link: its state becomes that of the offer of highest rank to it.
abbrev pub change_of : Project → List Bool → ℕ → LinkState → Option Change
change_of project values link state =
    option_and_then (change_by state) (best_offer link (offers_from 0 project.rules.list values))

-- What the rules change, in order of the links.
abbrev pub rule_changes : Project → List Bool → List LinkState → List Change
rule_changes project values links = present (map_from (change_of project values) 0 links)

-- The link states after the rules' actions.
abbrev pub acted : Project → List Bool → List LinkState → List LinkState
acted project values links =
    map_from (λ link state. option_map_or (λ change. change.to) (change_of project values link state) state) 0 links
