-- States of links in a file without a fault: each is one that its link can have, made of its numbers.
use Rattle.std.proofs.Common.{◌≡◌, ℕ, ◌^◌, ◌<◌, zero, suc, Bool, true, false, List, [], ◌∷◌, length, drop, Option, Some}
use Rattle.std.proofs.Common.{None, refl, sym, ap, ◌∙◌, subst, arith, inl, inr, true≢false}
use Rattle.std.specs.Prelude.{slice_get, ◌&&◌, ◌||◌, not, All, ℤ, pos, negsuc, ◌≤ℤ◌, ⊤, codes, if◌then◌else◌}
use Rattle.std.specs.Ordering.{int_eq}
use Rattle.std.specs.Str.{bytes_eq}
use Rattle.std.proofs.lemmas.Bool.{cases_Bool, or_left, or_right, not-true, cond_both, and_from, not_from_false}
use Rattle.std.proofs.lemmas.Bool.Decides.{Decides-int_eq, not_from_Decides}
use Rattle.std.proofs.lemmas.Int.{ints}
use Rattle.std.specs.Option.{option_map}
use Rattle.std.proofs.lemmas.Option.{slice_get-map}
use lib.Signed.{le_z}
use Rattle.hyd_num.specs.FileQuantity.{flow_ticks}
use Rattle.hyd_num.specs.Numeral.{nano_of}
use Rattle.hyd_num.specs.declared.flow_units.FlowUnit.{FlowUnit}
use Rattle.hyd_num.specs.declared.link_capacities.Origin.{Origin}
use Rattle.hyd_spec_lines.specs.Lines.{Row}
use Rattle.hyd_spec_lines.specs.WordsOfLines.{is_keyword}
use Rattle.hyd_spec_lines.specs.declared.section.Section.TheVariants.{Pipes, Pumps, Valves, Status as StatusSection}
use Rattle.hyd_net.specs.NumberRanges.{Lies, IsUpTo}
use Rattle.hyd_net.specs.LinkStates.{IsSpeed, IsFlowSetting, CanHave}
use Rattle.hyd_net.specs.RoundedFileNumbers.{IsStateMade, HasLaw, HasCoefficient, IsLawAcross, IsOriginAcross}
use Rattle.hyd_net.specs.RoundedFileNumbers.{IsStateAcross}
use Rattle.hyd_net.specs.declared.refusal_cause.Cause.{Cause}
use Rattle.hyd_net.specs.declared.refusal_cause.Cause.TheVariants.{Syntax, Range, Unsupported}
use Rattle.hyd_net.specs.declared.links.Link.{Link}
use Rattle.hyd_net.specs.declared.links.LinkKind.{LinkKind}
use Rattle.hyd_net.specs.declared.links.LinkKind.TheVariants.{Pipe, CheckPipe, Pump, CurvePump, Tcv, Fcv, Gpv}
use Rattle.hyd_net.specs.declared.links.LinkState.{LinkState}
use Rattle.hyd_net.specs.declared.links.LinkState.TheVariants.{Open, Closed, Speed, Throttle, Limit}
use Rattle.hyd_net.specs.declared.links.OpenValve.{OpenValve}
use Rattle.hyd_net.specs.declared.links.OpenValve.TheVariants.{Quadratic, Linear}
use Rattle.hyd_net.specs.declared.project.Project.{Project}
use Rattle.hyd_spec_input.specs.Columns.{or_else, unless, is_there, up_to, not_negative, word, amount, units}
use Rattle.hyd_spec_input.specs.NodeAndLinkRows as alone
use Rattle.hyd_spec_input.specs.NodeAndLinkRows.{is_throttle, is_general, is_closed_pipe, pump_speed, pump_speed_word}
use Rattle.hyd_spec_input.specs.NodeAndLinkRows.{speed_of, pair_value, pump_pairs, pump_key, pump_value, and_key}
use Rattle.hyd_spec_input.specs.declared.EarlierKeys.{EarlierKeys}
use Rattle.hyd_spec_input.specs.SectionsAndTables.{is_of, is_link, own_id, link_rows, row_with, link_named}
use Rattle.hyd_spec_input.specs.OptionsAndTimesInForce.{unit}
use Rattle.hyd_spec_input.specs.MeaningsAcrossRows.{link_ids, number_in, status_row_of}
use Rattle.hyd_spec_input.specs.FaultsWithOtherRows as others
use Rattle.hyd_spec_input.specs.FaultsWithOtherRows.{us, flow, is_speed, state_range, is_status, takes_number}
use Rattle.hyd_spec_input.specs.FaultsWithOtherRows.{is_check_valve}
use Rattle.hyd_spec_input.specs.FaultsWithOtherRows.{set_link}
use Rattle.hyd_spec_input.specs.Project.{Where, IsProject, IsLink, IsKind, IsPipeKind, IsPumpKind, IsValveKind}
use Rattle.hyd_spec_input.specs.Project.{IsOpenValve, IsLaw, IsThrottle, IsNumberState, IsState, IsStateOf, IsOwnState}
use Rattle.hyd_spec_input.specs.Project.{IsStart, speed_state, open_state, numbered_links}
use Rattle.hyd_lemmas.proofs.BooleanTests.{le_z-yes}
use Rattle.hyd_theorems_on_input.proofs.ListsByPlace.{match_all, item_at, partner}
use Rattle.hyd_theorems_on_input.proofs.RowsWithoutFault.{AreRight, right_alone, right_among, or_none, all_none}
use Rattle.hyd_theorems_on_input.proofs.RowsWithoutFault.{unless_none}
use Rattle.hyd_theorems_on_input.proofs.RowsWithoutFault.{needed_none, lies, in_range}
use Rattle.hyd_theorems_on_input.proofs.OccurrencesOfNames.{number_names, number_inside, same_name}
use Rattle.hyd_theorems_on_input.proofs.OptionsAndTimesInForce.{in_force}
use Rattle.hyd_theorems_on_input.proofs.Names.{First, Second, Third, one_of_three, own_ids, link_stands, link_new}
use Rattle.hyd_theorems_on_input.proofs.Names.{row_named, link_ids_are, link_length}
use Rattle.hyd_theorems_on_input.proofs.NodeRanges.{flow_right}
use Rattle.hyd_theorems_on_input.proofs.LinkKinds.{where_true, where_false, to_where, not_of, as_pipe, as_pump}
use Rattle.hyd_theorems_on_input.proofs.LinkKinds.{as_valve, law_right, law_made, valve_numbers}

-- ---- what is asked of a link

-- open, closed, or a number that the link takes, in range
pub data Asked (rows : List Row) (row : Row) (state : LinkState) : Type 0 where
  AsksOpen : state ≡ open_state row → Asked rows row state
  AsksClosed : state ≡ Closed → Asked rows row state
  AsksNumber : (nano : ℤ) → takes_number row ≡ true → state_range rows row nano ≡ None
      → IsNumberState rows row nano state → Asked rows row state

-- a word that is neither OPEN nor CLOSED is no status
no_status : (word : List ℕ) → is_keyword (codes "OPEN") word ≡ false → is_keyword (codes "CLOSED") word ≡ false
    → is_status word ≡ false
no_status word a b = rw (a, b) refl

asked_by : (rows : List Row) (row : Row) (word : List ℕ) (between : Option Cause) (state : LinkState)
    → set_link rows (Some row) word between ≡ None → IsState rows row word state
    → Asked rows row state
asked_by rows row word between state e is =
    let each =
    all_none (unless (is_status word || takes_number row) Syntax ∷ between ∷ unless (not (is_check_valve row))
    (Unsupported 11)
    ∷ (if is_status word then None else state_range rows row (nano_of word)) ∷ []) e in
    elim (cases_Bool (is_keyword (codes "OPEN") word)) [
      | inl t ↦ AsksOpen (where_true (is_keyword (codes "OPEN") word) _ _ t is)
      | inr f ↦ (let rest = where_false (is_keyword (codes "OPEN") word) _ _ f is in
          elim (cases_Bool (is_keyword (codes "CLOSED") word)) [
            | inl t ↦ AsksClosed (where_true (is_keyword (codes "CLOSED") word) _ _ t rest)
            | inr g ↦ (let status = no_status word f g in
                let takes : takes_number row ≡ true = rw status at (unless_none _ _ each.0) in
                let range : state_range rows row (nano_of word) ≡ None = rw status at each.1.1.1.0 in
                AsksNumber (nano_of word) takes range (where_false (is_keyword (codes "CLOSED") word) _ _ g rest))
          ])
    ]

no_check_valve : (rows : List Row) (row : Row) (word : List ℕ) (between : Option Cause)
    → set_link rows (Some row) word between ≡ None → is_check_valve row ≡ false
no_check_valve rows row word between e =
    let each =
    all_none (unless (is_status word || takes_number row) Syntax ∷ between ∷ unless (not (is_check_valve row))
    (Unsupported 11)
    ∷ (if is_status word then None else state_range rows row (nano_of word)) ∷ []) e in
    not-true _ (unless_none _ _ each.1.1.0)

-- ---- states of each kind of link

abbrev IsPipeState : LinkState → Type 0
IsPipeState Open = ⊤
IsPipeState Closed = ⊤
IsPipeState _ = ⊥

abbrev IsPumpState : LinkState → Type 0
IsPumpState Closed = ⊤
IsPumpState (Speed nano) = IsSpeed nano
IsPumpState _ = ⊥

abbrev IsThrottleState : List Row → Row → LinkState → Type 0
IsThrottleState rows row Open = ⊤
IsThrottleState rows row Closed = ⊤
IsThrottleState rows row (Throttle nano law) = IsUpTo (10 ^ 6) nano × IsLaw rows row nano law
IsThrottleState rows row _ = ⊥

abbrev IsLimitState : List Row → LinkState → Type 0
IsLimitState rows Open = ⊤
IsLimitState rows Closed = ⊤
IsLimitState rows (Limit nano ticks) = IsFlowSetting nano ticks × (ticks ≡ flow_ticks (unit rows) nano)
IsLimitState rows _ = ⊥

-- ---- what is asked is of the link's kind

-- OPEN of a link that is no pump
open_is : (row : Row) → is_of Pumps row ≡ false → open_state row ≡ Open
open_is row other = rw other refl

pipe_asked : (rows : List Row) (row : Row) (state : LinkState) → is_of Pipes row ≡ true → Asked rows row state
    → IsPipeState state
pipe_asked rows row state of (AsksOpen e) = subst IsPipeState (sym (e ∙ open_is row (not_of Pipes Pumps row of refl)))
    tt
pipe_asked rows row state of (AsksClosed e) = subst IsPipeState (sym e) tt
pipe_asked rows row state of (AsksNumber nano takes range is) =
    let none : takes_number row ≡ false = rw (not_of Pipes Pumps row of refl, not_of Pipes Valves row of refl) refl in
    absurd (true≢false (sym takes ∙ none))

one_speed : IsSpeed (units 1)
one_speed = record { at_least = omega (arith, ints); at_most = omega (arith, ints) }

-- a number that isn't negative and isn't 0
speed_is : (nano : ℤ) → is_speed nano ≡ true → IsPumpState (speed_state nano)
speed_is nano e =
    let bounds = lies (pos 0) (units 10) nano e in
    cond_both (int_eq nano (pos 0)) Closed (Speed nano) IsPumpState (λ t. tt) (λ f.
    let apart = not_from_Decides (int_eq nano (pos 0)) (Decides-int_eq nano (pos 0)) f in
    record { at_least = not_zero nano bounds.at_least apart; at_most = bounds.at_most })
  where
    not_zero : (z : ℤ) → pos 0 ≤ℤ z → (z ≡ pos 0 → ⊥) → pos 1 ≤ℤ z
    not_zero (pos zero) l apart = absurd (apart refl)
    not_zero (pos (suc n)) l apart = omega (arith, ints)
    not_zero (negsuc n) l apart = absurd (omega (arith, ints, l))

pump_asked : (rows : List Row) (row : Row) (state : LinkState) → is_of Pumps row ≡ true → Asked rows row state
    → IsPumpState state
pump_asked rows row state of (AsksOpen e) =
    let speed : open_state row ≡ Speed (units 1) = rw of refl in subst IsPumpState (sym (e ∙ speed)) one_speed
pump_asked rows row state of (AsksClosed e) = subst IsPumpState (sym e) tt
pump_asked rows row state of (AsksNumber nano takes range is) =
    let test : unless (is_speed nano) Range ≡ None = rw of at range in
    subst IsPumpState (sym (where_true (is_of Pumps row) _ _ of is)) (speed_is nano (unless_none _ _ test))

throttle_of : (rows : List Row) (row : Row) (nano : ℤ) (state : LinkState) → IsUpTo (10 ^ 6) nano
    → IsThrottle rows row nano state → IsThrottleState rows row state
throttle_of rows row nano (Throttle coefficient law) bounds is =
    (subst (IsUpTo (10 ^ 6)) (sym is.0) bounds, subst (λ (z : ℤ). IsLaw rows row z law) (sym is.0) is.1)
throttle_of rows row nano Open bounds is = absurd is
throttle_of rows row nano Closed bounds is = absurd is
throttle_of rows row nano (Speed speed) bounds is = absurd is
throttle_of rows row nano (Limit flow ticks) bounds is = absurd is

throttle_asked : (rows : List Row) (row : Row) (state : LinkState) → is_of Valves row ≡ true
    → is_throttle row.words ≡ true → Asked rows row state → IsThrottleState rows row state
throttle_asked rows row state of throttle (AsksOpen e) =
    subst (IsThrottleState rows row) (sym (e ∙ open_is row (not_of Valves Pumps row of refl))) tt
throttle_asked rows row state of throttle (AsksClosed e) = subst (IsThrottleState rows row) (sym e) tt
throttle_asked rows row state of throttle (AsksNumber nano takes range is) =
    let test : unless (le_z (pos 0) nano && le_z nano (units (10 ^ 6))) Range ≡ None =
    rw (not_of Valves Pumps row of refl, throttle) at range in
    throttle_of rows row nano state (lies (pos 0) (units (10 ^ 6)) nano (unless_none _ _ test))
    (where_true (is_throttle row.words) _ _ throttle
    (where_false (is_of Pumps row) _ _ (not_of Valves Pumps row of refl) is))

limit_asked : (rows : List Row) (row : Row) (state : LinkState) → is_of Valves row ≡ true
    → is_throttle row.words ≡ false → Asked rows row state → IsLimitState rows state
limit_asked rows row state of throttle (AsksOpen e) =
    subst (IsLimitState rows) (sym (e ∙ open_is row (not_of Valves Pumps row of refl))) tt
limit_asked rows row state of throttle (AsksClosed e) = subst (IsLimitState rows) (sym e) tt
limit_asked rows row state of throttle (AsksNumber nano takes range is) =
    let test : or_else (unless (le_z (pos 0) nano) Range) (flow rows nano) ≡ None =
    rw (not_of Valves Pumps row of refl, throttle) at range in
    let both = or_none (unless (le_z (pos 0) nano) Range) (flow rows nano) test in
    let limit : state ≡ Limit nano (flow_ticks (unit rows) nano) =
    where_false (is_throttle row.words) _ _ throttle
    (where_false (is_of Pumps row) _ _ (not_of Valves Pumps row of refl) is) in
    subst (IsLimitState rows) (sym limit) (
      record { not_negative = le_z-yes (pos 0) nano (unless_none _ _ both.0); flow = flow_right rows nano both.1 },
      refl,
    )

general_asked : (rows : List Row) (row : Row) (state : LinkState) → is_of Valves row ≡ true
    → is_general row.words ≡ true → Asked rows row state → IsPipeState state
general_asked rows row state of general (AsksOpen e) =
    subst IsPipeState (sym (e ∙ open_is row (not_of Valves Pumps row of refl))) tt
general_asked rows row state of general (AsksClosed e) = subst IsPipeState (sym e) tt
general_asked rows row state of general (AsksNumber nano takes range is) =
    let none : takes_number row ≡ false = rw (not_of Valves Pumps row of refl, of, general) refl in
    absurd (true≢false (sym takes ∙ none))

-- ---- a state is right

pub record StateRight (rows : List Row) (row : Row) (kind : LinkKind) (state : LinkState) : Type 0 where
  pub can : CanHave kind state
  pub made : IsStateMade (unit rows) state
  pub across : IsStateAcross (amount 3 row.words) state

pipe_state : (rows : List Row) (row : Row) (kind : LinkKind) (state : LinkState) → IsPipeKind rows row kind
    → IsPipeState state → StateRight rows row kind state
pipe_state rows row (Pipe cap) Open is s = record { can = tt; made = tt; across = tt }
pipe_state rows row (Pipe cap) Closed is s = record { can = tt; made = tt; across = tt }
pipe_state rows row (Pipe cap) (Speed nano) is s = absurd s
pipe_state rows row (Pipe cap) (Throttle nano law) is s = absurd s
pipe_state rows row (Pipe cap) (Limit nano ticks) is s = absurd s
pipe_state rows row (CheckPipe cap) Open is s = record { can = tt; made = tt; across = tt }
pipe_state rows row (CheckPipe cap) Closed is s = record { can = tt; made = tt; across = tt }
pipe_state rows row (CheckPipe cap) (Speed nano) is s = absurd s
pipe_state rows row (CheckPipe cap) (Throttle nano law) is s = absurd s
pipe_state rows row (CheckPipe cap) (Limit nano ticks) is s = absurd s
pipe_state rows row (Pump cap shutoff head pattern) state is s = absurd is
pipe_state rows row (CurvePump bend pattern) state is s = absurd is
pipe_state rows row (Tcv valve) state is s = absurd is
pipe_state rows row (Fcv valve) state is s = absurd is
pipe_state rows row (Gpv bend) state is s = absurd is

pump_state : (rows : List Row) (row : Row) (kind : LinkKind) (state : LinkState) → IsPumpKind rows row kind
    → IsPumpState state → StateRight rows row kind state
pump_state rows row (Pump cap shutoff head pattern) Closed is s = record { can = tt; made = tt; across = tt }
pump_state rows row (Pump cap shutoff head pattern) (Speed nano) is s = record { can = s; made = tt; across = tt }
pump_state rows row (Pump cap shutoff head pattern) Open is s = absurd s
pump_state rows row (Pump cap shutoff head pattern) (Throttle nano law) is s = absurd s
pump_state rows row (Pump cap shutoff head pattern) (Limit nano ticks) is s = absurd s
pump_state rows row (CurvePump bend pattern) Closed is s = record { can = tt; made = tt; across = tt }
pump_state rows row (CurvePump bend pattern) (Speed nano) is s = record { can = s; made = tt; across = tt }
pump_state rows row (CurvePump bend pattern) Open is s = absurd s
pump_state rows row (CurvePump bend pattern) (Throttle nano law) is s = absurd s
pump_state rows row (CurvePump bend pattern) (Limit nano ticks) is s = absurd s
pump_state rows row (Pipe cap) state is s = absurd is
pump_state rows row (CheckPipe cap) state is s = absurd is
pump_state rows row (Tcv valve) state is s = absurd is
pump_state rows row (Fcv valve) state is s = absurd is
pump_state rows row (Gpv bend) state is s = absurd is

-- the law of a valve of a diameter and a coefficient has both
pub law_across : (us : Bool) (diameter coefficient : ℤ) (law : OpenValve) → IsOpenValve us diameter coefficient law
    → IsLawAcross diameter law
law_across us diameter coefficient (Quadratic cap) is =
    let made = is.1 in subst (λ (o : Origin). IsOriginAcross diameter o) (sym made.origin) made.d_is
law_across us diameter coefficient Linear is = tt

law_of : (us : Bool) (diameter coefficient : ℤ) (law : OpenValve) → IsOpenValve us diameter coefficient law
    → HasLaw coefficient law
law_of us diameter coefficient (Quadratic cap) is =
    let made = is.1 in subst (λ (o : Origin). HasCoefficient coefficient o) (sym made.origin) made.k_is
law_of us diameter coefficient Linear is = is

throttle_state : (rows : List Row) (row : Row) (valve : OpenValve) (state : LinkState)
    → Lies (pos 1) (units (10 ^ 4)) (amount 3 row.words) → IsThrottleState rows row state
    → StateRight rows row (Tcv valve) state
throttle_state rows row valve Open own s = record { can = tt; made = tt; across = tt }
throttle_state rows row valve Closed own s = record { can = tt; made = tt; across = tt }
throttle_state rows row valve (Throttle nano law) own s = record {
  can = s.0;
  made = (
    law_of (us rows) (amount 3 row.words) nano law s.1,
    law_right (unit rows) (amount 3 row.words) nano law own s.0 s.1,
    law_made (us rows) (amount 3 row.words) nano law s.1,
  );
  across = law_across (us rows) (amount 3 row.words) nano law s.1;
}
throttle_state rows row valve (Speed nano) own s = absurd s
throttle_state rows row valve (Limit nano ticks) own s = absurd s

limit_state : (rows : List Row) (row : Row) (valve : OpenValve) (state : LinkState) → IsLimitState rows state
    → StateRight rows row (Fcv valve) state
limit_state rows row valve Open s = record { can = tt; made = tt; across = tt }
limit_state rows row valve Closed s = record { can = tt; made = tt; across = tt }
limit_state rows row valve (Limit nano ticks) s = record { can = s.0; made = s.1; across = tt }
limit_state rows row valve (Speed nano) s = absurd s
limit_state rows row valve (Throttle nano law) s = absurd s

general_state : (rows : List Row) (row : Row) (bend : ℕ) (state : LinkState) → IsPipeState state
    → StateRight rows row (Gpv bend) state
general_state rows row bend Open s = record { can = tt; made = tt; across = tt }
general_state rows row bend Closed s = record { can = tt; made = tt; across = tt }
general_state rows row bend (Speed nano) s = absurd s
general_state rows row bend (Throttle nano law) s = absurd s
general_state rows row bend (Limit nano ticks) s = absurd s

valve_state : (rows : List Row) (row : Row) (kind : LinkKind) (state : LinkState) → is_of Valves row ≡ true
    → Lies (pos 1) (units (10 ^ 4)) (amount 3 row.words)
    → IsValveKind rows row kind → Asked rows row state → StateRight rows row kind state
valve_state rows row (Tcv valve) state of own is asks =
    throttle_state rows row valve state own (throttle_asked rows row state of is.0 asks)
valve_state rows row (Fcv valve) state of own is asks =
    limit_state rows row valve state (limit_asked rows row state of is.0 asks)
valve_state rows row (Gpv bend) state of own is asks =
    general_state rows row bend state (general_asked rows row state of is.0 asks)
valve_state rows row (Pipe cap) state of own is asks = absurd is
valve_state rows row (CheckPipe cap) state of own is asks = absurd is
valve_state rows row (Pump cap shutoff head pattern) state of own is asks = absurd is
valve_state rows row (CurvePump bend pattern) state of own is asks = absurd is

pub state_right : (rows : List Row) (k : ℕ) (row : Row) (kind : LinkKind) (state : LinkState) → AreRight rows
    → slice_get rows k ≡ Some row → is_link row ≡ true
    → IsKind rows row kind → Asked rows row state → StateRight rows row kind state
state_right rows k row kind state right at link is asks =
    elim (one_of_three (is_of Pipes row) (is_of Pumps row) (is_of Valves row) link) [
      | First of ↦ pipe_state rows row kind state (as_pipe rows row kind of is) (pipe_asked rows row state of asks)
      | Second of ↦ pump_state rows row kind state (as_pump rows row kind of is) (pump_asked rows row state of asks)
      | Third of ↦ valve_state rows row kind state of
          (valve_numbers row.words (right_alone rows Valves k row right at of)).across (as_valve rows row kind of is)
          asks
    ]

-- ---- the state of a link's own row

-- the speed among a pump's pairs
speed_word : (earlier : EarlierKeys) (words : List (List ℕ)) (w : List ℕ) → pump_pairs earlier words ≡ None
    → pair_value (codes "SPEED") words ≡ Some w → up_to 10 w ≡ None
speed_word earlier [] w e is = absurd (let x : ⊥ = cc in x)
speed_word earlier (key ∷ []) w e is = absurd (let x : ⊥ = cc in x)
speed_word earlier (key ∷ value ∷ words) w e is =
    let each = all_none (pump_key earlier key ∷ pump_value key value ∷ pump_pairs (and_key earlier key) words ∷ [])
    e in
    elim (cases_Bool (is_keyword (codes "SPEED") key)) [
      | inl t ↦ (let f : Some value ≡ Some w = rw t at is in
          let same : value ≡ w = cc in
          let right : up_to 10 value ≡ None = rw t at each.1.0 in
          subst (λ v. up_to 10 v ≡ None) same right)
      | inr f ↦ speed_word (and_key earlier key) words w each.1.1.0 (rw f at is)
    ]

speed_in_range : (o : Option (List ℕ)) → ((w : List ℕ) → o ≡ Some w → up_to 10 w ≡ None)
    → is_speed (speed_of o) ≡ true
speed_in_range None each = refl
speed_in_range (Some w) each = in_range is_speed w (each w refl)

pub pump_speed_right : (rows : List Row) (k : ℕ) (row : Row) → AreRight rows → slice_get rows k ≡ Some row
    → is_of Pumps row ≡ true → is_speed (pump_speed row.words) ≡ true
pump_speed_right rows k row right at of =
    let own = all_none (alone.link_ends row.words ∷ pump_pairs alone.none_earlier (drop 3 row.words)
    ∷ unless (is_there (alone.pump_curve row.words)) Syntax ∷ []) (right_alone rows Pumps k row right at of) in
    speed_in_range (pump_speed_word row.words) (λ w is. speed_word alone.none_earlier (drop 3 row.words) w own.1.0 is)

-- a valve's setting as the state that is asked for
pub valve_range : (rows : List Row) (k : ℕ) (row : Row) → AreRight rows → slice_get rows k ≡ Some row
    → is_of Valves row ≡ true → is_general row.words ≡ false
    → state_range rows row (amount 5 row.words) ≡ None
valve_range rows k row right at of general =
    let own = valve_numbers row.words (right_alone rows Valves k row right at of) in
    let setting = (needed_none (alone.valve_setting row.words) 5 row.words own.setting).right in
    let each = all_none (others.valve_faults rows k row) (right_among rows Valves k row right at of) in
    elim (cases_Bool (is_throttle row.words)) [
      | inl t ↦ (let column : up_to (10 ^ 6) (word 5 row.words) ≡ None = rw t at setting in
          let inside = in_range (λ nano. le_z (pos 0) nano && le_z nano (units (10 ^ 6))) (word 5 row.words) column in
          rw (not_of Valves Pumps row of refl, t, inside) refl)
      | inr f ↦ (let column : not_negative (word 5 row.words) ≡ None = rw (f, general) at setting in
          let above = in_range (λ nano. le_z (pos 0) nano) (word 5 row.words) column in
          let fits : flow rows (amount 5 row.words) ≡ None = rw (f, general) at each.1.1.1.0 in
          rw (not_of Valves Pumps row of refl, f, above) fits)
    ]

pipe_own : (rows : List Row) (row : Row) (state : LinkState) → is_of Pipes row ≡ true
    → state ≡ (if is_closed_pipe row.words then Closed else Open) → Asked rows row state
pipe_own rows row state of is = elim (cases_Bool (is_closed_pipe row.words)) [
  | inl t ↦ AsksClosed (is ∙ rw t refl)
  | inr f ↦ AsksOpen (is ∙ rw f (sym (open_is row (not_of Pipes Pumps row of refl))))
]

pump_own : (rows : List Row) (k : ℕ) (row : Row) (state : LinkState) → AreRight rows → slice_get rows k ≡ Some row
    → is_of Pumps row ≡ true
    → state ≡ speed_state (pump_speed row.words) → Asked rows row state
pump_own rows k row state right at of is =
    let speed = pump_speed_right rows k row right at of in
    let takes : takes_number row ≡ true = or_left (is_of Pumps row) _ of in
    let range : state_range rows row (pump_speed row.words) ≡ None = rw (of, speed) refl in
    AsksNumber (pump_speed row.words) takes range (to_where (is_of Pumps row) _ _ of is)

valve_own : (rows : List Row) (k : ℕ) (row : Row) (state : LinkState) → AreRight rows → slice_get rows k ≡ Some row
    → is_of Valves row ≡ true
    → Where (is_general row.words) (state ≡ Open) (IsNumberState rows row (amount 5 row.words) state)
    → Asked rows row state
valve_own rows k row state right at of is = elim (cases_Bool (is_general row.words)) [
  | inl t ↦ AsksOpen (where_true (is_general row.words) _ _ t is
      ∙ sym (open_is row (not_of Valves Pumps row of refl)))
  | inr f ↦ AsksNumber (amount 5 row.words)
      (or_right (is_of Pumps row) _ (and_from (is_of Valves row) _ of (not_from_false (is_general row.words) f)))
      (valve_range rows k row right at of f) (where_false (is_general row.words) _ _ f is)
]

own_state : (rows : List Row) (k : ℕ) (row : Row) (state : LinkState) → AreRight rows → slice_get rows k ≡ Some row
    → is_link row ≡ true → IsOwnState rows row state
    → Asked rows row state
own_state rows k row state right at link is =
    elim (one_of_three (is_of Pipes row) (is_of Pumps row) (is_of Valves row) link) [
      | First of ↦ pipe_own rows row state of (where_true (is_of Pipes row) _ _ of is)
      | Second of ↦ pump_own rows k row state right at of
          (where_true (is_of Pumps row) _ _ of (where_false (is_of Pipes row) _ _ (not_of Pumps Pipes row of refl)
          is))
      | Third of ↦ valve_own rows k row state right at of
          (where_false (is_of Pumps row) _ _ (not_of Valves Pumps row of refl)
          (where_false (is_of Pipes row) _ _ (not_of Valves Pipes row of refl) is))
    ]

-- ---- the state of the start

pub start_by : (rows : List Row) (k : ℕ) (row : Row) (state : LinkState) (status : Option Row) → AreRight rows
    → slice_get rows k ≡ Some row → is_link row ≡ true
    → status_row_of rows row ≡ status → IsStart rows row status state → Asked rows row state
start_by rows k row state None right at link e is = own_state rows k row state right at link is
start_by rows k row state (Some status) right at link e is =
    let found = in_force rows StatusSection (λ r. bytes_eq (own_id row) (own_id r)) status e in
    let each = all_none (others.status_faults rows found.place status)
    (right_among rows StatusSection found.place status right found.is found.of) in
    let same : own_id row ≡ own_id status = same_name _ _ found.passes in
    let named : link_named rows (own_id status) ≡ Some row =
    rw (← same) (row_named is_link rows k row (link_new rows right) at link) in
    let set : set_link rows (Some row) (word 1 status.words) None ≡ None = rw named at each.1.0 in
    asked_by rows row (word 1 status.words) None state set is

pub starts_right : (rows : List Row) (p : Project) → AreRight rows → IsProject rows p
    → All (λ l. CanHave l.kind l.start × IsStateMade (unit rows) l.start) p.links.list
starts_right rows p right of =
    match_all (IsLink rows) (λ l. CanHave l.kind l.start × IsStateMade (unit rows) l.start) (numbered_links rows)
    p.links.list of.links (λ n row l at _ made.
    let stands = link_stands rows n row at in
    let asks = start_by rows stands.0.place row l.start (status_row_of rows row) right stands.0.is stands.1 refl
    made.start in
    let state = state_right rows stands.0.place row l.kind l.start right stands.0.is stands.1 made.kind asks in
    (state.can, state.made))

pub states_right : (rows : List Row) (p : Project) → AreRight rows → IsProject rows p
    → All (λ l. CanHave l.kind l.start) p.links.list
states_right rows p right of = λ k d l. (starts_right rows p right of k d l).0

pub states_made : (rows : List Row) (p : Project) → AreRight rows → IsProject rows p
    → All (λ l. IsStateMade p.options.unit l.start) p.links.list
states_made rows p right of =
    subst (λ (u : FlowUnit). All (λ (l : Link). IsStateMade u l.start) p.links.list) (sym of.options.unit_is)
    (λ k d l. (starts_right rows p right of k d l).1)

-- ---- commands: a control or an action sets the state of a link

-- the link of a command, with its row
pub record Command (rows : List Row) (p : Project) (number : ℕ) (to : LinkState) : Type 0 where
  pub row : Row
  pub link : Link
  pub row_is : slice_get (numbered_links rows) number ≡ Some row
  pub link_is : slice_get p.links.list number ≡ Some link
  pub made : IsLink rows row link
  pub state : StateRight rows row link.kind to
  pub no_check_valve : is_check_valve row ≡ false

pub command : (rows : List Row) (p : Project) (name : List ℕ) (asked : List ℕ) (number : ℕ) (to : LinkState)
    (between : Option Cause) → AreRight rows → IsProject rows p
    → number_in (link_ids rows) name ≡ Some number → set_link rows (link_named rows name) asked between ≡ None
    → IsStateOf rows (link_named rows name) asked to → Command rows p number to
command rows p name asked number to between right of numbered set is =
    let inside : number < length p.links.list =
    omega (arith, number_inside (link_ids rows) name number numbered, link_length rows p of) in
    let found = item_at p.links.list number inside in
    let pair = partner (IsLink rows) (numbered_links rows) p.links.list number found.item of.links found.is in
    let stands = link_stands rows number pair.item pair.is in
    let there : slice_get (own_ids (numbered_links rows)) number ≡ Some name =
    subst (λ ids. slice_get ids number ≡ Some name) (link_ids_are rows)
    (number_names (link_ids rows) name number numbered) in
    let own : slice_get (own_ids (numbered_links rows)) number ≡ Some (own_id pair.item) =
    slice_get-map own_id (numbered_links rows) number ∙ ap (option_map own_id) pair.is in
    let same : own_id pair.item ≡ name = cc in
    let named : link_named rows name ≡ Some pair.item =
    subst (λ id. row_with id (link_rows rows) ≡ Some pair.item) same
    (row_named is_link rows stands.0.place pair.item (link_new rows right) stands.0.is stands.1) in
    let set_row : set_link rows (Some pair.item) asked between ≡ None = rw named at set in
    let is_row : IsState rows pair.item asked to = subst (λ (o : Option Row). IsStateOf rows o asked to) named is in
    record {
      row = pair.item;
      link = found.item;
      row_is = pair.is;
      link_is = found.is;
      made = pair.holds;
      state = state_right rows stands.0.place pair.item found.item.kind to right stands.0.is stands.1 pair.holds.kind
          (asked_by rows pair.item asked between to set_row is_row);
      no_check_valve = no_check_valve rows pair.item asked between set_row;
    }
