-- In a file without a fault each rounded form is made of its numbers, and each valve has one diameter.
use Rattle.std.proofs.Common.{◌≡◌, ℕ, ◌<◌, Bool, true, false, List, length, Option, Some, None, refl, sym, ap, ◌∙◌}
use Rattle.std.proofs.Common.{subst}
use Rattle.std.specs.Prelude.{slice_get, All, IfSome, ℤ}
use Rattle.std.proofs.lemmas.Option.{get_or_from_slice_get}
use Rattle.hyd_num.specs.CapacityPairs.{IsMade}
use Rattle.hyd_num.specs.declared.flow_units.FlowUnit.{FlowUnit}
use Rattle.hyd_num.specs.declared.link_capacities.Capacity.{Capacity}
use Rattle.hyd_spec_lines.specs.Lines.{Row}
use Rattle.hyd_spec_lines.specs.declared.section.Section.TheVariants.{Junctions, Tanks, Pipes, Pumps}
use Rattle.hyd_net.specs.RoundedFileNumbers.{IsAreaMade, IsStateMade, IsRuleMade, IsKindAcross, IsStateAcross, IsAcross}
use Rattle.hyd_net.specs.RoundedFileNumbers.{IsAllMade}
use Rattle.hyd_net.specs.declared.controls.Control.{Control}
use Rattle.hyd_net.specs.declared.links.Link.{Link}
use Rattle.hyd_net.specs.declared.links.LinkKind.{LinkKind}
use Rattle.hyd_net.specs.declared.links.LinkKind.TheVariants.{Pipe, CheckPipe, Pump, CurvePump, Tcv, Fcv, Gpv}
use Rattle.hyd_net.specs.declared.links.LinkState.{LinkState}
use Rattle.hyd_net.specs.declared.project.Project.{Project}
use Rattle.hyd_spec_input.specs.Columns.{amount}
use Rattle.hyd_spec_input.specs.NodeAndLinkRows.{valve_minor}
use Rattle.hyd_spec_input.specs.SectionsAndTables.{rows_of, is_of}
use Rattle.hyd_spec_input.specs.OptionsAndTimesInForce.{unit}
use Rattle.hyd_spec_input.specs.MeaningsAcrossRows.{emitter_of, status_row_of}
use Rattle.hyd_spec_input.specs.FaultsWithOtherRows.{us}
use Rattle.hyd_spec_input.specs.Project as project
use Rattle.hyd_spec_input.specs.Project.{Where, IsProject, IsLink, IsKind, IsValveKind, numbered_links}
use Rattle.hyd_theorems_on_input.proofs.ListsByPlace.{match_all, item_at, partner}
use Rattle.hyd_theorems_on_input.proofs.RowsWithoutFault.{AreRight}
use Rattle.hyd_theorems_on_input.proofs.Names.{link_stands}
use Rattle.hyd_theorems_on_input.proofs.LinkKinds.{kinds_made}
use Rattle.hyd_theorems_on_input.proofs.LinkStates.{state_right, start_by, states_made, law_across, Command}
use Rattle.hyd_theorems_on_input.proofs.ControlLines.{each_control}
use Rattle.hyd_theorems_on_input.proofs.RuleParts.{each_rule}

-- ---- emitters and areas

emitter_made : (u : FlowUnit) (nano : ℤ) (o : Option Capacity) → project.IsEmitter u nano o → IfSome o IsMade
emitter_made u nano None is = tt
emitter_made u nano (Some cap) is = is.1.made

emitters_made : (rows : List Row) (p : Project) → IsProject rows p
    → All (λ j. IfSome j.emitter IsMade) p.junctions.list
emitters_made rows p of = match_all (project.IsJunction rows) (λ j. IfSome j.emitter IsMade) (rows_of Junctions rows)
    p.junctions.list of.junctions
    (λ n row j _ _ made. emitter_made (unit rows) (emitter_of rows row) j.emitter made.emitter)

areas_made : (rows : List Row) (p : Project) → IsProject rows p → All (IsAreaMade p.options.unit) p.tanks.list
areas_made rows p of = subst (λ (u : FlowUnit). All (IsAreaMade u) p.tanks.list) (sym of.options.unit_is)
    (match_all (project.IsTank rows) (IsAreaMade (unit rows)) (rows_of Tanks rows) p.tanks.list of.tanks
    (λ n row t _ _ made. made.area))

-- ---- states and amounts

controls_made : (rows : List Row) (p : Project) → AreRight rows → IsProject rows p
    → All (λ c. IsStateMade p.options.unit c.to) p.controls.list
controls_made rows p right of = subst (λ (u : FlowUnit). All (λ (c : Control). IsStateMade u c.to) p.controls.list)
    (sym of.options.unit_is)
    (λ k d l. (each_control rows p right of k d l).command.state.made)

rules_made : (rows : List Row) (p : Project) → AreRight rows → IsProject rows p
    → All (IsRuleMade p.options.unit) p.rules.list
rules_made rows p right of = subst (λ (u : FlowUnit). All (IsRuleMade u) p.rules.list) (sym of.options.unit_is)
    (λ k d l.
    let r = each_rule rows p right of k d l in
    record {
      clauses = λ i e m. (r.clauses i e m).made;
      yes = λ i e m. (r.yes i e m).state.made;
      no = λ i e m. (r.no i e m).state.made;
    })

-- ---- one diameter for each valve

valve_across : (rows : List Row) (row : Row) (kind : LinkKind) → IsValveKind rows row kind
    → IsKindAcross (amount 3 row.words) kind
valve_across rows row (Tcv valve) is = law_across (us rows) (amount 3 row.words) (valve_minor row.words) valve is.1
valve_across rows row (Fcv valve) is = law_across (us rows) (amount 3 row.words) (valve_minor row.words) valve is.2
valve_across rows row (Gpv bend) is = tt
valve_across rows row (Pipe cap) is = tt
valve_across rows row (CheckPipe cap) is = tt
valve_across rows row (Pump cap shutoff head pattern) is = tt
valve_across rows row (CurvePump bend pattern) is = tt

kind_across : (rows : List Row) (row : Row) (kind : LinkKind) → IsKind rows row kind
    → IsKindAcross (amount 3 row.words) kind
kind_across rows row kind is = by (is_of Pipes row) (is_of Pumps row) kind is
  where
    by : (pipe pump : Bool) (kind : LinkKind) → Where pipe (project.IsPipeKind rows row kind)
        (Where pump (project.IsPumpKind rows row kind) (IsValveKind rows row kind))
        → IsKindAcross (amount 3 row.words) kind
    by true pump (Pipe cap) is = tt
    by true pump (CheckPipe cap) is = tt
    by true pump (Pump cap shutoff head pattern) is = absurd is
    by true pump (CurvePump bend pattern) is = absurd is
    by true pump (Tcv valve) is = absurd is
    by true pump (Fcv valve) is = absurd is
    by true pump (Gpv bend) is = absurd is
    by false true (Pump cap shutoff head pattern) is = tt
    by false true (CurvePump bend pattern) is = tt
    by false true (Pipe cap) is = absurd is
    by false true (CheckPipe cap) is = absurd is
    by false true (Tcv valve) is = absurd is
    by false true (Fcv valve) is = absurd is
    by false true (Gpv bend) is = absurd is
    by false false kind is = valve_across rows row kind is

-- the row of a command is that of its number
same_row : (rows : List Row) (p : Project) (number : ℕ) (row : Row) (link : ℕ) (to : LinkState)
    → slice_get (numbered_links rows) number ≡ Some row
    → Command rows p link to → link ≡ number → IsStateAcross (amount 3 row.words) to
same_row rows p number row link to at c same =
    let there : slice_get (numbered_links rows) number ≡ Some c.row = ap (slice_get (numbered_links rows)) (sym same)
    ∙ c.row_is in
    let e : Some c.row ≡ Some row = sym there ∙ at in
    let one : c.row ≡ row = cc in
    subst (λ (r : Row). IsStateAcross (amount 3 r.words) to) one c.state.across

across_right : (rows : List Row) (p : Project) → AreRight rows → IsProject rows p → (number : ℕ)
    → number < length p.links.list → (across : ℤ) × IsAcross p number across
across_right rows p right of number inside =
    let found = item_at p.links.list number inside in
    let pair = partner (IsLink rows) (numbered_links rows) p.links.list number found.item of.links found.is in
    let stands = link_stands rows number pair.item pair.is in
    let asks = start_by rows stands.0.place pair.item found.item.start (status_row_of rows pair.item) right stands.0.is
    stands.1 refl pair.holds.start in
    let start = state_right rows stands.0.place pair.item found.item.kind found.item.start right stands.0.is stands.1
    pair.holds.kind asks in
    let across = amount 3 pair.item.words in (
      across,
      record {
        link = λ d. subst (λ (l : Link). IsKindAcross across l.kind × IsStateAcross across l.start)
            (sym (get_or_from_slice_get p.links.list number found.item d found.is))
            (kind_across rows pair.item found.item.kind pair.holds.kind, start.across);
        controls = λ k d l same. same_row rows p number pair.item _ _ pair.is
            (each_control rows p right of k d l).command same;
        yes = λ k d l i e m same. same_row rows p number pair.item _ _ pair.is
            ((each_rule rows p right of k d l).yes i e m) same;
        no = λ k d l i e m same. same_row rows p number pair.item _ _ pair.is
            ((each_rule rows p right of k d l).no i e m) same;
      },
    )

-- ---- all of it

pub all_made : (rows : List Row) (p : Project) → AreRight rows → IsProject rows p → IsAllMade p
all_made rows p right of = record {
  emitters = emitters_made rows p of;
  areas = areas_made rows p of;
  links = kinds_made rows p right of;
  starts = states_made rows p right of;
  controls = controls_made rows p right of;
  rules = rules_made rows p right of;
  diameters = across_right rows p right of;
}
