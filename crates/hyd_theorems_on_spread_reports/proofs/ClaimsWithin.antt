-- What lines claim that speak of no demand they claim of each network within a spread: it has the controls, rules and
-- tanks of the file's network.
use Rattle.std.proofs.Common.{◌≡◌, ℕ, suc, ℤ, Bool, true, false, refl, sym, subst, ◌∙◌, List, [], ◌∷◌}
use Rattle.std.proofs.Common.{◌++◌}
use Rattle.std.specs.Prelude.{IsTrue, Some, None, Contains, slice_set, if◌then◌else◌}
use Rattle.hyd_spec.specs.ProgramTypes.{Project, Link, LinkKind, PipeLink, CheckPipe, PumpLink, CurvePump, Tcv, Fcv}
use Rattle.hyd_spec.specs.ProgramTypes.{Gpv, LinkState, Control, When, AtLevel, AtTime, AtClock}
use Rattle.hyd_spec.specs.declared.Change.{Change}
use Rattle.hyd_spec.specs.declared.Source.TheVariants.{Control as ByControl}
use Rattle.hyd_spec.specs.Tank.{walls_of, reaches, watched_level}
use Rattle.hyd_spec.specs.PumpPatternsAndSimpleControls.{is_pattern_boundary, patterned_state, after_patterns}
use Rattle.hyd_spec.specs.PumpPatternsAndSimpleControls.{patterned, control_acts, acts_at}
use Rattle.hyd_spec.specs.Rules.{elevation_of, is_same_state, state_of_link}
use Rattle.hyd_spec.specs.PeriodLength.{Period, stock_at_start}
use Rattle.hyd_spec_certificates.specs.ChangesAtStart.{control_changes, start_changes}
use Rattle.hyd_spec_reports.specs.Claims.{ReachesAtEnd}
use Rattle.hyd_spec_spread.specs.NetworksWithin.{NodeData, with_data}
use Rattle.hyd_theorems_on_spread.proofs.LinksWithin.{NumbersAlike}
use Rattle.hyd_theorems_on_spread.proofs.RulesAlike.{inflows-alike}
use Rattle.hyd_theorems_on_open_reports.proofs.StartAndEndLinesHold.{ClaimsAreAlike}

-- ---- controls

module _ (project : Project) (nodes : NodeData) where
  abbrev there : Project
  there = with_data project nodes

  state-alike : (time : ℕ) (link : Link) (state : LinkState)
      → patterned_state project time link state ≡ patterned_state there time link state
  state-alike time link state = by-kind link.kind refl
    where
      by-kind : (kind : LinkKind) → link.kind ≡ kind
          → patterned_state project time link state ≡ patterned_state there time link state
      by-kind (PipeLink capacity) is = rw is refl
      by-kind (CheckPipe capacity) is = rw is refl
      by-kind (PumpLink capacity shutoff head None) is = rw is refl
      by-kind (PumpLink capacity shutoff head (Some pattern)) is = rw is refl
      by-kind (CurvePump bend None) is = rw is refl
      by-kind (CurvePump bend (Some pattern)) is = rw is refl
      by-kind (Tcv valve) is = rw is refl
      by-kind (Fcv valve) is = rw is refl
      by-kind (Gpv bend) is = rw is refl

  patterns-alike : (time : ℕ) (links : List Link) (states : List LinkState)
      → after_patterns project time links states ≡ after_patterns there time links states
  patterns-alike time [] states = refl
  patterns-alike time (link ∷ links) [] = refl
  patterns-alike time (link ∷ links) (state ∷ states) =
      let first = state-alike time link state in
      let rest = patterns-alike time links states in λ i. first i ∷ rest i

  patterned-alike : (time : ℕ) (states : List LinkState) → patterned project time states ≡ patterned there time states
  patterned-alike time states =
      let after = patterns-alike time project.links.list states in
      λ i. if is_pattern_boundary project time then after i else states

  acts-alike : (time : ℕ) (acts : ℕ → Bool → ℤ → Bool) (when : When)
      → control_acts project time acts when ≡ control_acts there time acts when
  acts-alike time acts (AtLevel tank above ticks) = refl
  acts-alike time acts (AtTime at) = refl
  acts-alike time acts (AtClock at) = refl

  changes-alike : (time : ℕ) (acts : ℕ → Bool → ℤ → Bool) (k : ℕ) (controls : List Control) (links : List LinkState)
      → control_changes project time acts k controls links ≡ control_changes there time acts k controls links
  changes-alike time acts k [] links = refl
  changes-alike time acts k (c ∷ controls) links =
      let first = acts-alike time acts c.when in
      let set = changes-alike time acts (suc k) controls (slice_set links c.link c.to) in
      let kept = changes-alike time acts (suc k) controls links in
      λ i. if first i
      then (if is_same_state (state_of_link links c.link) c.to then [] else record {
        source = ByControl k;
        link = c.link;
        to = c.to;
      } ∷ []) ++ set i
      else kept i

  starts-alike : (time : ℕ) (acts : ℕ → Bool → ℤ → Bool) (commanded : List LinkState)
      → start_changes project time acts commanded ≡ start_changes there time acts commanded
  starts-alike time acts commanded =
      let links = patterned-alike time commanded in
      (λ i. control_changes project time acts 0 project.controls.list (links i))
      ∙ changes-alike time acts 0 project.controls.list (patterned there time commanded)

-- ---- claims

module _ (project : Project) (nodes : NodeData) (same : NumbersAlike project nodes)
    (elevations : (node : ℕ) → elevation_of (with_data project nodes) node ≡ elevation_of project node)
    (S : ℕ) (commanded : List LinkState) (period : Period) where
  abbrev network : Project
  network = with_data project nodes

  reached-alike : (time k : ℕ) (above : Bool) (target : ℤ) → ReachesAtEnd project S period time k above target
      → ReachesAtEnd network S period time k above target
  reached-alike time k above target is = record {
    at_end = is.at_end;
    tank = is.tank;
    is_tank = is.is_tank;
    reached = subst (λ (q : ℤ). IsTrue (reaches S above target (watched_level S (walls_of project is.tank) is.tank
        (stock_at_start period k) q period.length)))
        (sym (inflows-alike project nodes same elevations k period.assignment.flows)) is.reached;
  }

  pub claims_within : ClaimsAreAlike project network S commanded period
  claims_within = record {
    starts = λ time change is. record {
      at_start = is.at_start;
      is_change = subst (λ (changes : List Change). Contains changes change)
          (starts-alike project nodes period.time (acts_at S period.levels) commanded) is.is_change;
    };
    ends = λ time change at_end is_tried is_change.
        record { at_end = at_end; is_tried = is_tried; is_change = is_change };
    fills = λ time k is. record {
      tank = is.tank;
      is_tank = is.is_tank;
      before = is.before;
      reaches_it = reached-alike time k true is.tank.maximum is.reaches_it;
    };
    empties = λ time k is. record {
      tank = is.tank;
      is_tank = is.is_tank;
      before = is.before;
      reaches_it = reached-alike time k false is.tank.minimum is.reaches_it;
    };
    reaches_level = λ time k number is. record {
      control = is.control;
      is_control = is.is_control;
      above = is.above;
      ticks = is.ticks;
      is_level = is.is_level;
      before = is.before;
      reaches_it = reached-alike time k is.above is.ticks is.reaches_it;
    };
  }
