-- A period that was ended by its vectors: what holds of its facts and of what is left behind it.
use Rattle.std.proofs.Common.{◌≡◌, ℕ, ℤ, List, ◌++◌, map, sym, ap, subst, ◌∙◌}
use Rattle.std.specs.Prelude.{None, position, Result, Ok, Err, IfOk}
use Rattle.hyd_num.specs.declared.spans.Span.{Span}
use Rattle.hyd_spec.specs.ProgramTypes.{Project, Tank, LinkState}
use Rattle.hyd_spec.specs.Lists.{map_from}
use Rattle.hyd_spec.specs.declared.Change.{Change}
use Rattle.hyd_spec_certificates.specs.SpansAsIntervals.{flows_of, levels_of}
use Rattle.hyd_spec_certificates.specs.Interval.{Interval}
use Rattle.hyd_spec_certificates.specs.PeriodNetwork.{Grid}
use Rattle.hyd_spec_certificates.specs.RecordAndStanding.{Record, Standing, Vectors}
use Rattle.hyd_spec_certificates.specs.Decided.{EndsBy, ByRules, WithoutRules, decided_changes, flow_boxes}
use Rattle.hyd_spec_certificates.specs.Decided.{inflow_of_tank}
use Rattle.hyd_spec_certificates.specs.Valid.{LeavesLinks, levels_next, volumes_next, AreStates, ControlsAreDecided}
use Rattle.hyd_spec_certificates.specs.declared.LevelSpan.{LevelSpan}
use Rattle.hyd_spec_certificates.specs.declared.Event.{Event}
use Rattle.hyd_spec_certificates.specs.EndsOfPeriods.{EndBrings, by_rules as brings_by_rules}
use Rattle.hyd_spec_certificates.specs.EndsOfPeriods.{by_clock as brings_by_clock, events_of}
use Rattle.hyd_spec_certificates.specs.Stops.{open_states}
use Rattle.hyd_tank.specs.StockIntervals.{volumes_of}
use Rattle.hyd_period_facts.specs.declared.facts.Facts.{Facts}
use Rattle.hyd_period_facts.specs.PassedOn.{IsFirstOpen as IsFirstUnsure}
use Rattle.hyd_period_facts.specs.PassedOn.{LevelOpen}
use Rattle.hyd_period_facts.specs.TankStart.{IsFirstOpen}
use Rattle.hyd_period_facts.specs.declared.states.TankOpen.{TankOpen}
use Rattle.hyd_period_length.specs.Readings.{AreRead}
use Rattle.hyd_period_facts.specs.FactsBeforeEnd.{AreStarted, HaveTanks}
use Rattle.hyd_period_end.specs.FactsBeforeVectors.{AreBegun}
use Rattle.hyd_period_end.specs.EndOfPeriod.{Decides, EndsAfter, by_rules, by_clock, IsClosed}
use Rattle.hyd_period_end.specs.declared.period_end.PeriodEnd.{PeriodEnd}
use Rattle.hyd_period_end.specs.OpenMatters.{EndsWith, IsFirstControl, SharesVectors}

module _ (project : Project) (grid : Grid) (standing : Standing) (row : Record) (seconds : ℕ)
    (links : List LinkState) (levels : List LevelSpan)
    (next : map levels_of levels ≡ levels_next project grid standing row seconds)
    (leaves : LeavesLinks project grid standing row seconds links) where
  -- a tank that is open at the levels
  pub open-tank : (found : TankOpen) → IsFirstOpen project (map levels_of levels) found
      → EndsWith project grid standing row (λ at. IsFirstOpen project at found)
  open-tank found first = record {
    seconds = seconds;
    links = links;
    leaves = leaves;
    at_levels = subst (λ (at : List Interval). IsFirstOpen project at found) next first;
  }

  -- a control that is open there
  pub open-control : (found : LevelOpen)
      → position (λ is_open. is_open) (open_states project (map levels_of levels)) ≡ None
      → IsFirstUnsure project levels found
      → EndsWith project grid standing row (λ at. IsFirstControl project at found)
  open-control found decided first =
      let there : IsFirstControl project (map levels_of levels) found = record {
        tanks_decided = decided;
        first = first.first;
        control = first.control;
        is_control = first.is_control;
        tank = first.level.tank;
        above = first.level.above;
        ticks = first.level.ticks;
        is_level = first.level.is_level;
        level_is = first.level.level_is;
      } in
      record {
        seconds = seconds;
        links = links;
        leaves = leaves;
        at_levels = subst (λ (at : List Interval). IsFirstControl project at found) next there;
      }

-- what a decided end brings
pub brings-so : (project : Project) (grid : Grid) (standing : Standing) (row : Record) (seconds : ℕ)
    (changes : List Change) (events : List Event) → row.length ≡ seconds
    → events ≡ events_of project grid standing row → EndsAfter project grid standing row seconds changes
    → EndBrings project grid standing row events changes
brings-so project grid standing row seconds changes events long are ends =
    subst (λ (es : List Event). EndBrings project grid standing row es changes) (sym are)
    (by seconds changes long ends)
  where
    by : (s : ℕ) (cs : List Change) → row.length ≡ s → EndsAfter project grid standing row s cs
        → EndBrings project grid standing row (events_of project grid standing row) cs
    by s _ e (by_rules is) = subst (λ (n : ℕ). EndBrings project grid standing row
        (events_of project grid standing row) (decided_changes project grid standing row n)) e
        (brings_by_rules (subst (λ (n : ℕ). EndsBy project grid standing row (ByRules n)) (sym e) is))
    by s _ e (by_clock is) = brings_by_clock
        (subst (λ (n : ℕ). EndsBy project grid standing row (WithoutRules n)) (sym e) is)

-- ---- facts as they are completed

pub have-changed : (project : Project) (before now : Facts) → now ≡ record before { changes = now.changes }
    → HaveTanks project before → HaveTanks project now
have-changed project before now keeps have = subst (HaveTanks project) (sym keeps) (record {
  levels = have.levels;
  volumes = have.volumes;
  inflows = have.inflows;
  tanks = have.tanks;
  held = have.held;
  small = have.small;
})

pub have-ended : (project : Project) (before now : Facts) (seconds : ℕ)
    → now ≡ record before { length = seconds; events = now.events } → HaveTanks project before → HaveTanks project now
have-ended project before now seconds keeps have = subst (HaveTanks project) (sym keeps) (record {
  levels = have.levels;
  volumes = have.volumes;
  inflows = have.inflows;
  tanks = have.tanks;
  held = have.held;
  small = have.small;
})

module _ (project : Project) (grid : Grid) (standing : Standing) where
  pub started-changed : (row : Record) (before now : Facts) → now ≡ record before { changes = now.changes }
      → AreStarted project grid standing row before → AreStarted project grid standing row now
  started-changed row before now keeps started = subst (AreStarted project grid standing row) (sym keeps) (record {
    time = started.time;
    levels = started.levels;
    volumes = started.volumes;
    inflows = started.inflows;
    tanks = started.tanks;
    links = started.links;
  })

  -- records that share their vectors
  pub started-shared : (row other : Record) (facts : Facts) → SharesVectors other row
      → AreStarted project grid standing row facts → AreStarted project grid standing other facts
  started-shared row other facts share started = record {
    time = started.time;
    levels = started.levels;
    volumes = started.volumes;
    inflows = started.inflows ∙ ap (λ (vs : List Vectors).
        map_from (λ k (tank : Tank). inflow_of_tank project grid (record other { pinned = vs }) k) 0 project.tanks.list)
        (sym share.pinned);
    tanks = started.tanks;
    links = started.links;
  }

  pub read-shared : (row other : Record) (low high : List ℤ) (flows : List Span) → SharesVectors other row
      → AreRead grid row low high flows → AreRead grid other low high flows
  read-shared row other low high flows share read = record {
    low_is = read.low_is ∙ ap (λ (vs : Vectors). vs.lower ++ grid.reservoirs) (sym share.main);
    high_is = read.high_is ∙ ap (λ (vs : Vectors). vs.upper ++ grid.reservoirs) (sym share.main);
    flows_are = read.flows_are ∙ ap (λ (vs : Vectors). flow_boxes grid (record other { main = vs })) (sym share.main);
  }

  -- a period that is over
  pub closed-of : (row : Record) (seconds : ℕ) (begun looked decided told : Facts) (close : PeriodEnd)
      → row.length ≡ seconds → AreBegun project standing begun → looked ≡ record begun { inflows = looked.inflows }
      → AreStarted project grid standing row looked → decided ≡ record looked { changes = decided.changes }
      → told ≡ record decided { length = seconds; events = told.events }
      → Decides project grid standing row seconds close.commanded.items looked.changes.list decided.changes.list
      → told.events.list ≡ events_of project grid standing row
      → map levels_of close.next.levels.list ≡ levels_next project grid standing row seconds
      → map volumes_of close.next.volumes.list ≡ volumes_next project grid standing row seconds
      → AreStates project (map levels_of close.next.levels.list) close.next.tanks.list
      → ControlsAreDecided project (map levels_of close.next.levels.list)
      → IsClosed project grid standing row told close
  closed-of row seconds begun looked decided told close long is keep_looked started keep_decided keep_told decides
      events levels volumes states controls = record {
        leaves = subst (λ (n : ℕ). LeavesLinks project grid standing row n close.commanded.items) (sym long)
            decides.leaves;
        levels = at_end;
        volumes = volumes ∙ ap (λ (n : ℕ). volumes_next project grid standing row n) (sym long);
        tanks = subst (λ (ls : List Interval). AreStates project ls close.next.tanks.list) at_end states;
        controls = subst (ControlsAreDecided project) at_end controls;
        facts_are = record {
          time = ap (λ (f : Facts). f.time) keep_told ∙ ap (λ (f : Facts). f.time) keep_decided ∙ started.time;
          length = ap (λ (f : Facts). f.length) keep_told ∙ sym long;
          levels = ap (λ (f : Facts). map levels_of f.levels.list) keep_told
              ∙ ap (λ (f : Facts). map levels_of f.levels.list) keep_decided ∙ started.levels;
          volumes = ap (λ (f : Facts). map volumes_of f.volumes.list) keep_told
              ∙ ap (λ (f : Facts). map volumes_of f.volumes.list) keep_decided ∙ started.volumes;
          inflows = ap (λ (f : Facts). map flows_of f.inflows.list) keep_told
              ∙ ap (λ (f : Facts). map flows_of f.inflows.list) keep_decided ∙ started.inflows;
          tanks = ap (λ (f : Facts). f.tanks.list) keep_told ∙ ap (λ (f : Facts). f.tanks.list) keep_decided
              ∙ started.tanks;
          links = ap (λ (f : Facts). f.links.list) keep_told ∙ ap (λ (f : Facts). f.links.list) keep_decided
              ∙ started.links;
          by_rules = decides.by_rules;
          changes = ap (λ (f : Facts). f.changes.list) keep_told ∙ decides.changes_are
              ∙ ap (λ (cs : List Change). cs ++ decides.by_rules)
              (ap (λ (f : Facts). f.changes.list) keep_looked ∙ is.changes);
          brings = brings-so project grid standing row seconds decides.by_rules told.events.list long events
              decides.ends;
        };
      }
    where
      at_end : map levels_of close.next.levels.list ≡ levels_next project grid standing row row.length
      at_end = levels ∙ ap (λ (n : ℕ). levels_next project grid standing row n) (sym long)

-- readings that are handed on as slices
pub read-at : (grid : Grid) (row : Record) (low high : List ℤ) (flows : List Span) (below above : List ℤ)
    (passing : List Span) → below ≡ low → above ≡ high → passing ≡ flows → AreRead grid row low high flows
    → AreRead grid row below above passing
read-at grid row low high flows below above passing l h f read = record {
  low_is = l ∙ read.low_is;
  high_is = h ∙ read.high_is;
  flows_are = ap (map flows_of) f ∙ read.flows_are;
}

-- what holds of an answer
pub if-ok : {A E : Type 0} (P Q : A → Type 0) (result : Result A E) → ((value : A) → P value → Q value)
    → IfOk result P → IfOk result Q
if-ok P Q (Ok value) f p = f value p
if-ok P Q (Err fault) f p = p
