-- The lines of nodes and links, as the program makes them from a net's grid, from vectors below and above and from
-- facts.
use Rattle.std.specs.Prelude.{ℕ, ℤ, ◌-ℤ◌, List, map, slice_index_or}
use Rattle.hyd_spec.specs.ProgramTypes.{Project, Tank, Link, LinkState}
use Rattle.hyd_spec.specs.Law.{Shut}
use Rattle.hyd_spec.specs.Lists.{joined}
use Rattle.hyd_spec.specs.DemandsHeadsAndPumpLifts.{is_us}
use Rattle.hyd_spec.specs.Assignment.{head_at}
use Rattle.hyd_spec.specs.Rules.{state_of_link}
use Rattle.hyd_spec.specs.declared.TankState.{TankState}
use Rattle.hyd_spec.specs.declared.TankState.TheVariants.{Between}
use Rattle.hyd_spec_certificates.specs.SpansAsIntervals.{levels_of, flows_of}
use Rattle.hyd_spec_certificates.specs.declared.LevelSpan.{LevelSpan}
use Rattle.hyd_spec_certificates.specs.declared.StatusWord.{StatusWord}
use Rattle.hyd_num.specs.declared.spans.Span.{Span}
use Rattle.hyd_spec_certificates.specs.Decided.{nowhere}
use Rattle.hyd_spec_certificates.specs.Interval.{Interval, exactly, shifted}
use Rattle.hyd_spec_certificates.specs.PeriodNetwork.{Grid, GridLink, GridJunction}
use Rattle.hyd_spec_certificates.specs.FlowIntervals.{difference, flow_box, out_box}
use Rattle.hyd_spec_certificates.specs.StatusesOfLinks.{status_of}
use Rattle.hyd_spec_reports.specs.ReportLine.{ReportLine, JunctionLine, ReservoirLine, TankLine, LinkLine, line_text}
use Rattle.hyd_report.specs.PrintedIntervals.{printed, quantity_in}
use Rattle.hyd_report.specs.declared.printed_intervals.Quantity.TheVariants.{Head, Pressure, Flow}

-- The bytes of lines, one after another.
abbrev pub texts : Project → List ReportLine → List ℕ
texts project lines = joined (map (line_text project) lines)

-- The line of junction number j at an elevation (head ticks) between heads, with its outflow.
abbrev pub junction_at : Project → ℕ → ℤ → Interval → Interval → ReportLine
junction_at project j elevation heads outflow =
    JunctionLine j (printed (quantity_in project Head) heads)
    (printed (quantity_in project Pressure) (record { lo = heads.lo -ℤ elevation; hi = heads.hi -ℤ elevation }))
    (printed (quantity_in project Flow) outflow)

-- The line of junction number j between two of its heads.
abbrev pub junction_between : Project → ℕ → GridJunction → ℤ → ℤ → ReportLine
junction_between project j here lower upper =
    JunctionLine j (printed (quantity_in project Head) (record { lo = lower; hi = upper }))
    (printed (quantity_in project Pressure) (record { lo = lower -ℤ here.elevation; hi = upper -ℤ here.elevation }))
    (printed (quantity_in project Flow) (out_box here lower upper))

-- The line of junction number j by vectors below and above.
abbrev pub junction_line : Project → List ℤ → List ℤ → ℕ → GridJunction → ReportLine
junction_line project lower upper j here = junction_between project j here (head_at lower j) (head_at upper j)

-- The line of reservoir number r between heads.
abbrev pub reservoir_between : Project → ℕ → Interval → ReportLine
reservoir_between project r heads = ReservoirLine r (printed (quantity_in project Head) heads)

-- The line of reservoir number r at a head.
abbrev pub reservoir_line : Project → ℕ → ℤ → ReportLine
reservoir_line project r height = ReservoirLine r (printed (quantity_in project Head) (exactly height))

-- The line of tank number k at its levels, with its inflow and its state.
abbrev pub tank_at : Project → ℕ → Tank → Interval → Interval → TankState → ReportLine
tank_at project k tank level inflow state =
    TankLine k (printed (quantity_in project Head) (shifted tank.bottom level)) (printed
    (quantity_in project Head) level)
    (printed (quantity_in project Flow) inflow) state

-- The line of tank number k by the levels, the inflows and the states of all tanks.
abbrev pub tank_line : Project → List LevelSpan → List Span → List TankState → ℕ → Tank → ReportLine
tank_line project levels inflows states k tank =
    tank_at project k tank (slice_index_or (map levels_of levels) k nowhere) (slice_index_or
    (map flows_of inflows) k nowhere)
    (slice_index_or states k Between)

-- A link that isn't there is shut.
abbrev pub no_link : GridLink
no_link = record { from = 0; to = 0; law = Shut }

-- The line of link number l with its flow and its status.
abbrev pub link_at : Project → ℕ → Interval → StatusWord → ReportLine
link_at project l flow status = LinkLine l (printed (quantity_in project Flow) flow) status

-- The line of link number l by heads of all nodes below and above and by the states of links.
abbrev pub link_line : Project → Grid → List ℤ → List ℤ → List LinkState → ℕ → Link → ReportLine
link_line project grid below above states l link =
    LinkLine l (printed (quantity_in project Flow) (flow_box (slice_index_or grid.links l no_link) below above))
    (status_of (is_us project) project.bends.list link.kind (state_of_link states l)
    (difference (slice_index_or grid.links l no_link) below above))
