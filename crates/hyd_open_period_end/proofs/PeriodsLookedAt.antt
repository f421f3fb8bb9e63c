-- Facts and readings of what was looked at in a period.
use Rattle.std.proofs.Common.{◌≡◌, ◌+◌, ◌≤◌, ◌++◌, ◌∙◌, List, length, sym, ap, subst, arith}
use Rattle.hyd_num.specs.declared.spans.Span.{Span}
use Rattle.hyd_net.specs.ListView.{ListView}
use Rattle.hyd_spec.specs.ProgramTypes.{Project, Tank}
use Rattle.hyd_spec.specs.Lists.{map_from}
use Rattle.hyd_spec_certificates.specs.PeriodNetwork.{Grid}
use Rattle.hyd_spec_certificates.specs.RecordAndStanding.{Record, Standing, Vectors}
use Rattle.hyd_spec_certificates.specs.Decided.{inflow_of_tank, flow_boxes}
use Rattle.hyd_period_facts.specs.declared.facts.Facts.{Facts}
use Rattle.hyd_period_facts.specs.FactsBeforeEnd.{AreStarted}
use Rattle.hyd_period_length.specs.declared.readings.Readings.{Readings}
use Rattle.hyd_period_end.specs.FactsBeforeVectors.{AreBegun, AreReady}
use Rattle.hyd_period_end.specs.OpenMatters.{SharesVectors}
use Rattle.hyd_open_period_end.specs.LookedAt.{AreLookedAt}

pub started-of : (project : Project) (grid : Grid) (standing : Standing) (facts : Facts) (readings : Readings)
    → AreBegun project standing facts → (row : Record) → AreLookedAt project grid row facts readings
    → AreStarted project grid standing row facts
started-of project grid standing facts readings begun row looked = record {
  time = begun.time;
  levels = begun.levels;
  volumes = begun.volumes;
  inflows = looked.inflows;
  tanks = begun.tanks;
  links = begun.links;
}

-- records with the same vectors are looked at alike
pub looked-shared : (project : Project) (grid : Grid) (facts : Facts) (readings : Readings) (row other : Record)
    → SharesVectors other row → AreLookedAt project grid row facts readings
    → AreLookedAt project grid other facts readings
looked-shared project grid facts readings row other share looked = record {
  inflows = looked.inflows ∙ ap (λ (vs : List Vectors).
      map_from (λ k (tank : Tank). inflow_of_tank project grid (record other { pinned = vs }) k) 0 project.tanks.list)
      (sym share.pinned);
  read = record {
    low_is = looked.read.low_is ∙ ap (λ (vs : Vectors). vs.lower ++ grid.reservoirs) (sym share.main);
    high_is = looked.read.high_is ∙ ap (λ (vs : Vectors). vs.upper ++ grid.reservoirs) (sym share.main);
    flows_are = looked.read.flows_are
        ∙ ap (λ (vs : Vectors). flow_boxes grid (record other { main = vs })) (sym share.main);
  };
}

-- ---- facts that got inflows

-- they begin as before
pub begun-still : (project : Project) (standing : Standing) (facts now : Facts) → AreBegun project standing facts
    → now ≡ record facts { inflows = now.inflows } → AreBegun project standing now
begun-still project standing facts now begun keeps = subst (AreBegun project standing) (sym keeps) (record {
  time = begun.time;
  levels = begun.levels;
  volumes = begun.volumes;
  tanks = begun.tanks;
  links = begun.links;
  changes = begun.changes;
})

-- and are as ready
pub still-ready : (project : Project) (facts : Facts) (inflows : ListView Span) → AreReady project facts
    → length facts.inflows.list + facts.inflows.spare ≤ length inflows.list + inflows.spare
    → AreReady project (record facts { inflows = inflows })
still-ready project facts inflows ready more = record {
  levels = ready.levels;
  volumes = ready.volumes;
  tanks = ready.tanks;
  links = ready.links;
  held = ready.held;
  changes = ready.changes;
  room = record {
    levels = ready.room.levels;
    volumes = ready.room.volumes;
    inflows = (let before = ready.room.inflows in omega (arith, before, more));
    tanks = ready.room.tanks;
    links = ready.room.links;
    changes = ready.room.changes;
    events = ready.room.events;
  };
}
