-- What the answers of a check speak of: a run whose ends of periods may be open, and its room.
pub use Rattle.hyd_open_run.specs.PeriodsOfOpenRuns.{OpenSimView, header_for, standing_of, HasEventRoom}
