-- A record as the calls are given it: for a net of its junctions, certified on the net's grid.
use Rattle.std.specs.Prelude.{◌≡◌, length}
use Rattle.hyd_cert.specs.RecordView.{row_of}
use Rattle.hyd_cert.specs.declared.record.Record.{Record}
use Rattle.hyd_period_network.specs.NetAsPeriodNetwork.{grid_of}
use Rattle.hyd_period_network.specs.NetView.{NetView}
use Rattle.hyd_theorems_on_flows.specs.RecordOnGrid.{IsCertified}

-- The record has as many junctions as the net, and its vectors with all tanks alike are certificates there.
pub record IsGiven (net : NetView) (row : Record) : Type 0 where
  pub junctions : row.junctions ≡ length net.junctions
  pub certified : IsCertified (grid_of net) (row_of row)
