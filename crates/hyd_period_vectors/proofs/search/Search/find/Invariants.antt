use Rattle.std.proofs.Common.{◌≡◌, ◌+◌, ◌*◌}
use Rattle.std.specs.Prelude.{length}
use Rattle.hyd_period_network.specs.NetAsPeriodNetwork.{grid_of}
use Rattle.hyd_cert.specs.RecordView.{header_of, row_of}
use Rattle.hyd_period_vectors.specs.SoughtVectors.{IsSought, Comes, EachBefore, Stays, Fits}
use Rattle.hyd_period_vectors.proofs.search.Search.find.Given as goal

abbrev pub invariant-loop-tank : goal.invariant-loop-tank
invariant-loop-tank g l = record {
  found : EachBefore (IsSought l.tight (g.F.Finder.told l.fn.finder) (grid_of l.net) (length l.net.tanks))
      (length l.net.tanks) (2 * l.tank + 2) (row_of l.row);
  comes : EachBefore (Comes l.tight (g.F.Finder.told l.fn.finder) (grid_of l.net) (length l.net.tanks) l.fn.self.rounds)
      (length l.net.tanks) (2 * l.tank + 2) (row_of l.row);
  fits : Fits l.net (header_of l.row);
  stays : Stays l.fn.row l.row;
  told : g.F.Finder.told l.finder ≡ g.F.Finder.told l.fn.finder;
  keeps : l.self ≡ l.fn.self;
}
