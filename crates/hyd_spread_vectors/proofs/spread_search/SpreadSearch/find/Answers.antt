use Rattle.std.proofs.Common.{sym, ap, ◌∙◌, length}
use Rattle.hyd_spec_certificates.specs.declared.Side.TheVariants.{Upper, Lower}
use Rattle.hyd_cert.specs.Lines.{Header}
use Rattle.hyd_cert.specs.RecordView.{row_of}
use Rattle.hyd_period_network.specs.NetAsPeriodNetwork.{grid_of}
use Rattle.hyd_period_vectors.specs.SizeOfSearch.{Room}
use Rattle.hyd_spread_vectors.specs.VectorsOfBothNetworks.{SpreadRoom, Told, pair_of, held_in}
use Rattle.hyd_spread_vectors.proofs.FoundOnBoth.{found-on, found-both, held-here, sought-over, comes-over}
use Rattle.hyd_spread_vectors.proofs.FoundOnBoth.{sought-alike, comes-alike}
use Rattle.hyd_spread_vectors.proofs.spread_search.SpreadSearch.find.Goals as goal

pub search_on-requires-clause-room : goal.search_on-requires-clause-room
search_on-requires-clause-room g c =
    ap (λ (r : SpreadRoom). r.junctions) c.self.view_is ∙ (c.requires.junctions ∙ c.requires.above.junctions)

pub search_on-requires-clause-fits : goal.search_on-requires-clause-fits
search_on-requires-clause-fits g c = record {
  junctions = ap (λ (h : Header). h.junctions) c.self.invariant.header_above
      ∙ (ap (λ (r : SpreadRoom). r.junctions) c.self.view_is ∙ (c.requires.junctions ∙ c.requires.above.junctions));
  tanks = ap (λ (r : SpreadRoom). r.tanks) c.self.view_is ∙ (c.requires.tanks ∙ c.requires.above.tanks);
}

pub search_below-requires-clause-room : goal.search_below-requires-clause-room
search_below-requires-clause-room g c =
    ap (λ (r : Room). r.junctions) c.search_on.ensures.keeps
    ∙ (ap (λ (r : SpreadRoom). r.junctions) c.self.view_is ∙ (c.requires.junctions ∙ c.requires.below.junctions))

pub search_below-requires-clause-fits : goal.search_below-requires-clause-fits
search_below-requires-clause-fits g c = record {
  junctions = ap (λ (h : Header). h.junctions) c.self.invariant.header_below
      ∙ (ap (λ (r : SpreadRoom). r.junctions) c.self.view_is ∙ (c.requires.junctions ∙ c.requires.below.junctions));
  tanks = ap (λ (h : Header). h.tanks) c.self.invariant.header_below
      ∙ (ap (λ (r : SpreadRoom). r.tanks) c.self.view_is ∙ (c.requires.tanks ∙ c.requires.below.tanks));
}

pub write_sides-requires-clause-above : goal.write_sides-requires-clause-above
write_sides-requires-clause-above g c = record {
  junctions = ap (λ (h : Header). h.junctions) c.search_on.ensures.header
      ∙ (ap (λ (h : Header). h.junctions) c.self.invariant.header_above
      ∙ (ap (λ (r : SpreadRoom). r.junctions) c.self.view_is ∙ c.requires.junctions));
  tanks = ap (λ (h : Header). h.tanks) c.search_on.ensures.header
      ∙ (ap (λ (r : SpreadRoom). r.tanks) c.self.view_is ∙ c.requires.tanks);
}

pub write_sides-requires-clause-below : goal.write_sides-requires-clause-below
write_sides-requires-clause-below g c = record {
  junctions = ap (λ (h : Header). h.junctions) c.search_below.ensures.header
      ∙ (ap (λ (h : Header). h.junctions) c.self.invariant.header_below
      ∙ (ap (λ (r : SpreadRoom). r.junctions) c.self.view_is ∙ c.requires.junctions));
  tanks = ap (λ (h : Header). h.tanks) c.search_below.ensures.header
      ∙ (ap (λ (h : Header). h.tanks) c.self.invariant.header_below
      ∙ (ap (λ (r : SpreadRoom). r.tanks) c.self.view_is ∙ c.requires.tanks));
}

pub returns-clause-held : goal.returns-clause-held
returns-clause-held g c =
    let told : Told = record {
      above = g.F.Finder.told c.args.above_finder.now;
      below = g.G.Finder.told c.args.below_finder.now;
    } in
    let pair = pair_of c.args.above.now c.args.below.now in
    let tanks = c.args.self.now.tanks in
    let rounds = c.args.self.now.rounds in
    let above = c.search_on.new.held in
    let below = c.search_below.new.held in
    let here = ap (λ (r : SpreadRoom). r.rounds) c.self.view_is in
    found-both c.args.tight told pair tanks rounds (held_in above below)
    (found-on c.args.tight told pair tanks rounds Upper (length c.args.above.now.tanks) c.self.inside.search.rounds
    (row_of above) (sym c.requires.above.tanks ∙ sym c.requires.tanks) here c.in_ok-search_on.ensures.found
    c.in_ok-search_on.ensures.comes)
    (found-on c.args.tight told pair tanks rounds Lower (length c.args.below.now.tanks) c.search_on.new.search.rounds
    (row_of below) (sym c.requires.below.tanks ∙ sym c.requires.tanks)
    (ap (λ (r : Room). r.rounds) c.search_on.ensures.keeps ∙ here) c.in_ok-search_below.ensures.found
    c.in_ok-search_below.ensures.comes)

pub returns-clause-found : goal.returns-clause-found
returns-clause-found g c =
    let told : Told = record {
      above = g.F.Finder.told c.args.above_finder.now;
      below = g.G.Finder.told c.args.below_finder.now;
    } in
    sought-over c.args.tight told (pair_of c.args.above.now c.args.below.now) c.args.self.now.tanks
    c.args.self.now.rounds (held_in c.search_on.new.held c.search_below.new.held) (row_of c.write_sides.new.row)
    c.args.row.now.tanks (sym c.requires.tanks) c.write_sides.ensures.each (returns-clause-held g c)

pub returns-clause-comes : goal.returns-clause-comes
returns-clause-comes g c =
    let told : Told = record {
      above = g.F.Finder.told c.args.above_finder.now;
      below = g.G.Finder.told c.args.below_finder.now;
    } in
    comes-over c.args.tight told (pair_of c.args.above.now c.args.below.now) c.args.self.now.tanks
    c.args.self.now.rounds (held_in c.search_on.new.held c.search_below.new.held) (row_of c.write_sides.new.row)
    c.args.row.now.tanks (sym c.requires.tanks) c.write_sides.ensures.each (returns-clause-held g c)

pub returns-clause-same : goal.returns-clause-same
returns-clause-same g c =
    let told : Told = record {
      above = g.F.Finder.told c.args.above_finder.now;
      below = g.G.Finder.told c.args.below_finder.now;
    } in
    held-here c.args.tight told (pair_of c.args.above.now c.args.below.now) c.args.self.now.tanks
    c.args.self.now.rounds (held_in c.search_on.new.held c.search_below.new.held) (row_of c.write_sides.new.row)
    c.args.row.now.tanks (sym c.requires.tanks) c.write_sides.ensures.each

pub search_below-requires-clause-counts : goal.search_below-requires-clause-counts
search_below-requires-clause-counts g c = record {
  junctions = ap (λ (h : Header). h.junctions) c.search_on.ensures.header
      ∙ (ap (λ (h : Header). h.junctions) c.self.invariant.header_above
      ∙ sym (ap (λ (h : Header). h.junctions) c.self.invariant.header_below));
  tanks = ap (λ (h : Header). h.tanks) c.search_on.ensures.header
      ∙ (ap (λ (h : Header). h.tanks) c.self.invariant.header_above
      ∙ sym (ap (λ (h : Header). h.tanks) c.self.invariant.header_below));
}

pub search_below-requires-clause-found : goal.search_below-requires-clause-found
search_below-requires-clause-found g c = λ same.
    sought-alike c.args.tight _ _ (grid_of c.args.above.now) (grid_of c.args.below.now)
    (length c.args.above.now.tanks) (length c.args.below.now.tanks) 0 (row_of c.search_on.new.held)
    (c.requires.alike same).1 (c.requires.alike same).0 (sym c.requires.above.tanks ∙ c.requires.below.tanks)
    c.in_ok-search_on.ensures.found

pub search_below-requires-clause-come : goal.search_below-requires-clause-come
search_below-requires-clause-come g c = λ same.
    comes-alike c.args.tight _ _ (grid_of c.args.above.now) (grid_of c.args.below.now)
    (length c.args.above.now.tanks) (length c.args.below.now.tanks) c.self.inside.search.rounds
    (row_of c.search_on.new.held) (c.requires.alike same).1 (c.requires.alike same).0
    (sym c.requires.above.tanks ∙ c.requires.below.tanks) c.search_on.new.search.rounds
    (sym (ap (λ (r : Room). r.rounds) c.search_on.ensures.keeps)) c.in_ok-search_on.ensures.comes
