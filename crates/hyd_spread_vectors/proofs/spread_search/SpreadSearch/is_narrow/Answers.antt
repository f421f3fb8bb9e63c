use Rattle.std.proofs.Common.{◌≡◌, map, sym, ap, arith, to_z, of_z, w64}
use Rattle.std.proofs.lemmas.Int.{ints}
use Rattle.hyd_spec_certificates.specs.SpansAsIntervals.{levels_of}
use Rattle.hyd_spread_vectors.specs.VectorsOfBothNetworks.{SpreadRoom, held_in}
use Rattle.hyd_spread_vectors.proofs.CloseVectors.{holds-again}
use Rattle.hyd_spread_vectors.proofs.spread_search.SpreadSearch.is_narrow.Goals as goal

pub returns-then-is_close-clause-wide : goal.returns-then-is_close-clause-wide
returns-then-is_close-clause-wide c = λ e is.
    let width : c.args.width ≡ to_z w64 (of_z w64 c.args.width) = omega (arith, ints) in
    let own = held_in c.self.inside.above c.self.inside.below in
    c.is_close-then-is_close.ensures.wide e
    (holds-again c.args.width (to_z w64 (of_z w64 c.args.width)) (map levels_of c.args.levels.now)
    c.args.self.now.held own width (sym (ap (λ (r : SpreadRoom). r.held) c.self.view_is)) is).below

pub returns-else-is_close-clause-wide : goal.returns-else-is_close-clause-wide
returns-else-is_close-clause-wide c = λ e is.
    let width : c.args.width ≡ to_z w64 (of_z w64 c.args.width) = omega (arith, ints) in
    let own = held_in c.self.inside.above c.self.inside.below in
    c.is_close.ensures.wide c.if-is_close.false
    (holds-again c.args.width (to_z w64 (of_z w64 c.args.width)) (map levels_of c.args.levels.now)
    c.args.self.now.held own width (sym (ap (λ (r : SpreadRoom). r.held) c.self.view_is)) is).above
