use Rattle.std.proofs.Common.{◌≡◌}
use Rattle.hyd_open_stocks.specs.declared.ends_of_contents.End.{End}
use Rattle.hyd_open_stocks.proofs.EndsOneByOne.{of_one, LiesWithin, low_lies, high_lies, both_lie}
use Rattle.hyd_open_stocks.proofs.ends_of_contents.hull.Goals as goal

pub returns-clause-levels : goal.returns-clause-levels
returns-clause-levels c = λ lower upper a b. record {
  lo = of_one (λ (x : End). x.level ≡ lower x.content) c.args.a.lo c.args.b.lo c.lesser.result c.lesser.ensures.one a.lo
      b.lo;
  hi = of_one (λ (x : End). x.level ≡ upper x.content) c.args.a.hi c.args.b.hi c.greater.result c.greater.ensures.one
      a.hi b.hi;
}

pub returns-clause-within : goal.returns-clause-within
returns-clause-within c = λ contents levels a b.
    both_lie contents levels (record { lo = c.lesser.result; hi = c.greater.result })
    (of_one (LiesWithin contents levels) c.args.a.lo c.args.b.lo c.lesser.result c.lesser.ensures.one
    (low_lies contents levels c.args.a a) (low_lies contents levels c.args.b b))
    (of_one (LiesWithin contents levels) c.args.a.hi c.args.b.hi c.greater.result c.greater.ensures.one
    (high_lies contents levels c.args.a a) (high_lies contents levels c.args.b b))
