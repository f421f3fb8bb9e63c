use Rattle.std.proofs.Common.{◌≡◌, ℕ, inl, refl, subst, arith}
use Rattle.hyd_spec_certificates.specs.Decided.{IsClockLength}
use Rattle.hyd_spec_open_ends.specs.OpenEnds.{AreSeconds}
use Rattle.hyd_open_watches.proofs.SecondsOfWatched.{seconds_are, clock_in_time, flows_in_order}
use Rattle.hyd_open_watches.proofs.seconds.find_seconds.Goals as goal

pub returns-clause-seconds : goal.returns-clause-seconds
returns-clause-seconds c = λ grid standing row started.
    let project = c.args.project.now in
    let facts = c.args.facts.now in
    let clock = subst (λ (t : ℕ). IsClockLength project t c.clock_length.result) started.time
    c.clock_length.ensures.length in
    let are = seconds_are project c.requires.sound grid standing row facts started c.requires.there
    (λ k tank at. flows_in_order facts.inflows.list k)
    c.seconds_to_instant-cap.result c.clock_length.result c.level_ends-ends.result.earliest
    c.level_ends-ends.result.latest c.requires.before_end c.seconds_to_instant-cap.ensures.seconds
    c.clock_length.ensures.length
    (c.level_ends-ends.ensures.earliest grid standing row started clock)
    (c.level_ends-ends.ensures.latest grid standing row started clock) in
    let most = are.is_latest.least c.seconds_to_instant-cap.result (inl refl) in
    let lesser = c.min.ensures in
    let same : c.level_ends-ends.result.latest ≡ c.min.result = omega (arith, lesser, most) in
    subst (AreSeconds project grid standing row c.seconds_to_instant-cap.result c.level_ends-ends.result.earliest) same
    are

pub returns-clause-in_time : goal.returns-clause-in_time
returns-clause-in_time c =
    let most = c.level_ends-ends.ensures.within in
    let before = clock_in_time c.args.project.now c.args.facts.now.time c.seconds_to_instant-cap.result
    c.clock_length.result c.seconds_to_instant-cap.ensures.seconds c.clock_length.ensures.length in
    omega (arith, most, before)

pub returns-clause-late_in_time : goal.returns-clause-late_in_time
returns-clause-late_in_time c = let lesser = c.min.ensures in omega (arith, lesser)
