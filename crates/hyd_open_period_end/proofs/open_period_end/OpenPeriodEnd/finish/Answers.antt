use Rattle.std.proofs.Common.{◌≡◌, ◌≤◌, ℕ, refl, sym, ap, subst, ◌∙◌, arith}
use Rattle.std.specs.Prelude.{map}
use Rattle.std.specs.Option.{option_map}
use Rattle.hyd_spec_certificates.specs.SpansAsIntervals.{levels_of}
use Rattle.hyd_spec_certificates.specs.RecordAndStanding.{Record}
use Rattle.hyd_spec_open_ends.specs.OpenStandings.{OpenRecord}
use Rattle.hyd_spec_open_ends.specs.OpenEnds.{shortest_length, late_at_end}
use Rattle.hyd_spec_open_refusals.specs.RefusedOpenRecords.{lasting}
use Rattle.hyd_cert.specs.declared.record.Record.{Record as Row}
use Rattle.hyd_open_certificates.specs.declared.open_row.OpenRow.{OpenRow}
use Rattle.hyd_period_end.specs.OpenMatters.{SharesVectors}
use Rattle.hyd_period_end.proofs.EndedPeriods.{started-changed, started-shared, read-shared}
use Rattle.hyd_open_ends.specs.Ways.{way_of}
use Rattle.hyd_open_watches.specs.Candidates.{watch_for}
use Rattle.hyd_open_period_end.specs.declared.open_period_end.OpenPeriodEnd.{OpenPeriodEnd}
use Rattle.hyd_open_period_end.proofs.EndedOpenPeriods.{closed-of, open-at-levels, left-open, matter-open}
use Rattle.hyd_open_period_end.proofs.EndedOpenPeriods.{no-matter, other-lengths, short-fits}
use Rattle.hyd_open_period_end.proofs.PeriodsLookedAt.{started-of, looked-shared}
use Rattle.hyd_open_period_end.proofs.open_period_end.OpenPeriodEnd.finish.Goals as goal

pub returns-in-Err-clause-open : goal.returns-in-Err-clause-open
returns-in-Err-clause-open c = λ grid standing other late begun looked.
    let project = c.args.project.now in
    c.open_end.ensures project grid standing c.args.slack other
    (c.in-Err.ensures.open grid standing other.row
    (started-of project grid standing.known c.args.facts.now c.args.self.now.readings begun other.row looked) late
    looked.read)

pub returns-in-Err-clause-stops : goal.returns-in-Err-clause-stops
returns-in-Err-clause-stops c = λ grid standing other late begun looked tight.
    let project = c.args.project.now in
    left-open project grid standing c.args.slack other.row tight c.open_end.result
    (λ each share. returns-in-Err-clause-open c grid standing each late begun
    (looked-shared project grid c.args.facts.now c.args.self.now.readings other.row each.row share
    looked))

pub returns-in-Err-clause-matter : goal.returns-in-Err-clause-matter
returns-in-Err-clause-matter c = λ wide grid standing other late begun looked.
    let earlier = c.requires.before_end in
    let begins = begun.time in
    matter-open c.args.project.now grid standing c.args.slack c.requires.sound (omega (arith, earlier, begins)) wide
    other c.open_end.result (returns-in-Err-clause-open c grid standing other late begun looked)

-- what is asked of the lengths

pub follow-requires-clause-shortest : goal.follow-requires-clause-shortest
follow-requires-clause-shortest c =
    let project = c.args.project.now in
    let is = c.requires.begins in
    let of = c.requires.looked in
    let begun = is.begun.time in
    let earlier = c.requires.before_end in
    short-fits project c.requires.sound of.grid is.standing of.row (omega (arith, earlier, begun))
    (way_of c.in-Ok.way) (c.in-Ok.ensures.ends of.grid is.standing of.row
    (started-of project of.grid is.standing.known c.args.facts.now c.args.self.now.readings is.begun of.row of.looked)
    is.late_is of.looked.read) c.args.late
    c.lengths_of-lengths.result.shortest is.late_is c.lengths_of-lengths.ensures.shortest

pub tell_end-requires-clause-shortest : goal.tell_end-requires-clause-shortest
tell_end-requires-clause-shortest c =
    let project = c.args.project.now in
    let is = c.requires.begins in
    let of = c.requires.looked in
    let begun = is.begun.time in
    let earlier = c.requires.before_end in
    short-fits project c.requires.sound of.grid is.standing of.row (omega (arith, earlier, begun))
    (way_of c.in-Ok.way) (c.in-Ok.ensures.ends of.grid is.standing of.row
    (started-of project of.grid is.standing.known c.args.facts.now c.args.self.now.readings is.begun of.row of.looked)
    is.late_is of.looked.read) c.args.late
    c.lengths_of-lengths.result.shortest is.late_is c.lengths_of-lengths.ensures.shortest

-- where what follows is open

pub returns-in-Err-follow-clause-open : goal.returns-in-Err-follow-clause-open
returns-in-Err-follow-clause-open c = λ grid standing other late begun looked.
    let project = c.args.project.now in
    let facts = c.args.facts.now in
    let row = other.row in
    let way = way_of c.in-Ok.way in
    let reached = option_map watch_for c.reached_at-reached.result in
    let there : OpenRecord = lasting standing other way in
    let shared : SharesVectors there.row row = record { main = refl; pinned = refl } in
    let started = started-of project grid standing.known facts c.args.self.now.readings begun row looked in
    open-at-levels project grid standing c.args.slack other way reached (map levels_of c.follow.new.next.levels.list)
    c.in-Err-follow.what
    (subst (λ (n : ℕ). late_at_end n way ≤ c.args.slack) (sym late) c.in-Ok.ensures.within)
    (λ each same. c.in-Ok.ensures.ends grid standing each
    (started-shared project grid standing.known row each facts same started) late
    (read-shared project grid standing.known row each _ _ _ same looked.read))
    (λ each same. c.reached_at-reached.ensures.arrives grid standing.known each
    (started-changed project grid standing.known each facts c.decide_end.new.facts c.decide_end.ensures.keeps
    (started-shared project grid standing.known row each facts same started)))
    (c.follow.ensures.levels grid standing.known there
    (started-changed project grid standing.known there.row facts c.decide_end.new.facts c.decide_end.ensures.keeps
    (started-shared project grid standing.known row there.row facts shared started))
    (ap (λ (n : ℕ). shortest_length n way) late ∙ sym c.lengths_of-lengths.ensures.shortest)
    (sym c.lengths_of-lengths.ensures.longest))
    c.in-Err-follow.ensures.open

pub returns-in-Err-follow-clause-stops : goal.returns-in-Err-follow-clause-stops
returns-in-Err-follow-clause-stops c = λ grid standing other late begun looked tight.
    let project = c.args.project.now in
    left-open project grid standing c.args.slack other.row tight c.in-Err-follow.what
    (λ each share. returns-in-Err-follow-clause-open c grid standing each late begun
    (looked-shared project grid c.args.facts.now c.args.self.now.readings other.row each.row share
    looked))

pub returns-in-Err-follow-clause-matter : goal.returns-in-Err-follow-clause-matter
returns-in-Err-follow-clause-matter c = λ wide grid standing other late begun looked.
    let earlier = c.requires.before_end in
    let begins = begun.time in
    matter-open c.args.project.now grid standing c.args.slack c.requires.sound (omega (arith, earlier, begins)) wide
    other c.in-Err-follow.what (returns-in-Err-follow-clause-open c grid standing other late begun looked)

-- where all is decided

pub returns-clause-decided : goal.returns-clause-decided
returns-clause-decided c = λ grid standing other late begun looked.
    let project = c.args.project.now in
    let facts = c.args.facts.now in
    let way = way_of c.in-Ok.way in
    let there : OpenRecord = lasting standing other way in
    let shared : SharesVectors there.row other.row = record { main = refl; pinned = refl } in
    let started = started-of project grid standing.known facts c.args.self.now.readings begun other.row looked in
    let changed = started-changed project grid standing.known other.row facts c.decide_end.new.facts
    c.decide_end.ensures.keeps started in
    let after = started-changed project grid standing.known there.row facts c.decide_end.new.facts
    c.decide_end.ensures.keeps (started-shared project grid standing.known other.row there.row facts shared started) in
    no-matter project grid standing other way
    (c.in-Ok.ensures.ends grid standing other.row started late looked.read)
    (option_map watch_for c.reached_at-reached.result)
    (c.reached_at-reached.ensures.arrives grid standing.known other.row changed)
    (map levels_of c.follow.new.next.levels.list)
    (c.follow.ensures.levels grid standing.known there after
    (ap (λ (n : ℕ). shortest_length n way) late ∙ sym c.lengths_of-lengths.ensures.shortest)
    (sym c.lengths_of-lengths.ensures.longest))
    c.follow.new.next.tanks.list c.in_default.ensures.states c.in_default.ensures.controls

pub returns-clause-lengths : goal.returns-clause-lengths
returns-clause-lengths c = λ grid standing other late begun looked.
    let project = c.args.project.now in
    let way = way_of c.in-Ok.way in
    other-lengths project grid standing other way
    (c.in-Ok.ensures.ends grid standing other.row
    (started-of project grid standing.known c.args.facts.now c.args.self.now.readings begun other.row looked) late
    looked.read)
    c.lengths_of-lengths.result.shortest c.put_longest.new.row.length
    (c.lengths_of-lengths.ensures.shortest ∙ ap (λ (n : ℕ). shortest_length n way) (sym late))
    (ap (λ (r : Row). r.length) c.put_longest.ensures ∙ c.lengths_of-lengths.ensures.longest)

pub returns-clause-closed : goal.returns-clause-closed
returns-clause-closed c = λ grid standing other late begun looked shortest length.
    let project = c.args.project.now in
    let facts = c.args.facts.now in
    let way = way_of c.in-Ok.way in
    let reached = option_map watch_for c.reached_at-reached.result in
    let longest : other.row.length ≡ c.lengths_of-lengths.result.longest =
    length ∙ ap (λ (r : Row). r.length) c.put_longest.ensures in
    let started = started-of project grid standing.known facts c.args.self.now.readings begun other.row looked in
    let changed = started-changed project grid standing.known other.row facts c.decide_end.new.facts
    c.decide_end.ensures.keeps started in
    let earlier = c.requires.before_end in
    let begins = begun.time in
    let close : OpenPeriodEnd = record {
      readings = c.args.self.now.readings;
      carried = c.tell_end.new.carried;
      values = c.decide_end.new.values;
      commanded = c.decide_end.new.commanded;
      next = c.follow.new.next;
      first = c.first_end-self.result;
      late = c.late_at_end-self.result;
      opened = c.tell_end.new.opened;
    } in
    closed-of project c.requires.sound grid standing other way reached (omega (arith, earlier, begins))
    (c.in-Ok.ensures.ends grid standing other.row started late looked.read)
    (c.reached_at-reached.ensures.arrives grid standing.known other.row changed)
    facts c.decide_end.new.facts c.tell_end.new.facts close
    (shortest ∙ c.lengths_of-lengths.ensures.shortest ∙ ap (λ (n : ℕ). shortest_length n way) (sym late))
    (longest ∙ c.lengths_of-lengths.ensures.longest) begun started c.decide_end.ensures.keeps
    c.tell_end.ensures.keeps (c.in-Ok.ensures.links grid standing other.row started late looked.read)
    (c.in-Ok.ensures.changes grid standing other.row started late looked.read)
    (λ none. c.tell_end.ensures.known none grid standing.known other changed shortest longest)
    (λ some. c.tell_end.ensures.open some grid standing.known other changed shortest longest)
    (c.follow.ensures.levels grid standing.known other changed shortest longest)
    (c.follow.ensures.volumes grid standing.known other changed shortest longest)
    c.in_default.ensures.states c.in_default.ensures.controls c.first_end-self.ensures
    (c.late_at_end-self.ensures ∙ ap (λ (n : ℕ). late_at_end n way) (sym late))

pub returns-clause-row : goal.returns-clause-row
returns-clause-row c =
    let before : Row = c.args.found.now.row in
    let put : c.put_longest.new.row ≡ record before { length = c.lengths_of-lengths.result.longest } =
    c.put_longest.ensures in
    ap (λ (r : Row). let f : OpenRow = record {
      row = r;
      late = c.args.found.now.late;
      shortest = c.lengths_of-lengths.result.shortest;
    } in f)
    (put ∙ ap (λ (n : ℕ). let r : Row = record before { length = n } in r) (sym (ap (λ (r : Row). r.length) put)))
