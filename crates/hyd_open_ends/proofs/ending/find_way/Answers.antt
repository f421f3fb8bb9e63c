use Rattle.hyd_spec_certificates.specs.PeriodNetwork.{Grid}
use Rattle.hyd_spec_certificates.specs.RecordAndStanding.{Record}
use Rattle.hyd_open_ends.proofs.EndsBySeconds.{if_ok, if_err}
use Rattle.hyd_open_ends.proofs.ending.find_way.Goals as goal

pub returns-in-None-clause-ends : goal.returns-in-None-clause-ends
returns-in-None-clause-ends c = if_ok _ _ c.without_rules.result
    (λ way ends grid standing row started open_by read.
    ends c.args.project.now grid standing row c.last_tried-last.result
    (record {
      late_is = open_by;
      seconds_are = c.find_seconds-seconds.ensures.seconds grid standing.known row started;
      last_is = c.last_tried-last.ensures.last;
    }) (c.in-None.ensures.none grid standing row started open_by read)) c.without_rules.ensures.ends

pub returns-in-None-clause-open : goal.returns-in-None-clause-open
returns-in-None-clause-open c = if_err _ _ c.without_rules.result
    (λ found opens grid standing row started open_by read.
    opens c.args.project.now grid standing row c.last_tried-last.result
    (record {
      late_is = open_by;
      seconds_are = c.find_seconds-seconds.ensures.seconds grid standing.known row started;
      last_is = c.last_tried-last.ensures.last;
    }) (c.in-None.ensures.none grid standing row started open_by read)) c.without_rules.ensures.open

pub returns-in-Some-clause-ends : goal.returns-in-Some-clause-ends
returns-in-Some-clause-ends c = if_ok _ _ c.with_rules.result
    (λ way ends grid standing row started open_by read.
    (ends c.args.project.now grid standing row c.args.slack c.last_tried-last.result c.args.facts.now.changes.list
    c.first_matter.new.facts.changes.list c.first_matter.new.links
    (record {
      late_is = open_by;
      seconds_are = c.find_seconds-seconds.ensures.seconds grid standing.known row started;
      last_is = c.last_tried-last.ensures.last;
    }) (c.in-Some.ensures.some grid standing row started open_by read)).ends) c.with_rules.ensures.ends

pub returns-in-Some-clause-links : goal.returns-in-Some-clause-links
returns-in-Some-clause-links c = if_ok _ _ c.with_rules.result
    (λ way ends grid standing row started open_by read.
    (ends c.args.project.now grid standing row c.args.slack c.last_tried-last.result c.args.facts.now.changes.list
    c.first_matter.new.facts.changes.list c.first_matter.new.links
    (record {
      late_is = open_by;
      seconds_are = c.find_seconds-seconds.ensures.seconds grid standing.known row started;
      last_is = c.last_tried-last.ensures.last;
    }) (c.in-Some.ensures.some grid standing row started open_by read)).links_are) c.with_rules.ensures.ends

pub returns-in-Some-clause-changes : goal.returns-in-Some-clause-changes
returns-in-Some-clause-changes c = if_ok _ _ c.with_rules.result
    (λ way ends grid standing row started open_by read.
    (ends c.args.project.now grid standing row c.args.slack c.last_tried-last.result c.args.facts.now.changes.list
    c.first_matter.new.facts.changes.list c.first_matter.new.links
    (record {
      late_is = open_by;
      seconds_are = c.find_seconds-seconds.ensures.seconds grid standing.known row started;
      last_is = c.last_tried-last.ensures.last;
    }) (c.in-Some.ensures.some grid standing row started open_by read)).changes_are) c.with_rules.ensures.ends

pub returns-in-Some-clause-open : goal.returns-in-Some-clause-open
returns-in-Some-clause-open c = if_err _ _ c.with_rules.result
    (λ found opens grid standing row started open_by read.
    opens c.args.project.now grid standing row c.args.slack c.last_tried-last.result c.args.facts.now.changes.list
    c.first_matter.new.facts.changes.list c.first_matter.new.links
    (record {
      late_is = open_by;
      seconds_are = c.find_seconds-seconds.ensures.seconds grid standing.known row started;
      last_is = c.last_tried-last.ensures.last;
    }) (c.in-Some.ensures.some grid standing row started open_by read)) c.with_rules.ensures.open
