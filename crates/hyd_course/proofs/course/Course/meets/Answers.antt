use Rattle.std.proofs.Common.{ℕ, sym, subst}
use Rattle.hyd_spec_witnesses.specs.MetPeriods.{IsMet, after_moment}
use Rattle.hyd_witness_texts.specs.MomentView.{moment_of}
use Rattle.hyd_course.specs.Standings.{StandsAt}
use Rattle.hyd_course.proofs.course.Course.meets.Goals as goal

pub returns-clause-met : goal.returns-clause-met
returns-clause-met c = λ S reached is.
    let project = c.args.project.now in
    let standing = c.args.self.now.standing in
    subst (λ (s : ℕ). IsMet project s reached (moment_of c.args.moment.now)) is.stands.scale
    (c.in_ok-judge.ensures.met reached
    (subst (λ (s : ℕ). StandsAt project s reached standing) (sym is.stands.scale) is.stands))

pub returns-clause-stands : goal.returns-clause-stands
returns-clause-stands c = λ S reached is.
    let project = c.args.project.now in
    let standing = c.args.self.now.standing in
    let moment = moment_of c.args.moment.now in
    let stands = subst (λ (s : ℕ). StandsAt project s reached standing) (sym is.stands.scale) is.stands in
    let met = c.in_ok-judge.ensures.met reached stands in
    record {
      is = record { standing = c.go_on.ensures.is; trial = c.go_on.ensures.trial };
      stands = subst (λ (s : ℕ). StandsAt project s (after_moment project s reached moment) c.go_on.new.self)
          is.stands.scale (c.go_on.ensures.stands reached stands met);
    }
