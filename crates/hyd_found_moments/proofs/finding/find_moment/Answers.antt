use Rattle.std.proofs.Common.{◌≡◌, ◌∙◌, ℕ, sym, subst}
use Rattle.std.specs.Bool.{OnTrue, OnFalse}
use Rattle.hyd_spec_witnesses.specs.MetPeriods.{IsMet, after_moment}
use Rattle.hyd_spec_witnesses.specs.MiddleCandidate.{halves}
use Rattle.hyd_witness_texts.specs.MomentView.{moment_of}
use Rattle.hyd_course.specs.Courses.{IsCourseOf}
use Rattle.hyd_found_moments.proofs.finding.find_moment.Goals as goal

-- the course of any scale that stands here is one of halves
pub returns-then-is_in_halves-clause-yes : goal.returns-then-is_in_halves-clause-yes
returns-then-is_in_halves-clause-yes c = λ S reached is.
    let project = c.args.project.now in
    let same : halves ≡ S = sym c.if-is_in_halves.ensures.yes ∙ is.stands.scale in
    subst (λ (s : ℕ). OnTrue c.find_in_halves.result (IsMet project s reached (moment_of c.find_in_halves.new.into)))
    same
    (c.find_in_halves.ensures.yes reached
    (subst (λ (s : ℕ). IsCourseOf project s reached c.args.course.now) (sym same) is))

pub returns-then-is_in_halves-clause-behind : goal.returns-then-is_in_halves-clause-behind
returns-then-is_in_halves-clause-behind c = λ S reached is.
    let project = c.args.project.now in
    let same : halves ≡ S = sym c.if-is_in_halves.ensures.yes ∙ is.stands.scale in
    subst (λ (s : ℕ). OnTrue c.find_in_halves.result (IsCourseOf project s
    (after_moment project s reached (moment_of c.find_in_halves.new.into)) c.find_in_halves.new.course)) same
    (c.find_in_halves.ensures.behind reached
    (subst (λ (s : ℕ). IsCourseOf project s reached c.args.course.now) (sym same) is))

pub returns-then-is_in_halves-clause-stays : goal.returns-then-is_in_halves-clause-stays
returns-then-is_in_halves-clause-stays c = λ S reached is.
    let project = c.args.project.now in
    let same : halves ≡ S = sym c.if-is_in_halves.ensures.yes ∙ is.stands.scale in
    subst (λ (s : ℕ). OnFalse c.find_in_halves.result (IsCourseOf project s reached c.find_in_halves.new.course)) same
    (c.find_in_halves.ensures.stays reached
    (subst (λ (s : ℕ). IsCourseOf project s reached c.args.course.now) (sym same) is))
