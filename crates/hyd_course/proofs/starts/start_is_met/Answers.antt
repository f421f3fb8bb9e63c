use Rattle.std.proofs.Common.{◌≡◌, arith}
use Rattle.hyd_laws_at_scale.specs.Scales.{parts_of}
use Rattle.hyd_witness_texts.specs.MomentView.{moment_of}
use Rattle.hyd_course.proofs.StandingsAndStarts.{first_yes, first_no, further_yes, further_no}
use Rattle.hyd_course.proofs.starts.start_is_met.Goals as goal

pub returns-in-None-clause-yes : goal.returns-in-None-clause-yes
returns-in-None-clause-yes c = λ reached stands.
    let standing = c.args.standing.now in
    let moment = moment_of c.args.moment.now in
    let number : moment.number ≡ reached.count = (let count = stands.count in omega (arith, count)) in
    first_yes c.args.project.now (parts_of standing.scale) reached.count moment c.requires.moment standing
    c.begins.result reached.last stands.last c.in-None.is number c.begins.ensures.yes

pub returns-in-None-clause-no : goal.returns-in-None-clause-no
returns-in-None-clause-no c = λ reached stands.
    let standing = c.args.standing.now in
    first_no c.args.project.now (parts_of standing.scale) reached.count (moment_of c.args.moment.now)
    c.requires.moment standing c.begins.result reached.last stands.last c.in-None.is c.begins.ensures.no

pub returns-in-Some-clause-yes : goal.returns-in-Some-clause-yes
returns-in-Some-clause-yes c = λ reached stands.
    let standing = c.args.standing.now in
    let moment = moment_of c.args.moment.now in
    let number : moment.number ≡ reached.count = (let count = stands.count in omega (arith, count)) in
    further_yes c.args.project.now (parts_of standing.scale) reached.count moment c.requires.moment standing
    c.follows.result reached.last c.in-Some.last stands.last c.in-Some.is number c.follows.ensures.yes

pub returns-in-Some-clause-no : goal.returns-in-Some-clause-no
returns-in-Some-clause-no c = λ reached stands.
    let standing = c.args.standing.now in
    further_no c.args.project.now (parts_of standing.scale) reached.count (moment_of c.args.moment.now)
    c.requires.moment standing c.follows.result reached.last c.in-Some.last stands.last c.in-Some.is
    c.follows.ensures.no
