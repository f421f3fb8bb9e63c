use Rattle.std.proofs.Common.{List, subst}
use Rattle.std.specs.Prelude.{OnOk, map}
use Rattle.hyd_spec_certificates.specs.SpansAsIntervals.{levels_of}
use Rattle.hyd_spec_certificates.specs.Valid.{ControlsAreDecided}
use Rattle.hyd_spec_certificates.specs.declared.LevelSpan.{LevelSpan}
use Rattle.hyd_open_tanks.proofs.following.follow_over.Goals as goal

pub returns-clause-controls : goal.returns-clause-controls
returns-clause-controls c =
    subst (λ (levels : List LevelSpan). OnOk c.put_settled.result
    (ControlsAreDecided c.args.project.now (map levels_of levels))) c.as_slice.ensures c.put_settled.ensures.controls
