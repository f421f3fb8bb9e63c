-- A fault of the run, said of the moment before its file was created.
use Rattle.std.proofs.Common.{◌≡◌, subst, rules}
use Rattle.hyd_io.specs.declared.desk.Faults.{Faults}
use Rattle.hyd_run.specs.Pens.{OneRose}
use Rattle.hyd_as_library.proofs.run_with.Goals as goal

pub returns-in-Err-clause-cause : goal.returns-in-Err-clause-cause
returns-in-Err-clause-cause c =
    let steady : c.create.new.self.counts ≡ c.args.desk.now.counts = search rules in (
      c.in-Err.field-0,
      subst (λ (n : Faults). OneRose c.in-Err.field-0 n c.put_run.new.desk.counts) steady
          c.in-Err.ensures.cause,
    )
