-- A task for which memory ran out has left all as it was.
use Rattle.std.proofs.Common.{Bool, inl, refl}
use Rattle.hyd_io.specs.declared.desk.Openings.{Openings}
use Rattle.hyd_spec.specs.ProgramTypes.{Project}
use Rattle.hyd_command_answers.specs.DeskContents.{Seen, IsUntouched}
use Rattle.hyd_cli.specs.TaskWithNetwork.{DoesTask}
use Rattle.hyd_command_answers.specs.declared.status.Status.TheVariants.{OutOfMemory}
use Rattle.hyd_cli.specs.declared.task_with_network.Task.{Task}
use Rattle.hyd_cli.specs.declared.task_with_network.Task.TheVariants.{Run, Gen}

untouched : (same : Seen) → IsUntouched same same
untouched same = record { files = refl; written = refl; printed = refl }

pub does_nothing : (task : Task) (project : Project) (same : Seen) (openings : Openings) (writable : Bool)
    → DoesTask task project OutOfMemory same same openings openings writable
does_nothing (Run cert settings) project same openings writable = record {
  answers = untouched same;
  others = λ other differs. refl;
  opens_cert = refl;
}
does_nothing (Gen text files) project same openings writable = record {
  answers = untouched same;
  others = λ other net cert. refl;
  once = refl;
  keeps_cert = inl refl;
  keeps_net = inl refl;
}
