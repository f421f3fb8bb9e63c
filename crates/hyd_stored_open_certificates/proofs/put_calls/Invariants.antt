use Rattle.std.proofs.Common.{◌≡◌}
use Rattle.hyd_io.specs.declared.output.Channel.TheVariants.{Report}
use Rattle.hyd_stored_open_certificates.proofs.put_calls.Given as goal

-- the pen prints
abbrev pub invariant-loop : goal.invariant-loop
invariant-loop l = l.pen.to ≡ Report
