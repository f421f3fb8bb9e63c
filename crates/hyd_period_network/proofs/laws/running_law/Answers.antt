use Rattle.std.proofs.Common.{w64}
use Rattle.std.proofs.lemmas.Int.{to_z-of_z}
use Rattle.hyd_period_network.proofs.LawsStandForExactLaws.{shut_represents}
use Rattle.hyd_period_network.proofs.laws.running_law.Goals as goal

pub returns-in-Pipe : goal.returns-in-Pipe
returns-in-Pipe c bends = rw c.in-Pipe.is (shut_represents (record {}))

pub returns-in-CheckPipe : goal.returns-in-CheckPipe
returns-in-CheckPipe c bends = rw c.in-CheckPipe.is (shut_represents (record {}))

pub returns-in-Tcv : goal.returns-in-Tcv
returns-in-Tcv c bends = rw c.in-Tcv.is (shut_represents (record {}))

pub returns-in-Fcv : goal.returns-in-Fcv
returns-in-Fcv c bends = rw c.in-Fcv.is (shut_represents (record {}))

pub returns-in-Gpv : goal.returns-in-Gpv
returns-in-Gpv c bends = rw c.in-Gpv.is (shut_represents (record {}))

pub returns-in-Pump : goal.returns-in-Pump
returns-in-Pump c bends = rw c.in-Pump.is (rw (to_z-of_z w64 c.args.speed c.ranges.speed) at c.pump_law.ensures)

pub returns-in-CurvePump : goal.returns-in-CurvePump
returns-in-CurvePump c bends = absurd (rw c.in-CurvePump.is at c.requires.no_curve)
