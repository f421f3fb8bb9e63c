use Rattle.hyd_period_network.proofs.LawsStandForExactLaws.{shut_represents}
use Rattle.hyd_period_network.proofs.laws.open_law.Goals as goal

pub returns-in-Pipe : goal.returns-in-Pipe
returns-in-Pipe c us bends = rw c.in-Pipe.is c.pipe_law.ensures

pub returns-in-CheckPipe : goal.returns-in-CheckPipe
returns-in-CheckPipe c us bends = rw c.in-CheckPipe.is c.check_law.ensures

pub returns-in-Pump : goal.returns-in-Pump
returns-in-Pump c us bends = rw c.in-Pump.is (shut_represents (record {}))

pub returns-in-CurvePump : goal.returns-in-CurvePump
returns-in-CurvePump c us bends = rw c.in-CurvePump.is (shut_represents (record {}))

pub returns-in-Tcv : goal.returns-in-Tcv
returns-in-Tcv c us bends = rw c.in-Tcv.is c.valve_law.ensures

pub returns-in-Fcv : goal.returns-in-Fcv
returns-in-Fcv c us bends = rw c.in-Fcv.is c.valve_law-in-Fcv.ensures

pub returns-in-Gpv : goal.returns-in-Gpv
returns-in-Gpv c us bends = absurd (rw c.in-Gpv.is at c.requires.no_curve)
