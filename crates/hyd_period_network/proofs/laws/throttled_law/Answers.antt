use Rattle.hyd_period_network.proofs.LawsStandForExactLaws.{shut_represents}
use Rattle.hyd_period_network.proofs.laws.throttled_law.Goals as goal

pub returns-in-Pipe : goal.returns-in-Pipe
returns-in-Pipe c us bends nano = rw c.in-Pipe.is (shut_represents (record {}))

pub returns-in-CheckPipe : goal.returns-in-CheckPipe
returns-in-CheckPipe c us bends nano = rw c.in-CheckPipe.is (shut_represents (record {}))

pub returns-in-Pump : goal.returns-in-Pump
returns-in-Pump c us bends nano = rw c.in-Pump.is (shut_represents (record {}))

pub returns-in-CurvePump : goal.returns-in-CurvePump
returns-in-CurvePump c us bends nano = rw c.in-CurvePump.is (shut_represents (record {}))

pub returns-in-Fcv : goal.returns-in-Fcv
returns-in-Fcv c us bends nano = rw c.in-Fcv.is (shut_represents (record {}))

pub returns-in-Gpv : goal.returns-in-Gpv
returns-in-Gpv c us bends nano = rw c.in-Gpv.is (shut_represents (record {}))

pub returns-in-Tcv : goal.returns-in-Tcv
returns-in-Tcv c us bends nano = rw c.in-Tcv.is c.valve_law.ensures
