-- The line of each end.
use Rattle.hyd_written_witnesses.proofs.lines.put_halt.Goals as goal

pub returns-in-NoMoment : goal.returns-in-NoMoment
returns-in-NoMoment g c = rw c.in-NoMoment.is c.put_none.ensures

pub returns-in-Refused : goal.returns-in-Refused
returns-in-Refused g c = rw c.in-Refused.is c.put_refused.ensures

pub returns-in-RefusedPart : goal.returns-in-RefusedPart
returns-in-RefusedPart g c = rw c.in-RefusedPart.is c.put_refused_flow.ensures

pub returns-in-OtherEnd : goal.returns-in-OtherEnd
returns-in-OtherEnd g c = rw c.in-OtherEnd.is c.put_refused_end.ensures

pub returns-in-Grammar : goal.returns-in-Grammar
returns-in-Grammar g c = rw c.in-Grammar.is c.put_grammar.ensures

pub returns-in-Counts : goal.returns-in-Counts
returns-in-Counts g c = rw c.in-Counts.is c.put_counts.ensures
