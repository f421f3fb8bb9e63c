-- The line of each conclusion.
use Rattle.hyd_spread_check_so_far.proofs.last_report_line.put_conclusion.Goals as goal

pub returns-in-Refused : goal.returns-in-Refused
returns-in-Refused g c = rw c.in-Refused.is c.put_refused.ensures

pub returns-in-OtherEnd : goal.returns-in-OtherEnd
returns-in-OtherEnd g c = rw c.in-OtherEnd.is c.put_refused_end.ensures

pub returns-in-Grammar : goal.returns-in-Grammar
returns-in-Grammar g c = rw c.in-Grammar.is c.put_grammar.ensures

pub returns-in-Counts : goal.returns-in-Counts
returns-in-Counts g c = rw c.in-Counts.is c.put_counts.ensures
