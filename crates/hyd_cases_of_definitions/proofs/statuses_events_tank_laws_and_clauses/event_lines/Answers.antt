use Rattle.std.proofs.Common.{refl}
use Rattle.hyd_cases_of_definitions.proofs.statuses_events_tank_laws_and_clauses.event_lines.Goals as goal

pub returns : goal.returns
returns c = refl
