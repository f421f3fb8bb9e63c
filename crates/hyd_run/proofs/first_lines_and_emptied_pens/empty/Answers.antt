-- All that was held went out.
use Rattle.hyd_run.proofs.PenLemmas.{flush-moves, flush-front}
use Rattle.hyd_run.proofs.first_lines_and_emptied_pens.empty.Goals as goal

pub returns-clause-puts : goal.returns-clause-puts
returns-clause-puts g c = let e = c.flush.ensures in record {
  moves = flush-moves c.flush.result _ _ _ _ e.whole e.empty;
  front = flush-front c.flush.result _ _ _ e.front;
  to_stays = e.to_stays;
  no_fault = e.no_fault;
  keeps_fault = e.keeps_fault;
  again = e.again;
  does_nothing = e.does_nothing;
  cause = e.cause;
  steady = e.steady;
  never_fall = e.never_fall;
  report_files = e.report_files;
  report_written = e.report_written;
  cert_printed = e.cert_printed;
  others = e.others;
  still_told = e.still_told;
  rest_stays = e.rest_stays;
  target_stays = e.target_stays;
  ready_stays = e.ready_stays;
  openings_stay = e.openings_stay;
}
