use Rattle.std.proofs.Common.{rules}
use Rattle.hyd_io.proofs.MovedBytesLemmas.{put_out_nothing}
use Rattle.hyd_io.proofs.output.Pen.put.Goals as goal

pub returns-in-Some : goal.returns-in-Some
returns-in-Some g c = record {
  moves = search rules;
  front = put_out_nothing _ _;
  to_stays = search rules;
  no_fault = search rules;
  keeps_fault = search rules;
  again = search rules;
  does_nothing = search rules;
  cause = search rules;
  steady = search rules;
  never_fall = search rules;
  report_files = search rules;
  report_written = search rules;
  cert_printed = search rules;
  others = search rules;
  still_told = search rules;
  rest_stays = search rules;
  target_stays = search rules;
  ready_stays = search rules;
  openings_stay = search rules;
}
