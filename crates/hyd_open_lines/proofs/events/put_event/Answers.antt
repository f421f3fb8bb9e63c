-- Its pieces are the line.
use Rattle.std.proofs.Common.{◌∙◌}
use Rattle.hyd_io.proofs.PutLemmas.{puts_same}
use Rattle.hyd_open_lines.proofs.ClockWords.{event_pieces}
use Rattle.hyd_open_lines.proofs.events.put_event.Goals as goal

pub returns : goal.returns
returns g c =
    puts_same _ _ _ _ _ _ _
    (event_pieces c.args.project.now c.args.at.first c.args.at.late c.args.event.now.tank c.args.event.now.what
    c.as_slice.ensures (c.bytes.ensures ∙ c.clock-first.ensures.text) (c.bytes-2.ensures ∙ c.last_of-last.ensures)
    c.tank_id.ensures (c.bytes-3.ensures ∙ c.event_text-what.ensures))
    c.put_pieces.ensures
