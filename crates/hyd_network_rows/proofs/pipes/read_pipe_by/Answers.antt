use Rattle.std.proofs.Common.{rules}
use Rattle.hyd_option_and_rule_lines.specs.FaultOrValue.{words_at}
use Rattle.hyd_network_rows.proofs.pipes.read_pipe_by.Goals as goal

pub returns : goal.returns
returns c =
    let all = words_at c.args.text.now c.args.line.now in
    let first = c.first_words-words.ensures in
    let ends = c.read_ends.ensures all first in
    let length = c.needed_within.ensures all 3 (c.word.ensures all first) in
    let diameter = c.needed_within-2.ensures all 4 (c.word-2.ensures all first) in
    let roughness = c.roughness.ensures all (c.word-3.ensures all first) in
    let seventh = c.word-seventh.ensures all first in
    let eighth = c.word-eighth.ensures all first in
    let alone = c.has_status_alone-alone.ensures all seventh eighth in
    let minor = c.minor.ensures all seventh alone in
    let status = c.check_status.ensures all eighth in
    search rules
