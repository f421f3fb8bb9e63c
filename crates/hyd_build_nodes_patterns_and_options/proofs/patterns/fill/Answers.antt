use Rattle.std.proofs.Common.{map}
use Rattle.hyd_num.specs.Numeral.{nano_of}
use Rattle.hyd_spec_lines.specs.WordsOfLines.{words_in}
use Rattle.hyd_build_nodes_patterns_and_options.proofs.PatternLemmas.{filled}
use Rattle.hyd_build_nodes_patterns_and_options.proofs.patterns.fill.Goals as goal

pub returns : goal.returns
returns c = filled c.args.patterns.now.items c.args.number c.index_mut-pattern.result.now
    (record { multipliers = c.append.new.multipliers }) (map nano_of (words_in c.args.words.now))
    c.requires.within c.index_mut-pattern.ensures.value c.in_ok-append.ensures
