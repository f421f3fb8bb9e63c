use Rattle.std.proofs.Common.{◌≡◌, ◌∙◌, true, sym}
use Rattle.hyd_command_words.specs.NamesOfLinks.{are_names, most_names, names_between_commas}
use Rattle.hyd_command_words.proofs.NamesBetweenCommas.{are_few, do_differ}
use Rattle.hyd_command_words.proofs.names_of_links.names_in.Goals as goal

pub invariant_of-result : goal.invariant_of-result
invariant_of-result c =
    let are : are_names most_names (names_between_commas c.args.ids.now) ≡ true =
    sym c.are_names.ensures ∙ c.if-not-are_names.false in
    record {
      few = are_few most_names (names_between_commas c.args.ids.now) are;
      distinct = do_differ most_names (names_between_commas c.args.ids.now) are;
    }
