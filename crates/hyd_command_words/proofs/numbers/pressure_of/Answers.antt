use Rattle.std.proofs.Common.{◌≡◌, Err}
use Rattle.hyd_num.specs.declared.decimals.NumFault.TheVariants.{TooLarge}
use Rattle.hyd_command_words.proofs.PressureLemmas.{too_large}
use Rattle.hyd_command_words.proofs.numbers.pressure_of.Goals as goal

pub returns-in-Err-TooLarge-clause-pressure : goal.returns-in-Err-TooLarge-clause-pressure
returns-in-Err-TooLarge-clause-pressure c =
    let is : c.read_decimal.result ≡ Err TooLarge = cc in
    too_large c.args.text.now ((c.read_decimal.ensures.too_large.0 is).1)
