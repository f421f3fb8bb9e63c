use Rattle.std.proofs.Common.{◌≡◌, Err}
use Rattle.hyd_num.specs.declared.decimals.NumFault.TheVariants.{TooLarge}
use Rattle.hyd_command_words.proofs.WidthLemmas.{too_large}
use Rattle.hyd_command_words.proofs.numbers.width_in_ticks.Goals as goal

pub returns-in-Err-TooLarge : goal.returns-in-Err-TooLarge
returns-in-Err-TooLarge c =
    let is : c.read_decimal.result ≡ Err TooLarge = cc in
    too_large c.args.text.now ((c.read_decimal.ensures.too_large.0 is).1)
