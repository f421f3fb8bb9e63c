use Rattle.std.proofs.Common.{◌+◌, ◌≤◌, arith}
use Rattle.hyd_units.proofs.Digits.{short_four_places, short_sign}
use Rattle.hyd_units.proofs.decimal_texts.write_decimal.Goals as goal

pub write_four_places-requires : goal.write_four_places-requires
write_four_places-requires c =
    let sign : c.write_sign-start.result ≤ 0 + 1 = short_sign _ c.write_sign-start.ensures in
    omega (arith, c.write_sign-start.auto.out, short_four_places c.unsigned_abs.result c.unsigned_abs.type_inv)
