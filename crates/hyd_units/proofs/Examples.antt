-- What the definitions say of a few numbers.
use Rattle.std.proofs.Common.{◌≡◌, refl, pos, negsuc, codes}
use Rattle.std.specs.Fmt.{digits}
use Rattle.hyd_num.specs.PrintedDecimals.{decimal_text, setting_text, fixed_point}

zero_has_no_sign : decimal_text (pos 0) ≡ codes "0.0000"
unfolding fixed_point digits
zero_has_no_sign = refl

least_below_zero : decimal_text (negsuc 0) ≡ codes "-0.0001"
unfolding fixed_point digits
least_below_zero = refl

places_are_filled : decimal_text (pos 120034) ≡ codes "12.0034"
unfolding fixed_point digits
places_are_filled = refl

whole_part_below_zero : decimal_text (negsuc 9999) ≡ codes "-1.0000"
unfolding fixed_point digits
whole_part_below_zero = refl

nine_places : setting_text 1000000000 ≡ codes "1.000000000"
unfolding fixed_point digits
nine_places = refl
