-- Pipes with the same numbers.
use Rattle.std.proofs.Common.{◌≡◌, Bool, refl}
use Rattle.hyd_num.specs.declared.decimals.Decimal.{Decimal}
use Rattle.hyd_spec.specs.ProgramTypes.{Origin}
use Rattle.hyd_num.specs.declared.link_capacities.Origin.TheVariants.{Pipe}
use Rattle.hyd_spec_power_laws.specs.declared.power_capacities.HazenWilliamsPipe.{HazenWilliamsPipe}

pub same_origin : (l d r m l' d' r' m' : Decimal) (us us' : Bool) → l ≡ l' → d ≡ d' → r ≡ r' → m ≡ m' → us ≡ us'
    → Pipe us l d r m ≡ Pipe us' l' d' r' m'
same_origin l d r m l' d' r' m' us us' a b c e f = rw (a, b, c, e, f) refl

abbrev pipe_of : (l d c m : Decimal) → Bool → HazenWilliamsPipe
pipe_of l d c m us = record { length = l; diameter = d; coefficient = c; minor = m; us = us }

same_parts : (l d r m l' d' r' m' : Decimal) (us us' : Bool) → l ≡ l' → d ≡ d' → r ≡ r' → m ≡ m' → us ≡ us'
    → pipe_of l d r m us ≡ pipe_of l' d' r' m' us'
same_parts l d r m l' d' r' m' us us' a b c e f = rw (a, b, c, e, f) refl

pub same_pipe : (one other : HazenWilliamsPipe) → one.length ≡ other.length → one.diameter ≡ other.diameter
    → one.coefficient ≡ other.coefficient → one.minor ≡ other.minor → one.us ≡ other.us
    → one ≡ other
same_pipe one other a b c e f =
    same_parts one.length one.diameter one.coefficient one.minor other.length other.diameter other.coefficient other.minor
    one.us other.us a b c e f
