-- The status word of a link by its state and its own law.
-- Source: EPANET 2.2 User Manual, chapter 3 (status of links); the word UNSURE is this program's.
use Rattle.std.specs.Prelude.{ℤ, ◌+ℤ◌}
use Rattle.hyd_num.specs.Rational.{floor, ceiling}
use Rattle.hyd_spec.specs.ProgramTypes.{LinkState, Open, Closed, Speed, Throttle, Limit}
use Rattle.hyd_spec.specs.Law.{Law, ForwardOnly, Lifted, Capped, Held, Bent}
use Rattle.hyd_spec_certificates.specs.Interval.{Interval}
use Rattle.hyd_spec_certificates.specs.EnclosingFunctions.{low, high}
use Rattle.hyd_spec_certificates.specs.declared.StatusWord.{StatusWord}
use Rattle.hyd_spec_certificates.specs.declared.StatusWord.TheVariants.{Open as WordOpen, Closed as WordClosed}
use Rattle.hyd_spec_certificates.specs.declared.StatusWord.TheVariants.{Active as WordActive, Unsure as WordUnsure}
use Rattle.hyd_spec_certificates.specs.StatusesOfLinks.{by_drive, by_setting, by_knots}

-- an open link that passes forward only has the word of its drive
abbrev pub open_word : Law → Interval → StatusWord
open_word (ForwardOnly law) d = by_drive d
open_word law d = WordOpen

-- a running pump has the word of its drive with its lift, or of its curve
abbrev pub running_word : Law → Interval → StatusWord
running_word (ForwardOnly (Lifted lift law)) d = by_drive (record {
  lo = d.lo +ℤ floor lift;
  hi = d.hi +ℤ ceiling lift;
})
running_word (Held least greatest (Bent knots)) d = by_knots knots d
running_word law d = WordUnsure

-- a valve that limits the flow has the word of what it passes without its setting
abbrev pub limited_word : ℤ → Law → Interval → StatusWord
limited_word ticks (Capped cap law) d = by_setting ticks (record { lo = low law d.lo; hi = high law d.hi })
limited_word ticks law d = WordUnsure

-- the word of a link in its state, with its own law, between two head differences
abbrev pub word_of : LinkState → Law → Interval → StatusWord
word_of Open law d = open_word law d
word_of Closed law d = WordClosed
word_of (Speed speed) law d = running_word law d
word_of (Throttle setting valve) law d = WordActive
word_of (Limit setting ticks) law d = limited_word ticks law d
