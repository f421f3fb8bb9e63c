-- What a verdict tells of a test, and which comparisons hold on one side of a value.
use Rattle.std.specs.Prelude.{◌≤◌, ℤ, ◌≤ℤ◌, ⊤, List, ◌≡◌, ◌*ℤ◌, Bool, true, false, pos}
use Rattle.std.specs.List.{AllZip}
use Rattle.hyd_num.specs.Rational.{Rational}
use Rattle.hyd_spec.specs.ProgramTypes.{Relation as Comparison, Less, NotMore, More, NotLess, Equal, Unequal}
use Rattle.hyd_spec_certificates.specs.declared.Verdict.{Verdict}
use Rattle.hyd_spec_certificates.specs.declared.Verdict.TheVariants.{Yes, No, Unknown}

-- A value is at most another.
pub record IsAtMost (x y : Rational) : Type 0 where
  pub crossed : (x.num *ℤ pos y.den) ≤ℤ (y.num *ℤ pos x.den)

-- A relation that a value keeps in one direction.
abbrev pub IsOneWay : Comparison → Type 0
IsOneWay Less = ⊤
IsOneWay NotMore = ⊤
IsOneWay More = ⊤
IsOneWay NotLess = ⊤
IsOneWay Equal = ⊥
IsOneWay Unequal = ⊥

-- A truth tells a test: yes that it holds, no that it doesn't.
abbrev pub Tells : Verdict → Bool → Type 0
Tells Yes test = test ≡ true
Tells No test = test ≡ false
Tells Unknown test = ⊤

-- Truths tell tests, one after another.
abbrev pub TellEach : List Verdict → List Bool → Type 0
TellEach truths tests = AllZip Tells truths tests
