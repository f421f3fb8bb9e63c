-- A moment in which all is 0 is one that a witness can hold.
use Rattle.std.proofs.Common.{◌≡◌, ℕ, ◌<◌, ◌^◌, ℤ, pos, List, length, sym, subst, arith}
use Rattle.std.specs.List.{All}
use Rattle.hyd_spec_witnesses.specs.WitnessText.{AreValues, Counts, IsMoment, IsValue}
use Rattle.hyd_witness_texts.specs.MomentView.{HasCounts, moment_of}
use Rattle.hyd_witness_texts.specs.declared.moment.Moment.{Moment}

nothing-fits : IsValue (pos 0)
nothing-fits = omega arith

all-nothing : (count : ℕ) (values : List ℤ) → length values ≡ count → All (λ (v : ℤ). v ≡ pos 0) values
    → AreValues count values
all-nothing count values each none = record {
  one_each = each;
  in_range = λ k d inside. subst IsValue (sym (none k d inside)) nothing-fits;
}

small : (n : ℕ) → n ≡ 0 → n < 2 ^ 32
small n e = omega (arith, e)

pub is-fresh : (counts : Counts) (moment : Moment) → HasCounts counts (moment_of moment)
    → (moment.number ≡ 0) × (moment.time ≡ 0) × (moment.length ≡ 0)
    → All (λ (v : ℤ). v ≡ pos 0) moment.heads.list → All (λ (v : ℤ). v ≡ pos 0) moment.flows.list
    → All (λ (v : ℤ). v ≡ pos 0) moment.demands.list → All (λ (v : ℤ). v ≡ pos 0) moment.emitters.list
    → All (λ (v : ℤ). v ≡ pos 0) moment.levels.list → All (λ (v : ℤ). v ≡ pos 0) moment.volumes.list
    → IsMoment counts (moment_of moment)
is-fresh counts moment has numbers heads flows demands emitters levels volumes = record {
  number_fits = small moment.number numbers.0;
  time_fits = small moment.time numbers.1;
  length_fits = small moment.length numbers.2;
  heads = all-nothing counts.junctions moment.heads.list has.heads heads;
  flows = all-nothing counts.links moment.flows.list has.flows flows;
  demands = all-nothing counts.junctions moment.demands.list has.demands demands;
  emitters = all-nothing counts.junctions moment.emitters.list has.emitters emitters;
  levels = all-nothing counts.tanks moment.levels.list has.levels levels;
  volumes = all-nothing counts.tanks moment.volumes.list has.volumes volumes;
}
