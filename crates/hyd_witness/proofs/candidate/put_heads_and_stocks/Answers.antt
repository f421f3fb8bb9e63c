use Rattle.std.proofs.Common.{◌∙◌, ℕ, sym, subst}
use Rattle.hyd_spec_witnesses.specs.WitnessText.{AreValues, counts_of}
use Rattle.hyd_witness.proofs.candidate.put_heads_and_stocks.Goals as goal

pub put_heads-requires : goal.put_heads-requires
put_heads-requires c =
    (c.put_numbers.ensures.moment (counts_of c.args.project.now) c.requires.moment).heads.one_each
    ∙ sym c.requires.junctions

pub put_stocks-requires-clause-levels : goal.put_stocks-requires-clause-levels
put_stocks-requires-clause-levels c =
    (c.put_numbers.ensures.moment (counts_of c.args.project.now) c.requires.moment).levels

pub put_stocks-requires-clause-volumes : goal.put_stocks-requires-clause-volumes
put_stocks-requires-clause-volumes c =
    (c.put_numbers.ensures.moment (counts_of c.args.project.now) c.requires.moment).volumes

pub returns-clause-has : goal.returns-clause-has
returns-clause-has c = λ reached stands. record {
  number = c.put_numbers.ensures.number;
  time = c.put_numbers.ensures.time;
  lasts = c.put_numbers.ensures.lasts;
  heads = c.put_heads.ensures.value;
  levels = c.put_stocks.ensures.levels reached stands;
  volumes = c.put_stocks.ensures.volumes reached stands;
}

pub returns-clause-moment : goal.returns-clause-moment
returns-clause-moment c =
    let is = c.put_numbers.ensures.moment (counts_of c.args.project.now) c.requires.moment in
    record {
      number_fits = is.number_fits;
      time_fits = is.time_fits;
      length_fits = is.length_fits;
      heads = subst (λ (n : ℕ). AreValues n c.put_heads.new.into.list) c.requires.junctions c.put_heads.ensures.fit;
      flows = is.flows;
      demands = is.demands;
      emitters = is.emitters;
      levels = c.put_stocks.ensures.levels_fit;
      volumes = c.put_stocks.ensures.volumes_fit;
    }
