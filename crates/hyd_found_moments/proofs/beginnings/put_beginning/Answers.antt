use Rattle.hyd_spec_witnesses.specs.WitnessText.{counts_of}
use Rattle.hyd_found_moments.proofs.beginnings.put_beginning.Goals as goal

pub returns : goal.returns
returns c =
    let counts = counts_of c.args.project.now in
    let is = c.put_numbers.ensures counts c.requires.moment in
    record {
      number_fits = is.number_fits;
      time_fits = is.time_fits;
      length_fits = is.length_fits;
      heads = c.put_heads.ensures counts.junctions is.heads;
      flows = is.flows;
      demands = is.demands;
      emitters = is.emitters;
      levels = c.put_stocks.ensures.levels counts.tanks is.levels;
      volumes = c.put_stocks.ensures.volumes counts.tanks is.volumes;
    }
