use Rattle.std.proofs.Common.{refl}
use Rattle.hyd_lemmas.proofs.CapacitiesEnclose.{IsEnclosure-made}
use Rattle.hyd_lemmas.proofs.SharpCapacities.{pair-sharp}
use Rattle.hyd_capacities.proofs.CapacitiesNotRefused.{not_refused}
use Rattle.hyd_kept_capacities.proofs.pipes_with_kept_roots.capacity_inside.Goals as goal

pub returns-clause-made : goal.returns-clause-made
returns-clause-made c = record { pair = c.args.pair; low = refl; high = refl; made = c.requires.pair }

pub returns-clause-encloses : goal.returns-clause-encloses
returns-clause-encloses c = IsEnclosure-made _ (record {
  pair = c.args.pair;
  low = refl;
  high = refl;
  made = c.requires.pair;
})

pub returns-clause-sharp : goal.returns-clause-sharp
returns-clause-sharp c = pair-sharp c.args.origin c.args.pair c.requires.pair

pub returns-clause-accepted : goal.returns-clause-accepted
returns-clause-accepted c = not_refused c.args.origin c.args.pair c.requires.pair c.requires.least c.requires.greatest
