use Rattle.std.proofs.Common.{pos, arith}
use Rattle.std.proofs.lemmas.Int.{ints}
use Rattle.hyd_spec_certificates.specs.declared.LevelSpan.{LevelSpan}
use Rattle.hyd_controls_and_rules.proofs.QuantitiesOfClauses.{low_level, high_level}
use Rattle.hyd_controls_and_rules.proofs.clauses.level_ends.Goals as goal

pub returns : goal.returns
returns c =
    let none : LevelSpan = record { lo = pos 0; hi = pos 0 } in
    record {
      lo = low_level c.args.instant.now.levels.now c.args.tank none _ c.args.base c.requires (omega (arith, ints));
      hi = high_level c.args.instant.now.levels.now c.args.tank none _ c.args.base c.requires (omega (arith, ints));
    }
