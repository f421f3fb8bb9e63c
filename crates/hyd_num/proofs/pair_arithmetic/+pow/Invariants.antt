use Rattle.hyd_num.proofs.pair_arithmetic.+pow.Given as goal

abbrev pub decreases-pow : goal.decreases-pow
decreases-pow l = l.n
