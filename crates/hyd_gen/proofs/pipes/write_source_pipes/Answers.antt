use Rattle.std.proofs.Common.{◌≡◌, [], ◌∷◌, decimal, arith, rules, append_assoc}
use Rattle.std.proofs.lemmas.Fmt.{decimal_digit}
use Rattle.hyd_gen.proofs.pipes.write_source_pipes.Goals as goal

pub returns : goal.returns
returns c =
    let one : decimal 1 ≡ 49 ∷ [] = decimal_digit 1 (omega arith) in
    rw one (search (rules, append_assoc))
