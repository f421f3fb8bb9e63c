-- A list to which a value was pushed, or not for want of memory.
use Rattle.std.proofs.Common.{List, [], ◌∷◌, ◌++◌, Bool, true, false, cond}
use Rattle.std.specs.List.{All}
use Rattle.std.proofs.lemmas.List.Elements.{All-push}

pub keeps : {X : Type 0} (P : X → Type 0) (pushed : Bool) (xs : List X) (x : X) → All P xs → P x
    → All P (cond pushed (xs ++ x ∷ []) xs)
keeps P true xs x all is = All-push P xs x all is
keeps P false xs x all is = all
