-- How moves of bytes from a pen to a desk follow one another.
use Rattle.std.proofs.Common.{◌≡◌, ℕ, ◌+◌, ◌-◌, ◌≤◌, List, [], ◌++◌, length, take, drop, Option, Some, None, refl, sym}
use Rattle.std.proofs.Common.{ap, ◌∙◌, append_assoc, arith}
use Rattle.std.proofs.lemmas.Grind.{common_steps}
use Rattle.std.proofs.lemmas.List.{drop-drop, take-append-drop}
use Rattle.hyd_io.specs.DeskBytes.{append_known, prepend_known, where_told, Moves, PutOut, Took, Files, IsTold}

-- nothing more after what is out
pub append_known-nil : (out : Option (List ℕ)) → append_known out [] ≡ out
append_known-nil None = refl
append_known-nil (Some xs) = ap Some (grind (arith, common_steps))

-- one piece after another
pub append_known-append_known : (out : Option (List ℕ)) (a b : List ℕ) → append_known (append_known out a) b
    ≡ append_known out (a ++ b)
append_known-append_known None a b = refl
append_known-append_known (Some xs) a b = ap Some (append_assoc xs a b)

-- one piece before another
pub prepend_known-prepend_known : (rest : Option (List ℕ)) (a b : List ℕ) → prepend_known a (prepend_known b rest)
    ≡ prepend_known (a ++ b) rest
prepend_known-prepend_known None a b = refl
prepend_known-prepend_known (Some xs) a b = ap Some (sym (append_assoc a b xs))

-- no byte was moved
pub moves_nothing : (out : Option (List ℕ)) (all : List ℕ) → Moves out out all all
moves_nothing out all = record { front = []; whole = refl; out = sym (append_known-nil out) }

-- what is held is put in front of further bytes, and moved in its turn
pub moves_on : (first second third : Option (List ℕ)) (all held more left : List ℕ)
    → Moves first second all (held ++ more) → Moves second third held left → Moves first third all (left ++ more)
moves_on first second third all held more left m n = record {
  front = m.front ++ n.front;
  whole = m.whole ∙ (ap (λ h. m.front ++ (h ++ more)) n.whole ∙ grind (arith, common_steps));
  out = n.out ∙ (ap (λ o. append_known o n.front) m.out ∙ append_known-append_known first m.front n.front);
}

-- the same, where the second move was cut off
pub put_out_on : (first second third : Option (List ℕ)) (all held more : List ℕ)
    → Moves first second all (held ++ more) → PutOut second third held → PutOut first third all
put_out_on first second third all held more m n = (n.0 ++ more, moves_on first second third all held more n.0 m n.1)

-- all of the bytes went out
pub moves_whole : (old new : Option (List ℕ)) (all : List ℕ) → Moves old new all [] → new ≡ append_known old all
moves_whole old new all m = m.out ∙ ap (append_known old) (sym (m.whole ∙ grind (arith, common_steps)))

-- a piece that went out whole is a move that holds nothing
pub moves_all : (old new : Option (List ℕ)) (all : List ℕ) → new ≡ append_known old all → Moves old new all []
moves_all old new all e = record { front = all; whole = grind (arith, common_steps); out = e }

-- a front of the piece went out
pub moves_front : (old new : Option (List ℕ)) (piece : List ℕ) (n : ℕ) → new ≡ append_known old (take n piece)
    → Moves old new piece (drop n piece)
moves_front old new piece n e = record { front = take n piece; whole = grind (arith, common_steps); out = e }

-- nothing was moved, and what is held is not said
pub put_out_nothing : (out : Option (List ℕ)) (all : List ℕ) → PutOut out out all
put_out_nothing out all = (all, moves_nothing out all)

-- the value of `&rest[n..]`, as a slice is seen
pub take-drop : (rest : List ℕ) (n : ℕ) → take (length rest - n) (drop n rest) ≡ drop n rest
take-drop rest n = grind (arith, common_steps)

-- a front of what was still to come went out
pub moves_further : (first second third : Option (List ℕ)) (all rest : List ℕ) (n : ℕ) → Moves first second all rest
    → third ≡ append_known second (take n rest) → Moves first third all (take (length rest - n) (drop n rest))
moves_further first second third all rest n m e =
    let split : rest ≡ take n rest ++ drop n rest = grind (arith, common_steps) in
    let start : Moves first second all (rest ++ []) = record {
      front = m.front;
      whole = m.whole ∙ grind (arith, common_steps);
      out = m.out;
    } in
    let step : Moves first third all (drop n rest ++ []) = moves_on first second third all rest [] (drop n rest) start
    (moves_front second third rest n e) in
    record {
      front = step.front;
      whole = step.whole ∙ ap (λ r. step.front ++ r) (grind (arith, common_steps, take-drop rest n));
      out = step.out;
    }

-- what is held is followed by a front of the rest, and moved in its turn
pub moves_through : (first second third : Option (List ℕ)) (all held rest gathered left : List ℕ) (n : ℕ)
    → Moves first second all (held ++ rest) → gathered ≡ held ++ take n rest → Moves second third gathered left
    → Moves first third all (left ++ take (length rest - n) (drop n rest))
moves_through first second third all held rest gathered left n m e k =
    let split : held ++ rest ≡ gathered ++ take (length rest - n) (drop n rest) =
    grind (arith, common_steps, take-drop rest n, e) in
    moves_on first second third all gathered (take (length rest - n) (drop n rest)) left (record {
      front = m.front;
      whole = m.whole ∙ ap (λ r. m.front ++ r) split;
      out = m.out;
    }) k

-- the same, where the second move was cut off
pub put_out_through : (first second third : Option (List ℕ)) (all held rest gathered : List ℕ) (n : ℕ)
    → Moves first second all (held ++ rest) → gathered ≡ held ++ take n rest → PutOut second third gathered
    → PutOut first third all
put_out_through first second third all held rest gathered n m e k =
    (k.0 ++ take (length rest - n) (drop n rest), moves_through first second third all held rest gathered k.0 n m e k.1)

-- what was taken before, and then n bytes more
pub took_after : (first second third : Option (List ℕ)) (bytes : List ℕ) (n : ℕ) → first ≡ prepend_known bytes second
    → Took n second third → Took (length bytes + n) first third
took_after first second third bytes n e t = (
  bytes ++ t.0,
  (
    grind (arith, common_steps, t.1.0),
    e ∙ (ap (prepend_known bytes) t.1.1
        ∙ prepend_known-prepend_known third bytes t.0),
  ),
)

-- a name that is told to hold a text shows that the files are told
pub where_told-IsTold : {B : Type 0} (files : Option Files) (name text : List ℕ) (v : B) → IsTold files name text
    → where_told files v ≡ Some v
where_told-IsTold None name text v h = cc
where_told-IsTold (Some f) name text v h = refl

-- what is left from a place on, split at a front of it, where the front came into a buffer
pub drop-split : (bytes buffer : List ℕ) (at n : ℕ) → n ≤ length bytes - at
    → take (0 + n) buffer ≡ [] ++ take n (take (length bytes - at) (drop at bytes))
    → drop at bytes ≡ take n buffer ++ drop (at + n) bytes
drop-split bytes buffer at n le e =
    let front : take n buffer ≡ take n (drop at bytes) = grind (arith, common_steps, e) in
    rw (front, ← drop-drop n at bytes) (sym (take-append-drop n (drop at bytes)))

-- more is put in behind what is held
pub moves_more : (old new : Option (List ℕ)) (all held more : List ℕ) → Moves old new all held
    → Moves old new (all ++ more) (held ++ more)
moves_more old new all held more m = record {
  front = m.front;
  whole = ap (λ xs. xs ++ more) m.whole ∙ append_assoc m.front held more;
  out = m.out;
}

-- one move after another of what was held
pub moves_moves : (first second third : Option (List ℕ)) (all held left : List ℕ) → Moves first second all held
    → Moves second third held left → Moves first third all left
moves_moves first second third all held left m n = record {
  front = m.front ++ n.front;
  whole = m.whole ∙ (ap (λ h. m.front ++ h) n.whole ∙ sym (append_assoc m.front n.front left));
  out = n.out ∙ (ap (λ o. append_known o n.front) m.out ∙ append_known-append_known first m.front n.front);
}

-- one piece and then another are put in
pub moves_then : (first second third : Option (List ℕ)) (all held more left : List ℕ) → Moves first second all held
    → Moves second third (held ++ more) left → Moves first third (all ++ more) left
moves_then first second third all held more left m n = moves_moves first second third (all ++ more) (held ++ more)
    left (moves_more first second all held more m) n

-- one piece is put in, and the next one is cut off
pub put_out_then : (first second third : Option (List ℕ)) (all held more : List ℕ) → Moves first second all held
    → PutOut second third (held ++ more) → PutOut first third (all ++ more)
put_out_then first second third all held more m n = (n.0, moves_then first second third all held more n.0 m n.1)

-- all that is held goes out at last
pub moves_flush : (first second third : Option (List ℕ)) (all held : List ℕ) → Moves first second all held
    → third ≡ append_known second held → third ≡ append_known first all
moves_flush first second third all held m e = moves_whole first third all
    (moves_moves first second third all held [] m (moves_all second third held e))

-- that is cut off
pub put_out_flush : (first second third : Option (List ℕ)) (all held : List ℕ) → Moves first second all held
    → PutOut second third held → PutOut first third all
put_out_flush first second third all held m n = (n.0, moves_moves first second third all held n.0 m n.1)

-- what would have come after is not put out either
pub put_out_more : (old new : Option (List ℕ)) (all more : List ℕ) → PutOut old new all → PutOut old new (all ++ more)
put_out_more old new all more m = (m.0 ++ more, moves_more old new all m.0 more m.1)

-- where the rest is told, it has the bytes that were taken
pub Took-length : (n : ℕ) (old new : Option (List ℕ)) (text : List ℕ) → old ≡ Some text → Took n old new
    → n ≤ length text
Took-length n old None text e t = let none : Some text ≡ None = sym e ∙ t.1.1 in absurd (some_is_not_none text none)
  where
    some_is_not_none : (xs : List ℕ) → Some xs ≡ None → ⊥
    some_is_not_none xs h = cc
Took-length n old (Some rest) text e t =
    let same : text ≡ t.0 ++ rest = some_injective (sym e ∙ t.1.1) in
    rw same (grind (arith, common_steps, t.1.0))
  where
    some_injective : {xs ys : List ℕ} → Some xs ≡ Some ys → xs ≡ ys
    some_injective h = cc
