-- What a new pen on standard output puts out in one put and a flush.
use Rattle.std.proofs.Common.{◌≡◌, ℕ, List, [], ◌++◌, Option, Result, IfErr}
use Rattle.hyd_io.specs.declared.desk.Faults.{Faults}
use Rattle.hyd_io.specs.declared.output.Channel.{Channel}
use Rattle.hyd_io.specs.declared.output.Channel.TheVariants.{Report}
use Rattle.hyd_io.specs.declared.output.OutFault.{OutFault}
use Rattle.hyd_io.specs.DeskBytes.{append_known, Moves, PutOut}
use Rattle.hyd_io.specs.Output.{by_channel, HasOutCause}
use Rattle.hyd_io.proofs.MovedBytesLemmas.{moves_flush, put_out_flush}

pub printed_whole : (here there : Channel) (w0 p0 w1 p1 w2 p2 : Option (List ℕ)) (before bytes held : List ℕ)
    → here ≡ Report → there ≡ here → before ≡ []
    → Moves (by_channel here w0 p0) (by_channel here w1 p1) (before ++ bytes) held
    → by_channel there w2 p2 ≡ append_known (by_channel there w1 p1) held → p2 ≡ append_known p0 bytes
printed_whole here there w0 p0 w1 p1 w2 p2 before bytes held h t b m w =
    let first : Moves p0 p1 bytes held = rw (b, h) at m in
    let second : p2 ≡ append_known p1 held = rw (t, h) at w in
    moves_flush p0 p1 p2 bytes held first second

pub printed_front : (here there : Channel) (w0 p0 w1 p1 w2 p2 : Option (List ℕ)) (before bytes held : List ℕ)
    → here ≡ Report → there ≡ here → before ≡ []
    → Moves (by_channel here w0 p0) (by_channel here w1 p1) (before ++ bytes) held
    → PutOut (by_channel there w1 p1) (by_channel there w2 p2) held → PutOut p0 p2 bytes
printed_front here there w0 p0 w1 p1 w2 p2 before bytes held h t b m k =
    let first : Moves p0 p1 bytes held = rw (b, h) at m in
    let second : PutOut p1 p2 held = rw (t, h) at k in
    put_out_flush p0 p1 p2 bytes held first second

-- the put failed: a front of its bytes went out
pub failed_front : (here : Channel) (w0 p0 w1 p1 : Option (List ℕ)) (before bytes : List ℕ) → here ≡ Report
    → before ≡ [] → PutOut (by_channel here w0 p0) (by_channel here w1 p1) (before ++ bytes) → PutOut p0 p1 bytes
failed_front here w0 p0 w1 p1 before bytes h b k = rw (b, h) at k

pub cause_since : (result : Result (Unit {0}) OutFault) (to : Channel) (start since now : Faults) → to ≡ Report
    → since ≡ start → IfErr result (λ fault. HasOutCause to fault since now)
    → IfErr result (λ fault. HasOutCause Report fault start now)
cause_since result to start since now t s h = rw (t, s) at h
