-- What passes leave that follow one another.
use Rattle.std.proofs.Common.{◌≡◌, ◌≢◌, ◌∙◌, ◌⊎◌, ◌≤◌, inl, inr, ℕ, suc, List, Option, Some, None, ap, sym, subst}
use Rattle.std.proofs.Common.{refl, is_some, arith}
use Rattle.std.proofs.lemmas.Bool.{false≢true}
use Rattle.std.specs.Prelude.{Result, Ok, Err, IfOk}
use Rattle.hyd_io.specs.declared.desk.Faults.{Faults}
use Rattle.hyd_io.specs.declared.desk.Openings.{Openings}
use Rattle.hyd_io.specs.declared.output.OutFault.TheVariants.{Fault, Stalled as Stall}
use Rattle.hyd_io.specs.DeskBytes.{Files, IsTold, where_told, file_at}
use Rattle.hyd_io.specs.DeskCounts.{with_opened, with_created}
use Rattle.hyd_spec.specs.ProgramTypes.{Project}
use Rattle.hyd_command_answers.specs.DeskContents.{Seen, IsUntouched}
use Rattle.hyd_command_answers.specs.FaultsAndRefusals.{HasCause}
use Rattle.hyd_command_answers.specs.declared.status.Status.{Status}
use Rattle.hyd_command_answers.specs.declared.status.Status.TheVariants.{Done, OutOfMemory, Usage, ReadFault, WriteFault}
use Rattle.hyd_command_answers.specs.declared.status.Status.TheVariants.{InputRefused, Undecided, RoundsSpent, Demand}
use Rattle.hyd_command_answers.specs.declared.status.Status.TheVariants.{CertificateRefused, Stalled}
use Rattle.hyd_witness_stream.specs.declared.ending.Halt.TheVariants.{NoMoment}
use Rattle.hyd_witness_stream.specs.declared.ending.SearchEnd.{SearchEnd}
use Rattle.hyd_witness_stream.specs.declared.ending.SearchFault.{SearchFault}
use Rattle.hyd_witness_stream.specs.declared.ending.SearchFault.TheVariants.{Read, Output}
use Rattle.hyd_spec_witnesses.specs.MiddleCandidate.{halves}
use Rattle.hyd_witness_stream.specs.SearchEnds.{halt_line}
use Rattle.hyd_written_witnesses.specs.Statuses.{status_of_search_fault}
use Rattle.hyd_written_witnesses.specs.WitnessAnswers.{ends_at, ends_with_answer}
use Rattle.hyd_written_witnesses.proofs.StatusesOfWitness.{answers_in_halves, answers_where_none_lacks}
use Rattle.hyd_written_witnesses.specs.WrittenPasses.{Passed, Writes, IsFrontOfWitness, in_turn, OpensInTurn}
use Rattle.hyd_written_witnesses.specs.WrittenPasses.{OpensOnceMore, OpensInPasses}

-- ---- what holds at the end

-- what holds at the end implies something else
pub passed_with : {project : Project} {cert out : List ℕ} (ends other : List ℕ → SearchEnd → List ℕ → Type 0)
    (result : Result SearchEnd Status) {before now : Seen} {start stop : Faults}
    → IfOk result (λ end. (certificate witness : List ℕ) → ends certificate end witness → other certificate end witness)
    → Passed project cert out ends result before now start stop
    → Passed project cert out other result before now start stop
passed_with ends other (Ok end) implies p = record {
  ended = λ certificate told. record {
    witness = (p.ended certificate told).witness;
    holds = implies certificate (p.ended certificate told).witness (p.ended certificate told).holds;
    written = (p.ended certificate told).written;
    printed = (p.ended certificate told).printed;
    held = (p.ended certificate told).held;
  };
  front = p.front;
  whole = p.whole;
  others = p.others;
  still_told = p.still_told;
  fault = tt;
  cause = tt;
  steady = p.steady;
}
passed_with ends other (Err status) implies p = record {
  ended = λ certificate told. tt;
  front = p.front;
  whole = tt;
  others = p.others;
  still_told = p.still_told;
  fault = p.fault;
  cause = p.cause;
  steady = tt;
}

module _ (project : Project) (cert out : List ℕ) (before now : Seen) (start stop : Faults) where
  -- in halves of ticks the end is the answer
  pub passed_in_halves : (S : ℕ) (result : Result SearchEnd Status) → S ≡ halves
      → Passed project cert out (ends_at project S) result before now start stop
      → Passed project cert out (ends_with_answer project) result before now start stop
  passed_in_halves S (Ok end) same p =
      passed_with (ends_at project S) (ends_with_answer project) (Ok end) (λ certificate witness holds.
      answers_in_halves project certificate witness (halt_line project end.periods end.halt) end.halt
      (subst (λ (parts : ℕ). ends_at project parts certificate end witness) same holds)) p
  passed_in_halves S (Err status) same p =
      passed_with (ends_at project S) (ends_with_answer project) (Err status) tt p

  -- at each scale it is where no moment lacks
  pub passed_where_none_lacks : (S : ℕ) (end : SearchEnd) → end.halt ≢ NoMoment
      → Passed project cert out (ends_at project S) (Ok end) before now start stop
      → Passed project cert out (ends_with_answer project) (Ok end) before now start stop
  passed_where_none_lacks S end none p =
      passed_with (ends_at project S) (ends_with_answer project) (Ok end) (λ certificate witness holds.
      answers_where_none_lacks project certificate witness (halt_line project end.periods end.halt) S end.halt none
      holds) p

  -- a fault ends it
  pub passed_broken : (S : ℕ) (status : Status)
      → Passed project cert out (ends_at project S) (Err status) before now start stop
      → Passed project cert out (ends_with_answer project) (Err status) before now start stop
  passed_broken S status p = passed_with (ends_at project S) (ends_with_answer project) (Err status) tt p

-- ---- one pass and then others

same_told : (files other : Option Files) (text : List ℕ) → is_some files ≡ is_some other
    → where_told files text ≡ where_told other text
same_told None None text e = refl
same_told None (Some told) text e = absurd (false≢true e)
same_told (Some told) None text e = absurd (false≢true (sym e))
same_told (Some told) (Some others) text e = refl

-- what was written behind a pass, said of the moment before it
writes_since : (P : List ℕ → Type 0) (out : List ℕ) (before between now : Seen)
    → is_some between.files ≡ is_some before.files → between.printed ≡ before.printed → Writes P out between now
    → Writes P out before now
writes_since P out before between now told printed w = record {
  witness = w.witness;
  holds = w.holds;
  written = w.written ∙ same_told between.files before.files w.witness told;
  printed = w.printed ∙ printed;
  held = w.held;
}

-- what a pass wrote stays where nothing is touched
writes_still : (P : List ℕ → Type 0) (out : List ℕ) (before between now : Seen) → Writes P out before between
    → IsUntouched between now → Writes P out before now
writes_still P out before between now w u = record {
  witness = w.witness;
  holds = w.holds;
  written = u.written ∙ w.written;
  printed = u.printed ∙ w.printed;
  held = ap (λ (files : Option Files). file_at files out) u.files ∙ (w.held ∙ sym u.written);
}

module _ (project : Project) (cert out : List ℕ) (first_ends ends : List ℕ → SearchEnd → List ℕ → Type 0)
    (first : SearchEnd) (before between now : Seen) (start middle stop : Faults) (apart : cert ≢ out)
    (one : Passed project cert out first_ends (Ok first) before between start middle) where
  since : (P : List ℕ → Type 0) → Writes P out between now → Writes P out before now
  since P w = writes_since P out before between now one.still_told one.whole.printed w

  still : IsUntouched between now ⊎ Writes (IsFrontOfWitness project) out between now
      → Writes (IsFrontOfWitness project) out before now
  still (inl u) = writes_still (IsFrontOfWitness project) out before between now one.whole u
  still (inr w) = since (IsFrontOfWitness project) w

  told_still : (certificate : List ℕ) → IsTold before.files cert certificate → IsTold between.files cert certificate
  told_still certificate told = one.others cert apart ∙ told

  pub passed_then : (result : Result SearchEnd Status) → Passed project cert out ends result between now middle stop
      → Passed project cert out ends result before now start stop
  passed_then (Ok end) p = record {
    ended = λ certificate told. since (ends certificate end) (p.ended certificate (told_still certificate told));
    front = inr (still p.front);
    whole = since (IsFrontOfWitness project) p.whole;
    others = λ other differs. p.others other differs ∙ one.others other differs;
    still_told = p.still_told ∙ one.still_told;
    fault = tt;
    cause = tt;
    steady = p.steady ∙ one.steady;
  }
  passed_then (Err status) p = record {
    ended = λ certificate told. tt;
    front = inr (still p.front);
    whole = tt;
    others = λ other differs. p.others other differs ∙ one.others other differs;
    still_told = p.still_told ∙ one.still_told;
    fault = p.fault;
    cause = subst (λ (f : Faults). HasCause status f stop) one.steady p.cause;
    steady = tt;
  }

-- ---- how often CERT is opened and OUT created

-- once
pub opens_once : (end : SearchEnd) (before now : Openings) → now ≡ with_created (with_opened before)
    → OpensInPasses 1 (Ok end) before now
opens_once end before now e =
    (record { times = 1; at_least = omega arith; at_most = omega arith; is = e }, λ lacks. e)

pub breaks_off_once : (fault : SearchFault) (before now : Openings) → now ≡ with_created (with_opened before)
    → OpensInPasses 1 (Err (status_of_search_fault fault)) before now
breaks_off_once Read before now e =
    inr (record { times = 1; at_least = omega arith; at_most = omega arith; is = e })
breaks_off_once (Output Fault) before now e =
    record { times = 1; at_least = omega arith; at_most = omega arith; is = e }
breaks_off_once (Output Stall) before now e =
    record { times = 1; at_least = omega arith; at_most = omega arith; is = e }

-- CERT couldn't be opened
pub opens_alone : (before now : Openings) → now ≡ with_opened before → OpensInPasses 1 (Err ReadFault) before now
opens_alone before now e = inl (record { times = 0; fewer = omega arith; is = e })

-- OUT couldn't be created
pub creates_nothing : (before now : Openings) → now ≡ with_created (with_opened before)
    → OpensInPasses 1 (Err WriteFault) before now
creates_nothing before now e = record { times = 1; at_least = omega arith; at_most = omega arith; is = e }

module _ (least most : ℕ) (more : least ≤ most) (before now : Openings) where
  turns_more : OpensInTurn least before now → OpensInTurn most before now
  turns_more t = record {
    times = t.times;
    at_least = t.at_least;
    at_most = omega (arith, t.at_most, more);
    is = t.is;
  }

  once_more_more : OpensOnceMore least before now → OpensOnceMore most before now
  once_more_more t = record { times = t.times; fewer = omega (arith, t.fewer, more); is = t.is }

  -- more passes may have come: none did where no moment lacks
  pub ended_of_more : (end : SearchEnd) → end.halt ≢ NoMoment → OpensInPasses least (Ok end) before now
      → OpensInPasses most (Ok end) before now
  ended_of_more end none o = (turns_more o.0, λ lacks. absurd (none lacks))

  pub broken_of_more : (status : Status) → OpensInPasses least (Err status) before now
      → OpensInPasses most (Err status) before now
  broken_of_more Done o = turns_more o
  broken_of_more OutOfMemory o = turns_more o
  broken_of_more Usage o = turns_more o
  broken_of_more ReadFault (inl o) = inl (once_more_more o)
  broken_of_more ReadFault (inr o) = inr (turns_more o)
  broken_of_more WriteFault o = turns_more o
  broken_of_more InputRefused o = turns_more o
  broken_of_more Undecided o = turns_more o
  broken_of_more RoundsSpent o = turns_more o
  broken_of_more Demand o = turns_more o
  broken_of_more CertificateRefused o = turns_more o
  broken_of_more Stalled o = turns_more o

-- behind one more pass
module _ (most : ℕ) (before between now : Openings) (once : between ≡ with_created (with_opened before)) where
  turn_behind : (times : ℕ) → in_turn times between ≡ in_turn (suc times) before
  turn_behind times = ap (in_turn times) once

  turns_behind : OpensInTurn most between now → OpensInTurn (suc most) before now
  turns_behind t = record {
    times = suc t.times;
    at_least = omega arith;
    at_most = omega (arith, t.at_most);
    is = t.is ∙ turn_behind t.times;
  }

  once_more_behind : OpensOnceMore most between now → OpensOnceMore (suc most) before now
  once_more_behind t = record {
    times = suc t.times;
    fewer = omega (arith, t.fewer);
    is = t.is ∙ ap with_opened (turn_behind t.times);
  }

  pub opens_behind : (result : Result SearchEnd Status) → OpensInPasses most result between now
      → OpensInPasses (suc most) result before now
  opens_behind (Ok end) o = (turns_behind o.0, λ lacks. o.1 lacks ∙ turn_behind most)
  opens_behind (Err Done) o = turns_behind o
  opens_behind (Err OutOfMemory) o = turns_behind o
  opens_behind (Err Usage) o = turns_behind o
  opens_behind (Err ReadFault) (inl o) = inl (once_more_behind o)
  opens_behind (Err ReadFault) (inr o) = inr (turns_behind o)
  opens_behind (Err WriteFault) o = turns_behind o
  opens_behind (Err InputRefused) o = turns_behind o
  opens_behind (Err Undecided) o = turns_behind o
  opens_behind (Err RoundsSpent) o = turns_behind o
  opens_behind (Err Demand) o = turns_behind o
  opens_behind (Err CertificateRefused) o = turns_behind o
  opens_behind (Err Stalled) o = turns_behind o
