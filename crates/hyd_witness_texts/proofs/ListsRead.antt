-- What is read of the lists of a moment, one list behind another.
use Rattle.std.proofs.Common.{◌≡◌, ◌≢◌, ℕ, ◌+◌, ℤ, Option, List, [], ◌∷◌, length, refl, ap, subst, ◌∙◌, codes, arith}
use Rattle.std.proofs.Common.{Result, Ok, Err, IfErr}
use Rattle.std.specs.Prelude.{All}
use Rattle.hyd_io.specs.DeskBytes.{prepend_known}
use Rattle.hyd_io.specs.declared.desk.Faults.{Faults}
use Rattle.hyd_spec_witnesses.specs.WitnessText.{Counts, IsValue, AreValues, value_lines}
use Rattle.hyd_cert.specs.Faults.{lines_on}
use Rattle.hyd_witness_texts.specs.FirstFaults.{IsTextFault, IsFaultAtFront}
use Rattle.hyd_witness_texts.specs.PartsOfWitness.{AreValueLines, AreStockLines, IsOneThen, AreLists}
use Rattle.hyd_witness_texts.specs.declared.answers_of_reader.WitnessFault.{WitnessFault}
use Rattle.hyd_witness_texts.proofs.FirstFaultLemmas.{text_stuck, text_stuck_behind}
use Rattle.hyd_witness_texts.proofs.Blocks.{IsBlock, then_block, then_here, then_behind}
use Rattle.hyd_witness_texts.proofs.ListsOfValues.{values_block, stocks_block}

-- a fault in a list before others
stuck_then : (P Q : List ℕ → Type 0) (n line : ℕ) (text : Option (List ℕ)) (before now : Faults)
    (fault : WitnessFault) → IsBlock Q n → IsTextFault (IsFaultAtFront P) line text before now fault
    → IsTextFault (IsFaultAtFront (IsOneThen P Q)) line text before now fault
stuck_then P Q n line text before now fault block h =
    text_stuck (IsFaultAtFront P) (IsFaultAtFront (IsOneThen P Q)) line text before now fault (then_here n block) h

-- a fault behind a list of values
stuck_behind_values : (Q : List ℕ → Type 0) (key : ℕ) → key ≢ 10 → (n : ℕ) (vs : List ℤ) → AreValues n vs
    → (line0 line : ℕ) (first rest : Option (List ℕ)) (before counts now : Faults) (fault : WitnessFault)
    → first ≡ prepend_known (value_lines (key ∷ []) vs) rest → line ≡ lines_on line0 n → counts ≡ before
    → IsTextFault (IsFaultAtFront Q) line rest counts now fault
    → IsTextFault (IsFaultAtFront (IsOneThen (AreValueLines (key ∷ []) n) Q)) line0 first before now fault
stuck_behind_values Q key apart n vs are line0 line first rest before counts now fault text at same h =
    text_stuck_behind (IsFaultAtFront Q) (IsFaultAtFront (IsOneThen (AreValueLines (key ∷ []) n) Q))
    (value_lines (key ∷ []) vs) n line0 line first rest before counts now fault text at same
    (then_behind n (values_block key apart n) (value_lines (key ∷ []) vs) (record {
      values = vs;
      are_values = are;
      is = refl;
    })) h

-- a list of values that was read
pub record WasRead (key n line0 line : ℕ) (first rest : Option (List ℕ)) (before counts : Faults) (vs : List ℤ) : Type 0
  where
    pub are : AreValues n vs
    pub text : first ≡ prepend_known (value_lines (key ∷ []) vs) rest
    pub at : line ≡ lines_on line0 n
    pub same : counts ≡ before

pub was_read : (key n line0 line : ℕ) (first rest : Option (List ℕ)) (before counts : Faults) (old vs : List ℤ)
    → length old ≡ n → length vs ≡ length old → All IsValue vs
    → first ≡ prepend_known (value_lines (key ∷ []) vs) rest → line ≡ lines_on line0 (length old) → counts ≡ before
    → WasRead key n line0 line first rest before counts vs
was_read key n line0 line first rest before counts old vs many kept fit text at same = record {
  are = record { one_each = kept ∙ many; in_range = fit };
  text = text;
  at = at ∙ ap (lines_on line0) many;
  same = same;
}

module _ (counts : Counts) where
  abbrev Behind3 : List ℕ → Type 0
  Behind3 = IsOneThen (AreValueLines (codes "E") counts.junctions) (AreStockLines counts.tanks)

  abbrev Behind2 : List ℕ → Type 0
  Behind2 = IsOneThen (AreValueLines (codes "D") counts.junctions) Behind3

  abbrev Behind1 : List ℕ → Type 0
  Behind1 = IsOneThen (AreValueLines (codes "Q") counts.links) Behind2

  block3 : IsBlock Behind3 (counts.junctions + counts.tanks)
  block3 = then_block _ _ (values_block 69 (λ e. omega (arith, e)) counts.junctions) (stocks_block counts.tanks)

  block2 : IsBlock Behind2 (counts.junctions + (counts.junctions + counts.tanks))
  block2 = then_block _ _ (values_block 68 (λ e. omega (arith, e)) counts.junctions) block3

  block1 : IsBlock Behind1 (counts.links + (counts.junctions + (counts.junctions + counts.tanks)))
  block1 = then_block _ _ (values_block 81 (λ e. omega (arith, e)) counts.links) block2

  module _ (now : Faults) (fault : WitnessFault) where
    -- in the heads
    pub stuck_in_heads : (l0 : ℕ) (t0 : Option (List ℕ)) (c0 : Faults)
        → IsTextFault (IsFaultAtFront (AreValueLines (codes "H") counts.junctions)) l0 t0 c0 now fault
        → IsTextFault (IsFaultAtFront (AreLists counts)) l0 t0 c0 now fault
    stuck_in_heads l0 t0 c0 h = stuck_then (AreValueLines (codes "H") counts.junctions) Behind1 _ l0 t0 c0 now fault
        block1 h

    module _ (l0 l1 : ℕ) (t0 t1 : Option (List ℕ)) (c0 c1 : Faults) (heads : List ℤ)
        (read : WasRead 72 counts.junctions l0 l1 t0 t1 c0 c1 heads) where
      behind_heads : IsTextFault (IsFaultAtFront Behind1) l1 t1 c1 now fault
          → IsTextFault (IsFaultAtFront (AreLists counts)) l0 t0 c0 now fault
      behind_heads = stuck_behind_values Behind1 72 (λ e. omega (arith, e)) counts.junctions heads read.are l0 l1 t0 t1
          c0 c1 now fault read.text read.at read.same

      -- in the flows
      pub stuck_in_flows : IsTextFault (IsFaultAtFront (AreValueLines (codes "Q") counts.links)) l1 t1 c1 now fault
          → IsTextFault (IsFaultAtFront (AreLists counts)) l0 t0 c0 now fault
      stuck_in_flows h = behind_heads (stuck_then (AreValueLines (codes "Q") counts.links) Behind2 _ l1 t1 c1 now fault
          block2 h)

      module _ (l2 : ℕ) (t2 : Option (List ℕ)) (c2 : Faults) (flows : List ℤ)
          (read2 : WasRead 81 counts.links l1 l2 t1 t2 c1 c2 flows) where
        behind_flows : IsTextFault (IsFaultAtFront Behind2) l2 t2 c2 now fault
            → IsTextFault (IsFaultAtFront (AreLists counts)) l0 t0 c0 now fault
        behind_flows h = behind_heads (stuck_behind_values Behind2 81 (λ e. omega (arith, e)) counts.links flows
            read2.are l1 l2 t1 t2 c1 c2 now fault read2.text read2.at read2.same h)

        -- in the demand flows
        pub stuck_in_demands : IsTextFault (IsFaultAtFront (AreValueLines (codes "D") counts.junctions)) l2 t2 c2 now
            fault → IsTextFault (IsFaultAtFront (AreLists counts)) l0 t0 c0 now fault
        stuck_in_demands h = behind_flows (stuck_then (AreValueLines (codes "D") counts.junctions) Behind3 _ l2 t2 c2
            now fault block3 h)

        module _ (l3 : ℕ) (t3 : Option (List ℕ)) (c3 : Faults) (demands : List ℤ)
            (read3 : WasRead 68 counts.junctions l2 l3 t2 t3 c2 c3 demands) where
          behind_demands : IsTextFault (IsFaultAtFront Behind3) l3 t3 c3 now fault
              → IsTextFault (IsFaultAtFront (AreLists counts)) l0 t0 c0 now fault
          behind_demands h = behind_flows (stuck_behind_values Behind3 68 (λ e. omega (arith, e)) counts.junctions
              demands read3.are l2 l3 t2 t3 c2 c3 now fault read3.text read3.at read3.same h)

          -- in the emitter flows
          pub stuck_in_emitters : IsTextFault (IsFaultAtFront (AreValueLines (codes "E") counts.junctions)) l3 t3 c3 now
              fault → IsTextFault (IsFaultAtFront (AreLists counts)) l0 t0 c0 now fault
          stuck_in_emitters h = behind_demands (stuck_then (AreValueLines (codes "E") counts.junctions)
              (AreStockLines counts.tanks) _ l3 t3 c3 now fault (stocks_block counts.tanks) h)

          -- in the levels and volumes
          pub stuck_in_stocks : (l4 : ℕ) (t4 : Option (List ℕ)) (c4 : Faults) (emitters : List ℤ)
              → WasRead 69 counts.junctions l3 l4 t3 t4 c3 c4 emitters
              → IsTextFault (IsFaultAtFront (AreStockLines counts.tanks)) l4 t4 c4 now fault
              → IsTextFault (IsFaultAtFront (AreLists counts)) l0 t0 c0 now fault
          stuck_in_stocks l4 t4 c4 emitters read4 h =
              behind_demands (stuck_behind_values (AreStockLines counts.tanks) 69 (λ e. omega (arith, e))
              counts.junctions emitters read4.are l3 l4 t3 t4 c3 c4 now fault read4.text read4.at read4.same h)

-- a fault in a list whose length is known
pub counted : (key : ℕ) (old : List ℤ) (n line : ℕ) (text : Option (List ℕ)) (before now : Faults)
    (fault : WitnessFault) → length old ≡ n
    → IsTextFault (IsFaultAtFront (AreValueLines (key ∷ []) (length old))) line text before now fault
    → IsTextFault (IsFaultAtFront (AreValueLines (key ∷ []) n)) line text before now fault
counted key old n line text before now fault many h =
    subst (λ (k : ℕ). IsTextFault (IsFaultAtFront (AreValueLines (key ∷ []) k)) line text before now fault) many h

pub counted_stocks : (old : List ℤ) (n line : ℕ) (text : Option (List ℕ)) (before now : Faults)
    (fault : WitnessFault) → length old ≡ n
    → IsTextFault (IsFaultAtFront (AreStockLines (length old))) line text before now fault
    → IsTextFault (IsFaultAtFront (AreStockLines n)) line text before now fault
counted_stocks old n line text before now fault many h =
    subst (λ (k : ℕ). IsTextFault (IsFaultAtFront (AreStockLines k)) line text before now fault) many h

-- what is said of a fault
pub on_err : {A : Type 0} (result : Result A WitnessFault) (P Q : WitnessFault → Type 0)
    → ((f : WitnessFault) → P f → Q f) → IfErr result P → IfErr result Q
on_err (Ok done) P Q lemma h = tt
on_err (Err fault) P Q lemma h = lemma fault h
