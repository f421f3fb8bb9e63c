-- The great emitter's capacity is out of range, and that is the fault of its text.
use Rattle.std.proofs.Common.{◌≡◌, ℕ, zero, suc, ◌<◌, List, [], ◌∷◌, codes, take, Option, Some, None, refl, arith, pos}
use Rattle.std.proofs.Common.{neg_ℤ, inl, inr, true, false, true≢false, lit≤, lit<, subst, sym}
use Rattle.hyd_num.proofs.RoundingLemmas.{IsDown-from_cut, IsUp-exact, IsUp-next}
use Rattle.hyd_num.specs.declared.binary.Scaled.{Scaled}
use Rattle.hyd_num.specs.declared.decimals.Decimal.{Decimal}
use Rattle.hyd_num.specs.declared.flow_units.FlowUnit.TheVariants.{Mgd}
use Rattle.hyd_num.specs.declared.link_capacities.Origin.TheVariants.{Emitter}
use Rattle.hyd_num.specs.Numeral.{is_numeral, magnitude_of, nano_of}
use Rattle.hyd_num.specs.CapacityRange.{IsRefused}
use Rattle.hyd_spec_lines.specs.WordsOfLines.{words_in, is_keyword}
use Rattle.hyd_spec_lines.specs.Headings.{read_section, is_passed_over, heading_kind}
use Rattle.hyd_spec_lines.specs.Lines.{Row, items_of, rows_in, all_rows_in, fault_in, kind_of}
use Rattle.hyd_spec_lines.specs.declared.section.Section.TheVariants.{Junctions, Emitters, Options}
use Rattle.hyd_net.specs.declared.refusal_cause.Cause.{Cause}
use Rattle.hyd_net.specs.declared.refusal_cause.Cause.TheVariants.{Limit}
use Rattle.hyd_spec_input.specs.Keywords.{flow_unit, option_word, time_word, link_word, node_word, object_word}
use Rattle.hyd_spec_input.specs.Keywords.{attribute_word, relation_word, rule_word}
use Rattle.hyd_spec_input.specs.TimesAndClockTimes.{unit_seconds}
use Rattle.hyd_spec_input.specs.SingleRows as itself
use Rattle.hyd_spec_input.specs.OptionsAndTimesInForce.{has_hazen_williams}
use Rattle.hyd_spec_input.specs.SingleRows.{IsWrongBy, IsWrongByItself}
use Rattle.hyd_spec_input.specs.FaultsWithOtherRows as others
use Rattle.hyd_spec_input.specs.CapacitiesOutOfRange.{IsRefusedEmitter, IsRefusedRow}
use Rattle.hyd_spec_input.specs.Faults.{IsWrongWithOthers, NoneIs, IsFirst, IsFault}
use Rattle.hyd_cases_of_definitions.specs.Input.{great_emitter}
use Rattle.hyd_lemmas.proofs.PairOperations.{IsDown-near}

-- ---- the pair that it stands for

flow_ticks : Scaled
flow_ticks = record { mant = 4845327083520000000; exp = neg_ℤ (pos 7); normal = lit≤ tt; short = lit< tt }

square_low : Scaled
square_low = record { mant = 5090805066191017635; exp = pos 48; normal = lit≤ tt; short = lit< tt }

square_high : Scaled
square_high = record { mant = 5090805066191017636; exp = pos 48; normal = lit≤ tt; short = lit< tt }

head_low : Scaled
head_low = record { mant = 7376089656127394414; exp = neg_ℤ (pos 20); normal = lit≤ tt; short = lit< tt }

head_high : Scaled
head_high = record { mant = 7376089656127394415; exp = neg_ℤ (pos 20); normal = lit≤ tt; short = lit< tt }

capacity_low : Scaled
capacity_low = record { mant = 6365756285727812241; exp = pos 5; normal = lit≤ tt; short = lit< tt }

capacity_before : Scaled
capacity_before = record { mant = 6365756285727812243; exp = pos 5; normal = lit≤ tt; short = lit< tt }

capacity_high : Scaled
capacity_high = record { mant = 6365756285727812244; exp = pos 5; normal = lit≤ tt; short = lit< tt }

coefficient : Decimal
coefficient = record { nano = pos 1000000000000000; bounded = lit≤ tt }

out_of_range : IsRefused (Emitter coefficient Mgd)
unfolding flow_ticks square_low square_high head_low head_high capacity_low capacity_before capacity_high coefficient
out_of_range = record {
  pair = record { lo = capacity_low; hi = capacity_high; ordered = lit≤ tt };
  made = record {
    flows = record { lo = flow_ticks; hi = flow_ticks; ordered = lit≤ tt };
    flows_is = record {
      low = IsDown-from_cut _ _ flow_ticks true (record {
        at_most = lit≤ tt;
        below = lit< tt;
        whole = λ e. refl;
        lost = λ e. absurd (true≢false e);
      });
      high = IsUp-exact _ _ flow_ticks (lit< tt) refl;
    };
    head = record { lo = head_low; hi = head_high; ordered = lit≤ tt };
    head_is = record {
      low = IsDown-near _ _ head_low (lit< tt) (lit< tt);
      high = IsUp-next _ _ head_low head_high (lit< tt) (lit< tt) (lit< tt) (record { one_more = refl });
    };
    capacity_is = record {
      square = record { lo = square_low; hi = square_high; ordered = lit≤ tt };
      square_is = record {
        low = IsDown-near _ _ square_low (lit< tt) (lit< tt);
        high = IsUp-next _ _ square_low square_high (lit< tt) (lit< tt) (lit< tt) (record { one_more = refl });
      };
      capacity_is = record {
        low = IsDown-near _ _ capacity_low (lit< tt) (lit< tt);
        high = IsUp-next _ _ capacity_before capacity_high (lit< tt) (lit< tt) (lit< tt) (record { one_more = refl });
      };
    };
  };
  outside = inl (lit≤ tt);
}

-- ---- the rows of the text

unit : Row
unit = record { number = 2; section = Options; words = codes "UNITS" ∷ codes "MGD" ∷ [] }

losses : Row
losses = record { number = 3; section = Options; words = codes "HEADLOSS" ∷ codes "C-M" ∷ [] }

junction : Row
junction = record { number = 5; section = Junctions; words = codes "J" ∷ codes "0" ∷ [] }

emitter : Row
emitter = record { number = 7; section = Emitters; words = codes "J" ∷ codes "1000000" ∷ [] }

rows : List Row
rows = unit ∷ losses ∷ junction ∷ emitter ∷ []

rows_are : rows_in (items_of great_emitter) ≡ rows
unfolding rows unit losses junction emitter items_of kind_of read_section is_passed_over heading_kind words_in
    is_keyword
    is_numeral magnitude_of nano_of
rows_are = refl

all_are : all_rows_in (items_of great_emitter) ≡ rows
unfolding rows unit losses junction emitter items_of kind_of read_section is_passed_over heading_kind words_in
    is_keyword
    is_numeral magnitude_of nano_of
all_are = refl

-- ---- no row is wrong by itself, nor one before the emitter's with the others

clash : (fault : Row → Option Cause) (a b : Row) (cause : Cause) → Some a ≡ Some b → fault a ≡ None
    → fault b ≡ Some cause → ⊥
clash fault a b cause same none some = let e : a ≡ b = cc in absurd (let x : ⊥ = cc in x)

no_row : (row : Row) → None ≡ Some row → ⊥
no_row row e = absurd (let x : ⊥ = cc in x)

right_alone : NoneIs (IsWrongByItself rows)
unfolding rows unit losses junction emitter is_keyword is_numeral magnitude_of nano_of flow_unit option_word time_word
    link_word node_word object_word attribute_word relation_word rule_word unit_seconds
right_alone zero cause w = clash (itself.row_fault rows 0) unit w.row cause w.row_is refl w.fault
right_alone (suc zero) cause w = clash (itself.row_fault rows 1) losses w.row cause w.row_is refl w.fault
right_alone (suc (suc zero)) cause w = clash (itself.row_fault rows 2) junction w.row cause w.row_is refl w.fault
right_alone (suc (suc (suc zero))) cause w = clash (itself.row_fault rows 3) emitter w.row cause w.row_is refl w.fault
right_alone (suc (suc (suc (suc k)))) cause w = no_row w.row w.row_is

earlier : (k : ℕ) → k < 3 → (cause : Cause) → IsWrongWithOthers rows k cause → ⊥
unfolding rows unit losses junction emitter is_keyword is_numeral magnitude_of nano_of flow_unit option_word time_word
    link_word node_word object_word attribute_word relation_word rule_word unit_seconds
earlier zero lt cause w = elim w.fault [
  | inl f ↦ clash (others.row_fault rows 0) unit w.row cause w.row_is refl f
  | inr f ↦ (let same : unit ≡ w.row = cc in subst (λ row. IsRefusedRow rows (take 0 rows) row → ⊥) same (λ r. r) f.1)
]
earlier (suc zero) lt cause w = elim w.fault [
  | inl f ↦ clash (others.row_fault rows 1) losses w.row cause w.row_is refl f
  | inr f ↦ (let same : losses ≡ w.row = cc in subst (λ row. IsRefusedRow rows (take 1 rows) row → ⊥) same (λ r. r) f.1)
]
earlier (suc (suc zero)) lt cause w = elim w.fault [
  | inl f ↦ clash (others.row_fault rows 2) junction w.row cause w.row_is refl f
  | inr f ↦
      (let same : junction ≡ w.row = cc in subst (λ row. IsRefusedRow rows (take 2 rows) row → ⊥) same (λ r. r) f.1)
]
earlier (suc (suc (suc k))) lt cause w = absurd (omega (arith, lt))

-- ---- the fault of the text

refused : IsRefusedEmitter (pos 1000000000000000) Mgd
unfolding coefficient
refused = record {
  above = record { lt = tt };
  c = coefficient;
  c_is = refl;
  refused = out_of_range;
}

first : IsFirst rows (IsWrongWithOthers rows) 7 (Limit 13)
unfolding rows unit losses junction emitter is_keyword is_numeral magnitude_of nano_of flow_unit option_word time_word
    link_word node_word object_word attribute_word relation_word rule_word unit_seconds
first = record {
  place = 3;
  wrong = record { row = emitter; row_is = refl; fault = inr (refl, refused, refl) };
  row = emitter;
  row_is = refl;
  line_is = refl;
  earlier = earlier;
}

no_line_fault : fault_in (items_of great_emitter) ≡ None
unfolding items_of kind_of read_section is_passed_over heading_kind words_in is_keyword is_numeral magnitude_of nano_of
no_line_fault = refl

pub its_fault : IsFault great_emitter 7 (Limit 13)
its_fault = inr (
  lit≤ tt,
  inr (
    subst (λ (all : List Row). NoneIs (IsWrongBy (has_hazen_williams all) (rows_in (items_of great_emitter))))
        (sym all_are)
        (subst (λ (rs : List Row). NoneIs (IsWrongBy (has_hazen_williams rows) rs)) (sym rows_are) right_alone),
    inr (
      no_line_fault,
      inl (subst (λ (rs : List Row). IsFirst rs (IsWrongWithOthers rs) 7 (Limit 13)) (sym rows_are) first),
    ),
  ),
)
