-- The fault of a text as a value that computes, capacities out of range left out, and texts that many examples begin
-- with.
use Rattle.std.specs.Prelude.{ℕ, ◌+◌, Bool, List, [], ◌∷◌, ◌++◌, codes, Option, Some, None}
use Rattle.std.specs.List.{flat_map}
use Rattle.hyd_spec_lines.specs.Lines.{Row, items_of, rows_in, all_rows_in, fault_in}
use Rattle.hyd_spec_lines.specs.declared.fault.LexFault.{LexFault}
use Rattle.hyd_spec_lines.specs.Headings.{either}
use Rattle.hyd_spec_input.specs.OptionsAndTimesInForce.{has_hazen_williams}
use Rattle.hyd_spec_input.specs.SingleRows as itself
use Rattle.hyd_spec_input.specs.FaultsWithOtherRows as others
use Rattle.hyd_spec_input.specs.Faults.{line_cause, lack}
use Rattle.hyd_net.specs.declared.refusal_cause.Cause.{Cause}

-- a fault at a line
abbrev pub at_line : ℕ → Option Cause → Option (ℕ × Cause)
at_line line None = None
at_line line (Some cause) = Some (line, cause)

-- the first fault of rows, the first of which has this number among all
abbrev pub first_of : (List Row → ℕ → Row → Option Cause) → List Row → ℕ → List Row → Option (ℕ × Cause)
first_of fault all k [] = None
first_of fault all k (row ∷ rows) = either (at_line row.number (fault all k row)) (first_of fault all (k + 1) rows)

abbrev pub of_lines : Option LexFault → Option (ℕ × Cause)
of_lines None = None
of_lines (Some fault) = Some (fault.line, line_cause fault.cause)

abbrev pub of_rows : Bool → List Row → Option LexFault → Option (ℕ × Cause)
of_rows by_power rows lines =
    either (first_of (itself.row_fault_by by_power) rows 0 rows)
    (either (of_lines lines) (either (first_of others.row_fault rows 0 rows) (at_line 0 (lack rows))))

abbrev pub fault_of : List ℕ → Option (ℕ × Cause)
fault_of text =
    of_rows (has_hazen_williams (all_rows_in (items_of text))) (rows_in (items_of text)) (fault_in (items_of text))

-- ---- texts

-- cubic metres a day and Chezy-Manning losses
abbrev pub front : List ℕ
front = codes "[OPTIONS]\nUNITS CMD\nHEADLOSS C-M\n"

-- a junction, a reservoir and a throttle control valve
abbrev pub one_valve : List ℕ
one_valve =
    front ++ codes "[JUNCTIONS]\nJ 0 1000\n[RESERVOIRS]\nR 100\n[VALVES]\nV R J 304.8 TCV 100 0\n"

-- a junction, a reservoir and a tank, with a pipe, a check valve, a pump and a throttle control valve
abbrev pub town : List ℕ
town =
    front ++ codes "[JUNCTIONS]\nJ 0 0\n[RESERVOIRS]\nR 100\n[TANKS]\nT 0 5 0 10 20 0\n[PIPES]\n"
    ++ codes "P R J 100 100 0.01 0\nC J T 100 100 0.01 0 CV\n[CURVES]\nH 1 30\n[PUMPS]\nU R J HEAD H\n"
    ++ codes "[VALVES]\nV J T 300 TCV 5 0\n"

-- a pump with a curve of these points, a general purpose valve, a tank
abbrev pub pump_with : List ℕ → List ℕ
pump_with points =
    front ++ codes "[RESERVOIRS]\nA 0\nB 10\n[CURVES]\n" ++ points
    ++ codes "[PUMPS]\nU A B HEAD C\n"

abbrev pub valve_with : List ℕ → List ℕ
valve_with points =
    front ++ codes "[RESERVOIRS]\nA 12\nB 10\n[CURVES]\n" ++ points
    ++ codes "[VALVES]\nV A B 300 GPV G 0\n"

abbrev pub tank_with : List ℕ → List ℕ
tank_with points =
    front ++ codes "[CURVES]\n" ++ points
    ++ codes "[TANKS]\nT 0 4 0 10 0 0 C\n"

-- tanks, each of a letter
abbrev pub tanks : List ℕ → List ℕ
tanks letters = front ++ codes "[TANKS]\n" ++ flat_map (λ letter. letter ∷ codes " 0 5 0 10 20\n") letters

-- every section that is read, and every kind of row
abbrev pub every_section : List ℕ
every_section =
    codes "[OPTIONS]\nUNITS CMD\nHEADLOSS C-M\nDEMAND MODEL PDA\nMINIMUM PRESSURE 1\n"
    ++ codes "REQUIRED PRESSURE 2\nDEMAND MULTIPLIER 1.5\nPRESSURE EXPONENT 0.5\nPRESSURE PSI\n"
    ++ codes "SPECIFIC GRAVITY 1\nEMITTER EXPONENT .5\nPATTERN Q\nTRIALS 40\n[TIMES]\nDURATION 24\n"
    ++ codes "HYDRAULIC TIMESTEP 1:00\nPATTERN TIMESTEP 1:00:00\nPATTERN START 0\nREPORT TIMESTEP 60 MIN\n"
    ++ codes "REPORT START 0 SEC\nSTART CLOCKTIME 6 AM\nRULE TIMESTEP 5 MIN\nQUALITY TIMESTEP 0:05\n"
    ++ codes "STATISTIC NONE\n[PATTERNS]\nQ 1 2 0.5\nQ 1\n[JUNCTIONS]\nJ 0 5 Q\nK 3\n[RESERVOIRS]\n"
    ++ codes "R 100 Q\n[TANKS]\nT 10 5 0 10 20 0\nW 0 4 1 9 0 0 C YES\n[PIPES]\n"
    ++ codes "P R J 100 100 0.01 0 CLOSED\nC J K 100 100 0.01 CV\n[CURVES]\nH 1 30\nE 0 40\nE 10 30\n"
    ++ codes "E 20 0\nL 0 40\nL 1000 30\nL 2000 15\nL 3000 0\nG 0 0\nG 100 1\nG 200 4\nC 0 0\nC 5 500\n"
    ++ codes "C 10 2000\n[PUMPS]\nU R K HEAD H SPEED 1.1 PATTERN Q\nX R K HEAD E\nY R K PATTERN Q HEAD L\n"
    ++ codes "[VALVES]\nV K T 300 TCV 5 0\nF J T 300 FCV 50\nB J W 300 GPV G 2\n[DEMANDS]\nJ 4 Q x\nJ 5\n"
    ++ codes "[EMITTERS]\nK 2\n[STATUS]\nU 0.5\nV OPEN\nB CLOSED\n[CONTROLS]\n"
    ++ codes "LINK P OPEN IF NODE T BELOW 3\nPUMP U 1 AT CLOCKTIME 7:30 PM\nVALVE F 3 AT TIME 4:30\n"
    ++ codes "[RULES]\nRULE 1\nIF TANK T LEVEL > 1\nAND SYSTEM TIME >= 2\nOR LINK P STATUS IS OPEN\n"
    ++ codes "OR NODE J PRESSURE BELOW 4\nAND SYSTEM CLOCKTIME = 3 PM\nAND PUMP U SETTING > 0.5\n"
    ++ codes "OR VALVE V FLOW ABOVE 2\nTHEN VALVE V SETTING IS 5\nAND PIPE P STATUS = CLOSED\n"
    ++ codes "ELSE PUMP U STATUS IS OPEN\nPRIORITY 3\n"

-- an emitter that passes 10^12 gallons a day at one pound a square inch, where a file may ask for no more
abbrev pub great_emitter : List ℕ
great_emitter = codes "[OPTIONS]\nUNITS MGD\nHEADLOSS C-M\n[JUNCTIONS]\nJ 0\n[EMITTERS]\nJ 1000000\n"
