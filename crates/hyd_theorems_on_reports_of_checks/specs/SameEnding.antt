-- Checks of one text that end in the same way.
-- Source: this program's.
use Rattle.std.specs.Prelude.{◌≡◌, ⊤, ℕ, List}
use Rattle.hyd_spec.specs.ProgramTypes.{Project}
use Rattle.hyd_cert_check.specs.Checks.{CheckRefusal, grammar, counts, record_refused, other_end}
use Rattle.hyd_cert_check.specs.ChecksWithFlows.{CheckRefusalNaming, part_refused, grammar as faulty_line}
use Rattle.hyd_cert_check.specs.ChecksWithFlows.{counts as other_counts, record_refused as entry_refused}
use Rattle.hyd_cert_check.specs.ChecksWithFlows.{other_end as other_last_line}

-- Two checks refuse a text for one reason: by the same line, by its header line, by the same record and for the same
-- cause, or by its END line. What they found before is the same.
abbrev pub HaveOneReason : (project : Project) (text printed other : List ℕ) → CheckRefusal project text printed
    → CheckRefusal project text other → Type 0
HaveOneReason project text printed other (grammar a) (grammar b) = (a.number ≡ b.number) × (a.founds ≡ b.founds)
HaveOneReason project text printed other (counts a) (counts b) = ⊤
HaveOneReason project text printed other (record_refused cause a) (record_refused second b) =
    (cause ≡ second) × ((a.row ≡ b.row) × (a.founds ≡ b.founds))
HaveOneReason project text printed other (other_end a) (other_end b) = a.founds ≡ b.founds
HaveOneReason project text printed other a b = ⊥

-- The same of a text with flows, which may be refused by the part behind a record besides.
abbrev pub HaveOneReasonNaming : (project : Project) (text printed other : List ℕ)
    → CheckRefusalNaming project text printed → CheckRefusalNaming project text other → Type 0
HaveOneReasonNaming project text printed other (faulty_line a) (faulty_line b) =
    (a.number ≡ b.number) × (a.namings ≡ b.namings)
HaveOneReasonNaming project text printed other (other_counts a) (other_counts b) = ⊤
HaveOneReasonNaming project text printed other (entry_refused cause a) (entry_refused second b) =
    (cause ≡ second) × ((a.entry ≡ b.entry) × (a.namings ≡ b.namings))
HaveOneReasonNaming project text printed other (part_refused cause a) (part_refused second b) =
    (cause ≡ second) × ((a.found ≡ b.found) × ((a.part ≡ b.part) × (a.namings ≡ b.namings)))
HaveOneReasonNaming project text printed other (other_last_line a) (other_last_line b) = a.namings ≡ b.namings
HaveOneReasonNaming project text printed other a b = ⊥
