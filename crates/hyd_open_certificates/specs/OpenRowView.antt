-- A record of version 4 as the program keeps it, as the definitions see it.
use Rattle.hyd_spec_open_ends.specs.OpenStandings.{OpenRecord}
use Rattle.hyd_cert.specs.Lines.{Header}
use Rattle.hyd_cert.specs.RecordView.{row_of}
use Rattle.hyd_open_certificates.specs.OpenLines.{open_header}
use Rattle.hyd_open_certificates.specs.declared.open_row.OpenRow.{OpenRow}

-- The header of the texts that it can stand in.
abbrev pub open_header_of : OpenRow → Header
open_header_of found = open_header found.row.junctions found.row.tanks

-- The record.
abbrev pub open_record_of : OpenRow → OpenRecord
open_record_of found = record { row = row_of found.row; late = found.late; shortest = found.shortest }
