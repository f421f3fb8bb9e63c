-- What is left as it was over two calls.
use Rattle.std.proofs.Common.{◌≡◌, ℕ, Bool, List, Option, refl, sym, ◌∙◌, arith}
use Rattle.hyd_io.specs.declared.desk.Faults.{Faults}
use Rattle.hyd_io.specs.declared.desk.Openings.{Openings}
use Rattle.hyd_io.specs.declared.output.Channel.{Channel}
use Rattle.hyd_io.specs.declared.output.Channel.TheVariants.{Cert, Report}
use Rattle.hyd_io.specs.DeskBytes.{Files}
use Rattle.hyd_io.specs.DeskCounts.{NeverFall}
use Rattle.hyd_io.specs.LeftAsItWas.{KeepsOthers, KeepsOutput}
use Rattle.hyd_io.specs.Output.{OnCert, OnReport}

-- ---- by channel

pub on_report_then : {A : Type 0} (to pen : Channel) (a b d : A) → pen ≡ to → OnReport to (b ≡ a)
    → OnReport pen (d ≡ b) → OnReport to (d ≡ a)
on_report_then Cert pen a b d same so_far step = tt
on_report_then Report Cert a b d same so_far step = absurd (cc)
on_report_then Report Report a b d same so_far step = step ∙ so_far

pub on_cert_then : {A : Type 0} (to pen : Channel) (a b d : A) → pen ≡ to → OnCert to (b ≡ a) → OnCert pen (d ≡ b)
    → OnCert to (d ≡ a)
on_cert_then Report pen a b d same so_far step = tt
on_cert_then Cert Report a b d same so_far step = absurd (cc)
on_cert_then Cert Cert a b d same so_far step = step ∙ so_far

-- ---- what stays

pub never_fall_stays : (f : Faults) → NeverFall f f
never_fall_stays f = record { read = omega arith; write = omega arith; print = omega arith; stall = omega arith }

never_fall_then : (a b d : Faults) → NeverFall a b → NeverFall b d → NeverFall a d
never_fall_then a b d first second = record {
  read = omega (arith, first.read, second.read);
  write = omega (arith, first.write, second.write);
  print = omega (arith, first.print, second.print);
  stall = omega (arith, first.stall, second.stall);
}

pub on_report_stays : {A : Type 0} (to : Channel) (a : A) → OnReport to (a ≡ a)
on_report_stays Cert a = tt
on_report_stays Report a = refl

pub on_cert_stays : {A : Type 0} (to : Channel) (a : A) → OnCert to (a ≡ a)
on_cert_stays Cert a = refl
on_cert_stays Report a = tt

-- ---- two calls

module _ {S : Type 0} {files : S → Option Files} {rest written printed target : S → Option (List ℕ)} {ready : S → Bool}
    {counts : S → Faults} {openings : S → Openings} where
  pub others_kept_then : (to : Channel) (d e f : S)
      → KeepsOthers files rest written printed target ready counts openings to d e
      → KeepsOthers files rest written printed target ready counts openings to e f
      → KeepsOthers files rest written printed target ready counts openings to d f
  others_kept_then to d e f first second = record {
    never_fall = never_fall_then (counts d) (counts e) (counts f) first.never_fall second.never_fall;
    report_files = on_report_then to to (files d) (files e) (files f) refl first.report_files second.report_files;
    report_written = on_report_then to to (written d) (written e) (written f) refl first.report_written
        second.report_written;
    cert_printed = on_cert_then to to (printed d) (printed e) (printed f) refl first.cert_printed second.cert_printed;
    others = λ other apart. second.others other (λ same. apart (sym first.target_stays ∙ same))
        ∙ first.others other apart;
    still_told = second.still_told ∙ first.still_told;
    rest_stays = second.rest_stays ∙ first.rest_stays;
    target_stays = second.target_stays ∙ first.target_stays;
    ready_stays = second.ready_stays ∙ first.ready_stays;
    openings_stay = second.openings_stay ∙ first.openings_stay;
  }

module _ {S : Type 0} {files : S → Option Files} {written printed target : S → Option (List ℕ)} {ready : S → Bool}
    {counts : S → Faults} {openings : S → Openings} where
  pub output_kept_then : (d e f : S) → KeepsOutput files written printed target ready counts openings d e
      → KeepsOutput files written printed target ready counts openings e f
      → KeepsOutput files written printed target ready counts openings d f
  output_kept_then d e f first second = record {
    never_fall = never_fall_then (counts d) (counts e) (counts f) first.never_fall second.never_fall;
    files_stay = second.files_stay ∙ first.files_stay;
    written_stays = second.written_stays ∙ first.written_stays;
    printed_stays = second.printed_stays ∙ first.printed_stays;
    target_stays = second.target_stays ∙ first.target_stays;
    ready_stays = second.ready_stays ∙ first.ready_stays;
    openings_stay = second.openings_stay ∙ first.openings_stay;
  }
