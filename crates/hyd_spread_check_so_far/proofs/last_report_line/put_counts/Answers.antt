-- The parts are the line.
use Rattle.std.proofs.Common.{◌≡◌, ℕ, List, [], ◌∷◌, ◌++◌, codes, append_assoc, refl}
use Rattle.std.specs.Fmt.{decimal}
use Rattle.hyd_spec_certificates.specs.CertificateText.{line}
use Rattle.hyd_io.proofs.PutLemmas.{puts_same}
use Rattle.hyd_spread_check_so_far.proofs.last_report_line.put_counts.Goals as goal

line_is : (number : List ℕ) → codes "BADCERT line " ++ (number ++ codes " COUNT\n")
    ≡ line (codes "BADCERT" ∷ (codes "line" ∷ (number ∷ (codes "COUNT" ∷ []))))
line_is number = simp append_assoc refl

pub returns : goal.returns
returns g c = puts_same _ _ _ _ _ _ _ (line_is (decimal c.args.number)) c.put_bad_line.ensures
