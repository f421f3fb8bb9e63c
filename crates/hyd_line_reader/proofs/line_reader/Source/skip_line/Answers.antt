use Rattle.std.proofs.Common.{◌≡◌, ◌-◌, ◌+◌, length, ◌∙◌, ap, take, drop, arith}
use Rattle.std.proofs.lemmas.List.{length-take}
use Rattle.hyd_line_reader.proofs.SplitTexts.{skipped}
use Rattle.hyd_line_reader.proofs.line_reader.Source.skip_line.Goals as goal

pub returns : goal.returns
returns c =
    let s = c.self.inside in
    let l = length-take (s.end - s.at) (drop s.at s.block) in
    let same : length (take (s.end - s.at) (drop s.at s.block)) ≡ length c.args.self.now = ap length c.self.view_is in
    let same_place : s.at + c.args.n + 1 ≡ s.at + (c.args.n + 1) = omega arith in
    ap (λ k. take (s.end - k) (drop k s.block)) same_place
    ∙ (skipped s.block s.at s.end (c.args.n + 1) (omega (arith, l, same, c.requires)) ∙ ap (drop (c.args.n + 1))
    c.self.view_is)
