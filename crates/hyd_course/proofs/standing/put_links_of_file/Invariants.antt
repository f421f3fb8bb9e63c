use Rattle.std.proofs.Common.{◌≡◌, ◌<◌, ℕ}
use Rattle.std.specs.Prelude.{slice_index_or}
use Rattle.hyd_spec.specs.ProgramTypes.{Link, LinkState}
use Rattle.hyd_course.proofs.standing.put_links_of_file.Given as goal

-- the links so far have the states of the file
abbrev pub invariant-loop-link : goal.invariant-loop-link
invariant-loop-link l = (k : ℕ) (link : Link) (state : LinkState) → k < l.link
    → slice_index_or l.links k state ≡ (slice_index_or l.file k link).start
