use Rattle.std.proofs.Common.{◌∙◌, ℕ, length, sym, ap, ap₂, subst}
use Rattle.hyd_spec_certificates.specs.declared.Problem.TheVariants.{Main}
use Rattle.hyd_spec_certificates.specs.declared.Side.TheVariants.{Upper, Lower}
use Rattle.hyd_spec_witnesses.specs.MiddleCandidate.{heads_between}
use Rattle.hyd_spec_witnesses.specs.WitnessText.{AreValues}
use Rattle.hyd_witness.proofs.CandidateLemmas.{vector_long}
use Rattle.hyd_witness.proofs.candidate.put_heads.Goals as goal

pub put_heads_between-requires-clause-each_lower : goal.put_heads_between-requires-clause-each_lower
put_heads_between-requires-clause-each_lower c =
    ap length c.vector-lower.ensures ∙ (vector_long c.args.row.now Main Lower tt ∙ sym c.requires)

pub put_heads_between-requires-clause-each_upper : goal.put_heads_between-requires-clause-each_upper
put_heads_between-requires-clause-each_upper c =
    ap length c.vector-upper.ensures ∙ (vector_long c.args.row.now Main Upper tt ∙ sym c.requires)

pub returns-clause-value : goal.returns-clause-value
returns-clause-value c =
    c.put_heads_between.ensures.value ∙ ap₂ heads_between c.vector-lower.ensures c.vector-upper.ensures

pub returns-clause-fit : goal.returns-clause-fit
returns-clause-fit c =
    subst (λ (n : ℕ). AreValues n c.put_heads_between.new.into.list) c.requires c.put_heads_between.ensures.fit
