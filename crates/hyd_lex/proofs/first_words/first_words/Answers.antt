use Rattle.std.proofs.Common.{rules, ◌≡◌, ◌<◌, ◌∷◌, [], Some, None, length, drop, arith}
use Rattle.std.proofs.Common.{sym, add-one, ◌∙◌}
use Rattle.std.proofs.lemmas.List.{get_or-set_other, length-set}
use Rattle.hyd_spec_lines.specs.WordsOfLines.{words_in}
use Rattle.hyd_lex.proofs.FirstWordsLemmas.{word_at, behind_word, behind_last, found_more, none_more}
use Rattle.hyd_lex.proofs.first_words.first_words.Goals as goal
use Rattle.hyd_lex.proofs.first_words.first_words.Goals.{in-Some, in_default}

pub loop-place-preserved : goal.loop-place-preserved
loop-place-preserved c = elim c.match-split_word.branch [
  | in-Some w ↦ (let all = words_in c.args.body.now in
      let place = c.loop-place.place in
      let found = c.loop-place.words in
      let word = w.in-Some.word in
      let at : drop place all ≡ word.now ∷ words_in w.in-Some.behind.now = sym c.loop-place.invariant.left
      ∙ w.in-Some.ensures.some in
      let within : place < length found = search rules in
      record {
        all = rw w.words-is (length-set found place (Some word) ∙ c.loop-place.invariant.all);
        left = rw (w.rest-is, add-one) (sym (behind_word all place word.now (words_in w.in-Some.behind.now) at));
        found = rw w.words-is (found_more all found place word within (word_at all place word.now
            (words_in w.in-Some.behind.now) at) c.loop-place.invariant.found);
        none = rw w.words-is (λ k l. get_or-set_other found place k (Some word) None (λ e. absurd (omega (arith, l, e)))
            ∙ c.loop-place.invariant.none k (omega (arith, l)));
      })
  | in_default w ↦ (let all = words_in c.args.body.now in
      let place = c.loop-place.place in
      let found = c.loop-place.words in
      let ended : drop place all ≡ [] = sym c.loop-place.invariant.left ∙ w.in_default.ensures.none in
      record {
        all = rw w.words-is c.loop-place.invariant.all;
        left = rw (w.rest-is, add-one) (w.in_default.ensures.none ∙ sym (behind_last all place ended));
        found = rw w.words-is (none_more all found place ended c.loop-place.invariant.found c.loop-place.invariant.none);
        none = rw w.words-is (λ k l. c.loop-place.invariant.none k (omega (arith, l)));
      })
]
