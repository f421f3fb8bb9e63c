-- Blocks: texts of a known number of lines that end where they end, whatever follows.
use Rattle.std.proofs.Common.{◌≡◌, ℕ, ◌+◌, List, ◌++◌, refl, sym, ap, subst, ◌∙◌, append_assoc, arith}
use Rattle.hyd_spec_certificates.specs.CertificateText.{line_feeds}
use Rattle.hyd_spec_witnesses.specs.FaultyLine.{IsLines}
use Rattle.hyd_witness_texts.specs.FirstFaults.{IsFaultAtFront}
use Rattle.hyd_witness_texts.specs.PartsOfWitness.{IsOneThen}
use Rattle.hyd_witness_texts.proofs.FirstFaultLemmas.{feeds-append, lines_append, stuck_behind, stuck_with_more}

pub record IsBlock (IsSuch : List ℕ → Type 0) (m : ℕ) : Type 0 where
  pub lines : (a : List ℕ) → IsSuch a → IsLines a
  pub feeds : (a : List ℕ) → IsSuch a → line_feeds a ≡ m
  pub cut : (a b x y : List ℕ) → IsSuch a → IsSuch b → a ++ x ≡ b ++ y → x ≡ y
  pub some : (a : List ℕ) × IsSuch a

module _ {P Q : List ℕ → Type 0} where
  pub then_is : (a b : List ℕ) → P a → Q b → IsOneThen P Q (a ++ b)
  then_is a b p q = record { first = a; second = b; is_first = p; is_second = q; parts = refl }

  pub then_block : (m n : ℕ) → IsBlock P m → IsBlock Q n → IsBlock (IsOneThen P Q) (m + n)
  then_block m n p q = record {
    lines = λ a is. subst IsLines (sym is.parts) (lines_append is.first is.second (p.lines is.first is.is_first)
        (q.lines is.second is.is_second));
    feeds = λ a is. (let sum = feeds-append is.first is.second in let f = p.feeds is.first is.is_first in
        let s = q.feeds is.second is.is_second in let whole = ap line_feeds is.parts in
        omega (arith, sum, f, s, whole));
    cut = λ a b x y is_a is_b e. q.cut is_a.second is_b.second x y is_a.is_second is_b.is_second
        (p.cut is_a.first is_b.first (is_a.second ++ x) (is_b.second ++ y) is_a.is_first is_b.is_first
        (sym (ap (λ t. t ++ x) is_a.parts ∙ append_assoc is_a.first is_a.second x)
        ∙ (e ∙ (ap (λ t. t ++ y) is_b.parts ∙ append_assoc is_b.first is_b.second y))));
    some = (p.some.0 ++ q.some.0, then_is p.some.0 q.some.0 p.some.1 q.some.1);
  }

  -- a fault in the first part
  pub then_here : (n : ℕ) → IsBlock Q n → (text : List ℕ) (number : ℕ) → IsFaultAtFront P text number
      → IsFaultAtFront (IsOneThen P Q) text number
  then_here n q text number k = stuck_with_more text number
      (λ t p. (q.some.0, then_is t q.some.0 p q.some.1))
      (λ t b. record {
        front = b.is_such.first;
        rest = b.is_such.second ++ b.rest;
        is_such = b.is_such.is_first;
        parts = b.parts ∙ (ap (λ f. f ++ b.rest) b.is_such.parts
            ∙ append_assoc b.is_such.first b.is_such.second b.rest);
      }) k

  -- a fault behind it
  pub then_behind : (m : ℕ) → IsBlock P m → (a : List ℕ) → P a → (text : List ℕ) (number : ℕ)
      → IsFaultAtFront Q text number → IsFaultAtFront (IsOneThen P Q) (a ++ text) (m + number)
  then_behind m p a is text number k = stuck_behind a text m number (p.lines a is) (p.feeds a is)
      (λ t q. then_is a t is q)
      (λ t b. record {
        front = b.is_such.second;
        rest = b.rest;
        is_such = b.is_such.is_second;
        parts = p.cut a b.is_such.first t (b.is_such.second ++ b.rest) is b.is_such.is_first
            (b.parts ∙ (ap (λ f. f ++ b.rest) b.is_such.parts
            ∙ append_assoc b.is_such.first b.is_such.second b.rest));
      }) k
