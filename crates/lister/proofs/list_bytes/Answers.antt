-- `list_bytes`: the two tests on the length, and then what is said of the words.
use native.Mathlib.Omega.{arith}
use Rattle.lister.proofs.Writing.{puts_all, puts_counts}
use Rattle.lister.proofs.list_bytes.Goals as goal

pub returns-then-bytes-ne0 : goal.returns-then-bytes-ne0
returns-then-bytes-ne0 c =
    let P = c.put_text-then-bytes-ne0.ensures in
    record {
      within = puts_counts P (omega arith);
      text = record { long = λ l. absurd (omega arith); odd = λ l o. puts_all P (omega arith); whole = λ l w. absurd (c.if-bytes-ne0.true w) };
    }

pub list_words-requires : goal.list_words-requires
list_words-requires c = omega arith

pub returns : goal.returns
returns c =
    let e = rw c.words_from-count.ensures.whole at c.list_words.ensures.text in
    record {
      within = c.list_words.ensures.within;
      text = record { long = λ l. absurd (omega arith); odd = λ l o. absurd (o c.if-bytes-ne0.false); whole = λ l w. e };
    }
