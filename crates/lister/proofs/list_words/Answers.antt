-- `list_words`: what the audit says of the words decides between the two texts.
use native.Mathlib.Omega.{arith}
use Rattle.lister.proofs.Writing.{puts_all, puts_counts}
use Rattle.lister.proofs.Lines.{listing≤}
use Rattle.lister.proofs.list_words.Goals as goal

pub returns-in_default : goal.returns-in_default
returns-in_default c =
    let none = rw c.in_default.is at c.audit.ensures in
    let P = c.put_text.ensures in
    record { within = puts_counts P (omega arith); text = record { unsound = λ n. puts_all P (omega arith); sound = λ s. absurd (none s) } }

pub put_listing-requires : goal.put_listing-requires
put_listing-requires c =
    let told = rw c.in-Some.is at c.audit.ensures in
    record {
      sound = told.0;
      header_of = told.1;
      pool_in_bounds = omega arith;
      pool_in_bounds_2 = omega (arith, listing≤ c.args.pool.now told.0 (omega arith));
    }

pub returns : goal.returns
returns c =
    let told = rw c.in-Some.is at c.audit.ensures in
    let fits = listing≤ c.args.pool.now told.0 (omega arith) in
    record {
      within = puts_counts c.put_listing.ensures (omega arith);
      text = record { unsound = λ n. absurd (n told.0); sound = λ s. puts_all c.put_listing.ensures (omega arith) };
    }
