-- Reading and encoding are inverse to one another, on well-formed circuits.
use Rattle.std.proofs.Common.{ℕ, List, sym, ap, ◌∙◌}
use Rattle.kinds.specs.Kind.{Kind, Laws, Bytes}
use Rattle.locks.specs.Reading.{lock_of}
use Rattle.locks.specs.Encoding.{Reads, ReadingLaw}
use Rattle.locks.proofs.Spelled.{lock_well_formed, lock_spelled}
use Rattle.locks.proofs.Written.{lock_written}

pub reads : (K : Kind) → Laws K → (bs : List ℕ) → Bytes bs → Reads K bs
reads K laws bs by = record {
  well_formed = lock_well_formed K laws.most_width bs;
  as_encoded = λ l. lock_spelled K laws.most_width bs l by;
  accepts = λ l w e. ap (lock_of K) (sym e) ∙ lock_written K laws.sized l w;
}

pub reading_law : ReadingLaw
reading_law = reads
