-- What the exported calls answer and leave: the engine's definitions, at the kind and the sealer of these numbers.
use Rattle.std.specs.Prelude.{ℕ, List, length, Result}
use Rattle.std.specs.Option.{option_map_or}
use Rattle.faults.specs.Branches.{pick_byte}
use Rattle.faults.specs.Outcomes.{map_ok}
use Rattle.kinds.specs.Kind.{Kind}
use Rattle.locks.specs.Circuit.{Circuit}
use Rattle.locks.specs.Lengths.{key_length, view_length, tape_length, first_length, answer_length, work_length}
use Rattle.locks.specs.Locks.{Summary, summary}
use Rattle.locks.specs.Reading.{lock_of}
use Rattle.seals.specs.Sealing.{Sealing}
use Rattle.theory.specs.declared.Extracted.{Extracted}
use Rattle.theory.specs.Verdict.{verified}
use Rattle.theory.specs.Extraction.{by_branch, extracted, key_after}
use Rattle.exports.specs.declared.told.Refusal.{Refusal}
use Rattle.exports.specs.declared.told.ToldLengths.{ToldLengths}
use Rattle.exports.specs.declared.told.ToldExtracted.{ToldExtracted}
use Rattle.exports.specs.Outcomes.{told_by, told_beside}
use Rattle.exports.specs.Numbered.{by_number, chosen}

-- a lock's counts, and the lengths of what belongs to it
abbrev pub lengths_by : Kind → Sealing → Summary → ToldLengths
lengths_by K S n = record {
  inputs = n.inputs;
  gates = n.gates;
  outputs = n.outputs;
  products = n.products;
  key = key_length K n.inputs;
  view = view_length K n.inputs n.products;
  tape = tape_length K n.inputs n.products;
  first = first_length K n.outputs S.size;
  answer = answer_length K n.inputs n.products;
  work = work_length K n.inputs n.gates;
}

abbrev pub lengths_of : Kind → Sealing → Circuit (List ℕ) → ToldLengths
lengths_of K S l = lengths_by K S (summary l)

abbrev pub read_call : (kind sealer : ℕ) (lock : List ℕ) → Result ToldLengths Refusal
read_call kind sealer lock = by_number kind sealer (λ K S. told_by (map_ok (lengths_of K S) (lock_of K lock)))

abbrev pub verify_call : (kind sealer : ℕ) (lock first : List ℕ) (pick : ℕ) (answer : List ℕ) (work1 work2 : ℕ) → Result (Unit {0}) Refusal
verify_call kind sealer lock first pick answer work1 work2 = by_number kind sealer (λ K S. told_by (verified K S lock first pick answer work1 work2))

module _ (kind sealer : ℕ) (lock first answer1 answer2 answer3 : List ℕ) (work1 work2 : ℕ) (key : List ℕ) where
  abbrev pub extract_call : Result Extracted Refusal
  extract_call = by_number kind sealer (λ K S. told_beside (extracted K S lock first (by_branch answer1 answer2 answer3) work1 work2 (length key)))

  -- the key buffer afterwards
  abbrev pub key_left : List ℕ
  key_left = option_map_or (λ n. key_after n.0 n.1 lock first (by_branch answer1 answer2 answer3) work1 work2 key) (chosen kind sealer) key

-- branch 0 for a key
abbrev pub extracted_told : Extracted → ToldExtracted
extracted_told Extracted.Key = record { offset = 0; branch = 0 }
extracted_told (Extracted.Collision b o) = record { offset = o; branch = pick_byte b }
