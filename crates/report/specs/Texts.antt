-- The text that tells of a lock: what it is, or why it is refused.
use Rattle.std.specs.Prelude.{ℕ, List, ◌++◌, Ok, Err, codes, decimal, Result, slice_index, unwrap_or}
use Rattle.faults.specs.declared.Fault.{Fault}
use Rattle.faults.specs.Outcomes.{map_ok}
use Rattle.faults.specs.Texts.{refused_text}
use Rattle.kinds.specs.declared.name.KindName.{KindName}
use Rattle.kinds.specs.Kind.{Kind}
use Rattle.kinds.specs.Names.{kind_of, named}
use Rattle.locks.specs.Lengths.{view_length, tape_length, first_length, answer_length}
use Rattle.locks.specs.Reading.{lock_of}
use Rattle.locks.specs.Locks.{Summary, summary}

abbrev pub counts_line : Kind → Summary → List ℕ
counts_line K s =
    codes "kind " ++ (decimal K.number ++ (codes " inputs " ++ (decimal s.inputs ++ (codes " gates " ++ (decimal s.gates
    ++ (codes " outputs " ++ (decimal s.outputs ++ codes "\n")))))))

-- byte lengths, at seals of 32 bytes
abbrev pub lengths_line : Kind → Summary → List ℕ
lengths_line K s =
    codes "products " ++ (decimal s.products ++ (codes " row " ++ (decimal (view_length K s.inputs s.products)
    ++ (codes " tape " ++ (decimal (tape_length K s.inputs s.products) ++ (codes " first " ++ (decimal (first_length K s.outputs 32)
    ++ (codes " answer " ++ (decimal (answer_length K s.inputs s.products) ++ codes "\n")))))))))

abbrev pub refused_line : Fault → List ℕ
refused_line f = refused_text f ++ codes "\n"

abbrev pub text_of : Kind → Result Summary Fault → List ℕ
text_of K (Ok s) = counts_line K s ++ lengths_line K s
text_of K (Err f) = refused_line f

-- the kind by which the bytes are read: that of the number they say; any other number is refused by every kind
abbrev pub kind_in : List ℕ → Kind
kind_in bs = kind_of (unwrap_or (named (slice_index bs 2)) KindName.Word)

abbrev pub report_of : List ℕ → List ℕ
report_of bs = text_of (kind_in bs) (map_ok summary (lock_of (kind_in bs) bs))
