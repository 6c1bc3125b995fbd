-- The code's values as the definitions' values: what a borrowed part holds, and not where it lies.
use Rattle.std.specs.Prelude.{ℕ, ◌+◌, List, drop, Ok, Err, Result}
use Rattle.std.specs.Borrow.{Bor}
use Rattle.faults.specs.declared.Fault.{Fault}
use Rattle.kinds.specs.Kind.{Kind}
use Rattle.locks.specs.declared.records.GateRecord.{GateRecord}
use Rattle.locks.specs.declared.records.OutputRecord.{OutputRecord}
use Rattle.locks.specs.declared.reader.Reader.{Reader}
use Rattle.locks.specs.Circuit.{Gate, ac, mc, ad, mu, Output, mus}
use Rattle.locks.specs.Reading.{gate_size, output_size, Records}

abbrev pub gate_of : GateRecord → Gate (List ℕ)
gate_of (GateRecord.AddConstant a c) = ac a c.now
gate_of (GateRecord.MultiplyConstant a c) = mc a c.now
gate_of (GateRecord.Add a b) = ad a b
gate_of (GateRecord.Multiply a b) = mu a b

abbrev pub output_of : OutputRecord → Output (List ℕ)
output_of u = record { wire = u.wire; target = u.target.now }

abbrev pub fields_of : ℕ × Bor (List ℕ) → ℕ × List ℕ
fields_of p = (p.0, p.1.now)

-- where a reader stands: the bytes that are left, and their offset
pub record Standing : Type 0 where
  pub rest : List ℕ
  pub at : ℕ

abbrev pub standing : Reader → Standing
standing r = record { rest = r.rest.now; at = r.at }

abbrev pub behind : ℕ → Standing → Standing
behind n s = record { rest = drop n s.rest; at = s.at + n }

-- a record that was read is passed; a refusal leaves the reader where it stood
abbrev pub past_gate : Kind → Result (Gate (List ℕ)) Fault → Standing → Standing
past_gate K (Ok g) s = behind (gate_size K g) s
past_gate K (Err f) s = s

abbrev pub past_output : Kind → Result (Output (List ℕ)) Fault → Standing → Standing
past_output K (Ok u) s = behind (output_size K) s
past_output K (Err f) s = s

abbrev pub start_of : List ℕ → Standing
start_of bs = record { rest = bs; at = 0 }

-- in front of the records, which stand behind a header of 15 bytes
abbrev pub behind_header : List ℕ → Standing
behind_header xs = record { rest = xs; at = 15 }

-- a value, and where the reader stands then
abbrev pub reached : {A : Type 0} → Result A Fault → Standing → Result (A × Standing) Fault
reached (Ok x) s = Ok (x, s)
reached (Err f) s = Err f

-- behind gates that were read: the number of products, q others among them
abbrev pub tally : ℕ → Records (Gate (List ℕ)) → ℕ × Standing
tally q G = (q + mus G.items, record { rest = G.rest; at = G.end })

-- behind outputs that were read
abbrev pub all_read : Records (Output (List ℕ)) → Unit {0} × Standing
all_read U = (tt, record { rest = U.rest; at = U.end })
