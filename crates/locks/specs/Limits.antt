-- The limits of a lock, each in one place.
use Rattle.std.specs.Prelude.{ℕ}

abbrev pub most_inputs : ℕ
most_inputs = 1024

abbrev pub most_gates : ℕ
most_gates = 200000

abbrev pub most_outputs : ℕ
most_outputs = 1024

abbrev pub longest_view : ℕ
longest_view = 65535
