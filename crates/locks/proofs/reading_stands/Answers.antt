use Rattle.locks.proofs.Encodings.{reading_law}
use Rattle.locks.proofs.RefusedLocks.{refusal_law}
use Rattle.locks.proofs.reading_stands.Goals as goal

pub returns : goal.returns
returns c = record { accepted = reading_law; refused = refusal_law }
