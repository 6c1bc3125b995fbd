use Rattle.theory.proofs.Groups.{group_laws}
use Rattle.theory.proofs.Parts.{message_laws}
use Rattle.theory.proofs.Places.{place_laws}
use Rattle.theory.proofs.Slices.{put_law}
use Rattle.theory.proofs.laws.bytes_stand.Goals as goal

pub returns : goal.returns
returns c = record { groups = group_laws; messages = message_laws; places = place_laws; writes = put_law }
