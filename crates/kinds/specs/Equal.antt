-- Elements whose rows are four bytes are equal together with their rows.
use Rattle.std.specs.Prelude.{◌≡◌, ℕ, ◌<◌, ◌==◌}
use Rattle.std.proofs.Common.{sym, ap, ◌∙◌}
use Rattle.std.proofs.lemmas.Bool.Decides.{Decides-eqb, same_from_decides}
use Rattle.std.proofs.lemmas.Slice.Eq.{bytes_eq-Decides}
use Rattle.kinds.specs.Kind.{same_row}
use Rattle.kinds.specs.Numbers.{number_of, four_bytes}
use Rattle.kinds.specs.ModularLaws.{number_four}

pub same_number : (a b : ℕ) → a < 4294967296 → b < 4294967296 → (a == b) ≡ same_row (four_bytes a) (four_bytes b)
same_number a b p q =
    let d = bytes_eq-Decides (four_bytes a) (four_bytes b) in
    same_from_decides _ _ (Decides-eqb a b)
    ((λ e. sym (number_four a p) ∙ ap number_of (d.0 e) ∙ number_four b q), λ e. d.1 (ap four_bytes e))
