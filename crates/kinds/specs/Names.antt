-- The kinds by name.
use Rattle.std.specs.Prelude.{ℕ, cond, Some, None, Option, ◌==◌}
use Rattle.kinds.specs.declared.name.KindName.{KindName}
use Rattle.kinds.specs.Kind.{Kind}
use Rattle.kinds.specs.Three.{bit_kind, word_kind, residue_kind}

abbrev pub kind_of : KindName → Kind
kind_of KindName.Bit = bit_kind
kind_of KindName.Word = word_kind
kind_of KindName.Residue = residue_kind

-- the name of the kind with the number n
abbrev pub named : ℕ → Option KindName
named n = cond (n == 1) (Some KindName.Bit) (cond (n == 2) (Some KindName.Word) (cond (n == 3) (Some KindName.Residue) None))
