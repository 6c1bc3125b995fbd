-- Kinds and sealers by number.
use Rattle.std.specs.Prelude.{ℕ, cond, Some, None, Ok, Err, Option, Result, ok_or, ◌==◌}
use Rattle.std.specs.Option.{option_map}
use Rattle.std.specs.Result.{result_ok}
use Rattle.kinds.specs.Kind.{Kind}
use Rattle.kinds.specs.Names.{kind_of, named}
use Rattle.kinds.specs.declared.name.KindName.{KindName}
use Rattle.seals.specs.Sealing.{Sealing}
use Rattle.sha2_256.specs.Sha256.{sha256_sealing}
use Rattle.sha3.specs.Sha3.{sha3_256_sealing}
use Rattle.exports.specs.declared.names.SealerName.{SealerName}
use Rattle.exports.specs.declared.told.Refusal.{Refusal}

abbrev pub sealer_named : ℕ → Option SealerName
sealer_named n = cond (n == 1) (Some SealerName.Sha256) (cond (n == 2) (Some SealerName.Sha3_256) None)

abbrev pub sealing_of : SealerName → Sealing
sealing_of SealerName.Sha256 = sha256_sealing
sealing_of SealerName.Sha3_256 = sha3_256_sealing

-- what comes of a value, or the refusal in its place
abbrev pub or_refused : {A B : Type 0} → Result A Refusal → (A → Result B Refusal) → Result B Refusal
or_refused (Ok a) f = f a
or_refused (Err r) f = Err r

-- the kind is named before the sealer
abbrev pub names : (kind sealer : ℕ) → Result (KindName × SealerName) Refusal
names kind sealer = or_refused (ok_or (named kind) Refusal.NoKind) (λ k. or_refused (ok_or (sealer_named sealer) Refusal.NoSealer) (λ s. Ok (k, s)))

-- the outcome for the kind and the sealer of these numbers
abbrev pub by_number : {A : Type 0} → (kind sealer : ℕ) → (Kind → Sealing → Result A Refusal) → Result A Refusal
by_number kind sealer outcome = or_refused (names kind sealer) (λ n. outcome (kind_of n.0) (sealing_of n.1))

-- the kind and the sealer of these numbers, if they name both
abbrev pub chosen : (kind sealer : ℕ) → Option (Kind × Sealing)
chosen kind sealer = option_map (λ n. (kind_of n.0, sealing_of n.1)) (result_ok (names kind sealer))
