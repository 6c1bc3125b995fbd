-- A round by the sum of its constant and its word, and rounds one after the other.
use Rattle.std.specs.Prelude.{ℕ, List, fold, slice_index, slice_index_or}
use Rattle.sha2_256.specs.Sha256.{◌⊞◌, ch, maj, Σ0, Σ1, turned}

abbrev pub keyed_round : List ℕ → ℕ → List ℕ
keyed_round s keyed =
    turned (((slice_index_or s 7 0 ⊞ Σ1 (slice_index s 4)) ⊞ ch (slice_index s 4) (slice_index s 5) (slice_index s 6)) ⊞ keyed)
    (Σ0 (slice_index s 0) ⊞ maj (slice_index s 0) (slice_index s 1) (slice_index s 2)) s

abbrev pub keyed_rounds : List ℕ → List ℕ → List ℕ
keyed_rounds s keyed = fold keyed_round s keyed
