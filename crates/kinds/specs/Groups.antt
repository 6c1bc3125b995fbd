-- Groups of elements in bytes: a key, and a branch's shares, masks, products or output shares.
use Rattle.std.specs.Prelude.{ℕ, ◌*◌}
use Rattle.kinds.specs.Kind.{Kind}

-- how many bytes n elements take
abbrev pub group_length : Kind → ℕ → ℕ
group_length K n = n * K.width
