-- What is used of a group's length: it grows with the group, and an element takes at most 16 bytes.
use Rattle.std.proofs.Common.{ℕ, ◌*◌, ◌≤◌, mul-le-mul_right, mul-le-mul_left}
use Rattle.kinds.specs.Kind.{Kind}
use Rattle.kinds.specs.Groups.{group_length}

pub group_grows : (K : Kind) {m n : ℕ} → m ≤ n → group_length K m ≤ group_length K n
group_grows K h = mul-le-mul_right K.width h

pub group_short : (K : Kind) (n : ℕ) → K.width ≤ 16 → group_length K n ≤ n * 16
group_short K n h = mul-le-mul_left n h
