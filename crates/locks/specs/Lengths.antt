-- Byte lengths, from the counts: k inputs, g gates, m outputs, M products, seals of d bytes.
use Rattle.std.specs.Prelude.{ℕ, ◌+◌, ◌*◌}
use Rattle.kinds.specs.Kind.{Kind}
use Rattle.kinds.specs.Groups.{group_length}

-- a key: one element for each input
abbrev pub key_length : Kind → (k : ℕ) → ℕ
key_length K k = group_length K k

-- a branch's view: a blind of 32 bytes, shares, masks, products
abbrev pub view_length : Kind → (k M : ℕ) → ℕ
view_length K k M = 32 + group_length K k + 2 * group_length K M

-- a tape: three blinds, shares of two branches, masks of three
abbrev pub tape_length : Kind → (k M : ℕ) → ℕ
tape_length K k M = 96 + 2 * group_length K k + 3 * group_length K M

-- a first message: its mark, output shares and seals of three branches
abbrev pub first_length : Kind → (m d : ℕ) → ℕ
first_length K m d = 2 + 3 * group_length K m + 3 * d

-- an answer: its mark, the pick, two views
abbrev pub answer_length : Kind → (k M : ℕ) → ℕ
answer_length K k M = 3 + 2 * view_length K k M

-- a work slice: a plain row for each wire
abbrev pub work_length : Kind → (k g : ℕ) → ℕ
work_length K k g = (k + g) * K.width
