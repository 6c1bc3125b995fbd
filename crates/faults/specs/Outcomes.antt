-- A value or a fault: how tests follow one another.
use Rattle.std.specs.Prelude.{Bool, cond, Ok, Err, Result}

-- the rule, the fault where it is broken, and what comes after it
abbrev pub check : {A F : Type 0} → Bool → F → Result A F → Result A F
check b f r = cond b r (Err f)

abbrev pub and_then : {A B F : Type 0} → Result A F → (A → Result B F) → Result B F
and_then (Ok a) f = f a
and_then (Err e) f = Err e

abbrev pub map_ok : {A B F : Type 0} → (A → B) → Result A F → Result B F
map_ok f (Ok a) = Ok (f a)
map_ok f (Err e) = Err e
