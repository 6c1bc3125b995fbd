-- What is known where a chain of tests gave a value.
use Rattle.std.proofs.Common.{◌≡◌, ℕ, Bool, true, false, Ok, Err, Result, refl, ap, arith}
use Rattle.faults.specs.Outcomes.{check, and_then, map_ok}

pub err_ok : {A F X : Type 0} {e : F} {a : A} → ◌≡◌ {A = Result A F} (Err e) (Ok a) → X
err_ok h = cc

pub ok_same : {A F : Type 0} {a b : A} → ◌≡◌ {A = Result A F} (Ok a) (Ok b) → a ≡ b
ok_same h = cc

pub check_ok : {A F : Type 0} (b : Bool) (e : F) (r : Result A F) (a : A) → check b e r ≡ Ok a → (b ≡ true) × (r ≡ Ok a)
check_ok true e r a h = (refl, h)
check_ok false e r a h = cc

pub then_ok : {A B F : Type 0} (r : Result A F) (f : A → Result B F) (b : B) → and_then r f ≡ Ok b → (a : A) × (r ≡ Ok a) × (f a ≡ Ok b)
then_ok (Ok a) f b h = (a, refl, h)
then_ok (Err e) f b h = cc

pub map_ok_was : {A B F : Type 0} (f : A → B) (r : Result A F) (b : B) → map_ok f r ≡ Ok b → (a : A) × (r ≡ Ok a) × (f a ≡ b)
map_ok_was f (Ok a) b h = (a, refl, cc)
map_ok_was f (Err e) b h = cc

pub err_same : {A F : Type 0} {d e : F} → ◌≡◌ {A = Result A F} (Err d) (Err e) → d ≡ e
err_same h = cc

-- a fault in a chain is the fault of every chain that begins so
pub then_err : {A B C F : Type 0} (r : Result A F) (f : A → Result B F) (h : A → Result C F) (e : F)
    → and_then r f ≡ Err e → ((a : A) → f a ≡ Err e → h a ≡ Err e) → and_then r h ≡ Err e
then_err (Ok a) f h e k more = more a k
then_err (Err d) f h e k more = cc
