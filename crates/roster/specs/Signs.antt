-- The sign between two values: `<` where the first is less, `=` where they are equal, `>` where the second is less, else `?`.
use Rattle.std.specs.Prelude.{ℕ, Bool, cond}

unfoldable pub sign_of : (less equal more : Bool) → ℕ
sign_of less equal more = cond less 0x3C (cond equal 0x3D (cond more 0x3E 0x3F))
