-- The definitions at work, by computation: numbers as makers print them.
use Prim.Native.Nat.{ℕ, ◌^◌}
use mathlib.Core.Path.{◌≡◌, refl}
use mathlib.Core.List.{List, [], ◌∷◌, ◌++◌, map}
use lib.IntN.{pos, negsuc}
use lib.ListN.{replicate}
use Prim.Native.String.{String}
use Rattle.definitions.specs.Ascii.{ascii}
use Rattle.definitions.specs.Terms.{Term}
use Rattle.definitions.specs.Result.{Result, refused, passed}
use Rattle.definitions.specs.declared.Refusal.TheVariants.{BadNumberText, NoSuchNumber}
use Rattle.definitions.specs.Calls.{number_call}
use Rattle.definitions.specs.Exports.{number_export}
use Rattle.definitions.proofs.Opened.{opened}

read : String → Result Term
read t = number_call (ascii t)

integer : ℕ → Result Term
integer n = passed (Term.integer (pos n))

decimal : ℕ → Result Term
decimal n = passed (Term.decimal (pos n))

-- the request's own, a sign and an E, minus zero, zeros with an exponent, digits that an exponent takes away
values :
    map read ("0.999e2" ∷ "-3" ∷ "+3" ∷ "007" ∷ "3.0" ∷ "-2.5E+1" ∷ "-0" ∷ "-0.0" ∷ "0e99" ∷ "100000000000000000000e-20" ∷ [])
    ≡ decimal 99900000
    ∷ passed (Term.integer (negsuc 2))
    ∷ integer 3
    ∷ integer 7
    ∷ decimal 3000000
    ∷ passed (Term.decimal (negsuc 24999999))
    ∷ integer 0
    ∷ decimal 0
    ∷ decimal 0
    ∷ decimal 1000000
    ∷ []
unfolding read integer decimal opened
values = refl

-- no whole count of millionths; both limits and one past; an exponent far past
limits :
    map read ("1e-7" ∷ "1e-6" ∷ "0.0000010" ∷ "0.0000011" ∷ "1000000000000" ∷ "1000000000001" ∷ "1e12" ∷ "-1000000000000.000001" ∷ "1e99" ∷ "1e-99" ∷ [])
    ≡ refused NoSuchNumber
    ∷ decimal 1
    ∷ decimal 1
    ∷ refused NoSuchNumber
    ∷ integer (10 ^ 12)
    ∷ refused NoSuchNumber
    ∷ decimal (10 ^ 18)
    ∷ refused NoSuchNumber
    ∷ refused NoSuchNumber
    ∷ refused NoSuchNumber
    ∷ []
unfolding read integer decimal opened
limits = refl

-- texts of another form
forms :
    map read ("" ∷ " " ∷ " 1" ∷ "1 " ∷ "+" ∷ ".5" ∷ "5." ∷ "1e" ∷ "1e+" ∷ "1e123" ∷ "1e1.5" ∷ "--1" ∷ "1,5" ∷ "0x10" ∷ "NaN" ∷ [])
    ≡ replicate 15 (refused BadNumberText)
unfolding read opened
forms = refl

-- 40 bytes and 41: a text that is too long is 16, whatever its number
lengths :
    number_call (replicate 39 0x30 ++ ascii "7")
    ∷ number_call (replicate 40 0x30 ++ ascii "7")
    ∷ number_call (replicate 40 0x39)
    ∷ number_call (replicate 41 0x39)
    ∷ []
    ≡ integer 7
    ∷ refused BadNumberText
    ∷ refused NoSuchNumber
    ∷ refused BadNumberText
    ∷ []
unfolding integer opened
lengths = refl

-- ── on bytes ────────────────────────────────────────────────────────────────────────────────

lent : List ℕ
lent = replicate 9 7

-- the records of -3 and of 0.5; refused texts; records of 8 and of 10 bytes, before the text is looked at
on_bytes :
    number_export (ascii "-3") lent
    ∷ number_export (ascii "0.5") lent
    ∷ number_export (ascii ".5") lent
    ∷ number_export (ascii "1e-7") lent
    ∷ number_export (ascii "3") (replicate 8 7)
    ∷ number_export (ascii ".5") (replicate 10 7)
    ∷ []
    ≡ record { number = 0; «record» = 0x13 ∷ 0xFD ∷ replicate 7 0xFF }
    ∷ record { number = 0; «record» = 0x14 ∷ 0x20 ∷ 0xA1 ∷ 0x07 ∷ replicate 5 0 }
    ∷ record { number = 16; «record» = lent }
    ∷ record { number = 17; «record» = lent }
    ∷ record { number = 1; «record» = replicate 8 7 }
    ∷ record { number = 1; «record» = replicate 10 7 }
    ∷ []
unfolding lent opened
on_bytes = refl
