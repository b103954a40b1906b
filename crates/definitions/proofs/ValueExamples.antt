-- The definitions at work, by computation: document 01's texts of values, patterns, language ranges, the rank table's rule, and a sum that overflows.
use Prim.Native.Nat.{ℕ, zero, suc}
use mathlib.Core.Path.{◌≡◌, refl}
use mathlib.Core.List.{List, [], ◌∷◌, map}
use mathlib.Core.Bool.{Bool, true, false}
use mathlib.Core.Option.{Option, none, some}
use lib.Dec.{T}
use lib.IntN.{pos, negsuc}
use Prim.Native.String.{String}
use Rattle.definitions.specs.Ascii.{ascii}
use Rattle.definitions.specs.Lists.{is_in, every}
use Rattle.definitions.specs.Bytes.{filled, onward}
use Rattle.definitions.specs.Types.{Datatype, plain}
use Rattle.definitions.specs.Terms.{Term, Text}
use Rattle.definitions.specs.Tree.{var, const, Expr, Cond, Query}
use Rattle.definitions.specs.Outcome.{Outcome, ok}
use Rattle.definitions.specs.Search.{Tuple, answer}
use Rattle.definitions.specs.Text.{pattern_of, accepts, language_range_of, matches}
use Rattle.definitions.specs.Calendar.{date_time_text}
use Rattle.definitions.specs.Values.{integer_text, decimal_text, rank_in, string_before, Tagged}
use Rattle.definitions.specs.Alphabet.{is_alphabet, built_in}
use Rattle.definitions.proofs.Opened.{opened}

-- ── str ─────────────────────────────────────────────────────────────────────────────────────

-- the roster's rows, 1970 itself, and both ends
date_times :
    map date_time_text (negsuc 0 ∷ pos 951782400 ∷ pos 0 ∷ negsuc 62135596799 ∷ pos 253402300799 ∷ [])
    ≡ map ascii ("1969-12-31T23:59:59Z" ∷ "2000-02-29T00:00:00Z" ∷ "1970-01-01T00:00:00Z" ∷ "0001-01-01T00:00:00Z" ∷ "9999-12-31T23:59:59Z" ∷ [])
unfolding opened
date_times = refl

integers : map integer_text (negsuc 2 ∷ pos 0 ∷ pos 1000000000000 ∷ []) ≡ map ascii ("-3" ∷ "0" ∷ "1000000000000" ∷ [])
unfolding opened
integers = refl

decimals :
    map decimal_text (negsuc 499999 ∷ pos 3000000 ∷ pos 0 ∷ pos 1 ∷ pos 120500000 ∷ negsuc 999999999999999999 ∷ [])
    ≡ map ascii ("-0.5" ∷ "3.0" ∷ "0.0" ∷ "0.000001" ∷ "120.5" ∷ "-1000000000000.0" ∷ [])
unfolding opened
decimals = refl

-- ── patterns ────────────────────────────────────────────────────────────────────────────────

accepted : String → String → Option Bool
accepted p t = onward (pattern_of (filled 16 (ascii p))) (λ q. some (accepts q (ascii t)))

patterns :
    accepted "" "fast"
    ∷ accepted "as" "fast"
    ∷ accepted "^as" "fast"
    ∷ accepted "st$" "fast"
    ∷ accepted "^f.*t$" "fast"
    ∷ accepted "^fa*s.$" "fst"
    ∷ accepted "^fa*s.$" "fst!"
    ∷ accepted "^$" ""
    ∷ accepted "^$" "x"
    ∷ accepted "*" "x"
    ∷ accepted "^*" "x"
    ∷ accepted "$*" "x"
    ∷ accepted "a**" "x"
    ∷ accepted "a^" "x"
    ∷ accepted "$a" "x"
    ∷ accepted "a|b" "x"
    ∷ accepted "0123456789abcdef" "0123456789abcdefg"
    ∷ []
    ≡ some true ∷ some true ∷ some false ∷ some true ∷ some true ∷ some true ∷ some false ∷ some true ∷ some false
    ∷ none ∷ none ∷ none ∷ none ∷ none ∷ none ∷ none ∷ some true ∷ []
unfolding accepted opened
patterns = refl

-- ── language ranges ─────────────────────────────────────────────────────────────────────────

matched : String → String → Option Bool
matched r g = onward (language_range_of (filled 8 (ascii r))) (λ q. some (matches q (ascii g)))

language_ranges :
    matched "*" ""
    ∷ matched "*" "en"
    ∷ matched "*" "-"
    ∷ matched "*" "--------"
    ∷ matched "en" "en"
    ∷ matched "en" "en-gb"
    ∷ matched "en" "eng"
    ∷ matched "en-*" "en-gb"
    ∷ matched "en-*" "en"
    ∷ matched "en" ""
    ∷ matched "en-" "en-"
    ∷ matched "-e" "en"
    ∷ matched "" "en"
    ∷ matched "-*" "en"
    ∷ matched "--*" "en"
    ∷ matched "*-*" "en"
    ∷ matched "en*" "en"
    ∷ matched "en-*-*" "en"
    ∷ []
    ≡ some false ∷ some true ∷ some true ∷ some true
    ∷ some true ∷ some true ∷ some false ∷ some true ∷ some true ∷ some false ∷ some true ∷ some false
    ∷ none ∷ none ∷ none ∷ none ∷ none ∷ none ∷ []
unfolding matched opened
language_ranges = refl

-- ── the rank table ──────────────────────────────────────────────────────────────────────────

-- the numbers from one on, so many
up_from : ℕ → ℕ → List ℕ
up_from n zero = []
up_from n (suc count) = n ∷ up_from (suc n) count

-- blank, digits, letters as A a B b to Z z, then the others by byte
alphabet : Text
alphabet = ascii " 0123456789AaBbCcDdEeFfGgHhIiJjKkLlMmNnOoPpQqRrSsTtUuVvWwXxYyZz!\"#$%&'()*+,-./:;<=>?@[\\]^_`{|}~"

-- of 95 bytes, each has its place in that order as its rank
ranked : map (rank_in built_in) alphabet ≡ up_from 0 95
unfolding up_from alphabet opened
ranked = refl

-- and the alphabet has every byte from 20 to 7E, so the table holds each rank once
complete : T (every (λ b. is_in b alphabet) (up_from 0x20 95))
unfolding up_from alphabet opened
complete = tt

-- ranks that are lent: those built in, and among lists of 95 one with a rank twice and one with 95
alphabets : map is_alphabet (built_in ∷ up_from 0 95 ∷ (0 ∷ up_from 0 94) ∷ up_from 1 95 ∷ []) ≡ true ∷ true ∷ false ∷ false ∷ []
unfolding up_from opened
alphabets = refl

-- ── the order of strings ────────────────────────────────────────────────────────────────────

tagged : String → String → Tagged
tagged g t = record { tag = ascii g; text = ascii t }

strings :
    string_before built_in (tagged "" "a") (tagged "" "B")
    ∷ string_before built_in (tagged "" "B") (tagged "" "a")
    ∷ string_before built_in (tagged "" "9") (tagged "" "A")
    ∷ string_before built_in (tagged "" "z") (tagged "" "!")
    ∷ string_before built_in (tagged "zz" "ab") (tagged "" "abc")
    ∷ string_before built_in (tagged "de" "ab") (tagged "en" "ab")
    ∷ string_before built_in (tagged "en" "ab") (tagged "en" "ab")
    ∷ []
    ≡ true ∷ false ∷ true ∷ true ∷ true ∷ true ∷ false ∷ []
unfolding tagged opened
strings = refl

-- ── a sum that overflows ────────────────────────────────────────────────────────────────────

-- 10^12, 5, then speeds of locomotives
speeds : List Term
speeds = map Term.integer (pos 1000000000000 ∷ pos 5 ∷ pos 1 ∷ pos 0 ∷ negsuc 999999999999 ∷ [])

-- not (x + 10^12 < 5), and the same with not twice
not_less : Cond
not_less = Cond.not (Cond.less (Expr.plus (Expr.name (var 0)) (Expr.name (const 0))) (Expr.name (const 1)))

selected : Cond → Option Tuple → Outcome (Option Tuple)
selected c last = answer (record { schema = []; ranks = built_in; clock = pos 0 }) (λ v. plain Datatype.integer) speeds [] (λ v. none) (0 ∷ []) (Query.filter c) last

-- 0 alone is selected: past the limit a sum with 10^12, 5 or 1 is no value, and that with −10^12 is less; not twice, −10^12 alone
overflows :
    selected not_less none ∷ selected not_less (some (3 ∷ [])) ∷ selected (Cond.not not_less) none ∷ selected (Cond.not not_less) (some (4 ∷ [])) ∷ []
    ≡ ok (some (3 ∷ [])) ∷ ok none ∷ ok (some (4 ∷ [])) ∷ ok none ∷ []
unfolding speeds not_less selected opened
overflows = refl
