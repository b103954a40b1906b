-- A card that the closed examples share, with the tables that are lent with it.
use Prim.Native.Nat.{ℕ}
use mathlib.Core.List.{List, [], ◌∷◌, ◌++◌}
use lib.IntN.{ℤ, pos}
use lib.ListN.{replicate}
use Rattle.definitions.specs.Limits.{term_table_width, quad_table_width, text_width}
use Rattle.definitions.specs.Alphabet.{built_in}
use Rattle.definitions.specs.Ascii.{ascii}
use Rattle.definitions.specs.Bytes.{filled, little_bytes, unsigned}
use Rattle.definitions.specs.Calls.{Lent}

unfoldable pub with_tables : Lent → (term_table quad_table : List ℕ) → Lent
with_tables l t q = record { ranks = l.ranks; terms = l.terms; schema = l.schema; script = l.script; term_table = t; quad_table = q }

unfoldable pub uri : List ℕ → List ℕ
uri text = filled text_width text

unfoldable pub number : ℤ → List ℕ
number n = little_bytes 8 (unsigned n)

-- term 0 the integer 3, 1 the graph c:club, 2 l:1, and by the schema 3 p:speed, a decimal
unfoldable pub card : Lent
card =
    record {
      ranks = built_in;
      terms = 0x13 ∷ number (pos 3) ++ (0x11 ∷ uri (ascii "c:club") ++ (0x11 ∷ uri (ascii "l:1")));
      schema = 0x21 ∷ uri (ascii "p:speed") ++ (3 ∷ []);
      -- from named c:club: each $0 $1 where { c:club: $0 p:speed $1 }: success
      script =
          0x72 ∷ 0x32 ∷ 1 ∷ 0
          ∷ 0x73 ∷ 1 ∷ 2 ∷ 0 ∷ 0 ∷ 1 ∷ 0 ∷ 0 ∷ 0 ∷ 0 ∷ 0
          ∷ 0x61 ∷ 0x32 ∷ 1 ∷ 0 ∷ 0x31 ∷ 0 ∷ 0x32 ∷ 3 ∷ 0 ∷ 0x31 ∷ 1
          ∷ 0x71 ∷ [];
      term_table = replicate term_table_width 7;
      quad_table = replicate quad_table_width 7;
    }
