-- The definitions at work, by computation: the page of a graph, and of the same triples under other numbers.
use Prim.Native.Nat.{ℕ}
use mathlib.Core.Path.{◌≡◌, refl}
use mathlib.Core.List.{List, [], ◌∷◌, ◌++◌}
use lib.IntN.{pos, negsuc}
use lib.ListN.{length}
use Rattle.definitions.specs.Ascii.{ascii}
use Rattle.definitions.specs.Bytes.{filled, little_bytes, unsigned}
use Rattle.definitions.specs.Limits.{text_width, tag_width}
use Rattle.definitions.specs.Terms.{Term}
use Rattle.definitions.specs.Evaluate.{Quad}
use Rattle.definitions.specs.Machine.{Store}
use Rattle.definitions.specs.Publish.{rising_once, published}
use Rattle.definitions.proofs.Opened.{opened}

quad : (graph subject property object : ℕ) → Quad
quad g s p o = record { graph = g; subject = s; property = p; object = o }

-- the first byte that differs decides, and the end comes first; a record that comes again stands once
orders : rising_once ((2 ∷ []) ∷ (1 ∷ 9 ∷ []) ∷ (1 ∷ []) ∷ (2 ∷ []) ∷ []) ≡ (1 ∷ []) ∷ (1 ∷ 9 ∷ []) ∷ (2 ∷ []) ∷ []
unfolding opened
orders = refl

-- l:2 is named Tug and goes 3, l:1 goes -0.000005 and 3, all in graph 0; in graph 1 l:1 goes 3
station : Store
station =
    record {
      terms =
          Term.uri (ascii "c:club") ∷ Term.uri (ascii "l:2") ∷ Term.uri (ascii "p:name") ∷ Term.string (ascii "en") (ascii "Tug") ∷ Term.uri (ascii "p:speed")
          ∷ Term.integer (pos 3) ∷ Term.uri (ascii "l:1") ∷ Term.decimal (negsuc 4) ∷ [];
      quads = quad 0 1 2 3 ∷ quad 0 1 4 5 ∷ quad 0 6 4 5 ∷ quad 0 6 4 7 ∷ quad 1 6 4 5 ∷ [];
      fetched = 0 ∷ 1 ∷ [];
    }

-- the same triples, the graph and the terms under other numbers
another : Store
another =
    record {
      terms =
          Term.decimal (negsuc 4) ∷ Term.integer (pos 3) ∷ Term.uri (ascii "l:1") ∷ Term.uri (ascii "l:2") ∷ Term.uri (ascii "p:speed") ∷ Term.uri (ascii "p:name")
          ∷ Term.string (ascii "en") (ascii "Tug") ∷ Term.uri (ascii "c:yard") ∷ [];
      quads = quad 7 2 4 0 ∷ quad 7 2 4 1 ∷ quad 7 3 4 1 ∷ quad 7 3 5 6 ∷ [];
      fetched = 7 ∷ [];
    }

speeds : (subject : List ℕ) → List ℕ
speeds s = filled text_width s ++ filled text_width (ascii "p:speed")

-- by kind, then by subject: the string, both integers, the decimal
page : List ℕ
page =
    0x82 ∷ filled text_width (ascii "l:2") ++ (filled text_width (ascii "p:name") ++ (filled tag_width (ascii "en") ++ (filled text_width (ascii "Tug")
    ++ (0x83 ∷ speeds (ascii "l:1") ++ (little_bytes 8 3
    ++ (0x83 ∷ speeds (ascii "l:2") ++ (little_bytes 8 3
    ++ (0x84 ∷ speeds (ascii "l:1") ++ little_bytes 8 (unsigned (negsuc 4))))))))))

publishes : (published 0 station ≡ page) × (published 7 another ≡ page) × (length page ≡ 900)
unfolding quad station another speeds page opened
publishes = (refl, refl, refl)
