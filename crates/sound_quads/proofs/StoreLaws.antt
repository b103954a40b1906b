-- The test on the number of a URI, one half after the other.
use Prim.Native.Nat.{ℕ, ◌≤◌, ◌<◌}
use mathlib.Core.Path.{◌≡◌}
use mathlib.Core.List.{List}
use mathlib.Core.Bool.{false, ◌||◌}
use lib.Dec.{eqb, leb}
use lib.ListN.{get_or}
use borrow.Author.Tests.{lt-ltb, le-ltb}
use Rattle.sound_quads.specs.TermNumbers.{uri_number}

module _ (leasts : List ℕ) (count i : ℕ) where
  pub uri-out : count ≤ i → false ≡ uri_number leasts count i
  unfolding uri_number
  uri-out h = rw (le-ltb i count h)

  pub uri-in : i < count → (eqb (get_or leasts i 0) 1 || leb 9 (get_or leasts i 0)) ≡ uri_number leasts count i
  unfolding uri_number
  uri-in h = rw (lt-ltb i count h)
