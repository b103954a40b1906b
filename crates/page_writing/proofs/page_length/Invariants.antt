use Prim.Native.Nat.{◌*◌, ◌≤◌}
use mathlib.Core.Path.{◌≡◌}
use lib.ListN.{length, take}
use Rattle.page_writing.specs.Page.{keys_page}
use Rattle.page_writing.proofs.page_length.Given as goal

abbrev pub invariant-loop-key : goal.invariant-loop-key
invariant-loop-key l = (l.size ≡ length (keys_page l.table (take l.key-index l.keys))) × (l.size ≤ l.key-index * 512)
