use mathlib.Core.Path.{◌≡◌}
use lib.ListN.{length, take}
use Rattle.output.specs.Written.{Written}
use Rattle.page_writing.specs.Page.{keys_page}
use Rattle.page_writing.proofs.write_page.Given as goal

abbrev pub invariant-loop-key : goal.invariant-loop-key
invariant-loop-key l = Written (keys_page l.table (take l.key-index l.keys)) l.initial.out l.out 0 l.at × (length l.out ≡ length l.initial.out)
