-- The page of keys: their records one after the other; sorted; and whether it fits a buffer.
use Rattle.definitions.specs.declared.Refusal.TheVariants.{ShortBuffer}
use Rattle.std.specs.Prelude.{ℕ, List, map, leb, length}
use Rattle.definitions.specs.Publish.{page_of}
use Rattle.definitions.specs.Result.{Result, passed, ◌>>◌, require}
use Rattle.triples.specs.Sorting.{sort}
use Rattle.record_order.specs.Records.{key_record, key_le}

unfoldable pub keys_page : (table keys : List ℕ) → List ℕ
keys_page table ks = page_of (map (key_record table) ks)

abbrev pub sorted_page : (table keys : List ℕ) → List ℕ
sorted_page table ks = keys_page table (sort (key_le table) ks)

-- 23: a buffer shorter than the page
unfoldable pub fitted : (page : List ℕ) → (room : ℕ) → Result (List ℕ)
fitted page room = require ShortBuffer (leb (length page) room) >> passed page
