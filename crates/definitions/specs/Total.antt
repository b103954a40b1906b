-- Document 02, Ask 12: how long a script takes, where it has no each block.
use Rattle.std.specs.Prelude.{ℕ, suc, ◌+◌, Bool, false, cond, ◌||◌}
use Rattle.definitions.specs.Tree.{Script, success, from_named, block, sequence}

-- how many records of kinds 71 to 74 a script has
unfoldable pub script_records : Script → ℕ
script_records (success at) = 1
script_records (from_named at n c) = suc (script_records c)
script_records (block at each bs q c) = suc (script_records c)
script_records (sequence at c d) = suc (script_records c + script_records d)

-- an each block stands anywhere in it
unfoldable pub has_each : Script → Bool
has_each (success at) = false
has_each (from_named at n c) = has_each c
has_each (block at each bs q c) = each || has_each c
has_each (sequence at c d) = has_each c || has_each d

-- 0 where it has an each block, and so no such total
unfoldable pub total_of : Script → ℕ
total_of c = cond (has_each c) 0 (script_records c)
