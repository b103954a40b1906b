-- Laws of the quad table: a quad written after the last, and its quads as keys.
use Prim.Native.Nat.{ℕ, zero, suc, ◌+◌, ◌-◌, ◌*◌, ◌<◌}
use native.Mathlib.Omega.{arith}
use native.Mathlib.Numerals.{add-one}
use mathlib.Core.Path.{◌≡◌, refl, ap, sym, ◌∙◌}
use mathlib.Core.List.{List, [], ◌∷◌, ◌++◌, append_assoc}
use lib.ListN.{length, get_or, set, take, drop, replicate, length-append}
use lib.Seq.{take_at, drop_at}
use borrow.Rule.Slice.PartMut.{put_mid}
use Rattle.fields.proofs.PartLaws.{drop-replicate}
use Rattle.definitions.specs.Limits.{quad_width, quad_limit, quad_table_width}
use Rattle.definitions.specs.Bytes.{little_bytes, filled}
use Rattle.definitions.specs.Evaluate.{Quad}
use Rattle.definitions.specs.Saved.{quad_bytes, quad_table, quad_at, quads_from}
use Rattle.laws.proofs.Tables.{quads-length, quad-table-length}
use Rattle.keys.specs.Keys.{key_of, quad_of, keys_from, rows_from, keys_of}
use Rattle.keys.proofs.Rise.{snoc}
use Rattle.quad_table.specs.Quads.{quad_set}

-- ── a quad written ──────────────────────────────────────────────────────────────────────────

-- eight bytes put at a quad's place
pub quad-stored : (t r y : List ℕ) (q : Quad) (n : ℕ) → r ≡ quad_bytes (q ∷ []) → y ≡ r
    → put_mid (n * quad_width) (n * quad_width + quad_width - n * quad_width) t y ≡ quad_set t n q
unfolding quad_set
quad-stored t r y q n c e =
    let k : n * quad_width + quad_width - n * quad_width ≡ quad_width = omega arith in
    let i : y ≡ quad_bytes (q ∷ []) = e ∙ c in
    rw (k, i)

bytes-append : (l m : List Quad) → quad_bytes (l ++ m) ≡ quad_bytes l ++ quad_bytes m
unfolding quad_bytes little_bytes
bytes-append [] m = refl
bytes-append (q ∷ l) m =
    ap (λ (s : List ℕ). little_bytes 2 q.graph ++ (little_bytes 2 q.subject ++ (little_bytes 2 q.property ++ (little_bytes 2 q.object ++ s)))) (bytes-append l m)

-- after the last
pub quad-added : (l : List Quad) (q : Quad) (n : ℕ) → n ≡ length l → n < quad_limit → quad_set (quad_table l) n q ≡ quad_table (l ++ (q ∷ []))
unfolding quad_set quad_table filled
quad-added l q n e h =
    let b = quad_bytes l in
    let w = quad_bytes (q ∷ []) in
    let m = quad_table_width - length b in
    let size : length b ≡ n * quad_width = omega (arith, quads-length l) in
    let left : m - quad_width ≡ quad_table_width - length (quad_bytes (l ++ (q ∷ []))) =
    omega (arith, quads-length l, quads-length (l ++ (q ∷ [])), length-append l (q ∷ [])) in
    let front : take (n * quad_width) (b ++ replicate m 0) ≡ b = take_at b (replicate m 0) (n * quad_width) size in
    let back : drop quad_width (drop (n * quad_width) (b ++ replicate m 0)) ≡ replicate (m - quad_width) 0 =
    ap (drop quad_width) (drop_at b (replicate m 0) (n * quad_width) size) ∙ drop-replicate quad_width m in
    (λ t. front t ++ (w ++ back t))
    ∙ (sym (append_assoc b w (replicate (m - quad_width) 0)) ∙ (λ t. sym (bytes-append l (q ∷ [])) t ++ replicate (left t) 0))

-- ── quads as keys ───────────────────────────────────────────────────────────────────────────

-- one quad more
quads-more : (table : List ℕ) (n at : ℕ) → quads_from (suc n) table at ≡ quads_from n table at ++ (quad_at table (at + n * quad_width) ∷ [])
unfolding quads_from
quads-more table zero at = let e : at ≡ at + 0 * quad_width = omega arith in ap (λ (k : ℕ). quad_at table k ∷ []) e
quads-more table (suc n) at =
    let e : at + quad_width + n * quad_width ≡ at + suc n * quad_width = omega arith in
    ap (λ (l : List Quad). quad_at table at ∷ l)
    (quads-more table n (at + quad_width) ∙ ap (λ (k : ℕ). quads_from n table (at + quad_width) ++ (quad_at table k ∷ [])) e)

keys-append : (l m : List Quad) → keys_of (l ++ m) ≡ keys_of l ++ keys_of m
unfolding keys_of
keys-append [] m = refl
keys-append (q ∷ l) m = ap (λ (ks : List ℕ). key_of q ∷ ks) (keys-append l m)

-- one key more is read
pub read_next : (table keys : List ℕ) (i x : ℕ) → i < length keys → keys_from i keys 0 ≡ keys_of (quads_from i table 0) → x ≡ key_of (quad_at table (i * quad_width))
    → keys_from (i + 1) (set keys i x) 0 ≡ keys_of (quads_from (i + 1) table 0)
unfolding keys_of
read_next table keys i x h far e =
    let z : 0 + i * quad_width ≡ i * quad_width = omega arith in
    let more : quads_from (i + 1) table 0 ≡ quads_from i table 0 ++ (quad_at table (i * quad_width) ∷ []) =
    ap (λ (n : ℕ). quads_from n table 0) (add-one i) ∙ (quads-more table i 0 ∙ ap (λ (k : ℕ). quads_from i table 0 ++ (quad_at table k ∷ [])) z) in
    snoc keys i x h
    ∙ ((λ t. far t ++ (e t ∷ []))
    ∙ (sym (keys-append (quads_from i table 0) (quad_at table (i * quad_width) ∷ [])) ∙ ap keys_of (sym more)))

rows_more : (f : List ℕ) (n at : ℕ) → rows_from (suc n) f at ≡ rows_from n f at ++ (quad_of (get_or f (at + n) 0) ∷ [])
unfolding rows_from
rows_more f zero at = let e : at ≡ at + 0 = omega arith in ap (λ (k : ℕ). quad_of (get_or f k 0) ∷ []) e
rows_more f (suc n) at =
    let e : at + 1 + n ≡ at + suc n = omega arith in
    ap (λ (l : List Quad). quad_of (get_or f at 0) ∷ l)
    (rows_more f n (at + 1) ∙ ap (λ (k : ℕ). rows_from n f (at + 1) ++ (quad_of (get_or f k 0) ∷ [])) e)

rows-count : (f : List ℕ) (n at : ℕ) → length (rows_from n f at) ≡ n
unfolding rows_from
rows-count f zero at = refl
rows-count f (suc n) at = ap suc (rows-count f n (at + 1))

-- one quad more is written
pub written_next : (keys table after : List ℕ) (i : ℕ) → i < quad_limit → table ≡ quad_table (rows_from i keys 0) → after ≡ quad_set table i (quad_of (get_or keys i 0))
    → (after ≡ quad_table (rows_from (i + 1) keys 0)) × (length after ≡ quad_table_width)
written_next keys table after i h holds e =
    let z : 0 + i ≡ i = omega arith in
    let more : rows_from (i + 1) keys 0 ≡ rows_from i keys 0 ++ (quad_of (get_or keys i 0) ∷ []) =
    ap (λ (n : ℕ). rows_from n keys 0) (add-one i) ∙ (rows_more keys i 0 ∙ ap (λ (k : ℕ). rows_from i keys 0 ++ (quad_of (get_or keys k 0) ∷ [])) z) in
    let is : after ≡ quad_table (rows_from (i + 1) keys 0) =
    e ∙ (ap (λ (l : List ℕ). quad_set l i (quad_of (get_or keys i 0))) holds
    ∙ (quad-added (rows_from i keys 0) (quad_of (get_or keys i 0)) i (sym (rows-count keys i 0)) h ∙ ap quad_table (sym more))) in
    (is, ap length is ∙ quad-table-length (rows_from (i + 1) keys 0) (omega (arith, rows-count keys (i + 1) 0)))
