-- A script that was read: what stands at its record, and what its children read; and every record of kinds 71 to 74 in it reads as its node.
use Prim.Native.Nat.{ℕ, zero, suc, ◌+◌}
use native.Mathlib.Omega.{arith}
use mathlib.Core.Path.{◌≡◌, refl, sym, ◌∙◌, ap, subst}
use mathlib.Core.List.{List}
use mathlib.Core.Bool.{Bool, true, false, ◌&&◌}
use mathlib.Core.Option.{Option, none, some}
use lib.Dec.{T, eqb, ltb, leb→le, ltb→lt, eqb→eq}
use lib.ListN.{length}
use Rattle.definitions.specs.Limits.{block_width, pair_limit, depth_limit}
use Rattle.definitions.specs.Bytes.{byte, past, whole, provided, onward, Got}
use Rattle.definitions.specs.Tree.{Binder, Script, success, from_named, block, sequence}
use Rattle.definitions.specs.Reading.{two_of, read_name, read_query, read_script, ScriptShape, script_rows, script_of, with_binders, binders_at, is_each, parsed}
use Rattle.definitions.specs.Saved.{Place, place_from, place_in, or_else}
use Rattle.laws.proofs.Tests.{and_left, and_right}
use Rattle.laws.proofs.Options.{some-not-none, pair_is, provided-inv, onward-inv, some_is}
use Rattle.laws.proofs.Reading.{two-inv, row-keys, script-none}
use Rattle.laws.specs.ScriptReads.{ReadsAs}

-- ── what a record reads as, its children one level further down ─────────────────────────────

module _ (s : List ℕ) (terms left at : ℕ) where
  abbrev by : ScriptShape → Got Script
  by sh = script_of sh s at (read_name s terms left) (read_query s terms left) (read_script s terms left)

  -- a row of the table and its key
  abbrev Inverts : Script → ℕ → ℕ → ScriptShape → Type 0
  Inverts c n k sh = byte s at ≡ k → by sh ≡ some (c, n) → ReadsAs s terms left at c n

  to : (c e : Script) (n : ℕ) → e ≡ c → ReadsAs s terms left at e n → ReadsAs s terms left at c n
  to c e n p h = subst (λ (x : Script). ReadsAs s terms left at x n) p h

  done-inv : (c : Script) (n : ℕ) → Inverts c n 0x71 ScriptShape.done
  done-inv c n k e =
      let p = pair_is {a = success at} {b = at + 1} e in
      to c (success at) n p.0 (record { here = refl; kind = k; ends = sym p.1 })

  named-inv : (c : Script) (n : ℕ) → Inverts c n 0x72 ScriptShape.named
  named-inv c n k e =
      let h = two-inv (Script.from_named at) (read_name s terms left) (read_script s terms left) (at + 1) e in
      to c (from_named at h.0 h.2) n h.5 (record { here = refl; kind = k; next = h.1; name = h.3; script = h.4 })

  block-inv : (c : Script) (n : ℕ) → Inverts c n 0x73 ScriptShape.blocked
  unfolding with_binders
  block-inv c n k e =
      let binders = binders_at pair_limit (byte s (at + 2)) s (at + 3) in
      let make : List Binder → Got Script = λ bs. two_of (Script.block at (is_each s at) bs) (read_query s terms left) (read_script s terms left) (past at block_width) in
      let p = provided-inv (whole s at block_width && ltb (byte s (at + 1)) 2) (onward binders make) e in
      let b = onward-inv binders make p.1 in
      let h = two-inv (Script.block at (is_each s at) b.0) (read_query s terms left) (read_script s terms left) (past at block_width) b.2 in
      to c (block at (is_each s at) b.0 h.0 h.2) n h.5
      (record {
        here = refl;
        kind = k;
        room = leb→le (past at block_width) (length s) (and_left (whole s at block_width) (ltb (byte s (at + 1)) 2) p.0);
        mode = ltb→lt (byte s (at + 1)) 2 (and_right (whole s at block_width) (ltb (byte s (at + 1)) 2) p.0);
        is_mode = refl;
        binders = b.1;
        next = h.1;
        query = h.3;
        script = h.4;
      })

  sequence-inv : (c : Script) (n : ℕ) → Inverts c n 0x74 ScriptShape.two_scripts
  sequence-inv c n k e =
      let h = two-inv (Script.sequence at) (read_script s terms left) (read_script s terms left) (at + 1) e in
      to c (sequence at h.0 h.2) n h.5 (record { here = refl; kind = k; next = h.1; first = h.3; second = h.4 })

  pub script-reads : (c : Script) (n : ℕ) → read_script s terms (suc left) at ≡ some (c, n) → ReadsAs s terms left at c n
  unfolding read_script
  script-reads c n e =
      row-keys (Inverts c n) (byte s at) script_rows ScriptShape.unknown
      (done-inv c n, (named-inv c n, (block-inv c n, (sequence-inv c n, tt))))
      (λ k x. absurd (some-not-none x refl)) refl e

-- ── every record of kinds 71 to 74 ──────────────────────────────────────────────────────────

-- its node, the levels left below it, and where it ends
pub record ReadAt (s : List ℕ) (terms i levels : ℕ) (p : Place) : Type 0 where
  pub left : ℕ
  pub ends : ℕ
  pub read : read_script s terms (suc left) i ≡ some (p.script, ends)
  pub depth : p.depth + left ≡ levels

-- the offset looked for is the record's own, or one below it
found : (b : Bool) (x : Place) (rest : Option Place) (p : Place) (R : Type 0) → (T b → x ≡ p → R) → (rest ≡ some p → R)
    → (elim b as (λ c. Option Place) [ true ↦ some x | false ↦ rest ]) ≡ some p → R
found true x rest p R f g e = f tt (some_is e)
found false x rest p R f g e = g e

either : (a b : Option Place) (p : Place) (R : Type 0) → (a ≡ some p → R) → (b ≡ some p → R) → or_else a b ≡ some p → R
either none b p R f g e = g e
either (some x) b p R f g e = f e

module _ (s : List ℕ) (terms i : ℕ) where
  own : (left d at o n : ℕ) (c : Script) → read_script s terms (suc left) at ≡ some (c, n) → o ≡ at → T (eqb i o) → (p : Place)
      → record { depth = suc d; script = c } ≡ p → ReadAt s terms i (d + suc left) p
  own left d at o n c e q t p f =
      subst (ReadAt s terms i (d + suc left)) f
      (record { left = left; ends = n; read = ap (read_script s terms (suc left)) (eqb→eq i o t ∙ q) ∙ e; depth = omega arith })

  deeper : (left d : ℕ) (p : Place) → ReadAt s terms i (suc d + left) p → ReadAt s terms i (d + suc left) p
  deeper left d p r = record { left = r.left; ends = r.ends; read = r.read; depth = omega (arith, r.depth) }

  pub place-reads : (left d at n : ℕ) (c : Script) → read_script s terms left at ≡ some (c, n) → (p : Place) → place_from (suc d) c i ≡ some p
      → ReadAt s terms i (d + left) p
  unfolding place_from
  place-reads zero d at n c e p f = absurd (some-not-none e (script-none s terms at))
  place-reads (suc left) d at n (success o) e p f =
      let h = script-reads s terms left at (success o) n e in
      let k = provided-inv (eqb i o) (some (record { depth = suc d; script = success o })) f in
      own left d at o n (success o) e h.here k.0 p (some_is k.1)
  place-reads (suc left) d at n (from_named o x c) e p f =
      let h = script-reads s terms left at (from_named o x c) n e in
      found (eqb i o) (record { depth = suc d; script = from_named o x c }) (place_from (suc (suc d)) c i) p (ReadAt s terms i (d + suc left) p)
      (λ t g. own left d at o n (from_named o x c) e h.here t p g)
      (λ k. deeper left d p (place-reads left (suc d) h.next n c h.script p k)) f
  place-reads (suc left) d at n (block o each bs q c) e p f =
      let h = script-reads s terms left at (block o each bs q c) n e in
      found (eqb i o) (record { depth = suc d; script = block o each bs q c }) (place_from (suc (suc d)) c i) p (ReadAt s terms i (d + suc left) p)
      (λ t g. own left d at o n (block o each bs q c) e h.here t p g)
      (λ k. deeper left d p (place-reads left (suc d) h.next n c h.script p k)) f
  place-reads (suc left) d at n (sequence o c b) e p f =
      let h = script-reads s terms left at (sequence o c b) n e in
      found (eqb i o) (record { depth = suc d; script = sequence o c b }) (or_else (place_from (suc (suc d)) c i) (place_from (suc (suc d)) b i)) p
      (ReadAt s terms i (d + suc left) p)
      (λ t g. own left d at o n (sequence o c b) e h.here t p g)
      (either (place_from (suc (suc d)) c i) (place_from (suc (suc d)) b i) p (ReadAt s terms i (d + suc left) p)
      (λ k. deeper left d p (place-reads left (suc d) (at + 1) h.next c h.first p k))
      (λ k. deeper left d p (place-reads left (suc d) h.next n b h.second p k))) f

-- in a whole script
pub parsed-reads : (terms : ℕ) (s : List ℕ) (root : Script) → parsed terms s ≡ some root → (i : ℕ) (p : Place) → place_in root i ≡ some p
    → ReadAt s terms i depth_limit p
unfolding parsed place_in
parsed-reads terms s root e i p f =
    let r = onward-inv (read_script s terms depth_limit 0) (λ r. provided (eqb r.1 (length s)) (some r.0)) e in
    let q = provided-inv (eqb r.0.1 (length s)) (some r.0.0) r.2 in
    place-reads s terms i depth_limit 0 0 r.0.1 root (r.1 ∙ ap (λ (x : Script). some (x, r.0.1)) (some_is q.1)) p f
