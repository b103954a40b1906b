-- A type written in a script's bytes: the script reads as before, with that type at the variable.
use Prim.Native.Nat.{ℕ, zero, suc, ◌+◌, ◌*◌, ◌≤◌, ◌<◌}
use native.Mathlib.Omega.{arith}
use mathlib.Core.Path.{◌≡◌, refl, sym, ap, ap₂, subst, ◌∙◌}
use mathlib.Core.Logic.{◌⊎◌, inl, inr, ⊎_elim}
use mathlib.Core.List.{List, [], ◌∷◌, ◌++◌, map}
use mathlib.Core.Bool.{Bool, true, false, not, ◌&&◌, ◌||◌}
use mathlib.Core.Option.{Option, none, some}
use lib.Dec.{T, eqb, ltb, leb, ltb→lt, le→leb, lt→ltb}
use lib.ListN.{length, set, length-set}
use lib.Seq.{get_or-set_same, get_or-set_other}
use borrow.Author.Tests.{eq-eqb, ne_eqb, eqb-true, eqb-false}
use Rattle.definitions.specs.Limits.{variable_limit, block_width, pair_limit, pairs_offset, depth_limit}
use Rattle.definitions.specs.Lists.{distinct, is_in}
use Rattle.definitions.specs.Bytes.{byte, row, provided, onward, past, whole}
use Rattle.definitions.specs.Types.{any_uri, string, decimal, date_time, integer, Ty, plain, range, type_code, type_of_code}
use Rattle.definitions.specs.Tree.{Binder, Script, success, from_named, block, sequence}
use Rattle.definitions.specs.Reading.{written_of, binder_at, binders_at, read_name, read_query, read_script, ScriptShape, script_rows, script_of, with_binders, is_each, parsed}
use Rattle.definitions.specs.Scope.{variables_of, binders_of}
use Rattle.definitions.specs.Typing.{Written, unbound, undecided, fixed, annotated, written_in}
use Rattle.laws.proofs.Tests.{and_left, and_right, and_make, or_cases, or_left, or_right, is_true, is_false, true_is, not_both}
use Rattle.laws.proofs.TestEquations.{eqb_swap}
use Rattle.laws.proofs.Order.{type-of-code}
use Rattle.laws.proofs.Options.{some_is, some-not-none, pair_is, provided-inv, provided-holds, onward-inv, onward-some}
use Rattle.laws.proofs.Reading.{one-some, two-rest, script-none}
use Rattle.laws.proofs.ReadBounds.{name-within, query-within, script-within, binders-bounded}
use Rattle.laws.specs.ScriptReads.{ReadsAs}
use Rattle.laws.proofs.ScriptReads.{script-reads}
use Rattle.theorems.specs.OneType.{pair_in, first_pair, pair_of}
use Rattle.theorems.proofs.Locality.{Agree, name-alike, query-alike, binder-same, binders-same, script-alike}
use Rattle.theorems.proofs.Retyped.{retype_if, retype, retyped, bound-append, bound-once, binders-absent, script-absent}

-- ── the pair of a variable ──────────────────────────────────────────────────────────────────

-- it stands among the pairs, and one of them binds the variable; else none does
pub pairs-hold : (bs : List Binder) (at y p : ℕ) → pair_in at bs y ≡ some p → T (is_in y (variables_of bs)) × (at ≤ p) × (p + 2 ≤ at + 2 * length bs)
unfolding pair_in
pairs-hold [] at y p e = absurd (some-not-none e refl)
pairs-hold (b ∷ bs) at y p e = go (eqb b.variable y) refl (pairs-hold bs (at + 2) y p) e
  where
    go : (t : Bool) → eqb b.variable y ≡ t → (pair_in (at + 2) bs y ≡ some p → T (is_in y (variables_of bs)) × (at + 2 ≤ p) × (p + 2 ≤ at + 2 + 2 * length bs))
        → (elim t as (λ c. Option ℕ) [ true ↦ some at | false ↦ pair_in (at + 2) bs y ]) ≡ some p
        → T (is_in y (variables_of (b ∷ bs))) × (at ≤ p) × (p + 2 ≤ at + 2 * length (b ∷ bs))
    go true q later e =
        let f : at ≡ p = some_is e in
        (or_left (eqb y b.variable) (is_in y (variables_of bs)) (subst T (eqb_swap b.variable y) (true_is (eqb b.variable y) q)), omega arith, omega arith)
    go false q later e = let h = later e in (or_right (eqb y b.variable) (is_in y (variables_of bs)) h.0, omega arith, omega arith)

pairs-none : (bs : List Binder) (at y : ℕ) → pair_in at bs y ≡ none → T (not (is_in y (variables_of bs)))
unfolding pair_in
pairs-none [] at y e = tt
pairs-none (b ∷ bs) at y e = go (eqb b.variable y) refl (pairs-none bs (at + 2) y) e
  where
    go : (t : Bool) → eqb b.variable y ≡ t → (pair_in (at + 2) bs y ≡ none → T (not (is_in y (variables_of bs))))
        → ◌≡◌ {A = Option ℕ} (elim t as (λ c. Option ℕ) [ true ↦ some at | false ↦ pair_in (at + 2) bs y ]) none → T (not (is_in y (variables_of (b ∷ bs))))
    go true q later e = absurd (some-not-none refl e)
    go false q later e =
        subst (λ (t : Bool). T (not (t || is_in y (variables_of bs)))) (sym (sym (eqb_swap b.variable y) ∙ q)) (later e)

first_some : (a b : Option ℕ) {p : ℕ} → first_pair a b ≡ some p → (a ≡ some p) ⊎ ((a ≡ none) × (b ≡ some p))
first_some none b e = inr (refl, e)
first_some (some x) b e = inl e

first-none : (a b : Option ℕ) → first_pair a b ≡ none → (a ≡ none) × (b ≡ none)
first-none none b e = (refl, e)
first-none (some x) b e = absurd (some-not-none refl e)

-- bound by the first pairs, or by the others
bound-first : (v : ℕ) (bs cs : List Binder) → T (is_in v (variables_of bs)) → T (is_in v (variables_of (bs ++ cs)))
bound-first v bs cs h = subst T (sym (bound-append v bs cs)) (or_left (is_in v (variables_of bs)) (is_in v (variables_of cs)) h)

bound-later : (v : ℕ) (bs cs : List Binder) → T (is_in v (variables_of cs)) → T (is_in v (variables_of (bs ++ cs)))
bound-later v bs cs h = subst T (sym (bound-append v bs cs)) (or_right (is_in v (variables_of bs)) (is_in v (variables_of cs)) h)

bound-neither : (v : ℕ) (bs cs : List Binder) → T (not (is_in v (variables_of bs))) → T (not (is_in v (variables_of cs))) → T (not (is_in v (variables_of (bs ++ cs))))
bound-neither v bs cs h k =
    let first = is_in v (variables_of bs) in
    let second = is_in v (variables_of cs) in
    subst (λ (t : Bool). T (not t)) (sym (bound-append v bs cs ∙ ap₂ {C = Bool} ◌||◌ (is_false first h) (is_false second k))) tt

pub pair-bound : (c : Script) (y p : ℕ) → pair_of c y ≡ some p → T (is_in y (variables_of (binders_of c)))
unfolding pair_of binders_of
pair-bound (success at) y p e = absurd (some-not-none e refl)
pair-bound (from_named at n c) y p e = pair-bound c y p e
pair-bound (block at each bs q c) y p e =
    ⊎_elim (λ h. bound-first y bs (binders_of c) (pairs-hold bs (at + pairs_offset) y p h).0) (λ h. bound-later y bs (binders_of c) (pair-bound c y p h.1))
    (first_some (pair_in (at + pairs_offset) bs y) (pair_of c y) e)
pair-bound (sequence at c d) y p e =
    ⊎_elim (λ h. bound-first y (binders_of c) (binders_of d) (pair-bound c y p h)) (λ h. bound-later y (binders_of c) (binders_of d) (pair-bound d y p h.1))
    (first_some (pair_of c y) (pair_of d y) e)

pair-unbound : (c : Script) (y : ℕ) → pair_of c y ≡ none → T (not (is_in y (variables_of (binders_of c))))
unfolding pair_of binders_of
pair-unbound (success at) y e = tt
pair-unbound (from_named at n c) y e = pair-unbound c y e
pair-unbound (block at each bs q c) y e =
    let h = first-none (pair_in (at + pairs_offset) bs y) (pair_of c y) e in
    bound-neither y bs (binders_of c) (pairs-none bs (at + pairs_offset) y h.0) (pair-unbound c y h.1)
pair-unbound (sequence at c d) y e =
    let h = first-none (pair_of c y) (pair_of d y) e in
    bound-neither y (binders_of c) (binders_of d) (pair-unbound c y h.0) (pair-unbound d y h.1)

-- a variable that is bound has its pair
pub bound-pair : (c : Script) (y : ℕ) → T (is_in y (variables_of (binders_of c))) → (p : ℕ) × (pair_of c y ≡ some p)
bound-pair c y h = go (pair_of c y) refl
  where
    go : (o : Option ℕ) → pair_of c y ≡ o → (p : ℕ) × (pair_of c y ≡ some p)
    go none e = absurd (not_both (is_in y (variables_of (binders_of c))) h (pair-unbound c y e))
    go (some p) e = (p, e)

-- ── a record of kinds 71 to 74 reads as what stands there ───────────────────────────────────

module _ (s : List ℕ) (terms left at : ℕ) where
  at-kind : (k : ℕ) → byte s at ≡ k
      → read_script s terms (suc left) at ≡ script_of (row k script_rows ScriptShape.unknown) s at (read_name s terms left) (read_query s terms left) (read_script s terms left)
  unfolding read_script
  at-kind k e = ap (λ (k : ℕ). script_of (row k script_rows ScriptShape.unknown) s at (read_name s terms left) (read_query s terms left) (read_script s terms left)) e

  reads-script : (c : Script) (n : ℕ) → ReadsAs s terms left at c n → read_script s terms (suc left) at ≡ some (c, n)
  unfolding with_binders
  reads-script (success o) n h = at-kind 0x71 h.kind ∙ λ i. some (success (sym h.here i), sym h.ends i)
  reads-script (from_named o x c) n h =
      at-kind 0x72 h.kind
      ∙ two-rest (Script.from_named at) (read_name s terms left) (read_script s terms left) (at + 1) h.name
      ∙ one-some (Script.from_named at x) h.script
      ∙ λ i. some (from_named (sym h.here i) x c, n)
  reads-script (block o each bs q c) n h =
      let whole-test = whole s at block_width in
      let mode-test = ltb (byte s (at + 1)) 2 in
      at-kind 0x73 h.kind
      ∙ provided-holds (whole-test && mode-test) (and_make whole-test mode-test (le→leb (past at block_width) (length s) h.room) (lt→ltb (byte s (at + 1)) 2 h.mode))
      (onward-some _ h.binders
      ∙ two-rest (Script.block at (is_each s at) bs) (read_query s terms left) (read_script s terms left) (past at block_width) h.query
      ∙ one-some (Script.block at (is_each s at) bs q) h.script)
      ∙ λ i. some (block (sym h.here i) (h.is_mode i) bs q c, n)
  reads-script (sequence o c d) n h =
      at-kind 0x74 h.kind
      ∙ two-rest (Script.sequence at) (read_script s terms left) (read_script s terms left) (at + 1) h.first
      ∙ one-some (Script.sequence at c) h.second
      ∙ λ i. some (sequence (sym h.here i) c d, n)

-- ── what a pair writes ──────────────────────────────────────────────────────────────────────

code-written : (τ : Ty) → written_of (type_code τ) ≡ some (some τ)
unfolding written_of onward
code-written (plain any_uri) = refl
code-written (plain string) = refl
code-written (plain decimal) = refl
code-written (plain date_time) = refl
code-written (plain integer) = refl
code-written (range any_uri) = refl
code-written (range string) = refl
code-written (range decimal) = refl
code-written (range date_time) = refl
code-written (range integer) = refl

-- a pair that was read: its variable, which is below 16, and its written type
record PairRead (s : List ℕ) (at : ℕ) (b : Binder) : Type 0 where
  below : T (ltb (byte s at) variable_limit)
  written : written_of (byte s (at + 1)) ≡ some b.written
  variable : byte s at ≡ b.variable

pair_read : (s : List ℕ) (at : ℕ) (b : Binder) → binder_at s at ≡ some b → PairRead s at b
unfolding binder_at
pair_read s at b e =
    let p = provided-inv (ltb (byte s at) variable_limit) (onward (written_of (byte s (at + 1))) (λ w. some (record { variable = byte s at; written = w }))) e in
    let q = onward-inv (written_of (byte s (at + 1))) (λ w. some (record { variable = byte s at; written = w })) p.1 in
    let f = some_is q.2 in
    record { below = p.0; written = q.1 ∙ ap (λ (x : Binder). some x.written) f; variable = ap (λ (x : Binder). x.variable) f }

read-pair : (s : List ℕ) (at : ℕ) (b : Binder) → PairRead s at b → binder_at s at ≡ some b
unfolding binder_at
read-pair s at b h =
    provided-holds (ltb (byte s at) variable_limit) h.below
    (onward-some (λ w. some (record { variable = byte s at; written = w })) h.written ∙ λ i. some (record { variable = h.variable i; written = b.written }))

-- the pairs of a block, one by one
module _ (s : List ℕ) (left count at : ℕ) (bs : List Binder) where
  binders-inv : binders_at (suc left) (suc count) s at ≡ some bs
      → (b : Binder) × (rest : List Binder) × (binder_at s at ≡ some b) × (binders_at left count s (at + 2) ≡ some rest) × (b ∷ rest ≡ bs)
  unfolding binders_at
  binders-inv e =
      let p = onward-inv (binder_at s at) (λ b. onward (binders_at left count s (at + 2)) (λ bs. some (b ∷ bs))) e in
      let q = onward-inv (binders_at left count s (at + 2)) (λ bs. some (p.0 ∷ bs)) p.2 in
      (p.0, q.0, p.1, q.1, some_is q.2)

binders-made : (s : List ℕ) (left count at : ℕ) {b : Binder} {rest : List Binder} → binder_at s at ≡ some b → binders_at left count s (at + 2) ≡ some rest
    → binders_at (suc left) (suc count) s at ≡ some (b ∷ rest)
unfolding binders_at
binders-made s left count at {b} e f = onward-some (λ b. onward (binders_at left count s (at + 2)) (λ bs. some (b ∷ bs))) e ∙ onward-some (λ bs. some (b ∷ bs)) f

-- with no pairs there is none of a variable
no_pairs : (s : List ℕ) (left at : ℕ) (bs : List Binder) (y p : ℕ) → binders_at left zero s at ≡ some bs → pair_in at bs y ≡ some p → ⊥
no_pairs s left at bs y p e f = omega (arith, pairs-hold bs at y p f, (binders-bounded 0 left zero s at bs e).1)

-- what the pair of a variable says
pub record Says (s : List ℕ) (y p : ℕ) (w : Written) : Type 0 where
  pub variable : byte s p ≡ y
  pub small : y < variable_limit
  pub type : Option Ty
  pub code : written_of (byte s (p + 1)) ≡ some type
  pub written : w ≡ annotated type

module _ (y : ℕ) (b : Binder) (bs : List Binder) (t : Bool) (e : eqb b.variable y ≡ t) where
  written-first : written_in (b ∷ bs) y ≡ (elim t as (λ c. Written) [ true ↦ annotated b.written | false ↦ written_in bs y ])
  unfolding written_in
  written-first = ap (λ (c : Bool). elim c as (λ c. Written) [ true ↦ annotated b.written | false ↦ written_in bs y ]) e

  pair-first : (at : ℕ) → pair_in at (b ∷ bs) y ≡ (elim t as (λ c. Option ℕ) [ true ↦ some at | false ↦ pair_in (at + 2) bs y ])
  unfolding pair_in
  pair-first at = ap (λ (c : Bool). elim c as (λ c. Option ℕ) [ true ↦ some at | false ↦ pair_in (at + 2) bs y ]) e

pairs-say : (s : List ℕ) (left count at : ℕ) (bs : List Binder) (y p : ℕ) → binders_at left count s at ≡ some bs → pair_in at bs y ≡ some p
    → Says s y p (written_in bs y)
unfolding binders_at
pairs-say s left zero at bs y p e f = absurd (no_pairs s left at bs y p e f)
pairs-say s zero (suc count) at bs y p e f = absurd (some-not-none e refl)
pairs-say s (suc left) (suc count) at bs y p e f =
    let h = binders-inv s left count at bs e in
    subst (λ (l : List Binder). pair_in at l y ≡ some p → Says s y p (written_in l y)) h.4
    (go h.0 h.1 h.2 (pairs-say s left count (at + 2) h.1 y p h.3) (eqb h.0.variable y) refl) f
  where
    go : (b : Binder) (rest : List Binder) → binder_at s at ≡ some b → (pair_in (at + 2) rest y ≡ some p → Says s y p (written_in rest y))
        → (t : Bool) → eqb b.variable y ≡ t → pair_in at (b ∷ rest) y ≡ some p → Says s y p (written_in (b ∷ rest) y)
    go b rest eb later true q k =
        let r = pair_read s at b eb in
        let here : at ≡ p = some_is (sym (pair-first y b rest true q at) ∙ k) in
        subst (λ (n : ℕ). Says s y n (written_in (b ∷ rest) y)) here
        (record {
          variable = r.variable ∙ eqb-true b.variable y q;
          small = subst (λ (n : ℕ). n < variable_limit) (r.variable ∙ eqb-true b.variable y q) (ltb→lt (byte s at) variable_limit r.below);
          type = b.written;
          code = r.written;
          written = written-first y b rest true q;
        })
    go b rest eb later false q k =
        subst (Says s y p) (sym (written-first y b rest false q)) (later (sym (pair-first y b rest false q at) ∙ k))

-- the first pairs say it, or the others
written-former : (bs cs : List Binder) (y : ℕ) → T (is_in y (variables_of bs)) → written_in (bs ++ cs) y ≡ written_in bs y
written-former [] cs y h = absurd h
written-former (b ∷ bs) cs y h = go (eqb b.variable y) refl (written-former bs cs y)
  where
    go : (t : Bool) → eqb b.variable y ≡ t → (T (is_in y (variables_of bs)) → written_in (bs ++ cs) y ≡ written_in bs y) → written_in (b ∷ bs ++ cs) y ≡ written_in (b ∷ bs) y
    go true q later = written-first y b (bs ++ cs) true q ∙ sym (written-first y b bs true q)
    go false q later =
        written-first y b (bs ++ cs) false q
        ∙ later (subst (λ (t : Bool). T (t || is_in y (variables_of bs))) (sym (eqb_swap b.variable y) ∙ q) h)
        ∙ sym (written-first y b bs false q)

written-latter : (bs cs : List Binder) (y : ℕ) → T (not (is_in y (variables_of bs))) → written_in (bs ++ cs) y ≡ written_in cs y
written-latter [] cs y h = refl
written-latter (b ∷ bs) cs y h = go (eqb b.variable y) refl (written-latter bs cs y)
  where
    go : (t : Bool) → eqb b.variable y ≡ t → (T (not (is_in y (variables_of bs))) → written_in (bs ++ cs) y ≡ written_in cs y) → written_in (b ∷ bs ++ cs) y ≡ written_in cs y
    go true q later = absurd (subst (λ (t : Bool). T (not (t || is_in y (variables_of bs)))) (sym (eqb_swap b.variable y) ∙ q) h)
    go false q later =
        written-first y b (bs ++ cs) false q
        ∙ later (subst (λ (t : Bool). T (not (t || is_in y (variables_of bs)))) (sym (eqb_swap b.variable y) ∙ q) h)

pub script-says : (s : List ℕ) (terms left at n : ℕ) (c : Script) (y p : ℕ) → read_script s terms left at ≡ some (c, n) → pair_of c y ≡ some p
    → Says s y p (written_in (binders_of c) y)
unfolding pair_of binders_of
script-says s terms zero at n c y p e f = absurd (some-not-none e (script-none s terms at))
script-says s terms (suc left) at n (success o) y p e f = absurd (some-not-none f refl)
script-says s terms (suc left) at n (from_named o x c) y p e f =
    let h = script-reads s terms left at (from_named o x c) n e in
    script-says s terms left h.next n c y p h.script f
script-says s terms (suc left) at n (block o each bs q c) y p e f =
    let h = script-reads s terms left at (block o each bs q c) n e in
    ⊎_elim
    (λ k.
    let place = ap (λ (m : ℕ). pair_in (m + pairs_offset) bs y) (sym h.here) ∙ k in
    subst (Says s y p) (sym (written-former bs (binders_of c) y (pairs-hold bs (at + pairs_offset) y p place).0))
    (pairs-say s pair_limit (byte s (at + 2)) (at + pairs_offset) bs y p h.binders place))
    (λ k. subst (Says s y p) (sym (written-latter bs (binders_of c) y (pairs-none bs (o + pairs_offset) y k.0))) (script-says s terms left h.next n c y p h.script k.1))
    (first_some (pair_in (o + pairs_offset) bs y) (pair_of c y) f)
script-says s terms (suc left) at n (sequence o c d) y p e f =
    let h = script-reads s terms left at (sequence o c d) n e in
    ⊎_elim
    (λ k. subst (Says s y p) (sym (written-former (binders_of c) (binders_of d) y (pair-bound c y p k))) (script-says s terms left (at + 1) h.next c y p h.first k))
    (λ k. subst (Says s y p) (sym (written-latter (binders_of c) (binders_of d) y (pair-unbound c y k.0))) (script-says s terms left h.next n d y p h.second k.1))
    (first_some (pair_of c y) (pair_of d y) f)

-- ── the pair lies within the script ─────────────────────────────────────────────────────────

pub script-inside : (s : List ℕ) (terms left at n : ℕ) (c : Script) (y p : ℕ) → read_script s terms left at ≡ some (c, n) → pair_of c y ≡ some p
    → (at < p) × (p + 2 ≤ n)
unfolding pair_of
script-inside s terms zero at n c y p e f = absurd (some-not-none e (script-none s terms at))
script-inside s terms (suc left) at n (success o) y p e f = absurd (some-not-none f refl)
script-inside s terms (suc left) at n (from_named o x c) y p e f =
    let h = script-reads s terms left at (from_named o x c) n e in
    let k = script-inside s terms left h.next n c y p h.script f in
    (omega (arith, k, (name-within s terms left (at + 1) x h.next h.name).from), k.1)
script-inside s terms (suc left) at n (block o each bs q c) y p e f =
    let h = script-reads s terms left at (block o each bs q c) n e in
    let first = (query-within s terms left (past at block_width) q h.next h.query).from in
    let second = (script-within s terms left h.next c n h.script).from in
    ⊎_elim
    (λ k.
    let m = pairs-hold bs (o + pairs_offset) y p k in
    let few = binders-bounded terms pair_limit (byte s (at + 2)) s (at + pairs_offset) bs h.binders in
    (omega (arith, m, h.here), omega (arith, m, h.here, few.1, few.2, first, second)))
    (λ k. let m = script-inside s terms left h.next n c y p h.script k.1 in (omega (arith, m, first), m.1))
    (first_some (pair_in (o + pairs_offset) bs y) (pair_of c y) f)
script-inside s terms (suc left) at n (sequence o c d) y p e f =
    let h = script-reads s terms left at (sequence o c d) n e in
    let first = (script-within s terms left (at + 1) c h.next h.first).from in
    let second = (script-within s terms left h.next d n h.second).from in
    ⊎_elim
    (λ k. let m = script-inside s terms left (at + 1) h.next c y p h.first k in (omega (arith, m), omega (arith, m, second)))
    (λ k. let m = script-inside s terms left h.next n d y p h.second k.1 in (omega (arith, m, first), m.1))
    (first_some (pair_of c y) (pair_of d y) f)

-- ── the type written ────────────────────────────────────────────────────────────────────────

module _ (s : List ℕ) (terms y p : ℕ) (τ : Ty) (room : p + 1 < length s) where
  abbrev s' : List ℕ
  s' = set s (p + 1) (type_code τ)

  sized : length s' ≡ length s
  sized = length-set s (p + 1) (type_code τ)

  same : (i : ℕ) → (p + 1 < i) ⊎ (i ≤ p) → byte s' i ≡ byte s i
  same i o = get_or-set_other s (p + 1) i (type_code τ) 0 (λ e. ⊎_elim (λ w. omega arith) (λ w. omega arith) o)

  agree : (from to : ℕ) → (p + 1 < from) ⊎ (to ≤ p + 1) → Agree s s' terms sized from to
  agree from to o i l m = same i (⊎_elim (λ w. inl (omega arith)) (λ w. inr (omega arith)) o)

  binders-rewritten : (left count at : ℕ) (bs : List Binder) → binders_at left count s at ≡ some bs → pair_in at bs y ≡ some p → T (distinct eqb (variables_of bs))
      → binders_at left count s' at ≡ some (map (retype y τ) bs)
  unfolding binders_at
  binders-rewritten left zero at bs e f d = absurd (no_pairs s left at bs y p e f)
  binders-rewritten zero (suc count) at bs e f d = absurd (some-not-none e refl)
  binders-rewritten (suc left) (suc count) at bs e f d =
      let h = binders-inv s left count at bs e in
      subst (λ (l : List Binder). pair_in at l y ≡ some p → T (distinct eqb (variables_of l)) → binders_at (suc left) (suc count) s' at ≡ some (map (retype y τ) l)) h.4
      (go h.0 h.1 h.2 h.3 (binders-rewritten left count (at + 2) h.1 h.3) (eqb h.0.variable y) refl) f d
    where
      go : (b : Binder) (rest : List Binder) → binder_at s at ≡ some b → binders_at left count s (at + 2) ≡ some rest
          → (pair_in (at + 2) rest y ≡ some p → T (distinct eqb (variables_of rest)) → binders_at left count s' (at + 2) ≡ some (map (retype y τ) rest))
          → (t : Bool) → eqb b.variable y ≡ t → pair_in at (b ∷ rest) y ≡ some p → T (distinct eqb (variables_of (b ∷ rest)))
          → binders_at (suc left) (suc count) s' at ≡ some (map (retype y τ) (b ∷ rest))
      go b rest eb er later true q k d =
          let here : at ≡ p = some_is (sym (pair-first y b rest true q at) ∙ k) in
          let r = pair_read s at b eb in
          let first = same at (inr (omega arith)) in
          let second : byte s' (at + 1) ≡ type_code τ = ap (λ (n : ℕ). byte s' (n + 1)) here ∙ get_or-set_same s (p + 1) (type_code τ) 0 room in
          let bound = or_left (eqb y b.variable) false (subst T (eqb_swap b.variable y) (true_is (eqb b.variable y) q)) in
          binders-made s' left count at
          (read-pair s' at (retype y τ b) (subst (λ (t : Bool). PairRead s' at (retype_if y τ t b)) (sym q) (record {
            below = subst (λ (n : ℕ). T (ltb n variable_limit)) (sym first) r.below;
            written = ap written_of second ∙ code-written τ;
            variable = first ∙ r.variable;
          })))
          (binders-same s s' terms sized left count (at + 2) (agree (at + 2) (at + 2 + 2 * left) (inl (omega arith))) ∙ er
          ∙ ap some (sym (binders-absent y τ rest ((bound-once (b ∷ []) rest d).2 y bound))))
      go b rest eb er later false q k d =
          let place = sym (pair-first y b rest false q at) ∙ k in
          let far = pairs-hold rest (at + 2) y p place in
          binders-made s' left count at
          (binder-same s s' terms sized at (agree at (at + 2) (inr (omega (arith, far)))) ∙ eb ∙ ap (λ (t : Bool). some (retype_if y τ t b)) (sym q))
          (later place (bound-once (b ∷ []) rest d).1)

  pub rewritten : (left at n : ℕ) (c : Script) → read_script s terms left at ≡ some (c, n) → pair_of c y ≡ some p → T (distinct eqb (variables_of (binders_of c)))
      → read_script s' terms left at ≡ some (retyped y τ c, n)
  unfolding pair_of binders_of retyped
  rewritten zero at n c e f d = absurd (some-not-none e (script-none s terms at))
  rewritten (suc left) at n (success o) e f d = absurd (some-not-none f refl)
  rewritten (suc left) at n (from_named o x c) e f d =
      let h = script-reads s terms left at (from_named o x c) n e in
      let i = script-inside s terms left h.next n c y p h.script f in
      let w = (name-within s terms left (at + 1) x h.next h.name).from in
      reads-script s' terms left at (from_named o x (retyped y τ c)) n (record {
        here = h.here;
        kind = same at (inr (omega (arith, i, w))) ∙ h.kind;
        next = h.next;
        name = (name-alike s s' terms sized left (at + 1) x h.next h.name).1 (agree (at + 1) h.next (inr (omega (arith, i))));
        script = rewritten left h.next n c h.script f d;
      })
  rewritten (suc left) at n (block o each bs q c) e f d =
      let h = script-reads s terms left at (block o each bs q c) n e in
      let i = script-inside s terms (suc left) at n (block o each bs q c) y p e f in
      let once = bound-once bs (binders_of c) d in
      let few = binders-bounded terms pair_limit (byte s (at + 2)) s (at + pairs_offset) bs h.binders in
      let first = (query-within s terms left (past at block_width) q h.next h.query).from in
      let query' = (query-alike s s' terms sized left (past at block_width) q h.next h.query).1 in
      let script' = (script-alike s s' terms sized left h.next c n h.script).1 in
      let fits : past at block_width ≤ length s' = subst (λ (m : ℕ). past at block_width ≤ m) (sym sized) h.room in
      ⊎_elim
      (λ k.
      let place = ap (λ (m : ℕ). pair_in (m + pairs_offset) bs y) (sym h.here) ∙ k in
      let m = pairs-hold bs (at + pairs_offset) y p place in
      let end : p + 1 < past at block_width = omega (arith, m, few.1, few.2) in
      reads-script s' terms left at (block o each (map (retype y τ) bs) q (retyped y τ c)) n (record {
        here = h.here;
        kind = same at (inr (omega (arith, m))) ∙ h.kind;
        room = fits;
        mode = subst (λ (k : ℕ). k < 2) (sym (same (at + 1) (inr (omega (arith, m))))) h.mode;
        is_mode = ap (λ (k : ℕ). eqb k 1) (same (at + 1) (inr (omega (arith, m)))) ∙ h.is_mode;
        binders =
            ap (λ (k : ℕ). binders_at pair_limit k s' (at + pairs_offset)) (same (at + 2) (inr (omega (arith, m))))
            ∙ binders-rewritten pair_limit (byte s (at + 2)) (at + pairs_offset) bs h.binders place once.0;
        next = h.next;
        query = query' (agree (past at block_width) h.next (inl end));
        script = script' (agree h.next n (inl (omega (arith, end, first)))) ∙ ap (λ (b : Script). some (b, n)) (sym (script-absent y τ c (once.2 y m.0)));
      }))
      (λ k.
      let m = script-inside s terms left h.next n c y p h.script k.1 in
      reads-script s' terms left at (block o each (map (retype y τ) bs) q (retyped y τ c)) n (record {
        here = h.here;
        kind = same at (inr (omega (arith, m, first))) ∙ h.kind;
        room = fits;
        mode = subst (λ (k : ℕ). k < 2) (sym (same (at + 1) (inr (omega (arith, m, first))))) h.mode;
        is_mode = ap (λ (k : ℕ). eqb k 1) (same (at + 1) (inr (omega (arith, m, first)))) ∙ h.is_mode;
        binders =
            ap (λ (k : ℕ). binders_at pair_limit k s' (at + pairs_offset)) (same (at + 2) (inr (omega (arith, m, first))))
            ∙ binders-same s s' terms sized pair_limit (byte s (at + 2)) (at + pairs_offset)
            (agree (at + pairs_offset) (at + pairs_offset + 2 * pair_limit) (inr (omega (arith, m, first)))) ∙ h.binders
            ∙ ap some (sym (binders-absent y τ bs (pairs-none bs (o + pairs_offset) y k.0)));
        next = h.next;
        query = query' (agree (past at block_width) h.next (inr (omega (arith, m))));
        script = rewritten left h.next n c h.script k.1 once.1;
      }))
      (first_some (pair_in (o + pairs_offset) bs y) (pair_of c y) f)
  rewritten (suc left) at n (sequence o c d) e f u =
      let h = script-reads s terms left at (sequence o c d) n e in
      let once = bound-once (binders_of c) (binders_of d) u in
      let first = (script-within s terms left (at + 1) c h.next h.first).from in
      ⊎_elim
      (λ k.
      let m = script-inside s terms left (at + 1) h.next c y p h.first k in
      reads-script s' terms left at (sequence o (retyped y τ c) (retyped y τ d)) n (record {
        here = h.here;
        kind = same at (inr (omega (arith, m))) ∙ h.kind;
        next = h.next;
        first = rewritten left (at + 1) h.next c h.first k once.0;
        second =
            (script-alike s s' terms sized left h.next d n h.second).1 (agree h.next n (inl (omega (arith, m))))
            ∙ ap (λ (b : Script). some (b, n)) (sym (script-absent y τ d (once.2 y (pair-bound c y p k))));
      }))
      (λ k.
      let m = script-inside s terms left h.next n d y p h.second k.1 in
      reads-script s' terms left at (sequence o (retyped y τ c) (retyped y τ d)) n (record {
        here = h.here;
        kind = same at (inr (omega (arith, m, first))) ∙ h.kind;
        next = h.next;
        first =
            (script-alike s s' terms sized left (at + 1) c h.next h.first).1 (agree (at + 1) h.next (inr (omega (arith, m))))
            ∙ ap (λ (b : Script). some (b, h.next)) (sym (script-absent y τ c (pair-unbound c y k.0)));
        second = rewritten left h.next n d h.second k.1 once.1;
      }))
      (first_some (pair_of c y) (pair_of d y) f)
