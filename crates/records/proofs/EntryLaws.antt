-- Laws of a schema's entries by their numbers: the bytes that they take, the hashes of their URIs, and hashes compared first.
use Rattle.std.specs.Prelude.{Some, None}
use Rattle.std.specs.declared.option.Option as Answer
use native.Mathlib.Decide.{ℕ_discrete}
use Prim.Native.Nat.{ℕ, zero, suc, ◌+◌, ◌-◌, ◌*◌, ◌/◌, ◌≤◌, ◌<◌}
use mathlib.Core.Bool.{Bool, true, false, ◌||◌}
use mathlib.Core.List.{List, ◌∷◌}
use mathlib.Core.Logic.{◌⊎◌, inl, inr}
use mathlib.Core.Option.{Option, some}
use mathlib.Core.Path.{◌≡◌, refl, sym, ap, ◌∙◌, subst}
use native.Mathlib.Omega.{arith}
use lib.Dec.{eqb}
use lib.ListN.{length, get_or, set, take, drop}
use lib.Seq.{drop-cons, get_or-take, length-take-le}
use borrow.Author.Tests.{eqb-false}
use Rattle.definitions.specs.Limits.{slot_width, text_width, entry_limit, entry_width, uri_width, schema_width}
use Rattle.definitions.specs.Lists.{some?}
use Rattle.definitions.specs.Bytes.{byte, part, filled, same_bytes}
use Rattle.definitions.specs.Terms.{Schema, same_property, uri_text, read_entry, read_schema}
use Rattle.laws.proofs.Options.{same_some}
use Rattle.laws.proofs.Ranges.{split}
use Rattle.laws.proofs.Tests.{true_is}
use Rattle.laws.proofs.RecordsAt.{entry-forward, at-end, schema-at}
use Rattle.laws.specs.Records.{records_at}
use Rattle.laws.specs.ReadAnswers.{is_some, next_of}
use Rattle.fields.specs.Answers.{again_in, distinct_in, code_if, schema_code}
use Rattle.table.specs.Hashes.{hash_of, uri_slot, HashesOf, HashedEntries, NoneWith, FirstWith}
use Rattle.laws.proofs.ReadAnswers.{is-some}
use Rattle.fields.proofs.PartLaws.{some-part}
use Rattle.table.proofs.HashLaws.{one-hashed}
use Rattle.table.proofs.PlaceLaws.{carried}
use Rattle.records.proofs.ListLaws.{good-one, good-after, good-rest, rest, all_of, again_rest, again-end, distinct-not, distinct-rest}
use Rattle.fields.proofs.SameLaws.{Compared, compared, entry-ends, same-properties}
use Rattle.fields.proofs.NumberLaws.{code-some, code-none}
use Rattle.records.proofs.SchemaLaws.{code_here, code-rest, code-high, code-end}

-- ── the bytes of a schema ───────────────────────────────────────────────────────────────────

some-there : {A : Type 0} {o : Option A} {a : A} → o ≡ some a → is_some o ≡ true
some-there e = rw e

module _ (s : List ℕ) where
  entries_from : (n at : ℕ) → length s < at + n → at ≤ length s → (S : Schema) → records_at read_entry s at ≡ some S → length s ≡ at + length S * entry_width
  entries_from zero at h l S e = absurd (omega arith)
  entries_from (suc n) at h l S e = go (split (length s) at) (λ at h l S e. entries_from n at h l S e)
    where
      go : (length s ≤ at) ⊎ (at < length s)
          → ((at : ℕ) → length s < at + n → at ≤ length s → (S : Schema) → records_at read_entry s at ≡ some S → length s ≡ at + length S * entry_width)
          → length s ≡ at + length S * entry_width
      go (inl k) later = omega (arith, ap length (same_some e (at-end read_entry entry-forward s at k)))
      go (inr k) later =
          let g = some-there e in
          let ends = entry-ends s at (good-one read_entry entry-forward s at g k) in
          let r = rest read_entry entry-forward s at g k ends in
          let fits = (good-after read_entry entry-forward s at g k ends).1 in
          let x = later (at + entry_width) (omega arith) fits r.0 r.1 in
          omega (arith, x, ap length (same_some e (all_of read_entry entry-forward s at g k ends)))

  pub schema-length : (S : Schema) → read_schema s ≡ some S → length s ≡ length S * entry_width
  schema-length S e = omega (arith, entries_from (suc (length s)) 0 (omega arith) (omega arith) S (sym (schema-at s) ∙ e))

  pub schema-whole : is_some (read_schema s) ≡ true → (n : ℕ) × (length s ≡ n * entry_width)
  schema-whole g = let r = is-some (read_schema s) g in (length r.0, schema-length r.0 r.1)

-- ── the hashes of a schema's first entries ───────────────────────────────────────────────────

abbrev pub HashedTo : (schema : List ℕ) → (n : ℕ) → (hashes : List ℕ) → Type 0
HashedTo s n hashes = HashesOf (λ i. hash_of (uri_slot (part s (i * entry_width + 1) text_width))) n hashes

-- the next entry, as the code hands it on
pub one_entry : (s hashes slot : List ℕ) (i x : ℕ) → i < length hashes → HashedTo s i hashes
    → slot ≡ filled slot_width (0x11 ∷ part s (i * entry_width + 1) (i * entry_width + 1 + text_width - (i * entry_width + 1)))
    → x ≡ hash_of slot → HashedTo s (i + 1) (set hashes i x)
one_entry s hashes slot i x h w e f =
    one-hashed (λ j. hash_of (uri_slot (part s (j * entry_width + 1) text_width))) hashes i x h w (f ∙ ap hash_of (e ∙ ap uri_slot (some-part s (i * entry_width + 1) text_width)))

pub all-entries : (s hashes : List ℕ) (i : ℕ) → is_some (read_schema s) ≡ true → length s ≤ schema_width → length hashes ≡ entry_limit
    → length s / entry_width ≤ i → HashedTo s i hashes → HashedEntries s hashes
all-entries s hashes i g few room l w =
    record { few = few; room = room; each = λ j h. w j (omega (arith, (schema-whole s g).1)) }

-- ── an entry by its number ──────────────────────────────────────────────────────────────────

flipped : (a b : List ℕ) {r : Bool} → Compared a b r → Compared b a r
flipped a b c = (λ t. sym (c.0 t), λ e. c.1 (sym e))

module _ (s : List ℕ) (i : ℕ) (g : is_some (records_at read_entry s (i * entry_width)) ≡ true) (h : i < length s / entry_width) where
  starts : i * entry_width < length s
  starts = omega arith

  next-is : (i + 1) * entry_width ≡ i * entry_width + entry_width
  next-is = omega arith

  pub entry-good : is_some (read_entry s (i * entry_width)) ≡ true
  entry-good = good-one read_entry entry-forward s (i * entry_width) g starts

  ends : Some (i * entry_width + entry_width) ≡ next_of (read_entry s (i * entry_width))
  ends = entry-ends s (i * entry_width) entry-good

  pub after-good : is_some (records_at read_entry s (i * entry_width + entry_width)) ≡ true
  after-good = good-rest read_entry entry-forward s (i * entry_width) g starts ends

  pub next-good : is_some (records_at read_entry s ((i + 1) * entry_width)) ≡ true
  next-good = rw next-is after-good

  -- a URI whose hash is another is another
  other-uri : (hashes u : List ℕ) → HashedEntries s hashes → {m : ℕ} → m ≡ hash_of (uri_slot u) → (get_or hashes i 0 ≡ m → ⊥)
      → Compared (part s (i * entry_width + 1) (i * entry_width + 1 + text_width - (i * entry_width + 1))) u false
  other-uri hashes u w e d = (
    λ t. absurd (true_is false t),
    λ q. absurd (d (w.each i starts ∙ ap (λ (f : List ℕ). hash_of (uri_slot f)) (sym (some-part s (i * entry_width + 1) text_width) ∙ q) ∙ sym e)),
  )

  module _ (u : List ℕ) (v : is_some (uri_text u) ≡ true) where
    pub code-next : {r : Bool} → Compared (part s (i * entry_width + 1) (i * entry_width + 1 + text_width - (i * entry_width + 1))) u r → r ≡ false
        → schema_code (records_at read_entry s (i * entry_width)) (uri_text u) ≡ schema_code (records_at read_entry s ((i + 1) * entry_width)) (uri_text u)
    code-next c q = rw next-is (code-rest s (i * entry_width) u v g starts c q)

    code_other : (hashes : List ℕ) → HashedEntries s hashes → {m : ℕ} → m ≡ hash_of (uri_slot u) → (get_or hashes i 0 ≡ m → ⊥)
        → schema_code (records_at read_entry s (i * entry_width)) (uri_text u) ≡ schema_code (records_at read_entry s ((i + 1) * entry_width)) (uri_text u)
    code_other hashes w e d = code-next (other-uri hashes u w e d) refl

    pub code-found : {r : Bool} → Compared (part s (i * entry_width + 1) (i * entry_width + 1 + text_width - (i * entry_width + 1))) u r → r ≡ true
        → byte s (i * entry_width + 1 + text_width) ≡ schema_code (records_at read_entry s (i * entry_width)) (uri_text u)
    code-found c q = code_here s (i * entry_width) u v g starts c q

-- ── a hash that is not among those from a number on ─────────────────────────────────────────

pub neither : (a b : Bool) → (a || b) ≡ false → (a ≡ false) × (b ≡ false)
neither true b e = absurd (true_is false (sym e))
neither false b e = (refl, e)

module _ (s hashes u : List ℕ) (g : is_some (read_schema s) ≡ true) (w : HashedEntries s hashes) {m : ℕ} (e : m ≡ hash_of (uri_slot u)) where
  -- what holds at the end and before each entry of another URI
  module _ (P : ℕ → Type 0) (last : (at : ℕ) → length s ≤ at → P at)
      (other : (at : ℕ) → is_some (records_at read_entry s at) ≡ true → at < length s → Compared (part s (at + 1) (at + 1 + text_width - (at + 1))) u false → P (at + entry_width) → P at) where
    no-hash : (k i : ℕ) → length s / entry_width ≡ i + k → is_some (records_at read_entry s (i * entry_width)) ≡ true → some? (eqb m) (part hashes i k) ≡ false → P (i * entry_width)
    no-hash zero i l f q = last (i * entry_width) (omega (arith, (schema-whole s g).1))
    no-hash (suc k) i l f q =
        let h : i < length s / entry_width = omega arith in
        let c : drop i hashes ≡ get_or hashes i 0 ∷ drop (suc i) hashes = drop-cons hashes i 0 (omega (arith, w.few, w.room)) in
        let b : (eqb m (get_or hashes i 0) || some? (eqb m) (part hashes (suc i) k)) ≡ false = sym (ap (λ (xs : List ℕ). some? (eqb m) (take (suc k) xs)) c) ∙ q in
        let n = neither (eqb m (get_or hashes i 0)) (some? (eqb m) (part hashes (suc i) k)) b in
        let j : i * entry_width + entry_width ≡ suc i * entry_width = omega arith in
        let f' = subst (λ (at : ℕ). is_some (records_at read_entry s at) ≡ true) j (after-good s i f h) in
        other (i * entry_width) f (starts s i f h) (other-uri s i f h hashes u w e (λ x. eqb-false m (get_or hashes i 0) n.0 (sym x)))
        (subst P (sym j) (no-hash k (suc i) (omega arith) f' n.1))

-- ── the next place of a hash ────────────────────────────────────────────────────────────────

-- what is asked of the whole is asked of the entries from a number on
abbrev pub AskedFrom : (schema uri : List ℕ) → ℕ → Type 0
AskedFrom s u i = (is_some (records_at read_entry s (i * entry_width)) ≡ true) × (schema_code (read_schema s) (uri_text u) ≡ schema_code (records_at read_entry s (i * entry_width)) (uri_text u))

-- what the code finds, where its test compares the URIs' bytes
module _ (s hashes u : List ℕ) (g : is_some (read_schema s) ≡ true) (v : is_some (uri_text u) ≡ true) (w : HashedEntries s hashes) {m : ℕ} (e : m ≡ hash_of (uri_slot u))
    {Test : ℕ → Bool → Type 0} {r : Answer.Option ℕ} (x : FirstWith Test (take (length s / entry_width) hashes) m 0 r)
    (same : (i : ℕ) → i < length s / entry_width → (t : Bool) → Test i t → t ≡ same_bytes (part s (i * entry_width + 1) (i * entry_width + 1 + text_width - (i * entry_width + 1))) u) where
  start : AskedFrom s u 0
  start = (ap is_some (sym (schema-at s)) ∙ g, ap (λ (o : Option Schema). schema_code o (uri_text u)) (schema-at s))

  asked_next : (j : ℕ) → j < length s / entry_width → (get_or (take (length s / entry_width) hashes) j 0 ≡ m → Test j false) → AskedFrom s u j → AskedFrom s u (j + 1)
  asked_next j l d q = (next-good s j q.0 l, q.1 ∙ go (ℕ_discrete (get_or (take (length s / entry_width) hashes) j 0) m))
    where
      go : Dec (get_or (take (length s / entry_width) hashes) j 0 ≡ m)
          → schema_code (records_at read_entry s (j * entry_width)) (uri_text u) ≡ schema_code (records_at read_entry s ((j + 1) * entry_width)) (uri_text u)
      go (yes z) = code-next s j q.0 l u v (compared _ _ _ (same j l false (d z))) refl
      go (no z) = code_other s j q.0 l u v hashes w e (λ y. z (get_or-take (length s / entry_width) hashes j 0 l ∙ y))

  asked_from : (k : ℕ) → k ≤ length s / entry_width → NoneWith Test (take (length s / entry_width) hashes) m 0 k → AskedFrom s u k
  asked_from k l d = subst (AskedFrom s u) (omega arith) (carried (AskedFrom s u) 0 k (λ j a b p. asked_next j (omega arith) (λ q. d j (omega arith) (omega arith) q) p) start)

  few : length (take (length s / entry_width) hashes) ≡ length s / entry_width
  few = length-take-le (length s / entry_width) hashes (omega (arith, w.few, w.room))

  module _ {i : ℕ} (q : r ≡ Some i) where
    pub found-inside : i < length s / entry_width
    found-inside = omega (arith, (x.some i q).1, few)

    pub found-code : Some (byte s (i * entry_width + uri_width)) ≡ code_if (schema_code (read_schema s) (uri_text u))
    found-code =
        let o = x.some i q in
        let p = asked_from i (omega (arith, found-inside)) o.4 in
        let c = compared _ _ _ (same i found-inside true o.3) in
        let here : i * entry_width + 1 + text_width ≡ i * entry_width + uri_width = omega arith in
        let code : byte s (i * entry_width + uri_width) ≡ schema_code (read_schema s) (uri_text u) =
        ap (byte s) (sym here) ∙ code-found s i p.0 found-inside u v c refl ∙ sym p.1 in
        ap Some code ∙ code-some (schema_code (read_schema s) (uri_text u)) (subst (λ (k : ℕ). 0 < k) (ap (byte s) here ∙ code) (code-high s (i * entry_width) u v p.0 (starts s i p.0 found-inside)))

  pub none-code : r ≡ None → None ≡ code_if (schema_code (read_schema s) (uri_text u))
  none-code q =
      let p = asked_from (length s / entry_width) (omega arith) (subst (λ (k : ℕ). NoneWith Test (take (length s / entry_width) hashes) m 0 k) few (x.none q)) in
      code-none (schema_code (read_schema s) (uri_text u)) (p.1 ∙ code-end s (length s / entry_width * entry_width) u v (omega (arith, (schema-whole s g).1)))

-- ── properties that are all different ───────────────────────────────────────────────────────

module _ (s hashes : List ℕ) (g : is_some (read_schema s) ≡ true) (w : HashedEntries s hashes) (i : ℕ)
    (f : is_some (records_at read_entry s (i * entry_width)) ≡ true) (h : i < length s / entry_width) where
  pub distinct-found : {r : Bool} → r ≡ again_in same_property (read_entry s (i * entry_width)) (records_at read_entry s (i * entry_width + entry_width)) → r ≡ true
      → distinct_in same_property (records_at read_entry s (i * entry_width)) ≡ false
  distinct-found e q = distinct-not read_entry entry-forward s (i * entry_width) f (starts s i f h) (ends s i f h) same_property (sym e ∙ q)

  pub distinct-next : {r : Bool} → r ≡ again_in same_property (read_entry s (i * entry_width)) (records_at read_entry s (i * entry_width + entry_width)) → r ≡ false
      → distinct_in same_property (records_at read_entry s (i * entry_width)) ≡ distinct_in same_property (records_at read_entry s ((i + 1) * entry_width))
  distinct-next e q = rw (next-is s i f h) (distinct-rest read_entry entry-forward s (i * entry_width) f (starts s i f h) (ends s i f h) same_property (sym e ∙ q))

  -- no later entry has its hash
  pub distinct-hashes : {r : Bool} → r ≡ some? (eqb (get_or hashes i 0)) (part hashes (i + 1) (length s / entry_width - (i + 1))) → r ≡ false
      → distinct_in same_property (records_at read_entry s (i * entry_width)) ≡ distinct_in same_property (records_at read_entry s ((i + 1) * entry_width))
  distinct-hashes {r} e q =
      let at = i * entry_width in
      let good = entry-good s i f h in
      let field = part s (at + 1) (at + 1 + text_width - (at + 1)) in
      let hash : get_or hashes i 0 ≡ hash_of (uri_slot field) = w.each i (starts s i f h) ∙ ap (λ (b : List ℕ). hash_of (uri_slot b)) (sym (some-part s (at + 1) text_width)) in
      let P : ℕ → Type 0 = λ b. again_in same_property (read_entry s at) (records_at read_entry s b) ≡ false in
      let later : P ((i + 1) * entry_width) =
      no-hash s hashes field g w hash P (λ b l. again-end read_entry entry-forward s same_property b (read_entry s at) l)
      (λ b x l c p.
      let y = good-one read_entry entry-forward s b x l in
      again_rest read_entry entry-forward s b x l (entry-ends s b y) same_property (read_entry s at)
      (sym (same-properties s at b good y (flipped (part s (b + 1) (b + 1 + text_width - (b + 1))) field c))) ∙ p)
      (length s / entry_width - (i + 1)) (i + 1) (omega arith) (next-good s i f h) (sym e ∙ q) in
      distinct-next {r = false} (sym (rw (next-is s i f h) at later)) refl
