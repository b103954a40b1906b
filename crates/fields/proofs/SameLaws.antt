-- Equal bytes are equal terms and equal properties.
use Rattle.std.specs.Prelude.{Some}
use Prim.Native.Nat.{ℕ, suc, ◌+◌, ◌-◌, ◌<◌, ◌≤◌}
use mathlib.Core.Bool.{Bool, true, false, ◌&&◌}
use mathlib.Core.List.{List, [], ◌∷◌}
use mathlib.Core.Option.{some}
use mathlib.Core.Path.{◌≡◌, refl, sym, ap, ap₂, subst, ◌∙◌}
use native.Mathlib.Numerals.{add-one}
use native.Mathlib.Omega.{arith}
use lib.Dec.{T, eqb}
use lib.Pointwise.{pointwise}
use lib.ListN.{length, drop, length-take}
use lib.Seq.{drop-cons}
use Rattle.definitions.specs.Limits.{text_width, slot_width, entry_width}
use Rattle.definitions.specs.Bytes.{byte, part, same_bytes, filled}
use Rattle.definitions.specs.Terms.{Text, Term, Entry, datatype, term_kind, body_width, uri_text, of_term_kind, record_of, slot_of, read_term, read_entry, same_term, same_property}
use Rattle.laws.proofs.Tests.{is_true, true_is}
use Rattle.laws.proofs.Options.{some_is}
use Rattle.laws.proofs.Bytes.{AreBytes, part_bytes, part_length}
use Rattle.laws.proofs.Equality.{same_bytes_lem, bytes-refl, same-term, term-refl}
use Rattle.laws.proofs.Valid.{term-valid, uri-inv}
use Rattle.laws.proofs.Slots.{body-inv, kind-inv, slot-one, width_fits}
use Rattle.laws.specs.Records.{TermAt, EntryAt}
use Rattle.laws.proofs.RecordsAt.{term-inv, entry-inv}
use Rattle.laws.specs.ReadAnswers.{is_some, next_of}
use Rattle.fields.specs.Answers.{width_of, same_in}
use Rattle.laws.proofs.ReadAnswers.{is-some, next-got}
use Rattle.fields.proofs.PartLaws.{some-part}

-- a test that holds where another does
pub test-is : (r b : Bool) → (r ≡ true → T b) → (T b → r ≡ true) → r ≡ b
test-is true b f g = sym (is_true b (f refl))
test-is false true f g = g tt
test-is false false f g = refl

-- what `check::same` ensures of its result
abbrev pub Compared : List ℕ → List ℕ → Bool → Type 0
Compared a b r = (r ≡ true → a ≡ b) × (a ≡ b → r ≡ true)

-- as `==` of slices says it
pub pointwise-same : (a b : List ℕ) → pointwise eqb a b ≡ same_bytes a b
pointwise-same [] [] = refl
pointwise-same [] (y ∷ b) = refl
pointwise-same (x ∷ a) [] = refl
pointwise-same (x ∷ a) (y ∷ b) = ap (λ t. eqb x y && t) (pointwise-same a b)

-- as `check::same` says it
pub compared : (a b : List ℕ) (r : Bool) → r ≡ same_bytes a b → Compared a b r
compared a b r e = (λ t. same_bytes_lem a b (true_is (same_bytes a b) (sym e ∙ t)), λ q. e ∙ is_true (same_bytes a b) (subst (λ x. T (same_bytes a x)) q (bytes-refl a)))

-- ── a good term record ──────────────────────────────────────────────────────────────────────

module _ (s : List ℕ) (at : ℕ) (g : is_some (read_term s at) ≡ true) where
  found : (r : Term × ℕ) × (read_term s at ≡ some r)
  found = is-some (read_term s at) g

  holds : TermAt s at found.0.0 found.0.1
  holds = term-inv s at found.0.0 found.0.1 found.1

  pub term-inside : at < length s
  term-inside = omega (arith, holds.ends, holds.fits)

  module _ {w : ℕ} (e : w ≡ width_of (of_term_kind (byte s at))) where
    width_is : w ≡ body_width holds.datatype
    unfolding width_of
    width_is = e ∙ ap width_of holds.kind

    pub term-ends : Some (at + 1 + w) ≡ next_of (read_term s at)
    unfolding next_of
    term-ends = rw found.1 (ap Some (omega (arith, holds.ends, width_is)))

    pub term_fits : at + 1 + w ≤ length s
    term_fits = omega (arith, holds.ends, holds.fits, width_is)

  pub term-next : {n : ℕ} → Some n ≡ next_of (read_term s at) → (at < n) × (n ≤ length s)
  term-next {n} e =
      let r = next-got (read_term s at) (sym e) in
      let t = term-inv s at r.0 n r.1 in
      (omega (arith, t.ends), t.fits)

-- ── equal terms have equal bytes ────────────────────────────────────────────────────────────

module _ (s : List ℕ) (h : AreBytes s) (at : ℕ) (t : Term) (n : ℕ) (e : read_term s at ≡ some (t, n)) where
  -- a record, read and written
  pub record-parts : byte s at ∷ part s (at + 1) (n - (at + 1)) ≡ record_of t
  record-parts =
      let r = term-inv s at t n e in
      let w = body_width r.datatype in
      let long : n - (at + 1) ≡ w = omega (arith, r.ends) in
      let b = body-inv (part s (at + 1) w) t r.datatype (part_length s (at + 1) w (omega (arith, r.ends, r.fits))) (part_bytes s (at + 1) w h) r.body in
      let first : byte s at ≡ term_kind (datatype t) = sym (ap term_kind b.kind ∙ kind-inv (byte s at) r.datatype r.kind) in
      rw long (ap₂ ◌∷◌ first (sym b.bytes))

  record-bytes : part s at (n - at) ≡ record_of t
  record-bytes =
      let r = term-inv s at t n e in
      let long : n - at ≡ suc (n - (at + 1)) = omega (arith, r.ends) in
      rw (long, drop-cons s at 0 (omega (arith, r.ends, r.fits)), ← add-one at) record-parts

  pub record-short : length (part s (at + 1) (n - (at + 1))) < slot_width
  record-short =
      let r = term-inv s at t n e in
      omega (arith, r.ends, width_fits r.datatype, length-take (n - (at + 1)) (drop (at + 1) s))

pub same-terms : (s : List ℕ) → AreBytes s → (a b m n : ℕ) {r : Bool} → Some m ≡ next_of (read_term s a) → Some n ≡ next_of (read_term s b)
    → Compared (part s a (m - a)) (part s b (n - b)) r → r ≡ same_in same_term (read_term s a) (read_term s b)
unfolding same_in slot_of
same-terms s h a b m n {r} e f c =
    let x = next-got (read_term s a) (sym e) in
    let y = next-got (read_term s b) (sym f) in
    let p = record-bytes s h a x.0 m x.1 in
    let q = record-bytes s h b y.0 n y.1 in
    let one : record_of x.0 ≡ record_of y.0 → x.0 ≡ y.0 =
    λ e. slot-one x.0 y.0 (term-valid s a x.0 m x.1) (term-valid s b y.0 n y.1) (ap (filled slot_width) e) in
    rw (x.1, y.1)
    (test-is r (same_term x.0 y.0) (λ t. rw (one (sym p ∙ c.0 t ∙ q)) (term-refl y.0))
    (λ t. c.1 (p ∙ ap record_of (same-term x.0 y.0 t) ∙ sym q)))

-- ── a good schema record, and equal properties ──────────────────────────────────────────────

module _ (s : List ℕ) (at : ℕ) (g : is_some (read_entry s at) ≡ true) where
  pub entry : (r : Entry × ℕ) × (read_entry s at ≡ some r)
  entry = is-some (read_entry s at) g

  pub entry-holds : EntryAt s at entry.0.0 entry.0.1
  entry-holds = entry-inv s at entry.0.0 entry.0.1 entry.1

  pub entry-inside : at + entry_width ≤ length s
  entry-inside = omega (arith, entry-holds.ends, entry-holds.fits)

  pub entry-ends : Some (at + entry_width) ≡ next_of (read_entry s at)
  unfolding next_of
  entry-ends = rw entry.1 (ap Some (sym entry-holds.ends))

-- two URI fields
pub same-uris : (a b : List ℕ) (u v : Text) {r : Bool} → uri_text a ≡ some u → uri_text b ≡ some v → Compared a b r → r ≡ same_bytes u v
same-uris a b u v {r} e f c =
    test-is r (same_bytes u v) (λ t. rw (some_is (sym e ∙ ap uri_text (c.0 t) ∙ f)) (bytes-refl v))
    (λ t. c.1 (sym (uri-inv a u e).0.whole ∙ ap (filled text_width) (same_bytes_lem u v t) ∙ (uri-inv b v f).0.whole))

pub same-properties : (s : List ℕ) (a b : ℕ) {r : Bool} → is_some (read_entry s a) ≡ true → is_some (read_entry s b) ≡ true
    → Compared (part s (a + 1) (a + 1 + text_width - (a + 1))) (part s (b + 1) (b + 1 + text_width - (b + 1))) r
    → r ≡ same_in same_property (read_entry s a) (read_entry s b)
unfolding same_in
same-properties s a b {r} g h c =
    let x = entry s a g in
    let y = entry s b h in
    let d : Compared (part s (a + 1) text_width) (part s (b + 1) text_width) r = rw (some-part s (a + 1) text_width, some-part s (b + 1) text_width) at c in
    rw (x.1, y.1) (same-uris (part s (a + 1) text_width) (part s (b + 1) text_width) x.0.0.property y.0.0.property (entry-holds s a g).property (entry-holds s b h).property d)
