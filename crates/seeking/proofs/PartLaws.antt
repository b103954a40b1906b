-- The parts of a query: they hold where it holds, and the walk that lists them lists nothing else.
use Prim.Native.Nat.{ℕ, zero, suc, ◌+◌, ◌*◌, ◌-◌, ◌≤◌, ◌<◌, min}
use native.Mathlib.Omega.{arith}
use mathlib.Core.Path.{◌≡◌, sym, ap, ◌∙◌, subst, subst⁻¹}
use mathlib.Core.Logic.{⊎_elim}
use mathlib.Core.List.{List}
use mathlib.Core.Bool.{Bool, true, false, cond}
use mathlib.Core.Option.{some}
use lib.Dec.{T, eqb, eqb→eq, eqb_refl, ltb, ltb→lt}
use lib.ListN.{length, get_or, set, take, length-take}
use lib.Seq.{get_or-set_same, get_or-set_other, get_or-take}
use Rattle.definitions.specs.Limits.{depth_limit}
use Rattle.definitions.specs.Bytes.{Got, byte}
use Rattle.definitions.specs.Terms.{Term}
use Rattle.definitions.specs.Tree.{Query}
use Rattle.definitions.specs.Reading.{read_query}
use Rattle.definitions.specs.Evaluate.{Setting, Bindings, Quad, query}
use Rattle.laws.specs.Ends.{after_in, EndsLent}
use Rattle.laws.specs.Walks.{Loads, Walked}
use Rattle.laws.proofs.Ends.{query-ends}
use Rattle.laws.proofs.Levels.{query-more}
use Rattle.laws.proofs.ReadBounds.{query-within}
use Rattle.laws.proofs.Reading.{same_read, two-inv, query-is}
use Rattle.laws.proofs.Records.{query-inside}
use Rattle.laws.proofs.Ranges.{split}
use Rattle.query.specs.Codes.{bindings_of}
use Rattle.query.specs.StoreLent.{setting_in}
use Rattle.query.specs.declared.Context.{Context}
use Rattle.seeking.specs.Seeking.{Sure, holds, SeekOf, Denies}
use Rattle.seeking.specs.declared.Part.{Part}
use Rattle.seeking.specs.Parts.{part_limit, no_part, Within, itself, first, second, PartOf, PartsOf, Pending}
use Rattle.seeking.proofs.SeekLaws.{both-pass}

-- ── what holds of a query holds of its parts ────────────────────────────────────────────────

module _ (σ : Setting) (terms : List Term) (quads : List Quad) where
  pub within-holds : (δ : Bindings) {c q : Query} → Within c q → T (holds σ terms quads δ q) → T (holds σ terms quads δ c)
  unfolding query
  within-holds δ itself h = h
  within-holds δ (first {q} {r} w) h = within-holds δ w (both-pass (query σ terms quads δ q) (query σ terms quads δ r) h).0
  within-holds δ (second {q} {r} w) h = within-holds δ w (both-pass (query σ terms quads δ q) (query σ terms quads δ r) h).1

  pub within-sure : (γ : Bindings) {c q : Query} → Within c q → Sure σ terms quads γ q → Sure σ terms quads γ c
  within-sure γ itself h = h
  within-sure γ (first w) h = within-sure γ w h.0
  within-sure γ (second w) h = within-sure γ w h.1

within_first : {a b q : Query} → Within (Query.both a b) q → Within a q
within_first itself = first itself
within_first (first w) = first (within_first w)
within_first (second w) = second (within_first w)

within-second : {a b q : Query} → Within (Query.both a b) q → Within b q
within-second itself = second itself
within-second (first w) = first (within-second w)
within-second (second w) = second (within-second w)

-- ── the walk ────────────────────────────────────────────────────────────────────────────────

module _ (s : List ℕ) (loaded : ℕ) where
  pub part-loads : {at : ℕ} {q : Query} → PartOf s loaded at q → Loads (read_query s loaded depth_limit at)
  part-loads p = (p.part, p.end, p.read)

  pub part-inside : {at : ℕ} {q : Query} → PartOf s loaded at q → at < length s
  part-inside {at} p = query-inside s loaded depth_limit at (part-loads p)

  module _ (q : Query) where
    pub starts : {at m : ℕ} → read_query s loaded depth_limit at ≡ some (q, m) → Pending s loaded q 1 at
    starts {m = m} e = (record { part = q; end = m; read = e; within = itself }, tt)

    -- the first of those that are pending, and the others
    record Front (n at : ℕ) : Type 0 where
      part : PartOf s loaded at q
      rest : Pending s loaded q (n - 1) part.end

    front : (n at : ℕ) → 0 < n → Pending s loaded q n at → Front n at
    front zero at h l = absurd (omega arith)
    front (suc n) at h l =
        let e : n ≡ suc n - 1 = omega arith in
        record { part = l.0; rest = subst (λ m. Pending s loaded q m l.0.end) e l.1 }

    pub part-here : (n at : ℕ) → 0 < n → Pending s loaded q n at → PartOf s loaded at q
    part-here n at h l = (front n at h l).part

    two-more : (n at : ℕ) → 0 < n → (p : PartOf s loaded at q) (r : PartOf s loaded p.end q) → Pending s loaded q (n - 1) r.end → Pending s loaded q (n + 1) at
    two-more zero at h p r l = absurd (omega arith)
    two-more (suc n) at h p r l =
        let e : suc n - 1 ≡ n = omega arith in
        let f : suc (suc n) ≡ suc n + 1 = omega arith in
        let all : Pending s loaded q (suc (suc n)) at = (p, (r, subst (λ m. Pending s loaded q m r.end) e l)) in
        subst (λ m. Pending s loaded q m at) f all

    -- the two halves in the place of `both`
    pub taken-apart : (n at : ℕ) → 0 < n → byte s at ≡ 0x62 → Pending s loaded q n at → Pending s loaded q (n + 1) (at + 1)
    taken-apart n at h k l =
        let p = (front n at h l).part in
        let i = two-inv Query.both (read_query s loaded (depth_limit - 1)) (read_query s loaded (depth_limit - 1)) (at + 1)
        (sym (query-is s loaded depth_limit at (omega arith) 0x62 k) ∙ p.read) in
        let w : Within (Query.both i.0 i.2) q = subst⁻¹ (λ (c : Query). Within c q) i.5 p.within in
        two-more n (at + 1) h
        (record { part = i.0; end = i.1; read = query-more s loaded (depth_limit - 1) depth_limit (at + 1) (omega arith) i.0 i.1 i.3; within = within_first w })
        (record { part = i.2; end = p.end; read = query-more s loaded (depth_limit - 1) depth_limit i.1 (omega arith) i.2 p.end i.4; within = within-second w })
        (front n at h l).rest

    module _ (ends : List ℕ) (lent : EndsLent s ends) (n at next : ℕ) (h : 0 < n) (l : Pending s loaded q n at) (e : next ≡ after_in ends (length s) at) where
      abbrev this : PartOf s loaded at q
      this = (front n at h l).part

      ends_at : next ≡ this.end
      ends_at = e ∙ query-ends s ends lent.ended loaded depth_limit at this.part this.end this.read

      pub goes_on : Pending s loaded q (n - 1) next
      goes_on = subst⁻¹ (Pending s loaded q (n - 1)) ends_at (front n at h l).rest

      pub ends-within : (at < next) × (next ≤ length s)
      ends-within = let b = query-within s loaded depth_limit at this.part this.end this.read in (omega (arith, b.from, ends_at), omega (arith, b.to, ends_at))

    unfoldable pub Listed : (list : List Part) → (count : ℕ) → Type 0
    Listed list count = (i : ℕ) → i < count → PartOf s loaded (get_or list i no_part).«at» q

    pub listed-none : (list : List Part) → Listed list 0
    unfolding Listed
    listed-none list i h = absurd (omega arith)

    pub listed_more : (list : List Part) (count : ℕ) (p : Part) → count < length list → Listed list count → PartOf s loaded p.«at» q → Listed (set list count p) (count + 1)
    unfolding Listed
    listed_more list count p room l h i b =
        ⊎_elim
        (λ k.
        let e : i ≡ count = omega arith in
        subst⁻¹ (λ (x : Part). PartOf s loaded x.«at» q) (ap (λ x. get_or (set list count p) x no_part) e ∙ get_or-set_same list count p no_part room) h)
        (λ k. subst⁻¹ (λ (x : Part). PartOf s loaded x.«at» q) (get_or-set_other list count i p no_part (λ e. omega arith)) (l i k))
        (split count i)

    pub listed-all : (list : List Part) (count : ℕ) → Listed list count → PartsOf s loaded (take count list) q
    unfolding Listed
    listed-all list count l i h =
        let b : i < count = omega (arith, length-take count list) in
        subst⁻¹ (λ (x : Part). PartOf s loaded x.«at» q) (get_or-take count list i no_part b) (l i b)

-- ── the seek part by part ───────────────────────────────────────────────────────────────────

module _ (s : List ℕ) (ranks table known : List ℕ) (x : Context) (rows : List Quad) (v : ℕ) (q : Query) where
  abbrev Seeks : (lo least : ℕ) → Query → Type 0
  Seeks lo least c = SeekOf ranks table known x rows v lo least c

  module _ {at : ℕ} (p : PartOf s x.loaded at q) where
    -- from where the parts before have come to
    pub part-seeks : (lo found number : ℕ) → Seeks lo found q → Seeks found number p.part → Seeks lo number q
    part-seeks lo found number h k = (
      omega (arith, h.0, k.0),
      λ S terms t sure δ u j is low y.
          let σ = setting_in S ranks x in
          k.1 S terms t (within-sure σ terms rows (bindings_of known) p.within sure) δ u j is (h.1 S terms t sure δ u j is low y)
          (within-holds σ terms rows δ p.within y),
    )

    pub part-denies : (number least : ℕ) → number < x.count → (least ≡ number → ⊥) → Seeks number least p.part → Denies ranks table known x rows v number q
    part-denies number least small other k S terms t sure δ u is y =
        let σ = setting_in S ranks x in
        let top = k.1 S terms t (within-sure σ terms rows (bindings_of known) p.within sure) δ u number is (omega arith) (within-holds σ terms rows δ p.within y) in
        other (omega (arith, top, k.0, small))

-- ── a turn of the loop ──────────────────────────────────────────────────────────────────────

-- what a number weighs against the parts: more than there are at most
abbrev pub number_weight : ℕ
number_weight = 17

moved_up : (count found number : ℕ) → number < count → min found count ≤ number → (number ≡ found → ⊥) → found < number
moved_up count found number small low other = omega arith

-- a number that the part leaves as it was brings the end nearer, another one the count
pub turn-falls : (count n found number agreed alike : ℕ) → n ≤ part_limit → agreed < n → number < count → min found count ≤ number → alike ≡ cond (eqb number found) agreed 0
    → (alike < n) × (number_weight * (count - number) + (n - (alike + 1)) < number_weight * (count - found) + (n - agreed))
turn-falls count n found number agreed alike few more small low e =
    go (eqb number found) (eqb→eq number found) (λ d. moved_up count found number small low (λ (s : number ≡ found). d (subst⁻¹ (λ y. T (eqb y found)) s (eqb_refl found)))) e
  where
    Falls : Type 0
    Falls = (alike < n) × (number_weight * (count - number) + (n - (alike + 1)) < number_weight * (count - found) + (n - agreed))

    up : found < number → alike ≡ 0 → Falls
    up h z = rw z (omega (arith, more), falls h)
      where
        falls : found < number → number_weight * (count - number) + (n - 1) < number_weight * (count - found) + (n - agreed)
        falls h = omega (arith, h, small, few, more)

    go : (b : Bool) → (T b → number ≡ found) → ((T b → ⊥) → found < number) → alike ≡ cond b agreed 0 → Falls
    go true f g e = rw (f tt, e) (more, omega (arith, more))
    go false f g e = up (g (λ x. x)) e

pub turn-within : (n next i : ℕ) → 0 < n → i ≡ cond (ltb next n) next 0 → i < n
turn-within n next i h e = go (ltb next n) (ltb→lt next n) e
  where
    go : (b : Bool) → (T b → next < n) → i ≡ cond b next 0 → i < n
    go true f e = omega (arith, f tt)
    go false f e = omega arith

-- what a walk answers, of the tree that is read
pub walked_at : {A : Type 0} {P : A → Type 0} {g : Got A} {n m : ℕ} {a : A} → Walked P g n → g ≡ some (a, m) → P a
walked_at {P = P} w e = subst P (same_read w.read e).0 w.holds
