-- Laws of a schema out of a page: what is asked of a subject, the least datatype that meets it, and the subjects, each once.
use Prim.Native.Nat.{ℕ, zero, suc, ◌+◌, ◌<◌}
use native.Mathlib.Omega.{arith}
use mathlib.Core.Path.{◌≡◌, refl, sym, ap, ap₂, ◌∙◌}
use mathlib.Core.List.{List, [], ◌∷◌, ◌++◌, map, append_assoc, append-nil}
use mathlib.Core.Bool.{Bool, true, false, cond, not, ◌&&◌, ◌||◌, and-true, or-false, or_assoc}
use mathlib.Core.Option.{Option, none, some}
use lib.Dec.{T}
use lib.ListN.{length, get_or}
use Rattle.definitions.specs.Lists.{every, some?, keep, distinct}
use Rattle.definitions.specs.Bytes.{same_bytes}
use Rattle.definitions.specs.Types.{Datatype, any_uri, string, decimal, date_time, integer, leq_datatype}
use Rattle.definitions.specs.Terms.{Text, Triple}
use Rattle.definitions.specs.Gathering.{Asking, asking, asks, askings, asked_of, meets, least_that, least_asked, with_subject, subjects_after, Gathered, entering, gathered_of}
use Rattle.laws.specs.Gathering.{above, MetAbove, with_asked}
use Rattle.laws.proofs.Tests.{and_left, and_right, or_left, or_right, true_is, false_is}
use Rattle.laws.proofs.Lists.{every_append, some-append}
use Rattle.laws.proofs.All.{distinct-end}
use Rattle.laws.proofs.Equality.{same_bytes_lem, bytes-refl}
use Rattle.laws.proofs.Writing.{map-append}
use Rattle.laws.proofs.TestEquations.{eqb_swap, datatype-equal3}

-- ── lists ───────────────────────────────────────────────────────────────────────────────────

pub bytes-swap : (a b : List ℕ) → same_bytes a b ≡ same_bytes b a
bytes-swap [] [] = refl
bytes-swap [] (b ∷ t) = refl
bytes-swap (a ∷ s) [] = refl
bytes-swap (a ∷ s) (b ∷ t) = ap₂ ◌&&◌ (eqb_swap a b) (bytes-swap s t)

module _ {A : Type 0} where
  keep_append : (p : A → Bool) (xs ys : List A) → keep p (xs ++ ys) ≡ keep p xs ++ keep p ys
  keep_append p [] ys = refl
  keep_append p (x ∷ xs) ys = go (p x) (keep_append p xs ys)
    where
      go : (b : Bool) → keep p (xs ++ ys) ≡ keep p xs ++ keep p ys → cond b (x ∷ keep p (xs ++ ys)) (keep p (xs ++ ys)) ≡ cond b (x ∷ keep p xs) (keep p xs) ++ keep p ys
      go true e = ap (λ l. x ∷ l) e
      go false e = e

  -- where none passes, none is kept
  keep-none : (p : A → Bool) (xs : List A) → some? p xs ≡ false → keep p xs ≡ []
  keep-none p [] e = refl
  keep-none p (x ∷ xs) e = go (p x) (keep-none p xs) e
    where
      go : (b : Bool) → (some? p xs ≡ false → keep p xs ≡ []) → (b || some? p xs) ≡ false → cond b (x ∷ keep p xs) (keep p xs) ≡ []
      go true later q = absurd (true_is false (sym q))
      go false later q = later q

  -- at a place
  every-place : (p : A → Bool) (d : A) (xs : List A) → T (every p xs) → (i : ℕ) → i < length xs → T (p (get_or xs i d))
  every-place p d [] h i l = absurd (omega arith)
  every-place p d (x ∷ xs) h zero l = and_left (p x) (every p xs) h
  every-place p d (x ∷ xs) h (suc i) l = every-place p d xs (and_right (p x) (every p xs) h) i (omega arith)

  pub some-place : (p : A → Bool) (d : A) (xs : List A) (i : ℕ) → i < length xs → T (p (get_or xs i d)) → T (some? p xs)
  some-place p d [] i l h = absurd (omega arith)
  some-place p d (x ∷ xs) zero l h = or_left (p x) (some? p xs) h
  some-place p d (x ∷ xs) (suc i) l h = or_right (p x) (some? p xs) (some-place p d xs i (omega arith) h)

  pub some-nowhere : (p : A → Bool) (d : A) (xs : List A) → ((i : ℕ) → i < length xs → p (get_or xs i d) ≡ false) → some? p xs ≡ false
  some-nowhere p d [] h = refl
  some-nowhere p d (x ∷ xs) h = ap₂ ◌||◌ (h 0 (omega arith)) (some-nowhere p d xs (λ i l. h (suc i) (omega arith)))

  pub distinct-places : (same : A → A → Bool) (d : A) (xs : List A) → T (distinct same xs) → (i j : ℕ) → i < j → j < length xs
      → T (not (same (get_or xs i d) (get_or xs j d)))
  distinct-places same d [] h i j k l = absurd (omega arith)
  distinct-places same d (x ∷ xs) h i zero k l = absurd (omega arith)
  distinct-places same d (x ∷ xs) h zero (suc j) k l =
      every-place (λ y. not (same x y)) d xs (and_left (every (λ y. not (same x y)) xs) (distinct same xs) h) j (omega arith)
  distinct-places same d (x ∷ xs) h (suc i) (suc j) k l =
      distinct-places same d xs (and_right (every (λ y. not (same x y)) xs) (distinct same xs) h) i j (omega arith) (omega arith)

-- ── what is asked, record by record ─────────────────────────────────────────────────────────

askings-append : (xs ys : List Triple) → askings (xs ++ ys) ≡ askings xs ++ askings ys
unfolding askings
askings-append [] ys = refl
askings-append (x ∷ xs) ys =
    let here = asking x.subject (asks x.property x.object) in
    ap (λ l. here ++ l) (askings-append xs ys) ∙ sym (append_assoc here (askings xs) (askings ys))

-- one record more
pub askings-one : (xs : List Triple) (x : Triple) → askings (xs ++ (x ∷ [])) ≡ askings xs ++ asking x.subject (asks x.property x.object)
unfolding askings
askings-one xs x = askings-append xs (x ∷ []) ∙ ap (λ l. askings xs ++ l) (append-nil (asking x.subject (asks x.property x.object)))

module _ (u : Text) where
  asked-append : (xs ys : List Asking) → asked_of u (xs ++ ys) ≡ asked_of u xs ++ asked_of u ys
  unfolding asked_of
  asked-append xs ys =
      let of : Asking → Bool = λ a. same_bytes u a.subject in
      ap (map (λ a. a.least)) (keep_append of xs ys) ∙ map-append (λ a. a.least) (keep of xs) (keep of ys)

  -- one thing more is asked of the subject, or of another
  module _ (all : List Asking) (a : Asking) where
    pub asked-same : same_bytes u a.subject ≡ true → asked_of u (all ++ (a ∷ [])) ≡ asked_of u all ++ (a.least ∷ [])
    asked-same e = asked-append all (a ∷ []) ∙ ap (λ l. asked_of u all ++ l) one
      where
        one : asked_of u (a ∷ []) ≡ a.least ∷ []
        one = unfold asked_of in rw e

    pub asked-other : same_bytes u a.subject ≡ false → asked_of u (all ++ (a ∷ [])) ≡ asked_of u all
    asked-other e = asked-append all (a ∷ []) ∙ ap (λ l. asked_of u all ++ l) none_more ∙ append-nil (asked_of u all)
      where
        none_more : asked_of u (a ∷ []) ≡ []
        none_more = unfold asked_of in rw e

-- ── the least datatype that meets it ────────────────────────────────────────────────────────

-- a thing more to meet
both : (o : Option Datatype) (d f : Datatype) → (above o f && (leq_datatype d f && true)) ≡ above (with_asked o d) f
both none d f = refl
both (some e) d f = datatype-equal3 (λ e d f. leq_datatype e f && (leq_datatype d f && true)) (λ e d f. above (with_asked (some e) d) f) tt e d f

pub met-one : (d : Datatype) → MetAbove (d ∷ []) (some d)
unfolding meets
met-one d f = and-true (leq_datatype d f)

pub met-more : (ds : List Datatype) (o : Option Datatype) (d : Datatype) → MetAbove ds o → MetAbove (ds ++ (d ∷ [])) (with_asked o d)
unfolding meets
met-more ds o d h f =
    every_append (λ e. leq_datatype e f) ds (d ∷ []) ∙ ap (λ t. t && (leq_datatype d f && true)) (h f) ∙ both o d f

least_above : (o : Option Datatype) → least_that (above o) ≡ o
unfolding least_that
least_above none = refl
least_above (some any_uri) = refl
least_above (some string) = refl
least_above (some decimal) = refl
least_above (some date_time) = refl
least_above (some integer) = refl

pub met-least : (ds : List Datatype) (o : Option Datatype) → MetAbove ds o → least_that (meets ds) ≡ o
met-least ds o h = ap least_that (λ i f. h f i) ∙ least_above o

-- ── subjects, each once ─────────────────────────────────────────────────────────────────────

pub subject-there : (u : Text) (us : List Text) → some? (same_bytes u) us ≡ true → with_subject u us ≡ us
unfolding with_subject
subject-there u us e = rw (with_subject, e)

pub subject-joins : (u : Text) (us : List Text) → some? (same_bytes u) us ≡ false → with_subject u us ≡ us ++ (u ∷ [])
unfolding with_subject
subject-joins u us e = rw (with_subject, e)

pub subjects-one : (us : List Text) (xs : List Asking) (a : Asking) → subjects_after us (xs ++ (a ∷ [])) ≡ with_subject a.subject (subjects_after us xs)
unfolding subjects_after
subjects-one us [] a = refl
subjects-one us (x ∷ xs) a = subjects-one (with_subject x.subject us) xs a

module _ (u : Text) where
  with-some : (v : Text) (us : List Text) → some? (same_bytes u) (with_subject v us) ≡ (some? (same_bytes u) us || same_bytes u v)
  with-some v us = go (some? (same_bytes v) us) refl
    where
      covers : (b : Bool) → same_bytes u v ≡ b → some? (same_bytes v) us ≡ true → some? (same_bytes u) us ≡ (some? (same_bytes u) us || b)
      covers true e q =
          let is = same_bytes_lem u v (true_is (same_bytes u v) e) in
          let there : some? (same_bytes u) us ≡ true = ap (λ (w : Text). some? (same_bytes w) us) is ∙ q in
          there ∙ ap (λ (t : Bool). t || true) (sym there)
      covers false e q = sym (or-false (some? (same_bytes u) us))

      go : (b : Bool) → some? (same_bytes v) us ≡ b → some? (same_bytes u) (with_subject v us) ≡ (some? (same_bytes u) us || same_bytes u v)
      go true q = ap (some? (same_bytes u)) (subject-there v us q) ∙ covers (same_bytes u v) refl q
      go false q =
          ap (some? (same_bytes u)) (subject-joins v us q) ∙ some-append (same_bytes u) us (v ∷ [])
          ∙ ap (λ (t : Bool). some? (same_bytes u) us || t) (or-false (same_bytes u v))

  -- those before are there, and those of which something is asked
  pub subjects-some : (us : List Text) (xs : List Asking) → some? (same_bytes u) (subjects_after us xs) ≡ (some? (same_bytes u) us || some? (λ a. same_bytes u a.subject) xs)
  unfolding subjects_after
  subjects-some us [] = sym (or-false (some? (same_bytes u) us))
  subjects-some us (x ∷ xs) =
      subjects-some (with_subject x.subject us) xs
      ∙ ap (λ (t : Bool). t || some? (λ a. same_bytes u a.subject) xs) (with-some x.subject us)
      ∙ or_assoc (some? (same_bytes u) us) (same_bytes u x.subject) (some? (λ a. same_bytes u a.subject) xs)

  pub nothing-asked : (xs : List Asking) → some? (same_bytes u) (subjects_after [] xs) ≡ false → asked_of u xs ≡ []
  unfolding asked_of
  nothing-asked xs e = ap (map (λ a. a.least)) (keep-none (λ a. same_bytes u a.subject) xs (sym (subjects-some [] xs) ∙ e))

with-distinct : (u : Text) (us : List Text) → T (distinct same_bytes us) → T (distinct same_bytes (with_subject u us))
with-distinct u us h = go (some? (same_bytes u) us) refl
  where
    go : (b : Bool) → some? (same_bytes u) us ≡ b → T (distinct same_bytes (with_subject u us))
    go true e = rw (subject-there u us e) h
    go false e = rw (subject-joins u us e) (distinct-end same_bytes same_bytes_lem bytes-refl u us h (false_is (some? (same_bytes u) us) e))

pub subjects-distinct : (us : List Text) (xs : List Asking) → T (distinct same_bytes us) → T (distinct same_bytes (subjects_after us xs))
unfolding subjects_after
subjects-distinct us [] h = h
subjects-distinct us (x ∷ xs) h = subjects-distinct (with_subject x.subject us) xs (with-distinct x.subject us h)

-- ── entries ─────────────────────────────────────────────────────────────────────────────────

module _ (all : List Asking) where
  -- each subject has an entry or is left out
  pub gathered-count : (us : List Text) → length (gathered_of all us).entries + (gathered_of all us).left_out ≡ length us
  unfolding gathered_of
  gathered-count [] = refl
  gathered-count (u ∷ us) = go (least_asked u all) (gathered-count us)
    where
      go : (o : Option Datatype) → length (gathered_of all us).entries + (gathered_of all us).left_out ≡ length us
          → length (entering u o (gathered_of all us)).entries + (entering u o (gathered_of all us)).left_out ≡ suc (length us)
      go none e = omega (arith, e)
      go (some d) e = omega (arith, e)

  pub entries-append : (us vs : List Text) → (gathered_of all (us ++ vs)).entries ≡ (gathered_of all us).entries ++ (gathered_of all vs).entries
  unfolding gathered_of
  entries-append [] vs = refl
  entries-append (u ∷ us) vs = go (least_asked u all) (entries-append us vs)
    where
      go : (o : Option Datatype) → (gathered_of all (us ++ vs)).entries ≡ (gathered_of all us).entries ++ (gathered_of all vs).entries
          → (entering u o (gathered_of all (us ++ vs))).entries ≡ (entering u o (gathered_of all us)).entries ++ (gathered_of all vs).entries
      go none e = e
      go (some d) e = ap (λ l. record { property = u; datatype = d } ∷ l) e
