-- Laws of records one after the other, for each way through a loop over them.
use Rattle.std.specs.Prelude.{Some, None}
use Rattle.std.specs.declared.option.Option as Answer
use Prim.Native.Nat.{ℕ, ◌+◌, ◌<◌, ◌≤◌}
use mathlib.Core.Bool.{Bool, true, false}
use mathlib.Core.List.{List, ◌∷◌}
use mathlib.Core.Option.{Option, none, some}
use mathlib.Core.Path.{◌≡◌, refl, sym, ap, ◌∙◌}
use native.Mathlib.Omega.{arith}
use lib.ListN.{length}
use Rattle.definitions.specs.Bytes.{Got, in_front}
use Rattle.laws.proofs.Options.{some-not-none}
use Rattle.laws.proofs.RecordsAt.{Forward, at-end, at-bad, at_one}
use Rattle.laws.specs.Records.{records_at}
use Rattle.laws.specs.ReadAnswers.{is_some, next_of}
use Rattle.table.proofs.CountLaws.{count_from, none_of}
use Rattle.fields.specs.Answers.{same_in, again_in, distinct_in}
use Rattle.laws.proofs.ReadAnswers.{is-some, next-lost, next-got, leaf-ends}

-- ── lists ───────────────────────────────────────────────────────────────────────────────────

-- ── from an offset on ───────────────────────────────────────────────────────────────────────

module _ {A : Type 0} (read : List ℕ → ℕ → Got A) (forward : Forward read) (s : List ℕ) where
  module _ (at : ℕ) where
    pub count-end : (n : ℕ) → length s ≤ at → count_from n (records_at read s at) ≡ Some n
    unfolding count_from
    count-end n h = rw (at-end read forward s at h) (ap Some (omega arith))

    module _ (h : at < length s) {r : Answer.Option ℕ} (e : r ≡ next_of (read s at)) where
      pub count-bad : (n : ℕ) → r ≡ None → count_from n (records_at read s at) ≡ None
      unfolding count_from
      count-bad n m = rw (at-bad read forward s at h (next-lost (read s at) (sym e ∙ m)))

      module _ {k : ℕ} (m : r ≡ Some k) where
        one : (a : A) × (read s at ≡ some (a, k))
        one = next-got (read s at) (sym e ∙ m)

        pub count_next : (n : ℕ) → count_from n (records_at read s at) ≡ count_from (n + 1) (records_at read s k)
        unfolding count_from in_front
        count_next n = rw (at_one read forward s at h one.1) (go (records_at read s k))
          where
            go : (o : Option (List A)) → count_from n (in_front read one.0 o) ≡ count_from (n + 1) o
            go none = refl
            go (some xs) = ap Some (omega arith)

        pub next-after : (at < k) × (k ≤ length s)
        next-after = forward s at one.0 k one.1

  -- where the records are good
  module _ (at : ℕ) (g : is_some (records_at read s at) ≡ true) (h : at < length s) where
    pub good-one : is_some (read s at) ≡ true
    good-one = go (read s at) refl
      where
        go : (o : Got A) → read s at ≡ o → is_some o ≡ true
        go none e = absurd (some-not-none (is-some (records_at read s at) g).1 (at-bad read forward s at h e))
        go (some r) e = refl

    module _ {k : ℕ} (e : Some k ≡ next_of (read s at)) where
      pub good-after : (at < k) × (k ≤ length s)
      good-after = next-after at h e refl

      pub here : (a : A) × (read s at ≡ some (a, k))
      here = one at h e refl

      pub good-rest : is_some (records_at read s k) ≡ true
      unfolding in_front
      good-rest = go (records_at read s k) refl
        where
          go : (o : Option (List A)) → records_at read s k ≡ o → is_some o ≡ true
          go none q = absurd (some-not-none (is-some (records_at read s at) g).1 (at_one read forward s at h here.1 ∙ ap (in_front read here.0) q))
          go (some xs) q = refl

      pub rest : (xs : List A) × (records_at read s k ≡ some xs)
      rest = is-some (records_at read s k) good-rest

      pub all_of : records_at read s at ≡ some (here.0 ∷ rest.0)
      unfolding in_front
      all_of = at_one read forward s at h here.1 ∙ ap (in_front read here.0) rest.1

      module _ (same : A → A → Bool) where
        -- one that was read is here, or it is among the rest
        again-one : (o : Got A) → same_in same o (read s at) ≡ true → again_in same o (records_at read s at) ≡ true
        unfolding same_in again_in
        again-one none q = q
        again-one (some x) q = rw all_of (rw (rw here.1 at q))

        pub again_rest : (o : Got A) → same_in same o (read s at) ≡ false → again_in same o (records_at read s at) ≡ again_in same o (records_at read s k)
        unfolding same_in again_in
        again_rest none q = refl
        again_rest (some x) q = rw (all_of, rest.1) (rw (rw here.1 at q))

        pub distinct-not : again_in same (read s at) (records_at read s k) ≡ true → distinct_in same (records_at read s at) ≡ false
        unfolding again_in distinct_in
        distinct-not q = rw (all_of, none_of (same here.0) rest.0) (rw (rw (here.1, rest.1) at q))

        pub distinct-rest : again_in same (read s at) (records_at read s k) ≡ false → distinct_in same (records_at read s at) ≡ distinct_in same (records_at read s k)
        unfolding again_in distinct_in
        distinct-rest q = rw (all_of, rest.1, none_of (same here.0) rest.0) (rw (rw (here.1, rest.1) at q))

    pub again-here : (same : A → A → Bool) (o : Got A) → same_in same o (read s at) ≡ true → again_in same o (records_at read s at) ≡ true
    again-here same o q = let r = is-some (read s at) good-one in again-one (leaf-ends {a = r.0.0} r.1) same o q

  pub again-end : (same : A → A → Bool) (at : ℕ) (o : Got A) → length s ≤ at → again_in same o (records_at read s at) ≡ false
  unfolding again_in
  again-end same at none h = refl
  again-end same at (some x) h = rw (at-end read forward s at h)

  pub distinct-end : (same : A → A → Bool) (at : ℕ) → length s ≤ at → distinct_in same (records_at read s at) ≡ true
  unfolding distinct_in
  distinct-end same at h = rw (at-end read forward s at h)
