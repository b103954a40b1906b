-- The laws of the tables, and document 01's filters where nothing is unknown.
use mathlib.Core.Path.{◌≡◌, refl, sym, ap, ap₂, ◌∙◌}
use mathlib.Core.List.{List}
use mathlib.Core.Bool.{Bool, true, false, not, ◌&&◌, ◌||◌, true≢false}
use Rattle.definitions.specs.Terms.{Term}
use Rattle.definitions.specs.Tree.{Cond, Query}
use Rattle.definitions.specs.Outcome.{Outcome, ok, fault, ◌>>=◌}
use Rattle.definitions.specs.Truth.{truth_of, not_truth, and_truth, or_truth, is_true}
use Rattle.definitions.specs.Evaluate.{Setting, Bindings, Quad, condition, query}
use Rattle.definitions.specs.declared.Truth.{Truth}
use Rattle.definitions.specs.declared.Truth.TheVariants.{True, False, Unknown}
use Rattle.laws.proofs.NoFault.{ok-is, no-fault}
use Rattle.laws.proofs.Truths.{true-and, false-and, true-or, false-or, or-decided, and-decided, not-decided, decided-true}
use Rattle.theorems.specs.Truths.{two_valued, NothingUnknown, Truths}

-- ── the tables ──────────────────────────────────────────────────────────────────────────────

twice : (a : Truth) → not_truth (not_truth a) ≡ a
unfolding not_truth
twice True = refl
twice False = refl
twice Unknown = refl

not-and : (a b : Truth) → not_truth (and_truth a b) ≡ or_truth (not_truth a) (not_truth b)
unfolding not_truth and_truth or_truth
not-and True True = refl
not-and True False = refl
not-and True Unknown = refl
not-and False True = refl
not-and False False = refl
not-and False Unknown = refl
not-and Unknown True = refl
not-and Unknown False = refl
not-and Unknown Unknown = refl

and-sym : (a b : Truth) → and_truth a b ≡ and_truth b a
unfolding and_truth
and-sym True True = refl
and-sym True False = refl
and-sym True Unknown = refl
and-sym False True = refl
and-sym False False = refl
and-sym False Unknown = refl
and-sym Unknown True = refl
and-sym Unknown False = refl
and-sym Unknown Unknown = refl

unknown-three : (b c : Truth) → and_truth (and_truth Unknown b) c ≡ and_truth Unknown (and_truth b c)
unfolding and_truth
unknown-three True c = ap (and_truth Unknown) (sym (true-and c))
unknown-three False c = false-and c ∙ ap (and_truth Unknown) (sym (false-and c))
unknown-three Unknown True = refl
unknown-three Unknown False = refl
unknown-three Unknown Unknown = refl

and-three : (a b c : Truth) → and_truth (and_truth a b) c ≡ and_truth a (and_truth b c)
and-three True b c = ap (λ x. and_truth x c) (true-and b) ∙ sym (true-and (and_truth b c))
and-three False b c = ap (λ x. and_truth x c) (false-and b) ∙ (false-and c ∙ sym (false-and (and_truth b c)))
and-three Unknown b c = unknown-three b c

-- or is and, with not before and after it
or-by : (a b : Truth) → or_truth a b ≡ not_truth (and_truth (not_truth a) (not_truth b))
or-by a b = ap₂ or_truth (sym (twice a)) (sym (twice b)) ∙ sym (not-and (not_truth a) (not_truth b))

not-or : (a b : Truth) → not_truth (or_truth a b) ≡ and_truth (not_truth a) (not_truth b)
not-or a b = ap not_truth (or-by a b) ∙ twice (and_truth (not_truth a) (not_truth b))

or-sym : (a b : Truth) → or_truth a b ≡ or_truth b a
or-sym a b = or-by a b ∙ (ap not_truth (and-sym (not_truth a) (not_truth b)) ∙ sym (or-by b a))

or-three : (a b c : Truth) → or_truth (or_truth a b) c ≡ or_truth a (or_truth b c)
or-three a b c =
    or-by (or_truth a b) c
    ∙ (ap (λ x. not_truth (and_truth x (not_truth c))) (not-or a b)
    ∙ (ap not_truth (and-three (not_truth a) (not_truth b) (not_truth c))
    ∙ (ap (λ x. not_truth (and_truth (not_truth a) x)) (sym (not-or b c))
    ∙ sym (or-by a (or_truth b c)))))

-- ── document 01's filters ───────────────────────────────────────────────────────────────────

-- true or false as a truth
abbrev decided : Outcome Bool → Outcome Truth
decided m = m >>= λ b. ok (truth_of b)

held : (m : Outcome Bool) → (decided m >>= λ t. ok (is_true t)) ≡ m
unfolding ◌>>=◌
held (ok b) = ap ok (decided-true b)
held (fault x) = refl

tested : (m : Outcome Truth) → (m ≡ ok Unknown → ⊥) → m ≡ decided (m >>= λ t. ok (is_true t))
unfolding ◌>>=◌ is_true
tested (ok True) n = refl
tested (ok False) n = refl
tested (ok Unknown) n = absurd (n refl)
tested (fault x) n = refl

two : (f : Truth → Truth → Truth) (g : Bool → Bool → Bool) → ((a b : Bool) → f (truth_of a) (truth_of b) ≡ truth_of (g a b)) → (m n : Outcome Bool)
    → (decided m >>= λ a. decided n >>= λ b. ok (f a b)) ≡ decided (m >>= λ a. n >>= λ b. ok (g a b))
unfolding ◌>>=◌
two f g same (ok a) (ok b) = ap ok (same a b)
two f g same (ok a) (fault x) = refl
two f g same (fault x) n = refl

one : (m : Outcome Bool) → (decided m >>= λ a. ok (not_truth a)) ≡ decided (m >>= λ a. ok (not a))
unfolding ◌>>=◌
one (ok a) = ap ok (not-decided a)
one (fault x) = refl

module _ (σ : Setting) (terms : List Term) (quads : List Quad) (β : Bindings) where
  known : (c : Cond) → NothingUnknown σ terms quads β c → condition σ terms quads β c ≡ decided (two_valued σ terms quads β c)
  unfolding condition two_valued query ◌>>=◌
  known Cond.no n = refl
  known Cond.yes n = refl
  known (Cond.or c d) n =
      ap₂ (λ (x y : Outcome Truth). x >>= λ a. y >>= λ b. ok (or_truth a b)) (known c n.0) (known d n.1)
      ∙ two or_truth ◌||◌ or-decided (two_valued σ terms quads β c) (two_valued σ terms quads β d)
  known (Cond.and c d) n =
      ap₂ (λ (x y : Outcome Truth). x >>= λ a. y >>= λ b. ok (and_truth a b)) (known c n.0) (known d n.1)
      ∙ two and_truth ◌&&◌ and-decided (two_valued σ terms quads β c) (two_valued σ terms quads β d)
  known (Cond.not c) n = ap (λ (x : Outcome Truth). x >>= λ a. ok (not_truth a)) (known c n) ∙ one (two_valued σ terms quads β c)
  known (Cond.regex p e) n = tested (condition σ terms quads β (Cond.regex p e)) n
  known (Cond.lang_matches r e) n = tested (condition σ terms quads β (Cond.lang_matches r e)) n
  known (Cond.equal e f) n = tested (condition σ terms quads β (Cond.equal e f)) n
  known (Cond.less e f) n = tested (condition σ terms quads β (Cond.less e f)) n

  as_before_lem : (c : Cond) → NothingUnknown σ terms quads β c → query σ terms quads β (Query.filter c) ≡ two_valued σ terms quads β c
  unfolding query
  as_before_lem c n = ap (λ (x : Outcome Truth). x >>= λ t. ok (is_true t)) (known c n) ∙ held (two_valued σ terms quads β c)

-- ── and of every filter ─────────────────────────────────────────────────────────────────────

-- true and false are what they were
abbrev Agrees : Truth → Bool → Type 0
Agrees True b = b ≡ true
Agrees False b = b ≡ false
Agrees Unknown b = Unit {0}

agrees-not : (a : Truth) (b : Bool) → Agrees a b → Agrees (not_truth a) (not b)
unfolding not_truth
agrees-not True b h = ap not h
agrees-not False b h = ap not h
agrees-not Unknown b h = tt

agrees-or : (a a' : Truth) (b b' : Bool) → Agrees a b → Agrees a' b' → Agrees (or_truth a a') (b || b')
unfolding or_truth
agrees-or True a' b b' h k = rw (true-or a', h) refl
agrees-or False a' b b' h k = rw (false-or a', h) k
agrees-or Unknown True true b' h k = refl
agrees-or Unknown True false b' h k = k
agrees-or Unknown False b b' h k = tt
agrees-or Unknown Unknown b b' h k = tt

agrees-and : (a a' : Truth) (b b' : Bool) → Agrees a b → Agrees a' b' → Agrees (and_truth a a') (b && b')
unfolding and_truth
agrees-and True a' b b' h k = rw (true-and a', h) k
agrees-and False a' b b' h k = rw (false-and a', h) refl
agrees-and Unknown True b b' h k = tt
agrees-and Unknown False true b' h k = k
agrees-and Unknown False false b' h k = refl
agrees-and Unknown Unknown b b' h k = tt

-- what a boolean gives, and what document 01's does
abbrev Beside : Outcome Truth → Outcome Bool → Type 0
Beside (fault x) n = Unit {0}
Beside (ok a) n = (b : Bool) × (n ≡ ok b) × Agrees a b

beside-test : (m : Outcome Truth) → Beside m (m >>= λ t. ok (is_true t))
unfolding ◌>>=◌ is_true
beside-test (fault x) = tt
beside-test (ok True) = (true, refl, refl)
beside-test (ok False) = (false, refl, refl)
beside-test (ok Unknown) = (false, refl, tt)

beside-one : (m : Outcome Truth) (n : Outcome Bool) → Beside m n → Beside (m >>= λ a. ok (not_truth a)) (n >>= λ a. ok (not a))
unfolding ◌>>=◌
beside-one (fault x) n h = tt
beside-one (ok a) n (b, e, h) = rw e (not b, refl, agrees-not a b h)

beside_two : (f : Truth → Truth → Truth) (g : Bool → Bool → Bool) → ((a a' : Truth) (b b' : Bool) → Agrees a b → Agrees a' b' → Agrees (f a a') (g b b'))
    → (m m' : Outcome Truth) (n n' : Outcome Bool) → Beside m n → Beside m' n' → Beside (m >>= λ a. m' >>= λ b. ok (f a b)) (n >>= λ a. n' >>= λ b. ok (g a b))
unfolding ◌>>=◌
beside_two f g agree (fault x) m' n n' h k = tt
beside_two f g agree (ok a) (fault x) n n' h k = tt
beside_two f g agree (ok a) (ok a') n n' (b, e, h) (b', e', k) = rw (e, e') (g b b', refl, agree a a' b b' h k)

only-true : (m : Outcome Truth) (n : Outcome Bool) → Beside m n → (m >>= λ t. ok (is_true t)) ≡ ok true → n ≡ ok true
unfolding ◌>>=◌ is_true
only-true (fault x) n h e = absurd (no-fault e)
only-true (ok True) n (b, eq, h) e = eq ∙ ap ok h
only-true (ok False) n h e = absurd (true≢false (sym (ok-is e)))
only-true (ok Unknown) n h e = absurd (true≢false (sym (ok-is e)))

module _ (σ : Setting) (terms : List Term) (quads : List Quad) (β : Bindings) where
  beside : (c : Cond) → Beside (condition σ terms quads β c) (two_valued σ terms quads β c)
  unfolding condition two_valued query
  beside Cond.no = (false, refl, refl)
  beside Cond.yes = (true, refl, refl)
  beside (Cond.or c d) =
      beside_two or_truth ◌||◌ agrees-or (condition σ terms quads β c) (condition σ terms quads β d) (two_valued σ terms quads β c) (two_valued σ terms quads β d) (beside c) (beside d)
  beside (Cond.and c d) =
      beside_two and_truth ◌&&◌ agrees-and (condition σ terms quads β c) (condition σ terms quads β d) (two_valued σ terms quads β c) (two_valued σ terms quads β d) (beside c) (beside d)
  beside (Cond.not c) = beside-one (condition σ terms quads β c) (two_valued σ terms quads β c) (beside c)
  beside (Cond.regex p e) = beside-test (condition σ terms quads β (Cond.regex p e))
  beside (Cond.lang_matches r e) = beside-test (condition σ terms quads β (Cond.lang_matches r e))
  beside (Cond.equal e f) = beside-test (condition σ terms quads β (Cond.equal e f))
  beside (Cond.less e f) = beside-test (condition σ terms quads β (Cond.less e f))

  held-before : (c : Cond) → query σ terms quads β (Query.filter c) ≡ ok true → two_valued σ terms quads β c ≡ ok true
  unfolding query
  held-before c e = only-true (condition σ terms quads β c) (two_valued σ terms quads β c) (beside c) e

pub truths : Truths
truths = record {
  and_either_way = and-sym;
  or_either_way = or-sym;
  and_of_three = and-three;
  or_of_three = or-three;
  not_and = not-and;
  not_or = not-or;
  not_twice = twice;
  as_before = as_before_lem;
  held_before = held-before;
}
