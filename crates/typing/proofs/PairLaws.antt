-- The written types that a script's pairs say.
use Prim.Native.Nat.{ℕ, zero, suc, ◌+◌, ◌-◌, ◌≤◌, ◌<◌}
use native.Mathlib.Omega.{arith}
use mathlib.Core.Path.{◌≡◌, refl, sym, ap, ◌∙◌, subst}
use mathlib.Core.List.{List, [], ◌∷◌, ◌++◌, map}
use mathlib.Core.Bool.{Bool, true, false, not, ◌&&◌}
use mathlib.Core.Option.{Option, none, some}
use lib.Dec.{eqb, ltb}
use lib.ListN.{length, get_or, set, replicate, length-set, get_or-replicate}
use lib.Seq.{ext_get_or, get_or-set_same, get_or-set_other}
use borrow.Author.Tests.{eq-eqb, ne_eqb, eqb-false}
use Rattle.definitions.specs.Limits.{variable_limit, pair_limit, depth_limit, count_offset, pairs_offset}
use Rattle.definitions.specs.Bytes.{byte, onward}
use Rattle.definitions.specs.Types.{Ty, type_code, type_of_code, type_rows}
use Rattle.definitions.specs.Tree.{Binder, Script}
use Rattle.definitions.specs.Scope.{variables, binders_of}
use Rattle.definitions.specs.Reading.{binder_at, binders_at, written_of, read_script, parsed}
use Rattle.definitions.specs.Typing.{Written, unbound, fixed, annotated, written_in, written_types}
use Rattle.laws.proofs.Tests.{is_false}
use Rattle.laws.proofs.Order.{by_type}
use Rattle.laws.proofs.Options.{some-not-none, some_is, same_some, provided-inv, onward-inv}
use Rattle.laws.proofs.Reading.{row-keys}
use Rattle.laws.proofs.Fields.{by-same}
use Rattle.laws.specs.Walks.{Walked}
use Rattle.laws.specs.ReadAnswers.{is_some}
use Rattle.walks.proofs.RootLaws.{whole_of, of-root}
use Rattle.facts.specs.Codes.{unbound_code, written_as, all_written}
use Rattle.typing.specs.Pairs.{written_code, earlier, pair_noted, pairs_noted, binders_noted}
use Rattle.codes.proofs.CodeLaws.{type-back}
use Rattle.laws.proofs.Variables.{at-variable}
use Rattle.facts.proofs.WalkLaws.{written-here}
use Rattle.readoff.proofs.ReadOffLaws.{written-length}

-- ── a pair, and the next ────────────────────────────────────────────────────────────────────

module _ (here said : ℕ) where
  pub stands : (here ≡ unbound_code → ⊥) → here ≡ earlier here said
  unfolding earlier
  stands n = rw (ne_eqb here unbound_code n) refl

  pub first_said : here ≡ unbound_code → said ≡ earlier here said
  unfolding earlier
  first_said e = rw (eq-eqb here unbound_code e) refl

pub note-turn : (s : List ℕ) (count k next : ℕ) (codes : List ℕ) {said : ℕ} → k < count → said ≡ earlier (get_or codes (byte s next) 0) (byte s (next + 1))
    → pairs_noted (count - k) s next codes ≡ pairs_noted (count - (k + 1)) s (next + 2) (set codes (byte s next) said)
unfolding pairs_noted pair_noted
note-turn s count k next codes h e =
    let n : count - k ≡ suc (count - (k + 1)) = omega arith in
    rw n (ap (λ (said : ℕ). pairs_noted (count - (k + 1)) s (next + 2) (set codes (byte s next) said)) (sym e))

pub note-done : (s : List ℕ) (count k next : ℕ) (codes : List ℕ) → count ≤ k → pairs_noted (count - k) s next codes ≡ codes
unfolding pairs_noted
note-done s count k next codes h = let e : count - k ≡ 0 = omega arith in rw e refl

pub note-start : (s : List ℕ) (count next : ℕ) (codes : List ℕ) → pairs_noted count s next codes ≡ pairs_noted (count - 0) s next codes
note-start s count next codes = let e : count - 0 ≡ count = omega arith in rw e refl

-- ── the bytes say the pairs that are read ───────────────────────────────────────────────────

code_read : (k : ℕ) (τ : Ty) → type_of_code k ≡ some τ → k ≡ type_code τ
code_read k τ e =
    row-keys (λ k o. o ≡ some τ → k ≡ type_code τ) k type_rows none
    (is, (is, (is, (is, (is, (is, (is, (is, (is, (is, tt)))))))))) (λ e. absurd (some-not-none e refl)) e
  where
    is : {σ : Ty} → some σ ≡ some τ → type_code σ ≡ type_code τ
    is e = ap type_code (some_is e)

written_read : (k : ℕ) (w : Option Ty) → written_of k ≡ some w → k ≡ written_code w
unfolding written_of
written_read zero w e = ap written_code (some_is e)
written_read (suc n) w e =
    let i = onward-inv (type_of_code (suc n)) (λ τ. some (some τ)) e in
    code_read (suc n) i.0 i.1 ∙ ap written_code (some_is i.2)

binder-read : (s : List ℕ) (at : ℕ) (b : Binder) (codes : List ℕ) → binder_at s at ≡ some b
    → pair_noted (byte s at) (byte s (at + 1)) codes ≡ pair_noted b.variable (written_code b.written) codes
unfolding binder_at
binder-read s at b codes e =
    let make : Option Ty → Binder = λ w. record { variable = byte s at; written = w } in
    let p = provided-inv (ltb (byte s at) variable_limit) (onward (written_of (byte s (at + 1))) (λ w. some (make w))) e in
    let w = onward-inv (written_of (byte s (at + 1))) (λ w. some (make w)) p.1 in
    ap (λ (k : ℕ). pair_noted (byte s at) k codes) (written_read (byte s (at + 1)) w.0 w.1)
    ∙ ap (λ (b : Binder). pair_noted b.variable (written_code b.written) codes) (some_is w.2)

pub pairs-noted : (left count : ℕ) (s : List ℕ) (at : ℕ) (bs : List Binder) (codes : List ℕ) → binders_at left count s at ≡ some bs
    → pairs_noted count s at codes ≡ binders_noted bs codes
unfolding binders_at pairs_noted binders_noted
pairs-noted zero zero s at bs codes e = ap (λ (bs : List Binder). binders_noted bs codes) (some_is e)
pairs-noted zero (suc count) s at bs codes e = absurd (some-not-none e refl)
pairs-noted (suc left) zero s at bs codes e =
    let p = provided-inv (eqb (byte s at) 0 && eqb (byte s (at + 1)) 0) (binders_at left zero s (at + 2)) e in
    pairs-noted left zero s (at + 2) bs codes p.1
pairs-noted (suc left) (suc count) s at bs codes e =
    let p = onward-inv (binder_at s at) (λ b. onward (binders_at left count s (at + 2)) (λ bs. some (b ∷ bs))) e in
    let q = onward-inv (binders_at left count s (at + 2)) (λ bs. some (p.0 ∷ bs)) p.2 in
    ap (λ (l : List ℕ). pairs_noted count s (at + 2) l) (binder-read s at p.0 codes p.1)
    ∙ pairs-noted left count s (at + 2) q.0 (pair_noted p.0.variable (written_code p.0.written) codes) q.1
    ∙ ap (λ (bs : List Binder). binders_noted bs codes) (some_is q.2)

-- ── a block and a sequence in the walk ──────────────────────────────────────────────────────

noted-append : (bs cs : List Binder) (codes : List ℕ) → binders_noted (bs ++ cs) codes ≡ binders_noted cs (binders_noted bs codes)
unfolding binders_noted
noted-append [] cs codes = refl
noted-append (b ∷ bs) cs codes = noted-append bs cs (pair_noted b.variable (written_code b.written) codes)

pub two-noted : (codes : List ℕ) (bs cs : List Binder) {between after : List ℕ} → between ≡ binders_noted bs codes → after ≡ binders_noted cs between
    → after ≡ binders_noted (bs ++ cs) codes
two-noted codes bs cs e h = h ∙ ap (binders_noted cs) e ∙ sym (noted-append bs cs codes)

pub block_noted : (s : List ℕ) (at : ℕ) (bs : List Binder) → binders_at pair_limit (byte s (at + count_offset)) s (at + pairs_offset) ≡ some bs → (codes : List ℕ) (cs : List Binder)
    {between after : List ℕ} → between ≡ pairs_noted (byte s (at + count_offset)) s (at + pairs_offset) codes → after ≡ binders_noted cs between → after ≡ binders_noted (bs ++ cs) codes
block_noted s at bs read codes cs e h = two-noted codes bs cs (e ∙ pairs-noted pair_limit (byte s (at + count_offset)) s (at + pairs_offset) bs codes read) h

-- ── the written types ───────────────────────────────────────────────────────────────────────

pair-length : (v k : ℕ) (codes : List ℕ) → length (pair_noted v k codes) ≡ length codes
unfolding pair_noted
pair-length v k codes = length-set codes v (earlier (get_or codes v 0) k)

noted-length : (bs : List Binder) (codes : List ℕ) → length (binders_noted bs codes) ≡ length codes
unfolding binders_noted
noted-length [] codes = refl
noted-length (b ∷ bs) codes =
    let k = written_code b.written in
    noted-length bs (pair_noted b.variable k codes) ∙ pair-length b.variable k codes

-- a pair changes no other variable, and none that has a pair already
other-pair : (v k x : ℕ) (codes : List ℕ) → (x ≡ v → ⊥) → get_or (pair_noted v k codes) x 0 ≡ get_or codes x 0
unfolding pair_noted
other-pair v k x codes n = get_or-set_other codes v x (earlier (get_or codes v 0) k) 0 n

own_pair : (k x : ℕ) (codes : List ℕ) → x < length codes → get_or (pair_noted x k codes) x 0 ≡ earlier (get_or codes x 0) k
unfolding pair_noted
own_pair k x codes l = get_or-set_same codes x (earlier (get_or codes x 0) k) 0 l

later-pair : (v k x : ℕ) (codes : List ℕ) → x < length codes → (get_or codes x 0 ≡ unbound_code → ⊥) → get_or (pair_noted v k codes) x 0 ≡ get_or codes x 0
later-pair v k x codes l n =
    by-same v x
    (λ e. subst (λ (v : ℕ). get_or (pair_noted v k codes) x 0 ≡ get_or codes x 0) (sym e) (own_pair k x codes l ∙ sym (stands (get_or codes x 0) k n)))
    (λ m. other-pair v k x codes (λ e. eqb-false v x m (sym e)))

later-pairs : (bs : List Binder) (x : ℕ) (codes : List ℕ) → x < length codes → (get_or codes x 0 ≡ unbound_code → ⊥)
    → get_or (binders_noted bs codes) x 0 ≡ get_or codes x 0
unfolding binders_noted
later-pairs [] x codes l n = refl
later-pairs (b ∷ bs) x codes l n =
    let k = written_code b.written in
    let e = later-pair b.variable k x codes l n in
    later-pairs bs x (pair_noted b.variable k codes) (omega (arith, pair-length b.variable k codes)) (λ u. n (sym e ∙ u)) ∙ e

no_code : (τ : Ty) → (eqb (type_code τ) 0 ≡ false) × (eqb (type_code τ) unbound_code ≡ false)
no_code τ = (
  is_false (eqb (type_code τ) 0) (by_type (λ τ. not (eqb (type_code τ) 0)) tt τ),
  is_false (eqb (type_code τ) unbound_code) (by_type (λ τ. not (eqb (type_code τ) unbound_code)) tt τ),
)

code-bound : (w : Option Ty) → written_code w ≡ unbound_code → ⊥
code-bound none e = omega arith
code-bound (some τ) e = eqb-false (type_code τ) unbound_code (no_code τ).1 e

code-written : (w : Option Ty) → written_as (written_code w) ≡ annotated w
unfolding written_as
code-written none = refl
code-written (some τ) = rw ((no_code τ).0, (no_code τ).1) (ap fixed (type-back τ))

-- a variable that had no pair: the first says its type
module _ (b : Binder) (bs : List Binder) (x : ℕ) (codes : List ℕ) (l : x < length codes) (e : get_or codes x 0 ≡ unbound_code) where
  abbrev after : List ℕ
  after = pair_noted b.variable (written_code b.written) codes

  said_here : b.variable ≡ x → get_or after x 0 ≡ written_code b.written
  said_here s =
      ap (λ (v : ℕ). get_or (pair_noted v (written_code b.written) codes) x 0) s
      ∙ own_pair (written_code b.written) x codes l
      ∙ sym (first_said (get_or codes x 0) (written_code b.written) e)

  said-first : b.variable ≡ x → written_as (get_or (binders_noted bs after) x 0) ≡ annotated b.written
  said-first s =
      ap written_as
      (later-pairs bs x after (omega (arith, pair-length b.variable (written_code b.written) codes)) (λ u. code-bound b.written (sym (said_here s) ∙ u))
      ∙ said_here s)
      ∙ code-written b.written

  said-step : (eqb b.variable x ≡ false → written_as (get_or (binders_noted bs after) x 0) ≡ written_in bs x)
      → written_as (get_or (binders_noted bs after) x 0) ≡ written_in (b ∷ bs) x
  unfolding written_in
  said-step h = by-same b.variable x (λ s. said-first s ∙ sym (ap by (eq-eqb b.variable x s))) (λ n. h n ∙ sym (ap by n))
    where
      by : Bool → Written
      by t = elim t as (λ c. Written) [ true ↦ annotated b.written | false ↦ written_in bs x ]

said-by : (bs : List Binder) (x : ℕ) (codes : List ℕ) → x < length codes → get_or codes x 0 ≡ unbound_code
    → written_as (get_or (binders_noted bs codes) x 0) ≡ written_in bs x
unfolding binders_noted written_as written_in
said-by [] x codes l e = rw e refl
said-by (b ∷ bs) x codes l e =
    let k = written_code b.written in
    said-step b bs x codes l e (λ n.
    said-by bs x (pair_noted b.variable k codes) (omega (arith, pair-length b.variable k codes))
    (other-pair b.variable k x codes (λ s. eqb-false b.variable x n (sym s)) ∙ e))

-- from no pair at all
pub written_is : (c : Script) → all_written (binders_noted (binders_of c) (replicate variable_limit unbound_code)) ≡ written_types c
unfolding written_types
written_is c = ext_get_or unbound (all_written codes) (map (written_in bs) variables) (written-length codes per-variable) each
  where
    bs : List Binder
    bs = binders_of c

    codes : List ℕ
    codes = binders_noted bs (replicate variable_limit unbound_code)

    per-variable : length codes ≡ variable_limit
    per-variable = noted-length bs (replicate variable_limit unbound_code)

    each : (x : ℕ) → x < length (all_written codes) → get_or (all_written codes) x unbound ≡ get_or (map (written_in bs) variables) x unbound
    each x l =
        let m : x < variable_limit = subst (λ (k : ℕ). x < k) (written-length codes per-variable) l in
        written-here [] codes x per-variable m
        ∙ said-by bs x (replicate variable_limit unbound_code) m (get_or-replicate variable_limit x unbound_code 0 m)
        ∙ sym (at-variable (written_in bs) unbound x m)

-- ── the root ────────────────────────────────────────────────────────────────────────────────

-- what a walk from the first byte shows holds of the script
pub at-root : (terms : ℕ) (s : List ℕ) → is_some (parsed terms s) ≡ true → {P : Script → Type 0} {n : ℕ} → Walked P (read_script s terms depth_limit 0) n
    → (root : Script) → parsed terms s ≡ some root → P root
at-root terms s e {P} w root p = subst P (same_some (whole_of terms s e).parses p) (of-root terms s e w)

pub types-written : (terms : ℕ) (s : List ℕ) → is_some (parsed terms s) ≡ true → {codes : List ℕ} {n : ℕ}
    → Walked (λ c. codes ≡ binders_noted (binders_of c) (replicate variable_limit unbound_code)) (read_script s terms depth_limit 0) n
    → (root : Script) → parsed terms s ≡ some root → all_written codes ≡ written_types root
types-written terms s e w root p = ap all_written (at-root terms s e w root p) ∙ written_is root
