-- Variables bound one after the other: which flags are set, and whether one is bound twice.
use Prim.Native.Nat.{ℕ, suc, ◌+◌, ◌-◌, ◌≤◌, ◌<◌}
use mathlib.Core.Bool.{Bool, true, false, not, ◌&&◌, ◌||◌, and-true}
use mathlib.Core.List.{List, [], ◌∷◌, ◌++◌, map}
use mathlib.Core.Option.{some}
use mathlib.Core.Path.{◌≡◌, refl, sym, ap, ap₂, ◌∙◌}
use native.Mathlib.Omega.{arith}
use lib.Dec.{T, eqb, ltb, ltb→lt}
use lib.ListN.{length, set, replicate, length-set, get_or-replicate}
use lib.Seq.{get_or-set_same, get_or-set_other}
use borrow.Author.Tests.{lt-ltb, eq-eqb, eqb-false}
use Rattle.definitions.specs.Limits.{variable_limit, pair_limit, count_offset, pairs_offset}
use Rattle.definitions.specs.Lists.{every, distinct, is_in}
use Rattle.definitions.specs.Bytes.{Got, byte}
use Rattle.definitions.specs.Tree.{Binder, Script, success, from_named, block, sequence}
use Rattle.definitions.specs.Reading.{binders_at, written_of, read_script}
use Rattle.definitions.specs.Scope.{variables, variables_of, binders_of, is_free}
use Rattle.laws.proofs.TestEquations.{eqb_swap}
use Rattle.laws.proofs.Tests.{and_left, and_right, is_true, true_is}
use Rattle.laws.proofs.ReadBounds.{binders-bounded}
use Rattle.laws.specs.Sound.{BindersBounded, ScriptBounded}
use Rattle.laws.specs.Walks.{Loads, Walked}
use Rattle.laws.proofs.Records.{block_of}
use Rattle.laws.proofs.Fields.{by-same}
use Rattle.laws.specs.ReadAnswers.{is_some}
use Rattle.reader.specs.Pairs.{pair_ok}
use Rattle.laws.specs.Lists.{flag}
use Rattle.scope.specs.Uses.{with_uses, free_in}
use Rattle.scope.specs.Bindings.{PairsAt, bind_one, bind_all, unbound}
use Rattle.laws.specs.Pairs.{pair_variables}
use Rattle.scope.specs.declared.scope.Bound.{Bound}
use Rattle.reader.proofs.PairLaws.{pairs_from, pair-next}
use Rattle.laws.proofs.Pairs.{pair-variables}
use Rattle.laws.proofs.Variables.{made-same}
use Rattle.scope.proofs.UseLaws.{uses-both}

-- ── the pairs of a block ────────────────────────────────────────────────────────────────────

-- how many pairs there are
pub few-pairs : {s : List ℕ} {at : ℕ} → PairsAt s at → byte s (at + count_offset) ≤ pair_limit
few-pairs {s} {at} p = (binders-bounded 0 pair_limit (byte s (at + count_offset)) s (at + pairs_offset) p.pairs p.read).2

pub pairs-read : {s : List ℕ} {at : ℕ} → PairsAt s at → pairs_from s (byte s (at + count_offset)) 0 (at + pairs_offset) ≡ true
pairs-read {s} {at} p = let e : byte s (at + count_offset) - 0 ≡ byte s (at + count_offset) = omega arith in rw (e, p.read)

module _ (s : List ℕ) (count k next : ℕ) (used : k < count) (few : count ≤ pair_limit) (good : pairs_from s count k next ≡ true) where
  both : T (pair_ok true (byte s next) (byte s (next + 1)) && is_some (binders_at (pair_limit - (k + 1)) (count - (k + 1)) s (next + 2)))
  both =
      true_is (pair_ok true (byte s next) (byte s (next + 1)) && is_some (binders_at (pair_limit - (k + 1)) (count - (k + 1)) s (next + 2)))
      (ap (λ (u : Bool). pair_ok u (byte s next) (byte s (next + 1)) && is_some (binders_at (pair_limit - (k + 1)) (count - (k + 1)) s (next + 2))) (sym (lt-ltb k count used))
      ∙ (sym (pair-next s count k next (omega arith)) ∙ good))

  pub pair-variable : byte s next < variable_limit
  unfolding pair_ok
  pair-variable =
      let small = ltb (byte s next) variable_limit in
      let written = is_some (written_of (byte s (next + 1))) in
      ltb→lt (byte s next) variable_limit (and_left small written (and_left (small && written) (is_some (binders_at (pair_limit - (k + 1)) (count - (k + 1)) s (next + 2))) both))

  pub pairs-rest : pairs_from s count (k + 1) (next + 2) ≡ true
  pairs-rest =
      is_true (pairs_from s count (k + 1) (next + 2))
      (and_right (pair_ok true (byte s next) (byte s (next + 1))) (is_some (binders_at (pair_limit - (k + 1)) (count - (k + 1)) s (next + 2))) both)

  pub bind-turn : (b : Bound) → bind_all (pair_variables (count - k) s next) b ≡ bind_all (pair_variables (count - (k + 1)) s (next + 2)) (bind_one (byte s next) b)
  unfolding bind_all pair_variables
  bind-turn b = let e : count - k ≡ suc (count - (k + 1)) = omega arith in rw e

pub bind_done : (s : List ℕ) (count k next : ℕ) (b : Bound) → count ≤ k → bind_all (pair_variables (count - k) s next) b ≡ b
unfolding bind_all pair_variables
bind_done s count k next b h = let e : count - k ≡ 0 = omega arith in rw e

pub bind-start : (s : List ℕ) (count next : ℕ) (b : Bound) → bind_all (pair_variables count s next) b ≡ bind_all (pair_variables (count - 0) s next) b
bind-start s count next b = let e : count - 0 ≡ count = omega arith in rw e

-- ── flags ───────────────────────────────────────────────────────────────────────────────────

-- a flag that is set is that variable's
set-flag : (flags : List Bool) (w v : ℕ) → length flags ≡ variable_limit → v < variable_limit → flag (set flags w true) v ≡ (eqb v w || flag flags v)
set-flag flags w v l k =
    by-same v w
    (λ e. rw (e, eq-eqb w w refl) (get_or-set_same flags w true false (omega arith)))
    (λ n. rw n (get_or-set_other flags w v true false (eqb-false v w n)))

past_one : (i e f : Bool) → (i || (e || f)) ≡ ((e || i) || f)
past_one true true f = refl
past_one true false f = refl
past_one false true f = refl
past_one false false f = refl

pub bound-flag : (vs : List ℕ) (b : Bound) (v : ℕ) → length b.flags ≡ variable_limit → v < variable_limit → flag (bind_all vs b).flags v ≡ (is_in v vs || flag b.flags v)
unfolding bind_all
bound-flag [] b v l k = refl
bound-flag (w ∷ vs) b v l k =
    bound-flag vs (bind_one w b) v (length-set b.flags w true ∙ l) k
    ∙ (ap (λ (x : Bool). is_in v vs || x) (set-flag b.flags w v l k) ∙ past_one (is_in v vs) (eqb v w) (flag b.flags v))

-- ── free variables ──────────────────────────────────────────────────────────────────────────

behind : (x i h f : Bool) → (x || (not (i || h) && f)) ≡ (x || (not h && (not i && f)))
behind true i h f = refl
behind false true true f = refl
behind false true false f = refl
behind false false h f = refl

-- a block's variables are hidden in its query and its script
pub block-uses : (hidden free inside : List Bool) (vs : List ℕ) {between after : List Bool} (f g : ℕ → Bool) → length hidden ≡ variable_limit
    → inside ≡ (bind_all vs (unbound hidden)).flags → between ≡ with_uses inside free f → after ≡ with_uses inside between g
    → after ≡ with_uses hidden free (λ v. not (is_in v vs) && (f v || g v))
unfolding with_uses
block-uses hidden free inside vs f g l e p q =
    uses-both inside free f g p q
    ∙ made-same (λ v. flag free v || (not (flag inside v) && (f v || g v))) (λ v. flag free v || (not (flag hidden v) && (not (is_in v vs) && (f v || g v))))
    (λ v k.
    ap (λ (h : Bool). flag free v || (not h && (f v || g v))) (ap (λ (l : List Bool). flag l v) e ∙ bound-flag vs (unbound hidden) v l k)
    ∙ behind (flag free v) (is_in v vs) (flag hidden v) (f v || g v))

pub free-uses : (f : ℕ → Bool) → with_uses (replicate variable_limit false) (replicate variable_limit false) f ≡ map f variables
unfolding with_uses
free-uses f = refl

-- ── a variable bound twice ──────────────────────────────────────────────────────────────────

pub bind-append : (vs ws : List ℕ) (b : Bound) → bind_all (vs ++ ws) b ≡ bind_all ws (bind_all vs b)
unfolding bind_all
bind-append [] ws b = refl
bind-append (v ∷ vs) ws b = bind-append vs ws (bind_one v b)

pub variables-append : (bs cs : List Binder) → variables_of (bs ++ cs) ≡ variables_of bs ++ variables_of cs
variables-append [] cs = refl
variables-append (b ∷ bs) cs = ap (λ (l : List ℕ). b.variable ∷ l) (variables-append bs cs)

-- pairs, and then those of a script
pub bind-both : (bs cs : List Binder) (b : Bound) → bind_all (variables_of cs) (bind_all (variables_of bs) b) ≡ bind_all (variables_of (bs ++ cs)) b
bind-both bs cs b = sym (ap (λ (l : List ℕ). bind_all l b) (variables-append bs cs) ∙ bind-append (variables_of bs) (variables_of cs) b)

abbrev pub AllSmall : List ℕ → Type 0
AllSmall [] = Unit {0}
AllSmall (v ∷ vs) = (v < variable_limit) × AllSmall vs

-- no variable of a list is flagged
abbrev fresh : List Bool → List ℕ → Bool
fresh flags vs = every (λ v. not (flag flags v)) vs

apart : (e f a n : Bool) → (not (e || f) && (a && n)) ≡ ((not f && a) && (not e && n))
apart true true a n = refl
apart true false true n = refl
apart true false false n = refl
apart false true a n = refl
apart false false a n = refl

fresh_set : (flags : List Bool) (w : ℕ) (vs : List ℕ) → length flags ≡ variable_limit → AllSmall vs
    → fresh (set flags w true) vs ≡ (fresh flags vs && every (λ v. not (eqb w v)) vs)
fresh_set flags w [] l h = refl
fresh_set flags w (v ∷ vs) l h =
    ap₂ (λ (x y : Bool). not x && y) (set-flag flags w v l h.0 ∙ ap (λ (x : Bool). x || flag flags v) (eqb_swap v w)) (fresh_set flags w vs l h.1)
    ∙ apart (eqb w v) (flag flags v) (fresh flags vs) (every (λ v. not (eqb w v)) vs)

rearrange : (t f e n d : Bool) → (not (t || f) && ((e && n) && d)) ≡ (not t && ((not f && e) && (n && d)))
rearrange true f e n d = refl
rearrange false true e n d = refl
rearrange false false true n d = refl
rearrange false false false n d = refl

bound-once : (vs : List ℕ) (b : Bound) → length b.flags ≡ variable_limit → AllSmall vs → not (bind_all vs b).twice ≡ (not b.twice && (fresh b.flags vs && distinct eqb vs))
unfolding bind_all
bound-once [] b l h = sym (and-true (not b.twice))
bound-once (w ∷ vs) b l h =
    bound-once vs (bind_one w b) (length-set b.flags w true ∙ l) h.1
    ∙ (ap (λ (x : Bool). not (b.twice || flag b.flags w) && (x && distinct eqb vs)) (fresh_set b.flags w vs l h.1)
    ∙ rearrange b.twice (flag b.flags w) (fresh b.flags vs) (every (λ v. not (eqb w v)) vs) (distinct eqb vs))

none-flagged : (vs : List ℕ) → AllSmall vs → fresh (replicate variable_limit false) vs ≡ true
none-flagged [] h = refl
none-flagged (v ∷ vs) h = ap₂ (λ (x y : Bool). not x && y) (get_or-replicate variable_limit v false false h.0) (none-flagged vs h.1)

pub once_is : (vs : List ℕ) → AllSmall vs → not (bind_all vs (unbound (replicate variable_limit false))).twice ≡ distinct eqb vs
once_is vs h = bound-once vs (unbound (replicate variable_limit false)) refl h ∙ ap (λ (x : Bool). x && distinct eqb vs) (none-flagged vs h)

small-append : (vs ws : List ℕ) → AllSmall vs → AllSmall ws → AllSmall (vs ++ ws)
small-append [] ws h k = k
small-append (v ∷ vs) ws h k = (h.0, small-append vs ws h.1 k)

binders-small : (terms : ℕ) (bs : List Binder) → BindersBounded terms bs → AllSmall (variables_of bs)
binders-small terms [] h = tt
binders-small terms (b ∷ bs) h = (h.0, binders-small terms bs h.1)

pub script-small : (terms : ℕ) (c : Script) → ScriptBounded terms c → AllSmall (variables_of (binders_of c))
unfolding binders_of
script-small terms (success at) h = tt
script-small terms (from_named at n c) h = script-small terms c h.1
script-small terms (block at each bs q c) h =
    rw (variables-append bs (binders_of c)) (small-append (variables_of bs) (variables_of (binders_of c)) (binders-small terms bs h.0) (script-small terms c h.2))
script-small terms (sequence at c d) h =
    rw (variables-append (binders_of c) (binders_of d))
    (small-append (variables_of (binders_of c)) (variables_of (binders_of d)) (script-small terms c h.0) (script-small terms d h.1))

-- ── a block in a walk ───────────────────────────────────────────────────────────────────────

pub pairs-at : (s : List ℕ) (terms left at : ℕ) → Loads (read_script s terms left at) → byte s at ≡ 0x73 → PairsAt s at
pairs-at s terms left at l k = let b = block_of s terms left at l k in record { room = b.1; pairs = b.0; read = b.3 }

module _ (s : List ℕ) (at : ℕ) (bs : List Binder) (read : binders_at pair_limit (byte s (at + count_offset)) s (at + pairs_offset) ≡ some bs) where
  same-variables : pair_variables (byte s (at + count_offset)) s (at + pairs_offset) ≡ variables_of bs
  same-variables = sym (pair-variables pair_limit (byte s (at + count_offset)) s (at + pairs_offset) bs read)

  pub block-hides : (hidden free : List Bool) {inside between after : List Bool} (f g : ℕ → Bool) → length hidden ≡ variable_limit
      → inside ≡ (bind_all (pair_variables (byte s (at + count_offset)) s (at + pairs_offset)) (unbound hidden)).flags → between ≡ with_uses inside free f → after ≡ with_uses inside between g
      → after ≡ with_uses hidden free (λ v. not (is_in v (variables_of bs)) && (f v || g v))
  block-hides hidden free {inside} f g l e p q =
      block-uses hidden free inside (variables_of bs) f g l (e ∙ ap (λ (vs : List ℕ). (bind_all vs (unbound hidden)).flags) same-variables) p q

  pub block-binds : (b : Bound) (cs : List Binder) {pairs after : Bound} → pairs ≡ bind_all (pair_variables (byte s (at + count_offset)) s (at + pairs_offset)) b
      → after ≡ bind_all (variables_of cs) pairs → after ≡ bind_all (variables_of (bs ++ cs)) b
  block-binds b cs e h =
      h ∙ (ap (bind_all (variables_of cs)) (e ∙ ap (λ (vs : List ℕ). bind_all vs b) same-variables) ∙ bind-both bs cs b)

pub two-binds : (b : Bound) (bs cs : List Binder) {between after : Bound} → between ≡ bind_all (variables_of bs) b → after ≡ bind_all (variables_of cs) between
    → after ≡ bind_all (variables_of (bs ++ cs)) b
two-binds b bs cs e h = h ∙ (ap (bind_all (variables_of cs)) e ∙ bind-both bs cs b)

pub freed : (o : Got Script) {n : ℕ} {r : List Bool} → Walked (λ c. r ≡ with_uses (replicate variable_limit false) (replicate variable_limit false) (λ v. is_free v c)) o n → r ≡ free_in o
unfolding free_in
freed o w = rw w.read (w.holds ∙ free-uses (λ v. is_free v w.tree))
