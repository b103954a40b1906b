-- Tables are decided by the terms and the set of quads: every state that a list of calls leaves has its quads in order.
use mathlib.Core.Path.{◌≡◌, refl, sym, ◌∙◌, ap, subst}
use mathlib.Core.List.{List, [], ◌∷◌}
use mathlib.Core.Option.{some}
use lib.Dec.{T}
use Rattle.definitions.specs.Outcome.{ok}
use Rattle.definitions.specs.Machine.{Control, State, Store, in_order, last_of}
use Prim.Native.Nat.{ℕ}
use Rattle.definitions.specs.Bytes.{onward}
use Rattle.definitions.specs.Tree.{Script}
use Rattle.definitions.specs.Saved.{held_control, held_store, held, term_table, quad_table}
use Rattle.definitions.specs.declared.SavedRun.{SavedRun}
use Rattle.definitions.specs.Calls.{Checked}
use Rattle.definitions.specs.CallList.{Done}
use Rattle.laws.specs.Lists.{All}
use Rattle.laws.proofs.NoFault.{ok-is}
use Rattle.laws.proofs.Options.{some_is, same_some, onward-inv}
use Rattle.laws.proofs.QuadOrder.{one-order}
use Rattle.theorems.specs.Hosts.{HostCall, Handed, Kept, lending, kept_of, kept_after, kept_after_load, kept_after_all, engine_calls}
use Rattle.theorems.specs.WellTyped.{WellTyped}
use Rattle.theorems.specs.Demand3.{Keeps, CallByCall}
use Rattle.theorems.specs.OneOrder.{Alike, Left, OneOrder}
use Rattle.theorems.proofs.Demand3.{demand-3}

-- the state that saved run and tables are of, well typed
record Ends (c : Checked) (k : Kept) : Type 0 where
  state : State
  keeps : Keeps c k state
  typed : WellTyped c state

last-all : (P : State → Type 0) (s : State) (ss : List State) → P s → All P ss → P (last_of s ss)
last-all P s [] h k = h
last-all P s (x ∷ ss) h k = last-all P x ss k.0 k.1

ends : (c : Checked) (calls : List HostCall) (k : Kept) (s : State) (ds : List Done) (hs : List Handed)
    → Keeps c k s → WellTyped c s → CallByCall c calls k s ds hs → Ends c (kept_after_all calls k hs)
unfolding kept_after_all
ends c [] k s [] [] h t a = record { state = s; keeps = h; typed = t }
ends c [] k s [] (x ∷ hs) h t a = absurd a
ends c [] k s (d ∷ ds) hs h t a = absurd a
ends c (x ∷ xs) k s [] hs h t a = absurd a
ends c (x ∷ xs) k s (d ∷ ds) [] h t a = absurd a
ends c (x ∷ xs) k s (d ∷ ds) (y ∷ hs) h t a =
    ends c xs (kept_after (lending x) k y) (last_of s d.passed) ds hs a.0.keeps (last-all (WellTyped c) s d.passed t a.0.typed) a.1

held-store : (root : Script) (terms quads : List ℕ) (saved : SavedRun) (s : State) → held root terms quads saved ≡ some s
    → held_store terms quads saved.store ≡ some s.store
unfolding held
held-store root terms quads saved s e =
    let made : Store → Control → State = λ store control. record { control = control; store = store } in
    let x = onward-inv (held_store terms quads saved.store) (λ store. onward (held_control root saved.control) (λ control. some (made store control))) e in
    let y = onward-inv (held_control root saved.control) (λ control. some (made x.0 control)) x.2 in
    x.1 ∙ ap (λ (s : State). some s.store) (some_is {a = made x.0 y.0} y.2)

-- of what is left: the tables are the store's, and its quads are in order
record Written (k : Kept) (s : Store) : Type 0 where
  terms : k.term_table ≡ term_table s.terms
  quads : k.quad_table ≡ quad_table s.quads
  order : T (in_order s.quads)

left-written : (k : Kept) (s : Store) → Left k s → Written k s
left-written k s l =
    let d = demand-3 l.lent l.accepted l.calls in
    let c = d.checked in
    let handed : d.handed ≡ l.handed = ok-is (sym d.given ∙ l.given) in
    let kept : kept_after_all l.calls (kept_after_load l.lent) d.handed ≡ k =
    ap (kept_after_all l.calls (kept_after_load l.lent)) handed ∙ sym l.kept in
    let e : Ends c k = subst (Ends c) kept (ends c l.calls (kept_after_load l.lent) _ d.done d.handed d.start d.start_typed d.agree) in
    let same : e.state.store ≡ s =
    same_some (held-store c.root k.term_table k.quad_table k.saved e.state e.keeps.holds) l.holds in
    record {
      terms = ap (λ (j : Kept). j.term_table) e.keeps.written ∙ ap (λ (s : Store). term_table s.terms) same;
      quads = ap (λ (j : Kept). j.quad_table) e.keeps.written ∙ ap (λ (s : Store). quad_table s.quads) same;
      order = subst (λ (s : Store). T (in_order s.quads)) same e.typed.quads_in_order;
    }

pub one-order-of-quads : OneOrder
one-order-of-quads k j a b l m alike =
    let x = left-written k a l in
    let y = left-written j b m in (
      x.terms ∙ (ap term_table alike.terms ∙ sym y.terms),
      x.quads ∙ (ap quad_table (one-order a.quads b.quads x.order y.order alike.quads) ∙ sym y.quads),
    )
