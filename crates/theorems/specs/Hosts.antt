-- A list of run and page calls as a host makes them after a load: each call is lent ranks, terms, schema and script of the load again, and saved run and tables as
-- the call before left them. Except where 1 refuses: a call that is lent ranks or a table of another length may be lent anything.
use Rattle.std.specs.Prelude.{ℕ, List, [], ◌∷◌, not, T, ℤ}
use Rattle.definitions.specs.Limits.{ranks_width, term_table_width, quad_table_width}
use Rattle.definitions.specs.Outcome.{Outcome, ok, ◌>>=◌}
use Rattle.definitions.specs.Machine.{State}
use Rattle.definitions.specs.Saved.{term_table, quad_table, saved_of}
use Rattle.definitions.specs.Calls.{Checked, reported, Lent, Lengths, lengths_of, lengths_fit, load, run_call, page_call}
use Rattle.definitions.specs.CallList.{Call, Answer, ran, paged}
use Rattle.definitions.specs.Numbers.{answer_number}
use Rattle.definitions.specs.declared.SavedRun.{SavedRun}

-- ── what a host hands over ──────────────────────────────────────────────────────────────────

-- saved run and tables
pub record Kept : Type 0 where
  pub saved : SavedRun
  pub term_table : List ℕ
  pub quad_table : List ℕ

-- what is lent to a call: what the call before left; or others, of which ranks or a table have another length, with any saved run and any records
pub data Lending : Type 0 where
  as_left : Lending
  others : (l : Lent) → (saved : SavedRun) → T (not (lengths_fit l)) → Lending

pub data HostCall : Type 0 where
  running : Lending → (budget : ℕ) → (now : ℤ) → HostCall
  paging : Lending → (graph : ℕ) → (page : List ℕ) → HostCall

abbrev pub lending : HostCall → Lending
lending (HostCall.running t budget now) = t
lending (HostCall.paging t g page) = t

-- ── what the machine is fed of it ───────────────────────────────────────────────────────────

abbrev pub lengths_lent : Lending → Lengths
lengths_lent as_left = record { ranks = ranks_width; term_table = term_table_width; quad_table = quad_table_width }
lengths_lent (others l saved wrong) = lengths_of l

-- only the lengths of ranks and tables with budget and now, or with graph number and page
abbrev pub fed : HostCall → Call
fed (HostCall.running t budget now) = Call.running (lengths_lent t) budget now
fed (HostCall.paging t g page) = Call.paging (lengths_lent t) g page

-- ── the calls, one after the other ──────────────────────────────────────────────────────────

-- a state, written in saved run and tables, with the reported types
abbrev pub kept_of : Checked → State → Kept
kept_of c s = record { saved = saved_of (reported c) s; term_table = term_table s.store.terms; quad_table = quad_table s.store.quads }

abbrev pub kept_after_load : Lent → Kept
kept_after_load l = let r = load l in record { saved = r.returned.saved; term_table = r.term_table; quad_table = r.quad_table }

-- what a call hands back: its answer, and saved run and tables that it was lent, as it leaves them
pub record Handed : Type 0 where
  pub answer : Answer
  pub left : Kept

-- 0, or the refusal's number
abbrev pub number_of : Answer → ℕ
number_of (ran a) = answer_number a
number_of (paged a) = answer_number a

-- saved run and tables lent to a call
abbrev pub lent_kept : Lending → Kept → Kept
lent_kept as_left k = k
lent_kept (others l saved wrong) k = record { saved = saved; term_table = l.term_table; quad_table = l.quad_table }

-- the host's own saved run and tables after a call: those that it left, or as before where it was lent others
abbrev pub kept_after : Lending → Kept → Handed → Kept
kept_after as_left k h = h.left
kept_after (others l saved wrong) k h = k

-- and after a list of them
unfoldable pub kept_after_all : List HostCall → Kept → List Handed → Kept
kept_after_all [] k hs = k
kept_after_all (x ∷ xs) k [] = k
kept_after_all (x ∷ xs) k (h ∷ hs) = kept_after_all xs (kept_after (lending x) k h) hs

-- what the load was lent gives ranks, terms, schema and script to every call
module _ (l : Lent) where
  abbrev pub lent_to : Lending → Kept → Lent
  lent_to as_left k = record { ranks = l.ranks; terms = l.terms; schema = l.schema; script = l.script; term_table = k.term_table; quad_table = k.quad_table }
  lent_to (others x saved wrong) k = x

  -- a run call only reads the tables
  unfoldable pub engine_call : HostCall → Kept → Outcome Handed
  engine_call (HostCall.running t budget now) k = do
    let b = lent_kept t k
    r ← run_call (lent_to t k) b.saved budget now
    ok (record { answer = ran r.answer; left = record { saved = r.saved; term_table = b.term_table; quad_table = b.quad_table } })
  engine_call (HostCall.paging t g page) k =
      let r = page_call (lent_to t k) (lent_kept t k).saved g page in
      ok (record {
        answer = paged r.returned.answer;
        left = record { saved = r.returned.saved; term_table = r.term_table; quad_table = r.quad_table };
      })

  unfoldable pub engine_calls : List HostCall → Kept → Outcome (List Handed)
  engine_calls [] k = ok []
  engine_calls (x ∷ xs) k = do
    h ← engine_call x k
    hs ← engine_calls xs (kept_after (lending x) k h)
    ok (h ∷ hs)
