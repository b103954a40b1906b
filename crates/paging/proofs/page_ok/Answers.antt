-- `paging::page_ok` meets its contract.
use native.Mathlib.Omega.{arith}
use borrow.Author.Rules.{rules}
use Rattle.paging.proofs.PageLaws.{page-long, page-bad, page-good}
use Rattle.paging.proofs.page_ok.Goals as goal

pub returns-then-page-gt-PAGE_LIMIT : goal.returns-then-page-gt-PAGE_LIMIT
returns-then-page-gt-PAGE_LIMIT c = page-long _ (omega arith)

pub returns-in_default : goal.returns-in_default
returns-in_default c = page-bad _ (omega arith) c.count_triples.ensures c.in_default.is

pub returns : goal.returns
returns c = page-good _ (omega arith) c.count_triples.ensures _ c.in-Some.is
