use Prim.Native.Nat.{ℕ}
use mathlib.Core.Path.{◌≡◌, subst, ◌∙◌}
use mathlib.Core.Bool.{Bool}
use native.Mathlib.Omega.{arith}
use Rattle.words.specs.Words.{Says}
use Rattle.machine.specs.declared.Machine.{Machine}
use Rattle.accept.specs.Accept.{Words}
use Rattle.accept.specs.Checks.{Page}
use Rattle.accept.proofs.Parts.{page_known}
use Rattle.accept.proofs.pages.page_ok.Goals as goal

-- what the page must be, were its type t
by-type : (b : Machine) (w m : Words) (p : ℕ) (q : Bool) {t u v : ℕ} → t ≡ u → u ≡ v → Says q (Page b w m p t) → Says q (Page b w m p v)
by-type b w m p q e f = subst (λ (x : ℕ). Says q (Page b w m p x)) (e ∙ f)

pub returns-in-Ok-Free : goal.returns-in-Ok-Free
unfolding Page
returns-in-Ok-Free c = by-type _ _ _ _ c.free_page.result (rw c.in-Ok-Free.field-0-is at c.in-Ok-Free.ensures) c.word.ensures c.free_page.ensures

pub returns-in-Ok-Space : goal.returns-in-Ok-Space
unfolding Page
returns-in-Ok-Space c = by-type _ _ _ _ c.space_page.result (rw c.in-Ok-Space.field-0-is at c.in-Ok-Space.ensures) c.word.ensures c.space_page.ensures

pub returns-in-Ok-Thread : goal.returns-in-Ok-Thread
unfolding Page
returns-in-Ok-Thread c = by-type _ _ _ _ c.thread_page.result (rw c.in-Ok-Thread.field-0-is at c.in-Ok-Thread.ensures) c.word.ensures c.thread_page.ensures

pub returns-in-Ok-FirstLevel : goal.returns-in-Ok-FirstLevel
unfolding Page
returns-in-Ok-FirstLevel c = by-type _ _ _ _ c.first_page.result (rw c.in-Ok-FirstLevel.field-0-is at c.in-Ok-FirstLevel.ensures) c.word.ensures c.first_page.ensures

pub returns-in-Ok-SecondLevel : goal.returns-in-Ok-SecondLevel
unfolding Page
returns-in-Ok-SecondLevel c = by-type _ _ _ _ c.second_page.result (rw c.in-Ok-SecondLevel.field-0-is at c.in-Ok-SecondLevel.ensures) c.word.ensures c.second_page.ensures

pub returns-in-Ok-Data : goal.returns-in-Ok-Data
unfolding Page
returns-in-Ok-Data c = by-type _ _ _ _ c.data_page.result (rw c.in-Ok-Data.field-0-is at c.in-Ok-Data.ensures) c.word.ensures c.data_page.ensures

pub returns-in-Ok-Spare : goal.returns-in-Ok-Spare
unfolding Page
returns-in-Ok-Spare c = by-type _ _ _ _ c.spare_page.result (rw c.in-Ok-Spare.field-0-is at c.in-Ok-Spare.ensures) c.word.ensures c.spare_page.ensures

pub returns-in-Err : goal.returns-in-Err
returns-in-Err c x =
    let known = page_known _ _ _ _ c.requires.below x in
    omega (arith, c.in-Err.ensures)
