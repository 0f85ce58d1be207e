-- The two kinds of answers. Assumes nothing.
use Prim.Native.Nat.{ℕ, zero, suc, ◌<◌}
use mathlib.Core.Path.{◌≡◌, refl}
use native.Mathlib.Omega.{arith}
use borrow.Author.Tests.{ne_eqb}
use Rattle.refusals.specs.Answers.{refused, accepted, answered}
use Rattle.refusals.specs.declared.Answer.{Answer}

-- a refused call has time 0
pub answered_refused : {number r : ℕ} (time : ℕ) → number ≡ r → 0 < number → refused number ≡ answered r time
unfolding answered
answered_refused {number} {r} time e h = rw (← e, ne_eqb number 0 (λ z. omega arith))

-- an accepted call has the time
pub answered_accepted : {r t : ℕ} (time : ℕ) → 0 ≡ r → t ≡ time → accepted t ≡ answered r time
unfolding answered
answered_accepted time e h = rw (← e, h)

-- the number of an answer is the one it was made of, and a result's time is
pub answered_number : (number time : ℕ) → (answered number time).number ≡ number
unfolding answered
answered_number zero time = refl
answered_number (suc k) time = rw (ne_eqb (suc k) 0 (λ z. omega arith))

pub answered_time : (number time : ℕ) → number ≡ 0 → (answered number time).time ≡ time
unfolding answered
answered_time number time e = rw e

made_same : {n m t u : ℕ} → n ≡ m → t ≡ u → ◌≡◌ {A = Answer} (record { number = n; time = t }) (record { number = m; time = u })
made_same e f = rw (e, f)

-- an answer is its number and its time
pub answer_same : (r q : Answer) → r.number ≡ q.number → r.time ≡ q.time → r ≡ q
answer_same r q e f = made_same e f
